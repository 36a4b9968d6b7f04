-- Sets that grow by lists of items, and lists of sets.
use Rattle.std.proofs.Common.{◌≡◌, ℕ, ◌+◌, ◌<◌, IsTrue, List, [], ◌∷◌, ◌++◌, length, take, get_or, Contains, ◌⊎◌, ◌↔◌, inl, inr, sym, ap, ◌∙◌, subst, append-nil, arith, length-append, length-take, get_or-take}
use Rattle.std.specs.Prelude.{flat_map}
use Rattle.std.proofs.lemmas.Bool.{cases_lt}
use Rattle.std.proofs.lemmas.List.{take_more, get_or_append_left, get_or_push}
use Rattle.std.proofs.lemmas.List.Concat.{flat_map-append}
use Rattle.std.proofs.lemmas.List.Elements.{Contains-append_left, Contains-append_right, Contains-append_cases}
use Rattle.lrc_plan_meaning.specs.declared.Bound.{Bound}
use Rattle.lrc_plan_meaning.specs.declared.Step.{Step}
use Rattle.lrc_plan.specs.ItemSets.{Flags, holds, IsSetOf}
use Rattle.lrc_plan.specs.Handing.{no_items}
use Rattle.lrc_plan.specs.Gaining.{AreSetsOf}

-- a set that has what another has, and these items
abbrev pub Grows : Flags → Flags → List Bound → Type 0
Grows f g xs = (y : Bound) → IsTrue (holds g y) ↔ (IsTrue (holds f y) ⊎ Contains xs y)

pub grows_twice : (f g h : Flags) (xs ys : List Bound) → Grows f g xs → Grows g h ys → Grows f h (xs ++ ys)
grows_twice f g h xs ys one other y = (
  λ a.
      elim ((other y).0 a) [
        | inl b ↦ elim ((one y).0 b) [ inl old ↦ inl old | inr m ↦ inr (Contains-append_left xs ys y m) ]
        | inr m ↦ inr (Contains-append_right xs ys y m)
      ],
  λ a.
      elim a [
        | inl old ↦ (other y).1 (inl ((one y).1 (inl old)))
        | inr m ↦
            elim (Contains-append_cases xs ys y m) [
              | inl k ↦ (other y).1 (inl ((one y).1 (inr k)))
              | inr k ↦ (other y).1 (inr k)
            ]
      ],
)

pub set_of : (f g : Flags) (xs : List Bound) → ((x : Bound) → ¬ IsTrue (holds f x)) → Grows f g xs → IsSetOf g xs
set_of f g xs empty grows x =
    (λ h. elim ((grows x).0 h) [ inl old ↦ absurd (empty x old) | inr m ↦ m ], λ m. (grows x).1 (inr m))

-- one step more
module _ (part : Step → List Bound) (steps : List Step) (i : ℕ) (step : Step) (there : i < length steps) (is : step ≡ get_or steps i step) where
  pub flat_take_more : flat_map part (take (i + 1) steps) ≡ flat_map part (take i steps) ++ part step
  flat_take_more =
      ap (flat_map part) (take_more steps i step there ∙ ap (λ s. take i steps ++ s ∷ []) (sym is))
      ∙ flat_map-append part (take i steps) (step ∷ [])
      ∙ ap (λ xs. flat_map part (take i steps) ++ xs) (append-nil (part step))

  pub steps_more : (f g h : Flags) (new : List Bound) → Grows f g (flat_map part (take i steps)) → Grows g h new → new ≡ part step → Grows f h (flat_map part (take (i + 1) steps))
  steps_more f g h new before now same =
      subst (λ xs. Grows f h xs) (ap (λ xs. flat_map part (take i steps) ++ xs) same ∙ sym flat_take_more)
      (grows_twice f g h (flat_map part (take i steps)) new before now)

-- one visit more
pub sets_more : (items : ℕ → List Step → List Bound) (segments : List (List Step)) (sets now : List Flags) (set : Flags) (i : ℕ) (steps : List Step) → i < length segments
    → steps ≡ get_or segments i [] → AreSetsOf items (take i segments) sets → now ≡ sets ++ set ∷ [] → IsSetOf set (items (i + 1) steps) → AreSetsOf items (take (i + 1) segments) now
sets_more items segments sets now set i steps there is before one made =
    let short = length-take i segments in
    let long = length-take (i + 1) segments in
    let number = before.count in
    let pushed = length-append sets (set ∷ []) in
    let grown = ap (length {A = Flags}) one in
    let size : length sets ≡ i = omega arith in
    record {
      count = omega arith;
      each = λ v less.
          let small : v < i + 1 = omega arith in
          let seen : get_or (take (i + 1) segments) v [] ≡ get_or segments v [] = get_or-take (i + 1) segments v [] small in
          elim (cases_lt v i) [
            | inl l ↦
                let old = before.each v (omega arith) in
                let set_at : get_or now v no_items ≡ get_or sets v no_items =
                ap (λ (xs : List Flags). get_or xs v no_items) one ∙ get_or_append_left sets (set ∷ []) no_items v (omega arith) in
                let steps_at : get_or (take i segments) v [] ≡ get_or (take (i + 1) segments) v [] = get_or-take i segments v [] l ∙ sym seen in
                subst (λ (f : Flags). IsSetOf f (items (v + 1) (get_or (take (i + 1) segments) v []))) (sym set_at)
                (subst (λ (s : List Step). IsSetOf (get_or sets v no_items) (items (v + 1) s)) steps_at old)
            | inr ge ↦
                let e : v ≡ i = omega arith in
                let e2 : v ≡ length sets = omega arith in
                let set_at : get_or now v no_items ≡ set =
                ap (λ (xs : List Flags). get_or xs v no_items) one ∙ get_or_push sets set no_items v (sym e2) in
                let steps_at : steps ≡ get_or (take (i + 1) segments) v [] = is ∙ ap (λ n. get_or segments n []) (sym e) ∙ sym seen in
                subst (λ (f : Flags). IsSetOf f (items (v + 1) (get_or (take (i + 1) segments) v []))) (sym set_at)
                (subst (λ (s : List Step). IsSetOf set (items (v + 1) s)) steps_at (subst (λ n. IsSetOf set (items (n + 1) steps)) (sym e) made))
          ];
    }
