-- Walks over what is held: two that agree on what is available agree on what is made from it.
use Rattle.std.proofs.Common.{◌≡◌, cond, List, [], ◌∷◌, ◌++◌, map, Contains, All, Option, Some, ◌⊎◌, inl, inr, refl, sym, ap, ◌∙◌, subst, append_assoc}
use Rattle.std.specs.Prelude.{flat_map}
use Rattle.std.specs.Option.{option_and_then}
use Rattle.std.proofs.lemmas.Bool.{cases_Bool, false≢true}
use Rattle.std.proofs.lemmas.Option.{same_Some}
use Rattle.std.proofs.lemmas.List.Elements.{All-contains, Contains-append_left, Contains-append_right, Contains-append_cases}
use Rattle.lrc_base.specs.declared.grammar.Sort.{Sort}
use Rattle.lrc_base.specs.declared.grammar.Production.{Production}
use Rattle.lrc_order_meaning.specs.declared.Partition.{Partition}
use Rattle.lrc_plan_meaning.specs.declared.Action.{Action}
use Rattle.lrc_plan_meaning.specs.declared.Bound.{Bound}
use Rattle.lrc_plan_meaning.specs.Items.{same_item, needs, makes}
use Rattle.lrc_plan_meaning.specs.Sound.{AreReady}
use Rattle.lrc_plan_meaning.proofs.ItemLemmas.{same_items, item_itself}
use Rattle.lrc_visit_meaning.specs.Values.{Datum}
use Rattle.lrc_visit_meaning.specs.Visits.{Held, Given, Walked, holding, walk}
use Rattle.lrc_order_meaning.proofs.MemberLemmas.{member_first, member_later, member_cases, no_member}
use Rattle.lrc_plan.proofs.ListLemmas.{map_told}
use Rattle.lrc_laws.proofs.FuelLemmas.{walked_on}

-- what is held is the same at these items
abbrev pub Agree : List Bound → Held → Held → Type 0
Agree items m n = (x : Bound) → Contains items x → m x ≡ n x

pub agree_back : (items : List Bound) (m n : Held) → Agree items m n → Agree items n m
agree_back items m n h x c = sym (h x c)

pub agree_then : (items : List Bound) (l m n : Held) → Agree items l m → Agree items m n → Agree items l n
agree_then items l m n h k x c = h x c ∙ k x c

pub agree_both : (xs ys : List Bound) (m n : Held) → Agree xs m n → Agree ys m n → Agree (xs ++ ys) m n
agree_both xs ys m n h k x c = elim (Contains-append_cases xs ys x c) [ inl l ↦ h x l | inr r ↦ k x r ]

pub agree_left : (xs ys : List Bound) (m n : Held) → Agree (xs ++ ys) m n → Agree xs m n
agree_left xs ys m n h x c = h x (Contains-append_left xs ys x c)

pub agree_right : (xs ys : List Bound) (m n : Held) → Agree (xs ++ ys) m n → Agree ys m n
agree_right xs ys m n h x c = h x (Contains-append_right xs ys x c)

pub agree_part : (xs ys : List Bound) (m n : Held) → All (Contains ys) xs → Agree ys m n → Agree xs m n
agree_part xs ys m n within h x c = h x (All-contains (Contains ys) xs x within c)

at_same : (x y : Bound) (d e : Datum) → x ≡ y → cond (same_item x y) d e ≡ d
at_same x y d e is = ap (λ b. cond b d e) (ap (same_item x) (sym is) ∙ item_itself x)

at_other : (x y : Bound) (d e : Datum) → ¬ (x ≡ y) → cond (same_item x y) d e ≡ e
at_other x y d e other =
    elim (cases_Bool (same_item x y)) [
      | inl same ↦ absurd (other (same_items x y same))
      | inr differ ↦ ap (λ b. cond b d e) differ
    ]

pub same_or_other : (x y : Bound) → (x ≡ y) ⊎ (¬ (x ≡ y))
same_or_other x y =
    elim (cases_Bool (same_item x y)) [
      | inl same ↦ inl (same_items x y same)
      | inr differ ↦ inr (λ e. false≢true (sym differ ∙ ap (same_item x) (sym e) ∙ item_itself x))
    ]

-- items that were given what n holds there hold what n does, and so do those that did before
pub holding_agrees : (xs : List Bound) (m n : Held) (y : Bound) → (m y ≡ n y) ⊎ Contains xs y → holding xs (map n xs) m y ≡ n y
holding_agrees [] m n y (inl e) = e
holding_agrees [] m n y (inr c) = absurd (no_member y c)
holding_agrees (x ∷ xs) m n y h =
    holding_agrees xs (λ z. cond (same_item x z) (n x) (m z)) n y
    (elim (same_or_other x y) [
      | inl same ↦ inl (at_same x y (n x) (m y) same ∙ ap n same)
      | inr differ ↦
          elim h [
            | inl e ↦ inl (at_other x y (n x) (m y) differ ∙ e)
            | inr c ↦ elim (member_cases x xs y c) [ inl same ↦ absurd (differ same) | inr later ↦ inr later ]
          ]
    ])

-- other items hold what they did
pub holding_other : (xs : List Bound) (ds : List Datum) (m : Held) (y : Bound) → ¬ Contains xs y → holding xs ds m y ≡ m y
holding_other [] ds m y out = refl
holding_other (x ∷ xs) [] m y out = refl
holding_other (x ∷ xs) (d ∷ ds) m y out =
    holding_other xs ds (λ z. cond (same_item x z) d (m z)) y (λ c. out (member_later x xs y c))
    ∙ at_other x y d (m y) (λ e. out (subst (λ z. Contains (x ∷ xs) z) e (member_first x xs)))

pub agree_held : (available xs : List Bound) (m n : Held) → Agree available m n → Agree (available ++ xs) (holding xs (map n xs) m) n
agree_held available xs m n h y c =
    elim (Contains-append_cases available xs y c) [
      | inl l ↦ holding_agrees xs m n y (inl (h y l))
      | inr r ↦ holding_agrees xs m n y (inr r)
    ]

module _ (sorts : List Sort) (parts : List Partition) (p : Production) (step : Held → Action → Option Given) where
  -- from m the action gives what m holds at the items that it makes
  pub record IsMade (m : Held) (x : Action) : Type 0 where
    pub given : Given
    pub is_given : step m x ≡ Some given
    pub made : given.made ≡ map m (makes sorts parts p x)

  -- a step reads only what its action needs
  abbrev pub ReadsNeeds : Type 0
  ReadsNeeds = (m n : Held) (x : Action) → Agree (needs sorts parts p x) m n → step m x ≡ step n x

  abbrev pub AreMade : Held → List Action → Type 0
  AreMade m xs = (x : Action) → Contains xs x → IsMade m x

  pub record Walks (xs : List Action) (w : Walked) (available : List Bound) (n : Held) : Type 0 where
    pub walked : Walked
    pub is_walked : walk (makes sorts parts p) step xs w ≡ Some walked
    pub agrees : Agree (available ++ flat_map (makes sorts parts p) xs) walked.held n

  module _ (reads : ReadsNeeds) where
    -- A walk whose start agrees with n on what is available agrees with it at the end on what was made, too.
    pub walk_follows : (xs : List Action) (w : Walked) (available : List Bound) (n : Held) → Agree available w.held n → AreReady sorts parts p available xs → AreMade n xs
        → Walks xs w available n
    walk_follows [] w available n agrees ready made = record {
      walked = w;
      is_walked = refl;
      agrees = agree_both available [] w.held n agrees (λ x c. absurd (no_member x c));
    }
    walk_follows (x ∷ xs) w available n agrees ready made =
        let m = made x (member_first x xs) in
        let same : step w.held x ≡ Some m.given = reads w.held n x (agree_part (needs sorts parts p x) available w.held n ready.0 agrees) ∙ m.is_given in
        let next = walked_on (makes sorts parts p) x w m.given in
        let held : Agree (available ++ makes sorts parts p x) next.held n =
        subst (λ ds. Agree (available ++ makes sorts parts p x) (holding (makes sorts parts p x) ds w.held) n) (sym m.made)
        (agree_held available (makes sorts parts p x) w.held n agrees) in
        let rest = walk_follows xs next (available ++ makes sorts parts p x) n held ready.1 (λ y c. made y (member_later x xs y c)) in
        record {
          walked = rest.walked;
          is_walked = ap (option_and_then (λ r. walk (makes sorts parts p) step xs (walked_on (makes sorts parts p) x w r))) same ∙ rest.is_walked;
          agrees = subst (λ ys. Agree ys rest.walked.held n) (append_assoc available (makes sorts parts p x) (flat_map (makes sorts parts p) xs)) rest.agrees;
        }

    -- Two by which the same actions are made agree on what is made where they agree on what is available.
    pub made_alike : (xs : List Action) (available : List Bound) (m n : Held) → Agree available m n → AreReady sorts parts p available xs → AreMade m xs → AreMade n xs
        → Agree (available ++ flat_map (makes sorts parts p) xs) m n
    made_alike [] available m n agrees ready one other =
        agree_both available [] m n agrees (λ x c. absurd (no_member x c))
    made_alike (x ∷ xs) available m n agrees ready one other =
        let a = one x (member_first x xs) in
        let b = other x (member_first x xs) in
        let same : a.given ≡ b.given =
        same_Some a.given b.given (sym a.is_given ∙ reads m n x (agree_part (needs sorts parts p x) available m n ready.0 agrees) ∙ b.is_given) in
        let lists : map m (makes sorts parts p x) ≡ map n (makes sorts parts p x) = sym a.made ∙ ap (λ (r : Given). r.made) same ∙ b.made in
        let held : Agree (available ++ makes sorts parts p x) m n = agree_both available (makes sorts parts p x) m n agrees (map_told m n (makes sorts parts p x) lists) in
        subst (λ ys. Agree ys m n) (append_assoc available (makes sorts parts p x) (flat_map (makes sorts parts p) xs))
        (made_alike xs (available ++ makes sorts parts p x) m n held ready.1 (λ y c. one y (member_later x xs y c)) (λ y c. other y (member_later x xs y c)))
