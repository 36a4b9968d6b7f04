-- Which action is ready first, and what is left behind it.
use Rattle.std.proofs.Common.{◌≡◌, ℕ, zero, suc, ◌+◌, ◌<◌, Bool, true, false, IsTrue, List, [], ◌∷◌, ◌++◌, length, map, take, get_or, slice_set, All, Contains, Some, None, ◌⊎◌, ◌↔◌, inl, inr, refl, sym, ap, ◌∙◌, subst, arith}
use Rattle.std.specs.Prelude.{remove}
use Rattle.std.specs.Option.{option_map_or}
use Rattle.std.specs.List.{list_all}
use Rattle.std.proofs.lemmas.List.Elements.{Contains-append_left, Contains-append_right, Contains-append_cases}
use Rattle.std.proofs.lemmas.Bool.{cases_lt, and_parts}
use Rattle.std.proofs.lemmas.List.{get_or-set_same, get_or-set_other, length-map, get_or-map, map-append}
use Rattle.std.proofs.lemmas.List.Edits.{length-remove, get_or-remove_below, get_or-remove_above}
use Rattle.lrc_base.specs.declared.grammar.Sort.{Sort}
use Rattle.lrc_base.specs.declared.grammar.Production.{Production}
use Rattle.lrc_order_meaning.specs.declared.Partition.{Partition}
use Rattle.lrc_plan_meaning.specs.declared.Action.{Action}
use Rattle.lrc_plan_meaning.specs.declared.Bound.{Bound}
use Rattle.lrc_plan_meaning.specs.declared.Step.{Step}
use Rattle.lrc_plan_meaning.specs.Items.{is_among, awaits, makes}
use Rattle.lrc_plan_meaning.specs.Plans.{step_of}
use Rattle.lrc_plan_meaning.specs.Sequences.{State, pick, is_ready, did, greedy}
use Rattle.lrc_plan_meaning.proofs.ItemLemmas.{same_bool, among, contained}
use Rattle.lrc_plan.specs.declared.waiting.Waiting.{Waiting}
use Rattle.lrc_plan.specs.ItemSets.{Flags, holds, HasRoom, IsSetOf}
use Rattle.lrc_plan.specs.Waiting.{waiting_of}
use Rattle.lrc_plan.specs.Running.{unchecked, IsChecked, is_ready_in, IsFirst, PassesNone, IsLeft, StandsFor}

-- one action was looked at
pub set_unchecked : (ws : List Waiting) (i : ℕ) (w d : Waiting) → i < length ws → unchecked w ≡ unchecked (get_or ws i d) → map unchecked (slice_set ws i w) ≡ map unchecked ws
set_unchecked [] i w d there was = absurd (omega arith)
set_unchecked (v ∷ vs) zero w d there was = ap (λ x. x ∷ map unchecked vs) was
set_unchecked (v ∷ vs) (suc i) w d there was = ap (λ xs. unchecked v ∷ xs) (set_unchecked vs i w d (omega arith) was)

pub same_at : (ws vs : List Waiting) (k : ℕ) (d : Waiting) → map unchecked ws ≡ map unchecked vs → k < length ws → unchecked (get_or ws k d) ≡ unchecked (get_or vs k d)
same_at ws vs k d same there =
    let count = ap (length {A = Waiting}) same in
    let one = length-map ws unchecked in
    let two = length-map vs unchecked in
    sym (get_or-map unchecked ws k d (unchecked d) there)
    ∙ ap (λ (xs : List Waiting). get_or xs k (unchecked d)) same
    ∙ get_or-map unchecked vs k d (unchecked d) (omega arith)

module _ (f : Flags) where
  pub ready_same : (w v : Waiting) → unchecked w ≡ unchecked v → is_ready_in f w ≡ is_ready_in f v
  ready_same w v same = ap (λ (u : Waiting). list_all (holds f) u.awaits) same

  module _ (ws : List Waiting) (i : ℕ) (w d : Waiting) (there : i < length ws) (was : unchecked w ≡ unchecked (get_or ws i d)) where
    pub set_not_ready : (k : ℕ) (e : Waiting) → ¬ (k ≡ i) → is_ready_in f (get_or ws k e) ≡ false → is_ready_in f (get_or (slice_set ws i w) k e) ≡ false
    set_not_ready k e other h = ap (λ (x : Waiting). is_ready_in f x) (get_or-set_other ws i k w e other) ∙ h

    pub set_ready : (e : Waiting) (r : Bool) → is_ready_in f (get_or ws i d) ≡ r → is_ready_in f (get_or (slice_set ws i w) i e) ≡ r
    set_ready e r h =
        ap (λ (x : Waiting). is_ready_in f x) (get_or-set_same ws i w e there) ∙ ready_same w (get_or ws i d) was ∙ h

  -- with more items available what was checked still is
  module _ (g : Flags) (grown : (x : Bound) → IsTrue (holds f x) → IsTrue (holds g x)) where
    more_held : (xs : List Bound) → list_all (holds f) xs ≡ true → list_all (holds g) xs ≡ true
    more_held [] h = refl
    more_held (x ∷ xs) h =
        let parts = and_parts (holds f x) (list_all (holds f) xs) h in
        rw (grown x parts.0) (more_held xs parts.1)

    pub still_checked : (w : Waiting) → IsChecked f w → IsChecked g w
    still_checked w h = record { within = h.within; held = more_held (take w.checked w.awaits) h.held }

-- nothing but the marks of what was looked at changed
pub left_same : (f : Flags) (ws vs : List Waiting) → IsLeft f ws → All (IsChecked f) vs → map unchecked vs ≡ map unchecked ws → IsLeft f vs
left_same f ws vs left checked same = record {
  checked = checked;
  room = λ k d less.
      let count = ap (length {A = Waiting}) same in
      let one = length-map ws unchecked in
      let two = length-map vs unchecked in
      let e : (get_or vs k d).step ≡ (get_or ws k d).step = ap (λ (w : Waiting). w.step) (same_at vs ws k d same less) in
      subst (λ (s : Step). All (HasRoom f) s.makes) (sym e) (left.room k d (omega arith));
}

pub all_removed : {X : Type 0} (P : X → Type 0) (xs : List X) (i : ℕ) → i < length xs → All P xs → All P (remove xs i)
all_removed P xs i there all k d less =
    let count = length-remove xs i there in
    elim (cases_lt k i) [
      | inl below ↦ subst P (sym (get_or-remove_below xs i d k below there)) (all k d (omega arith))
      | inr above ↦ subst P (sym (get_or-remove_above xs i d k above there)) (all (k + 1) d (omega arith))
    ]

-- what was left is left behind the first that is ready
pub left_behind : (f g : Flags) (ws vs : List Waiting) (i : ℕ) → IsLeft f ws → All (IsChecked f) vs → map unchecked vs ≡ map unchecked ws → i < length vs
    → ((x : Bound) → IsTrue (holds f x) → IsTrue (holds g x)) → ((x : Bound) → HasRoom f x → HasRoom g x) → IsLeft g (remove vs i)
left_behind f g ws vs i left checked same there grown room = record {
  checked = all_removed (IsChecked g) vs i there (λ k d less. still_checked f g grown (get_or vs k d) (checked k d less));
  room = all_removed (λ (w : Waiting). All (HasRoom g) w.step.makes) vs i there
      (λ k d less.
      let count = ap (length {A = Waiting}) same in
      let one = length-map ws unchecked in
      let two = length-map vs unchecked in
      let was = left.room k d (omega arith) in
      let e : (get_or vs k d).step ≡ (get_or ws k d).step = ap (λ (w : Waiting). w.step) (same_at vs ws k d same less) in
      subst (λ (s : Step). All (HasRoom g) s.makes) (sym e) (λ j x l. room (get_or (get_or ws k d).step.makes j x) (was j x l)));
}

pub makes_room : (f : Flags) (ws vs : List Waiting) (i : ℕ) (d : Waiting) → IsLeft f ws → map unchecked vs ≡ map unchecked ws → i < length vs → All (HasRoom f) (get_or vs i d).step.makes
makes_room f ws vs i d left same there =
    let count = ap (length {A = Waiting}) same in
    let one = length-map ws unchecked in
    let two = length-map vs unchecked in
    let e : (get_or vs i d).step ≡ (get_or ws i d).step = ap (λ (w : Waiting). w.step) (same_at vs ws i d same there) in
    subst (λ (s : Step). All (HasRoom f) s.makes) (sym e) (left.room i d (omega arith))

-- an item that is not the first
later_first : {X : Type 0} (test : X → Bool) (x : X) (xs : List X) (i : ℕ) → IsFirst test (x ∷ xs) (suc i) → IsFirst test xs i
later_first test x xs i h =
    let l = h.there in record { there = omega arith; passes = h.passes; earlier = λ k d less. h.earlier (suc k) d (omega arith) }

module _ (sorts : List Sort) (parts : List Partition) (p : Production) (f : Flags) (available : List Bound) (is_set : IsSetOf f available) where
  flag_same : (x : Bound) → holds f x ≡ is_among available x
  flag_same x =
      same_bool (holds f x) (is_among available x) (λ h. among available x ((is_set x).0 h)) (λ h. (is_set x).1 (contained available x h))

  all_same : (xs : List Bound) → list_all (holds f) xs ≡ list_all (is_among available) xs
  all_same [] = refl
  all_same (x ∷ xs) = rw (flag_same x, all_same xs) refl

  ready_agrees : (w : Waiting) (x : Action) → unchecked w ≡ waiting_of sorts parts p x → is_ready_in f w ≡ is_ready sorts parts p available x
  ready_agrees w x same =
      ap (λ (u : Waiting). list_all (holds f) u.awaits) same ∙ all_same (awaits sorts parts p x)

  pub pick_none : (ws : List Waiting) (xs : List Action) → map unchecked ws ≡ map (waiting_of sorts parts p) xs → PassesNone (is_ready_in f) ws
      → pick (is_ready sorts parts p available) xs ≡ None
  pick_none [] [] same none = refl
  pick_none [] (x ∷ xs) same none = absurd (cc)
  pick_none (w ∷ ws) [] same none = absurd (cc)
  pick_none (w ∷ ws) (x ∷ xs) same none =
      let head : unchecked w ≡ waiting_of sorts parts p x = cc in
      let tail : map unchecked ws ≡ map (waiting_of sorts parts p) xs = cc in
      let test : is_ready sorts parts p available x ≡ false = sym (ready_agrees w x head) ∙ none 0 w (omega arith) in
      let rest = pick_none ws xs tail (λ k d less. none (suc k) d (omega arith)) in
      rw (test, rest) refl

  pub record Picked (ws : List Waiting) (xs : List Action) (i : ℕ) : Type 0 where
    pub action : Action
    pub picked : pick (is_ready sorts parts p available) xs ≡ Some (action, remove xs i)
    pub is_it : (d : Waiting) → unchecked (get_or ws i d) ≡ waiting_of sorts parts p action
    pub others : map unchecked (remove ws i) ≡ map (waiting_of sorts parts p) (remove xs i)
    pub count : length xs ≡ suc (length (remove xs i))

  pub pick_first : (ws : List Waiting) (xs : List Action) (i : ℕ) → map unchecked ws ≡ map (waiting_of sorts parts p) xs → IsFirst (is_ready_in f) ws i → Picked ws xs i
  pick_first [] xs i same first = let l = first.there in absurd (omega arith)
  pick_first (w ∷ ws) [] i same first = absurd (cc)
  pick_first (w ∷ ws) (x ∷ xs) zero same first =
      let head : unchecked w ≡ waiting_of sorts parts p x = cc in
      let tail : map unchecked ws ≡ map (waiting_of sorts parts p) xs = cc in
      let test : is_ready sorts parts p available x ≡ true = sym (ready_agrees w x head) ∙ first.passes w in
      record { action = x; picked = rw test refl; is_it = λ d. head; others = tail; count = refl }
  pick_first (w ∷ ws) (x ∷ xs) (suc i) same first =
      let head : unchecked w ≡ waiting_of sorts parts p x = cc in
      let tail : map unchecked ws ≡ map (waiting_of sorts parts p) xs = cc in
      let test : is_ready sorts parts p available x ≡ false = sym (ready_agrees w x head) ∙ first.earlier 0 w (omega arith) in
      let rest = pick_first ws xs i tail (later_first (is_ready_in f) w ws i first) in
      record {
        action = rest.action;
        picked = rw (test, rest.picked) refl;
        is_it = rest.is_it;
        others = rw (head, rest.others) refl;
        count = ap suc rest.count;
      }

-- one action more was done
module _ (sorts : List Sort) (parts : List Partition) (p : Production) (f : Flags) (ws vs : List Waiting) (steps : List Step) (t : State)
    (stands : StandsFor sorts parts p ws f steps t) (same : map unchecked vs ≡ map unchecked ws) where
  pub none_more : PassesNone (is_ready_in f) vs → (n : ℕ) → greedy sorts parts p n t ≡ t
  none_more none zero = refl
  none_more none (suc n) =
      let e = pick_none sorts parts p f t.available stands.available_is vs t.left (same ∙ stands.left_is) none in
      ap (λ found. option_map_or (λ x. greedy sorts parts p n (did sorts parts p t x)) found t) e

  module _ (i : ℕ) (w : Waiting) (first : IsFirst (is_ready_in f) vs i) (is : w ≡ get_or vs i w) where
    abbrev pub found : Picked sorts parts p f t.available stands.available_is vs t.left i
    found = pick_first sorts parts p f t.available stands.available_is vs t.left i (same ∙ stands.left_is) first

    abbrev pub after : State
    after = did sorts parts p t (found.action, remove t.left i)

    step_is : w.step ≡ step_of sorts parts p found.action
    step_is = ap (λ (x : Waiting). x.step) is ∙ ap (λ (x : Waiting). x.step) (found.is_it w)

    pub after_greedy : greedy sorts parts p (length after.left) after ≡ greedy sorts parts p (length t.left) t
    after_greedy =
        sym (ap (λ n. greedy sorts parts p n t) found.count
        ∙ ap (λ x. option_map_or (λ y. greedy sorts parts p (length (remove t.left i)) (did sorts parts p t y)) x t) found.picked)

    pub after_stands : (g : Flags) (now : List Step) → ((x : Bound) → IsTrue (holds g x) ↔ (IsTrue (holds f x) ⊎ Contains w.step.makes x)) → now ≡ steps ++ w.step ∷ []
        → StandsFor sorts parts p (remove vs i) g now after
    after_stands g now grown one = record {
      left_is = found.others;
      available_is = λ x. (
        λ h.
            elim ((grown x).0 h) [
              | inl old ↦ Contains-append_left t.available (makes sorts parts p found.action) x ((stands.available_is x).0 old)
              | inr m ↦ Contains-append_right t.available (makes sorts parts p found.action) x (subst (λ (s : Step). Contains s.makes x) step_is m)
            ],
        λ m.
            (grown x).1
            (elim (Contains-append_cases t.available (makes sorts parts p found.action) x m) [
              | inl old ↦ inl ((stands.available_is x).1 old)
              | inr new ↦ inr (subst (λ (s : Step). Contains s.makes x) (sym step_is) new)
            ]),
      );
      steps_are =
          one
          ∙ ap (λ xs. xs ++ w.step ∷ []) stands.steps_are
          ∙ ap (λ x. map (step_of sorts parts p) t.done ++ x ∷ []) step_is
          ∙ sym (map-append (step_of sorts parts p) t.done (found.action ∷ []));
    }
