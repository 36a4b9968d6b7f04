-- Bindings by sets are those of the definition.
use Rattle.std.proofs.Common.{◌≡◌, ℕ, zero, suc, ◌+◌, ◌-◌, ◌<◌, ◌≤◌, true, false, ◌&&◌, List, [], ◌∷◌, ◌++◌, length, map, take, get_or, All, refl, sym, ap, ◌∙◌, subst, arith}
use Rattle.std.specs.Prelude.{filter, flat_map, slice_index}
use Rattle.std.specs.List.{range_with_len}
use Rattle.std.proofs.lemmas.List.{map-append, take_more, get_or-map, length-map}
use Rattle.std.proofs.lemmas.List.Elements.{filter_agree, All-map, All-weaker}
use Rattle.std.proofs.lemmas.List.Folds.{flat_map-map}
use Rattle.lrc_base.specs.declared.grammar.Sort.{Sort}
use Rattle.lrc_base.specs.declared.grammar.Production.{Production}
use Rattle.lrc_meaning.specs.Grammar.{occurrences_of}
use Rattle.lrc_order_meaning.specs.declared.Partition.{Partition}
use Rattle.lrc_order_meaning.specs.declared.Place.{Place}
use Rattle.lrc_order_meaning.specs.Needs.{symbols_of, left_place}
use Rattle.lrc_plan_meaning.specs.declared.Action.{Action}
use Rattle.lrc_plan_meaning.specs.declared.Bound.{Bound}
use Rattle.lrc_plan_meaning.specs.declared.Bound.TheVariants as b
use Rattle.lrc_plan_meaning.specs.declared.Step.{Step}
use Rattle.lrc_plan_meaning.specs.Items.{is_among, visits_of, values_of_visit, symbol_at}
use Rattle.lrc_plan_meaning.specs.Sequences.{actions_of, segments_of, segment}
use Rattle.lrc_plan_meaning.specs.Bindings.{bindings_at, items_of, gained, used, binding}
use Rattle.lrc_plan_meaning.specs.Plans.{step_of, bindings_from, bindings_of}
use Rattle.lrc_plan_meaning.proofs.ItemLemmas.{same_bool, among, contained}
use Rattle.lrc_plan_meaning.proofs.GreedyLemmas.{segments_count, segments_are_of}
use Rattle.lrc_plan.specs.ItemSets.{Flags, holds, IsSetOf}
use Rattle.lrc_plan.specs.Handing.{no_items, listed_items, shared, shared_from, all_shared}
use Rattle.lrc_plan.specs.Gaining.{shape_of, gained_by, used_by, AreSetsOf}

pub mapped_more : {X Y : Type 0} (f : X → Y) (xs : List X) (i : ℕ) (x : X) (ys now : List Y) (y : Y) → i < length xs → x ≡ get_or xs i x → ys ≡ map f (take i xs)
    → now ≡ ys ++ y ∷ [] → y ≡ f x → now ≡ map f (take (i + 1) xs)
mapped_more f xs i x ys now y there is before one made =
    one
    ∙ ap (λ zs. zs ++ y ∷ []) before
    ∙ ap (λ z. map f (take i xs) ++ z ∷ []) made
    ∙ sym (ap (map f) (take_more xs i x there ∙ ap (λ z. take i xs ++ z ∷ []) (sym is)) ∙ map-append f (take i xs) (x ∷ []))

-- functions of numbers in a row that agree, where the one row starts one later
shifted : {X : Type 0} (f g : ℕ → X) (a n : ℕ) → ((k : ℕ) → a ≤ k → k < a + n → f k ≡ g (k + 1)) → map f (range_with_len a n) ≡ map g (range_with_len (a + 1) n)
shifted f g a zero same = refl
shifted f g a (suc n) same =
    ap (λ x. x ∷ map f (range_with_len (a + 1) n)) (same a (omega arith) (omega arith))
    ∙ ap (λ xs. g (a + 1) ∷ xs) (shifted f g (a + 1) n (λ k low less. same k (omega arith) (omega arith)))

flat_same : {X : Type 0} (f g : ℕ → List X) (a n : ℕ) → ((k : ℕ) → a ≤ k → k < a + n → f k ≡ g k) → flat_map f (range_with_len a n) ≡ flat_map g (range_with_len a n)
flat_same f g a zero same = refl
flat_same f g a (suc n) same =
    ap (λ xs. xs ++ flat_map f (range_with_len (a + 1) n)) (same a (omega arith) (omega arith))
    ∙ ap (λ xs. g a ++ xs) (flat_same f g (a + 1) n (λ k low less. same k (omega arith) (omega arith)))

module _ (sorts : List Sort) (parts : List Partition) (p : Production) where
  pub items_listed : listed_items (shape_of sorts parts p).occurrences (shape_of sorts parts p).visits ≡ items_of sorts parts p
  items_listed =
      let visits = map (λ (place : Place). visits_of parts place.sort) (symbols_of sorts p) in
      let count : length visits ≡ length (symbols_of sorts p) = length-map (symbols_of sorts p) (λ (place : Place). visits_of parts place.sort) in
      ap (λ xs. map b.Value (range_with_len 0 (length (occurrences_of sorts p))) ++ xs)
      (ap (λ n. flat_map (λ s. bindings_at s (slice_index visits s)) (range_with_len 0 n)) count
      ∙ flat_same (λ s. bindings_at s (slice_index visits s)) (λ s. bindings_at s (visits_of parts (symbol_at sorts p s).sort)) 0 (length (symbols_of sorts p))
      (λ s low less. ap (bindings_at s) (get_or-map (λ (place : Place). visits_of parts place.sort) (symbols_of sorts p) s (left_place p) 0 (omega arith))))

  set_agrees : (f : Flags) (items : List Bound) → IsSetOf f items → (x : Bound) → holds f x ≡ is_among items x
  set_agrees f items is x =
      same_bool (holds f x) (is_among items x) (λ h. among items x ((is x).0 h)) (λ h. (is x).1 (contained items x h))

  shared_same : (f g : Flags) (xs ys : List Bound) (items : List Bound) → IsSetOf f xs → IsSetOf g ys → shared items f g ≡ filter (λ x. is_among xs x && is_among ys x) items
  shared_same f g xs ys items one other =
      filter_agree (λ x. holds f x && holds g x) (λ x. is_among xs x && is_among ys x) (λ x. rw (set_agrees f xs one x, set_agrees g ys other x) refl) items

  gained_same : (v : ℕ) (actions : List Action) → gained_by sorts parts p.left v (map (step_of sorts parts p) actions) ≡ gained sorts parts p v actions
  gained_same v actions = ap (λ xs. values_of_visit sorts parts true p.left 0 v ++ xs) (flat_map-map (λ (s : Step). s.makes) (step_of sorts parts p) actions)

  used_same : (v : ℕ) (actions : List Action) → used_by sorts parts p.left v (map (step_of sorts parts p) actions) ≡ used sorts parts p v actions
  used_same v actions = ap (λ xs. xs ++ values_of_visit sorts parts false p.left 0 v) (flat_map-map (λ (s : Step). s.needs) (step_of sorts parts p) actions)

  abbrev visits : ℕ
  visits = visits_of parts p.left

  pub segments_number : length (segments_of sorts parts p) ≡ visits
  segments_number = segments_count sorts parts p visits 1 (record { done = []; left = actions_of sorts parts p; available = [] })

  module _ (steps : List (List Step)) (are : steps ≡ map (map (step_of sorts parts p)) (segments_of sorts parts p)) where
    pub steps_number : length steps ≡ visits
    steps_number = ap (length {A = List Step}) are ∙ length-map (segments_of sorts parts p) (map (step_of sorts parts p)) ∙ segments_number

    -- the segment of a visit, which counts from 1
    steps_at : (k : ℕ) → k < visits → get_or steps k [] ≡ map (step_of sorts parts p) (segment sorts parts p (k + 1))
    steps_at k less =
        let count = segments_number in
        let back : k ≡ (k + 1) - 1 = omega arith in
        ap (λ (xs : List (List Step)). get_or xs k []) are
        ∙ get_or-map (map (step_of sorts parts p)) (segments_of sorts parts p) k [] [] (omega arith)
        ∙ ap (λ n. map (step_of sorts parts p) (get_or (segments_of sorts parts p) n [])) back

    module _ (gains uses : List Flags) (gain : AreSetsOf (gained_by sorts parts p.left) steps gains) (use_of : AreSetsOf (used_by sorts parts p.left) steps uses) where
      gain_at : (k : ℕ) → k < visits → IsSetOf (get_or gains k no_items) (gained sorts parts p (k + 1) (segment sorts parts p (k + 1)))
      gain_at k less =
          let count = steps_number in
          subst (λ xs. IsSetOf (get_or gains k no_items) xs)
          (ap (gained_by sorts parts p.left (k + 1)) (steps_at k less) ∙ gained_same (k + 1) (segment sorts parts p (k + 1))) (gain.each k (omega arith))

      use_at : (k : ℕ) → k < visits → IsSetOf (get_or uses k no_items) (used sorts parts p (k + 1) (segment sorts parts p (k + 1)))
      use_at k less =
          let count = steps_number in
          subst (λ xs. IsSetOf (get_or uses k no_items) xs)
          (ap (used_by sorts parts p.left (k + 1)) (steps_at k less) ∙ used_same (k + 1) (segment sorts parts p (k + 1))) (use_of.each k (omega arith))

      from_same : (v : ℕ) → v < visits → shared_from (items_of sorts parts p) (get_or gains v no_items) uses (v + 1) ≡ bindings_from sorts parts p visits (v + 1)
      from_same v less =
          let count = use_of.count in
          let number = steps_number in
          let n : length uses - (v + 1) ≡ visits - (v + 1) = omega arith in
          ap (λ k. map (λ w. shared (items_of sorts parts p) (get_or gains v no_items) (get_or uses w no_items)) (range_with_len (v + 1) k)) n
          ∙ shifted (λ w. shared (items_of sorts parts p) (get_or gains v no_items) (get_or uses w no_items)) (binding sorts parts p (v + 1)) (v + 1) (visits - (v + 1))
          (λ w low high.
          shared_same (get_or gains v no_items) (get_or uses w no_items) (gained sorts parts p (v + 1) (segment sorts parts p (v + 1))) (used sorts parts p (w + 1) (segment sorts parts p (w + 1)))
          (items_of sorts parts p) (gain_at v less) (use_at w (omega arith)))

      pub bindings_same : (items : List Bound) → items ≡ listed_items (shape_of sorts parts p).occurrences (shape_of sorts parts p).visits
          → all_shared items gains uses ≡ bindings_of sorts parts p
      bindings_same items listed =
          let count : length gains ≡ visits = gain.count ∙ steps_number in
          ap (λ (xs : List Bound). all_shared xs gains uses) (listed ∙ items_listed)
          ∙ ap (λ k. map (λ v. shared_from (items_of sorts parts p) (get_or gains v no_items) uses (v + 1)) (range_with_len 0 k)) count
          ∙ shifted (λ v. shared_from (items_of sorts parts p) (get_or gains v no_items) uses (v + 1)) (bindings_from sorts parts p visits) 0 visits
          (λ v low less. from_same v (omega arith))

    -- their actions, and what holds of them
    pub actions_same : map (map (λ (s : Step). s.action)) steps ≡ segments_of sorts parts p
    actions_same = ap (map (map (λ (s : Step). s.action))) are ∙ back (segments_of sorts parts p)
      where
        back_one : (xs : List Action) → map (λ (s : Step). s.action) (map (step_of sorts parts p) xs) ≡ xs
        back_one [] = refl
        back_one (x ∷ xs) = ap (λ ys. x ∷ ys) (back_one xs)

        back : (xss : List (List Action)) → map (map (λ (s : Step). s.action)) (map (map (step_of sorts parts p)) xss) ≡ xss
        back [] = refl
        back (xs ∷ xss) = ap (λ ys. ys ∷ map (map (λ (s : Step). s.action)) (map (map (step_of sorts parts p)) xss)) (back_one xs) ∙ ap (λ yss. xs ∷ yss) (back xss)

    pub steps_in : (P : Step → Type 0) → All (λ x. P (step_of sorts parts p x)) (actions_of sorts parts p) → All (All P) steps
    steps_in P all =
        subst (All (All P)) (sym are)
        (All-map (All P) (map (step_of sorts parts p)) (segments_of sorts parts p)
        (All-weaker (All (λ x. P (step_of sorts parts p x))) (λ xs. All P (map (step_of sorts parts p) xs)) (λ xs each. All-map P (step_of sorts parts p) xs each) (segments_of sorts parts p)
        (segments_are_of sorts parts p (λ x. P (step_of sorts parts p x)) all)))
