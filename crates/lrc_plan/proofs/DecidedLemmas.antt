-- For a contradiction the induced dependencies of a sort may be taken as a table.
use Rattle.std.proofs.Common.{◌≡◌, ℕ, zero, suc, ◌<◌, ◌≤◌, Bool, true, false, IsTrue, List, [], length, map, get_or, All, ◌⊎◌, ◌↔◌, inl, inr, refl, sym, ap, ◌∙◌, subst, arith}
use Rattle.std.specs.List.{range_with_len}
use Rattle.std.proofs.lemmas.Bool.{cases_lt, cases_eq, true≢false}
use Rattle.std.proofs.lemmas.List.FromFn.{get_or-map-range_with_len, length-map-range_with_len}
use Rattle.std.proofs.lemmas.Option.{slice_get_past}
use Rattle.lrc_base.specs.declared.grammar.Given.{Given}
use Rattle.lrc_meaning.specs.Grammar.{Grammar, attrs_of_sort}
use Rattle.lrc_graph.specs.Pairs.{Pairs, paired, HasExactly}
use Rattle.lrc_order_meaning.specs.Induced.{Induced}
use Rattle.lrc_order_meaning.specs.Ordered.{IsGivenThere}
use Rattle.lrc_order_meaning.proofs.TransitiveLemmas.{has_place}
use Rattle.lrc_plan.proofs.AtLemmas.{past_default}

-- what is not refuted below a number is not refuted of all below it
both_below : (D : ℕ → Type 0) (n : ℕ) → ((i : ℕ) → ¬ (¬ D i)) → ¬ (¬ ((i : ℕ) → i < n → D i))
both_below D zero each refuted = refuted (λ i less. absurd (omega arith))
both_below D (suc n) each refuted =
    each n (λ d. both_below D n each (λ all. refuted (λ i less. elim (cases_eq i n) [ inl e ↦ subst D (sym e) d | inr ne ↦ all i (omega arith) ])))

decidable : (P : Type 0) → ¬ (¬ (P ⊎ (¬ P)))
decidable P refuted = refuted (inr (λ x. refuted (inl x)))

abbrev bool_of : {P : Type 0} → P ⊎ (¬ P) → Bool
bool_of (inl x) = true
bool_of (inr x) = false

bool_exact : {P : Type 0} (d : P ⊎ (¬ P)) → (bool_of d ≡ true) ↔ P
bool_exact (inl x) = (λ e. x, λ y. refl)
bool_exact (inr x) = (λ e. absurd (true≢false (sym e)), λ y. absurd (x y))

module _ (g : Grammar) (given : List Given) (there : All (IsGivenThere g.sorts) given) (s : ℕ) where
  abbrev count : ℕ
  count = length (attrs_of_sort g.sorts s)

  abbrev Decided : ℕ → ℕ → Type 0
  Decided a b = Induced g given s a b ⊎ (¬ Induced g given s a b)

  abbrev row : (ℕ → ℕ → Bool) → ℕ → List Bool
  row test a = map (test a) (range_with_len 0 count)

  abbrev table : (ℕ → ℕ → Bool) → Pairs
  table test = record { points = count; rows = map (row test) (range_with_len 0 count) }

  table_within : (test : ℕ → ℕ → Bool) (a b : ℕ) → a < count → b < count → paired (table test) a b ≡ test a b
  unfolding paired
  table_within test a b x y =
      ap (λ (r : List Bool). get_or r b false) (get_or-map-range_with_len (row test) 0 count a a [] x (omega arith))
      ∙ get_or-map-range_with_len (test a) 0 count b b false y (omega arith)

  past : {X : Type 0} (xs : List X) (i : ℕ) (d : X) → length xs ≤ i → get_or xs i d ≡ d
  past xs i d le = past_default xs i d (slice_get_past xs i le)

  table_past : (test : ℕ → ℕ → Bool) (a b : ℕ) → (count ≤ a) ⊎ (count ≤ b) → paired (table test) a b ≡ false
  unfolding paired
  table_past test a b (inl le) =
      let size = length-map-range_with_len (row test) 0 count in
      ap (λ (r : List Bool). get_or r b false) (past (map (row test) (range_with_len 0 count)) a [] (omega arith))
  table_past test a b (inr le) =
      elim (cases_lt a count) [
        | inr past_a ↦ table_past_row a b past_a
        | inl less ↦
            let size = length-map-range_with_len (test a) 0 count in
            ap (λ (r : List Bool). get_or r b false) (get_or-map-range_with_len (row test) 0 count a a [] less (omega arith))
            ∙ past (map (test a) (range_with_len 0 count)) b false (omega arith)
      ]
    where
      table_past_row : (x y : ℕ) → count ≤ x → get_or (get_or (map (row test) (range_with_len 0 count)) x []) y false ≡ false
      table_past_row x y le2 =
          let size = length-map-range_with_len (row test) 0 count in
          ap (λ (r : List Bool). get_or r y false) (past (map (row test) (range_with_len 0 count)) x [] (omega arith))

  exact_over : (dec : (a b : ℕ) → Decided a b) → HasExactly (table (λ a b. bool_of (dec a b))) (Induced g given s)
  exact_over dec a b = over (cases_lt a count) (cases_lt b count)
    where
      test : ℕ → ℕ → Bool
      test x y = bool_of (dec x y)

      over : (a < count) ⊎ (count ≤ a) → (b < count) ⊎ (count ≤ b) → IsTrue (paired (table (λ x y. bool_of (dec x y))) a b) ↔ Induced g given s a b
      over (inl x) (inl y) =
          let e = table_within (λ k m. bool_of (dec k m)) a b x y in
          (λ h. (bool_exact (dec a b)).0 (sym e ∙ h), λ i. e ∙ (bool_exact (dec a b)).1 i)
      over (inr x) y =
          let e = table_past (λ k m. bool_of (dec k m)) a b (inl x) in
          (λ h. absurd (true≢false (sym h ∙ e)), λ i. let w = has_place g given there s a b i in let l = w.a_in in absurd (omega arith))
      over (inl x) (inr y) =
          let e = table_past (λ k m. bool_of (dec k m)) a b (inr y) in
          (λ h. absurd (true≢false (sym h ∙ e)), λ i. let w = has_place g given there s a b i in let l = w.b_in in absurd (omega arith))

  -- a pair that is not of attributes of the sort is none
  complete : ((a : ℕ) → a < count → (b : ℕ) → b < count → Decided a b) → (a b : ℕ) → Decided a b
  complete dec a b =
      elim (cases_lt a count) [
        | inr x ↦ inr (λ i. let w = has_place g given there s a b i in let l = w.a_in in absurd (omega arith))
        | inl x ↦
            elim (cases_lt b count) [
              | inr y ↦ inr (λ i. let w = has_place g given there s a b i in let l = w.b_in in absurd (omega arith))
              | inl y ↦ dec a x b y
            ]
      ]

  pub as_table : ((r : Pairs) → HasExactly r (Induced g given s) → ⊥) → ⊥
  as_table refuted =
      both_below (λ a. (b : ℕ) → b < count → Decided a b) count (λ a. both_below (Decided a) count (λ b. decidable (Induced g given s a b)))
      (λ dec. refuted (table (λ a b. bool_of (complete dec a b))) (exact_over (complete dec)))
