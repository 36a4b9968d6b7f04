-- Rounds that fill the two sets of a visit, until each attribute stands in one.
use Rattle.std.proofs.Common.{◌≡◌, ◌≢◌, ℕ, zero, suc, ◌+◌, ◌*◌, ◌<◌, ◌≤◌, Bool, true, false, not, List, [], ◌∷◌, length, slice_index, inl, inr, refl, sym, ap, ◌∙◌, subst, arith, le_refl, zero-le}
use Rattle.std.proofs.lemmas.Bool.{cases_eq, cases_lt}
use Rattle.lrc_base.specs.declared.grammar.Attr.{Attr}
use Rattle.lrc_base.specs.declared.grammar.Given.{Given}
use Rattle.lrc_meaning.specs.Grammar.{Grammar, attrs_of_sort}
use Rattle.lrc_graph.specs.Pairs.{Pairs, Has, IsTransitive}
use Rattle.lrc_order_meaning.specs.Sets.{is_of_inherited, AreEnough}
use Rattle.lrc_order_meaning.specs.Ordered.{IsAcyclic}
use Rattle.lrc_order_meaning.proofs.SetLemmas.{placed-later}
use Rattle.lrc_order_meaning.proofs.GreatestLemmas.{decide_pair}
use Rattle.lrc_ordered.specs.Missing.{sum_below}
use Rattle.lrc_ordered.specs.Turns.{IsOf, IsNext, IsFilled}
use Rattle.lrc_ordered.specs.Numbered.{AreNumbered, IsTableOf, AreSets, IsLeft, no_set, left}
use Rattle.lrc_ordered.proofs.MissingLemmas.{sum_lt}
use Rattle.lrc_ordered.proofs.NumberedLemmas.{slice_at, numbered_more}
use Rattle.lrc_ordered.proofs.LastLemmas.{Last, last_below}
use Rattle.lrc_graph.specs.Pairs.{paired}

-- an odd set comes after an even one
pub even : (n : ℕ) → is_of_inherited (2 * n) ≡ true
even zero = refl
even (suc n) =
    let e : 2 * suc n ≡ suc (suc (2 * n)) = omega arith in ap is_of_inherited e ∙ ap (λ b. not (not b)) (even n)

pub past_end : (xs : List ℕ) (a : ℕ) → length xs ≤ a → slice_index xs a ≡ 0
past_end [] a le = refl
past_end (x ∷ xs) zero le = absurd (omega arith)
past_end (x ∷ xs) (suc a) le = past_end xs a (omega arith)

no_set_le : (m n : ℕ) → (m ≢ 0 → n ≢ 0) → no_set n ≤ no_set m
no_set_le zero zero h = le_refl 1
no_set_le zero (suc n) h = zero-le
no_set_le (suc m) zero h = absurd (h (λ e. omega arith) refl)
no_set_le (suc m) (suc n) h = le_refl 0

no_set_lt : (m n : ℕ) → m ≢ 0 → n ≡ 0 → no_set m < no_set n
no_set_lt zero n h e = absurd (h refl)
no_set_lt (suc m) zero h e = le_refl 1
no_set_lt (suc m) (suc n) h e = absurd (omega arith)

no_set_one : (n : ℕ) → no_set n ≤ 1
no_set_one zero = le_refl 1
no_set_one (suc n) = zero-le

sum_ones : (f : ℕ → ℕ) (n : ℕ) → ((k : ℕ) → f k ≤ 1) → sum_below f n ≤ n
sum_ones f zero h = le_refl 0
sum_ones f (suc n) h = let rest = sum_ones f n h in let one = h n in omega arith

pub left_le : (sets : List ℕ) → left sets ≤ length sets
unfolding left
left_le sets = sum_ones (λ a. no_set (slice_index sets a)) (length sets) (λ a. no_set_one (slice_index sets a))

-- a round puts attributes in one set
pub within_filled : (attrs : List Attr) (r : Pairs) (old new : List ℕ) (inherited : Bool) (set bound : ℕ) → bound ≤ set → length new ≡ length attrs
    → ((a : ℕ) → a < length attrs → IsFilled attrs r old new inherited set a) → ((a : ℕ) → slice_index old a ≤ bound) → (a : ℕ) → slice_index new a ≤ set
within_filled attrs r old new inherited set bound le len filled small a =
    elim (cases_lt a (length attrs)) [
      | inr large ↦ let e = past_end new a (omega arith) in omega arith
      | inl there ↦
          let f = filled a there in
          elim (cases_eq (slice_index old a) 0) [
            | inr placed ↦ let e = f.kept placed in let s = small a in omega arith
            | inl none ↦ elim (f.newly none) [ inl p ↦ let e = p.1 in omega arith | inr p ↦ let e = p.1 in omega arith ]
          ]
    ]

module _ (attrs : List Attr) (r : Pairs) (old middle new : List ℕ) (one two : ℕ) (some_one : 0 < one) (some_two : 0 < two)
    (first : (a : ℕ) → a < length attrs → IsFilled attrs r old middle false one a)
    (second : (a : ℕ) → a < length attrs → IsFilled attrs r middle new true two a) where
  kept_first : (a : ℕ) → a < length attrs → slice_index old a ≢ 0 → slice_index middle a ≢ 0
  kept_first a there placed none = placed (sym ((first a there).kept placed) ∙ none)

  kept_second : (a : ℕ) → a < length attrs → slice_index middle a ≢ 0 → slice_index new a ≢ 0
  kept_second a there placed none = placed (sym ((second a there).kept placed) ∙ none)

  kept_both : (a : ℕ) → a < length attrs → slice_index old a ≢ 0 → slice_index new a ≢ 0
  kept_both a there placed = kept_second a there (kept_first a there placed)

  module _ (l : Last (λ a. slice_index old a ≡ 0) (Has r) (length attrs)) where
    -- the last one that stands in no set is next, of the one direction or the other
    placed_over : (inherited : Bool) → IsOf attrs inherited l.point → slice_index new l.point ≢ 0
    placed_over false is =
        let next : IsNext attrs r old false l.point = record {
          direction = is;
          after = λ b there p. inl (λ none. l.none_after b there none p);
        } in
        elim ((first l.point l.small).newly l.has) [
          | inl p ↦ kept_second l.point l.small (λ none. let e = p.1 in omega arith)
          | inr p ↦ absurd (p.0 next)
        ]
    placed_over true is =
        let next : IsNext attrs r middle true l.point = record {
          direction = is;
          after = λ b there p. inl (kept_first b there (λ none. l.none_after b there none p));
        } in
        elim (cases_eq (slice_index middle l.point) 0) [
          | inr placed ↦ kept_second l.point l.small placed
          | inl none ↦
              elim ((second l.point l.small).newly none) [
                | inl p ↦ λ zero_new. let e = p.1 in omega arith
                | inr p ↦ absurd (p.0 next)
              ]
        ]

    placed_last : slice_index new l.point ≢ 0
    placed_last =
        let x = slice_at attrs l.point l.small in
        placed_over x.0.inherited (λ d. ap (λ (y : Attr). y.inherited) (x.2 d))

    fewer_over : length old ≡ length attrs → length new ≡ length old → left new < left old
    unfolding left
    fewer_over counts same =
        subst (λ n. sum_below (λ a. no_set (slice_index new a)) n < sum_below (λ a. no_set (slice_index old a)) (length old)) (sym same)
        (sum_lt (λ a. no_set (slice_index new a)) (λ a. no_set (slice_index old a)) (length old) l.point
        (λ a small. no_set_le (slice_index old a) (slice_index new a) (kept_both a (omega arith)))
        (let small = l.small in omega arith)
        (no_set_lt (slice_index new l.point) (slice_index old l.point) placed_last l.has))

  -- so a round for a visit leaves fewer
  pub fewer_left : length old ≡ length attrs → length new ≡ length old → IsTransitive (Has r) → IsAcyclic (Has r) → IsLeft old → left new < left old
  fewer_left counts same whole none some =
      elim (last_below (λ a. slice_index old a ≡ 0) (λ a. cases_eq (slice_index old a) 0) (Has r) (λ x y. decide_pair r x y (paired r x y) refl) whole none (length attrs)) [
        | inl nobody ↦ absurd (nobody some.attr (let small = some.is_there in omega arith) some.in_none)
        | inr l ↦ fewer_over l counts same
      ]

  pub numbered_visit : (g : Grammar) (given : List Given) (s k : ℕ) → is_of_inherited k ≡ true → one ≡ suc k → two ≡ suc (suc k)
      → length middle ≡ length attrs → length new ≡ length attrs → IsTableOf g given s attrs r → AreNumbered g given s k old → AreNumbered g given s (suc (suc k)) new
  numbered_visit g given s k is_even one_is two_is len_middle len_new table before =
      let same = table.attributes in
      let odd : false ≡ is_of_inherited (suc k) = sym (ap not is_even) in
      let again : true ≡ is_of_inherited (suc (suc k)) = sym (ap (λ b. not (not b)) is_even) in
      let count : length attrs ≡ length (attrs_of_sort g.sorts s) = ap length same in
      numbered_more g given s (suc k) table.there r table.exact middle
      (numbered_more g given s k table.there r table.exact old before middle
      (subst (λ (list : List Attr). (a : ℕ) → a < length list → IsFilled list r old middle (is_of_inherited (suc k)) (suc k) a) same
      (subst (λ b. (a : ℕ) → a < length attrs → IsFilled attrs r old middle b (suc k) a) odd
      (subst (λ n. (a : ℕ) → a < length attrs → IsFilled attrs r old middle false n a) one_is first)))
      (λ a le. past_end middle a (omega arith)))
      new
      (subst (λ (list : List Attr). (a : ℕ) → a < length list → IsFilled list r middle new (is_of_inherited (suc (suc k))) (suc (suc k)) a) same
      (subst (λ b. (a : ℕ) → a < length attrs → IsFilled attrs r middle new b (suc (suc k)) a) again
      (subst (λ n. (a : ℕ) → a < length attrs → IsFilled attrs r middle new true n a) two_is second)))
      (λ a le. past_end new a (omega arith))

-- the sets of the last n visits, each of which is needed
pub record AreRounds (g : Grammar) (given : List Given) (s n : ℕ) (sets : List ℕ) : Type 0 where
  pub numbered : AreNumbered g given s (2 * n) sets
  pub needed : (m : ℕ) → m < n → ¬ AreEnough g given s m

module _ (g : Grammar) (given : List Given) (s : ℕ) where
  pub none_numbered : (sets : List ℕ) → ((a : ℕ) → slice_index sets a ≡ 0) → AreNumbered g given s (2 * 0) sets
  none_numbered sets none = record {
    in_none = λ a small zero_a h. h;
    in_set = λ a placed. absurd (placed (none a));
    placed = λ a placed. absurd (placed (none a));
  }

  pub first_round : (sets : List ℕ) → AreNumbered g given s (2 * 0 + 2) sets → AreRounds g given s 1 sets
  first_round sets numbered = record {
    numbered = numbered;
    needed = λ m less enough. let some = enough.some in absurd (omega arith);
  }

  pub more_rounds : (n : ℕ) (old new : List ℕ) → length old ≡ length (attrs_of_sort g.sorts s) → IsLeft old → AreRounds g given s n old
      → AreNumbered g given s (2 * n + 2) new → AreRounds g given s (n + 1) new
  more_rounds n old new count some before numbered =
      let small = some.is_there in
      let grown : 2 * n + 2 ≡ 2 * (n + 1) = omega arith in
      record {
        numbered = subst (λ k. AreNumbered g given s k new) grown numbered;
        needed = λ m less enough.
            before.numbered.in_none some.attr (omega arith) some.in_none
            (placed-later g given s (2 * m) (2 * n) some.attr (omega arith) (enough.all some.attr (omega arith)));
      }

  pub all_rounds : (n : ℕ) (sets : List ℕ) → 1 ≤ n → length sets ≡ length (attrs_of_sort g.sorts s) → (¬ IsLeft sets) → AreRounds g given s n sets → AreSets g given s n sets
  all_rounds n sets some count nobody rounds =
      let placed : (a : ℕ) → a < length sets → slice_index sets a ≢ 0 = λ a small none. nobody (record { attr = a; is_there = small; in_none = none }) in
      record {
        visits_are = (record { some = some; all = λ a small. rounds.numbered.placed a (placed a (omega arith)) }, rounds.needed);
        in_set = λ a small. rounds.numbered.in_set a (placed a small);
      }
