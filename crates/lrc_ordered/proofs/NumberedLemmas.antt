-- A round gives the next set of the definition.
use Rattle.std.proofs.Common.{◌≡◌, ◌≢◌, ℕ, zero, suc, ◌<◌, ◌≤◌, Bool, List, [], ◌∷◌, All, length, slice_get, slice_index, get_or, Some, inl, inr, refl, sym, ap, ◌∙◌, subst, arith}
use Rattle.std.proofs.lemmas.Bool.{cases_eq, cases_lt}
use Rattle.std.proofs.lemmas.Option.{same_Some}
use Rattle.lrc_base.specs.declared.grammar.Attr.{Attr}
use Rattle.lrc_base.specs.declared.grammar.Given.{Given}
use Rattle.lrc_meaning.specs.Grammar.{Grammar, attrs_of_sort}
use Rattle.lrc_graph.specs.Pairs.{Pairs, HasExactly}
use Rattle.lrc_order_meaning.specs.Induced.{Induced}
use Rattle.lrc_order_meaning.specs.Sets.{is_of_inherited, HasTurn, InGreatest, Placed, InSet}
use Rattle.lrc_order_meaning.specs.Ordered.{IsGivenThere}
use Rattle.lrc_order_meaning.proofs.SetLemmas.{placed-later}
use Rattle.lrc_order_meaning.proofs.TransitiveLemmas.{has_place, induced_transitive}
use Rattle.lrc_order_meaning.proofs.GreatestLemmas.{greatest_turn, turn_greatest, turn_within}
use Rattle.lrc_ordered.specs.Turns.{IsOf, IsNext, IsFilled}
use Rattle.lrc_ordered.specs.Numbered.{AreNumbered}

pub slice_at : {X : Type 0} (xs : List X) (i : ℕ) → i < length xs → (x : X) × (slice_get xs i ≡ Some x) × ((d : X) → get_or xs i d ≡ x)
slice_at [] i h = absurd (omega arith)
slice_at (x ∷ xs) zero h = (x, refl, λ d. refl)
slice_at (x ∷ xs) (suc i) h = slice_at xs i (omega arith)

module _ (g : Grammar) (given : List Given) (s k : ℕ) (there : All (IsGivenThere g.sorts) given) (r : Pairs) (exact : HasExactly r (Induced g given s))
    (old : List ℕ) (before : AreNumbered g given s k old) where
  abbrev attrs : List Attr
  attrs = attrs_of_sort g.sorts s

  abbrev turn : Bool
  turn = is_of_inherited (suc k)

  of_turn : (a : ℕ) → a < length attrs → IsOf attrs turn a → HasTurn g s (suc k) a
  of_turn a small is =
      let x = slice_at attrs a small in
      record { attr = x.0; is_there = x.1; direction = ap (λ (y : Attr). y.inherited) (sym (x.2 x.0)) ∙ is x.0 }

  turn_of : (a : ℕ) → HasTurn g s (suc k) a → IsOf attrs turn a
  turn_of a h d =
      let x = slice_at attrs a (turn_within g s (suc k) a h) in
      ap (λ (y : Attr). y.inherited) (x.2 d ∙ same_Some x.0 h.attr (sym x.1 ∙ h.is_there)) ∙ h.direction

  -- an attribute is next exactly where the definition puts it into the next set
  next_placed : (a : ℕ) → a < length attrs → IsNext attrs r old turn a → InGreatest g given s (suc k) (Placed g given s k) a
  next_placed a small h =
      turn_greatest g given s (suc k) (Placed g given s k) r exact (induced_transitive g given there s) a
      (record {
        turn = of_turn a small h.direction;
        after = λ b p.
            let place = has_place g given there s a b p in
            elim (h.after b place.b_in ((exact a b).1 p)) [
              | inl placed ↦ inl (before.placed b placed)
              | inr is ↦ inr (of_turn b place.b_in is)
            ];
      })

  placed_next : (a : ℕ) → InGreatest g given s (suc k) (Placed g given s k) a → IsNext attrs r old turn a
  placed_next a found =
      let h = greatest_turn g given s (suc k) (Placed g given s k) a found in
      record {
        direction = turn_of a h.turn;
        after = λ b small p.
            elim (h.after b ((exact a b).0 p)) [
              | inl placed ↦ inl (λ zero_b. before.in_none b small zero_b placed)
              | inr other ↦ inr (turn_of b other)
            ];
      }

  module _ (new : List ℕ) (filled : (a : ℕ) → a < length attrs → IsFilled attrs r old new turn (suc k) a) (past : (a : ℕ) → length attrs ≤ a → slice_index new a ≡ 0) where
    in_none : (a : ℕ) → a < length attrs → slice_index new a ≡ 0 → ¬ Placed g given s (suc k) a
    in_none a small zero_new placed =
        let f = filled a small in
        elim (cases_eq (slice_index old a) 0) [
          | inr old_placed ↦ old_placed (sym (f.kept old_placed) ∙ zero_new)
          | inl zero_old ↦
              elim (f.newly zero_old) [
                | inl p ↦ let e = p.1 in absurd (omega arith)
                | inr p ↦
                    elim placed [
                      | inl earlier ↦ before.in_none a small zero_old earlier
                      | inr found ↦ p.0 (placed_next a found)
                    ]
              ]
        ]

    both : (a : ℕ) → slice_index new a ≢ 0 → InSet g given s (slice_index new a) a × Placed g given s (suc k) a
    both a placed =
        elim (cases_lt a (length attrs)) [
          | inr large ↦ absurd (placed (past a large))
          | inl small ↦
              let f = filled a small in
              elim (cases_eq (slice_index old a) 0) [
                | inr old_placed ↦
                    (subst (λ n. InSet g given s n a) (sym (f.kept old_placed)) (before.in_set a old_placed), inl (before.placed a old_placed))
                | inl zero_old ↦
                    elim (f.newly zero_old) [
                      | inr p ↦ absurd (placed p.1)
                      | inl p ↦
                          let now : Placed g given s (suc k) a = inr (next_placed a small p.0) in (
                            subst (λ n. InSet g given s n a) (sym p.1)
                                (now, λ m less early. before.in_none a small zero_old (placed-later g given s m k a (omega arith) early)),
                            now,
                          )
                    ]
              ]
        ]

    -- the numbers after the round
    pub numbered_more : AreNumbered g given s (suc k) new
    numbered_more = record {
      in_none = in_none;
      in_set = λ a placed. (both a placed).0;
      placed = λ a placed. (both a placed).1;
    }
