-- The numbers of the sets give a sort's visits, and which attribute comes before which.
use Rattle.std.proofs.Common.{◌≡◌, ℕ, suc, ◌+◌, ◌*◌, ◌/◌, ◌-◌, ◌<◌, ◌≤◌, List, length, map, slice_index, get_or, ◌↔◌, inl, inr, sym, ap, ◌∙◌, subst, arith}
use Rattle.std.proofs.lemmas.Bool.{cases_lt, cases_eq}
use Rattle.std.proofs.lemmas.List.{length-map}
use Rattle.lrc_base.specs.declared.grammar.Attr.{Attr}
use Rattle.lrc_base.specs.declared.grammar.Given.{Given}
use Rattle.lrc_meaning.specs.Grammar.{Grammar, attrs_of_sort}
use Rattle.lrc_graph.specs.Pairs.{Pairs, HasExactly}
use Rattle.lrc_order_meaning.specs.declared.Partition.{Partition}
use Rattle.lrc_order_meaning.specs.Sets.{InSet, IsVisits, Before}
use Rattle.lrc_order_meaning.specs.Ordered.{IsPartition}
use Rattle.lrc_order_meaning.proofs.TransitiveLemmas.{has_place}
use Rattle.lrc_order_meaning.proofs.TurnLemmas.{placed_within}
use Rattle.lrc_ordered.specs.Numbered.{IsTableOf, AreSets, ComesBefore}
use Rattle.lrc_ordered.proofs.SetupLemmas.{map_at}

module _ (g : Grammar) (given : List Given) (s : ℕ) where
  -- an attribute is in one set alone
  pub one_set : (a k m : ℕ) → InSet g given s k a → InSet g given s m a → k ≡ m
  one_set a k m one other =
      elim (cases_lt k m) [
        | inl less ↦ absurd (other.1 k less one.0)
        | inr le ↦
            elim (cases_eq k m) [
              | inl e ↦ e
              | inr ne ↦ absurd (one.1 m (omega arith) other.0)
            ]
      ]

  module _ (attrs : List Attr) (induced : Pairs) (table : IsTableOf g given s attrs induced) (visits : ℕ) (sets : List ℕ) (count : length sets ≡ length attrs)
      (within : (a : ℕ) → slice_index sets a ≤ 2 * visits) (are : AreSets g given s visits sets) where
    same_count : length sets ≡ length (attrs_of_sort g.sorts s)
    same_count = count ∙ ap length table.attributes

    set_is : (a k : ℕ) → InSet g given s k a → (a < length sets) × (slice_index sets a ≡ k)
    set_is a k h =
        let e = same_count in
        let there = placed_within g given s k a h.0 in
        let small : a < length sets = omega arith in
        (small, one_set a (slice_index sets a) k (are.in_set a small) h)

    before_iff : (x y : ℕ) → ComesBefore induced sets x y ↔ Before g given s x y
    before_iff x y = (
      λ h.
          elim h.order [
            | inl p ↦ inl ((table.exact x y).0 p)
            | inr e ↦
                let up : slice_index sets x ≡ suc (slice_index sets y) = omega arith in
                inr (slice_index sets y, subst (λ k. InSet g given s k x) up (are.in_set x h.x_in), are.in_set y h.y_in)
          ],
      λ h.
          elim h [
            | inl p ↦
                let place = has_place g given table.there s x y p in
                let e = same_count in
                let a = place.a_in in
                let b = place.b_in in
                record { x_in = omega arith; y_in = omega arith; order = inl ((table.exact x y).1 p) }
            | inr p ↦
                let one = set_is x (suc p.0) p.1 in
                let other = set_is y p.0 p.2 in
                let x_set = one.1 in
                let y_set = other.1 in
                record { x_in = one.0; y_in = other.0; order = inr (omega arith) }
          ],
    )

    pub is_partition : (found : Partition) → found.visits ≡ visits → found.visit_of ≡ map (λ set. visits + 1 - (set + 1) / 2) sets → found.before.points ≡ length attrs
        → HasExactly found.before (ComesBefore induced sets) → IsPartition g given s found
    is_partition found visits_is visit_of_is points exact =
        let len : length found.visit_of ≡ length sets = ap length visit_of_is ∙ length-map sets (λ set. visits + 1 - (set + 1) / 2) in
        record {
          visits = subst (λ n. IsVisits g given s n) (sym visits_is) are.visits_are;
          attributes = len ∙ same_count;
          visit_of = λ a small.
              let there : a < length sets = omega arith in
              let at : slice_index found.visit_of a ≡ visits + 1 - (slice_index sets a + 1) / 2 =
              ap (λ list. get_or list a 0) visit_of_is ∙ map_at (λ set. visits + 1 - (set + 1) / 2) sets a 0 0 there in
              let bound = within a in
              record { set = slice_index sets a; in_set = are.in_set a there; from_last = omega arith };
          points = points ∙ ap length table.attributes;
          before = λ x y.
              let one = exact x y in
              let two = before_iff x y in
              (λ h. two.0 (one.0 h), λ h. one.1 (two.1 h));
        }
