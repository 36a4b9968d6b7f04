-- Without an induced cycle the table of a sort has none, and is transitive; partitions are found sort by sort.
use Rattle.std.proofs.Common.{◌≡◌, ℕ, zero, suc, ◌+◌, ◌<◌, List, [], ◌∷◌, ◌++◌, All, length, get_or, slice_get, Some, refl, sym, subst, arith}
use Rattle.std.proofs.lemmas.Option.{none-some, same_Some}
use Rattle.std.proofs.lemmas.List.Elements.{All-contains}
use Rattle.lrc_base.specs.declared.grammar.Sort.{Sort}
use Rattle.lrc_base.specs.declared.grammar.Given.{Given}
use Rattle.lrc_meaning.specs.Grammar.{Grammar, attrs_of_sort}
use Rattle.lrc_graph.specs.Pairs.{Pairs, Has, HasExactly, IsTransitive}
use Rattle.lrc_order_meaning.specs.Induced.{Leads, by_sort, Induced}
use Rattle.lrc_order_meaning.specs.Ordered.{IsGivenThere, IsAcyclic}
use Rattle.lrc_order_meaning.proofs.TransitiveLemmas.{has_place, induced_transitive}

module _ (g : Grammar) (given : List Given) (there : All (IsGivenThere g.sorts) given) (s : ℕ) (table : Pairs) (exact : HasExactly table (Induced g given s)) where
  pub table_transitive : IsTransitive (Has table)
  table_transitive a b c one other =
      (exact a c).1 (induced_transitive g given there s a b c ((exact a b).0 one) ((exact b c).0 other))

  pub table_acyclic : All (λ p. IsAcyclic (Leads g given p)) g.prods → IsAcyclic (Has table)
  table_acyclic acyclic x held =
      let pair = (exact x x).0 held in
      let w = has_place g given there s x x pair in
      let start = w.place.start in
      All-contains (λ p. IsAcyclic (Leads g given p)) g.prods w.production acyclic w.is_there (start + x)
      (by_sort w.production w.place x x (start + x) (start + x) w.is_place (subst (λ t. Induced g given t x x) (sym w.of_sort) pair) refl refl)

-- an item behind others
pub pushed : {X : Type 0} (P : ℕ → X → Type 0) (xs : List X) (x : X) → ((i : ℕ) (y : X) → slice_get xs i ≡ Some y → P i y) → P (length xs) x
    → (i : ℕ) (y : X) → slice_get (xs ++ x ∷ []) i ≡ Some y → P i y
pushed P [] x each last zero y e = subst (P 0) (same_Some x y e) last
pushed P [] x each last (suc i) y e = absurd (none-some y e)
pushed P (z ∷ zs) x each last zero y e = each zero y e
pushed P (z ∷ zs) x each last (suc i) y e = pushed (λ j. P (suc j)) zs x (λ j w h. each (suc j) w h) last i y e

-- attributes of a sort are few where those of each sort are
pub few_attrs : (sorts : List Sort) (s : ℕ) → All (λ (x : Sort). length x.attrs < 1024) sorts → length (attrs_of_sort sorts s) < 1024
few_attrs [] s few = omega arith
few_attrs (x ∷ xs) zero few = few 0 x (omega arith)
few_attrs (x ∷ xs) (suc s) few = few_attrs xs s (λ k d h. few (suc k) d (omega arith))

pub attrs_at : (sorts : List Sort) (s : ℕ) (d : Sort) → s < length sorts → attrs_of_sort sorts s ≡ (get_or sorts s d).attrs
attrs_at [] s d h = absurd (omega arith)
attrs_at (x ∷ xs) zero d h = refl
attrs_at (x ∷ xs) (suc s) d h = attrs_at xs s d (omega arith)
