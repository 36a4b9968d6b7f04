-- The induced dependencies of a sort are transitive.
use Rattle.std.proofs.Common.{◌≡◌, ℕ, ◌+◌, ◌<◌, List, All, Contains, length, refl, sym, subst}
use Rattle.std.proofs.lemmas.List.Elements.{All-contains}
use Rattle.lrc_base.specs.declared.grammar.Production.{Production}
use Rattle.lrc_base.specs.declared.grammar.Given.{Given}
use Rattle.lrc_meaning.specs.Grammar.{Grammar, attrs_of_sort}
use Rattle.lrc_graph.specs.Pairs.{IsTransitive}
use Rattle.lrc_order_meaning.specs.declared.Place.{Place}
use Rattle.lrc_order_meaning.specs.Needs.{places_of}
use Rattle.lrc_order_meaning.specs.Induced.{Leads, by_sort, onward, Induced, is_given, is_joined}
use Rattle.lrc_order_meaning.specs.Ordered.{IsGivenThere}

-- a place of the sort in the grammar, and both attributes are its
pub record HasPlace (g : Grammar) (s a b : ℕ) : Type 0 where
  pub production : Production
  pub is_there : Contains g.prods production
  pub place : Place
  pub is_place : Contains (places_of g.sorts production) place
  pub of_sort : place.sort ≡ s
  pub a_in : a < length (attrs_of_sort g.sorts s)
  pub b_in : b < length (attrs_of_sort g.sorts s)

module _ (g : Grammar) (given : List Given) (there : All (IsGivenThere g.sorts) given) where
  pub has_place : (s a b : ℕ) → Induced g given s a b → HasPlace g s a b
  has_place _ _ _ (is_given p s a b production stands pair) =
      let known = All-contains (IsGivenThere g.sorts) given (record { sort = s; first = a; then = b }) there pair in
      record {
        production = p;
        is_there = production;
        place = stands.place;
        is_place = stands.is_place;
        of_sort = stands.of_sort;
        a_in = known.first;
        b_in = known.then;
      }
  has_place _ _ _ (is_joined p place s a b production at of_sort a_in b_in path) = record {
    production = p;
    is_there = production;
    place = place;
    is_place = at;
    of_sort = of_sort;
    a_in = a_in;
    b_in = b_in;
  }

  -- two steps lead from one attribute of a place to another of it
  pub induced_transitive : (s : ℕ) → IsTransitive (Induced g given s)
  induced_transitive s a b c one other =
      let w = has_place s a b one in
      let v = has_place s b c other in
      let start = w.place.start in
      let step : (x y : ℕ) → Induced g given s x y → Leads g given w.production (start + x) (start + y) =
      λ x y h. by_sort w.production w.place x y (start + x) (start + y) w.is_place (subst (λ t. Induced g given t x y) (sym w.of_sort) h) refl refl in
      is_joined w.production w.place s a c w.is_there w.is_place w.of_sort w.a_in v.b_in
      (onward w.production (start + a) (start + b) (start + c) (step a b one) (step b c other))
