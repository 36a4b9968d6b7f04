-- The occurrence on a cycle that the ordered test tells is one of its production.
use Rattle.std.proofs.Common.{◌≡◌, ℕ, zero, suc, ◌<◌, inl, inr, Bool, true, false, IsTrue, [], All, Some, length, slice_get, arith}
use Rattle.std.specs.List.{Contains}
use Rattle.std.proofs.lemmas.Option.{slice_get_within}
use Rattle.std.proofs.lemmas.List.Elements.{All-contains}
use Rattle.lrc_base.specs.declared.grammar.Given.{Given}
use Rattle.lrc_base.specs.declared.grammar.Production.{Production}
use Rattle.lrc_meaning.specs.Grammar.{Grammar, attrs_of_sort, occurrences_of, is_well_formed}
use Rattle.lrc_meaning.proofs.SignatureLemmas.{signed_count}
use Rattle.lrc_graph.specs.Pairs.{Path, step}
use Rattle.lrc_graph.specs.Pairs as path
use Rattle.lrc_order_meaning.specs.Induced as induced
use Rattle.lrc_order_meaning.specs.Needs.{needs_of, places_of}
use Rattle.lrc_order_meaning.specs.Induced.{Leads, by_need, by_sort, Induced, is_given, is_joined}
use Rattle.lrc_order_meaning.specs.Sets.{HasTurn, Placed, Before}
use Rattle.lrc_order_meaning.specs.Extended.{Extended, ExtendedPath}
use Rattle.lrc_order_meaning.specs.Ordered.{IsInducedCycle, IsExtendedCycle}
use Rattle.lrc_order_meaning.proofs.MemberLemmas.{member_slice}
use Rattle.lrc_ordered.specs.Setup.{IsNeedBelow}
use Rattle.lrc_ordered.proofs.PlaceLemmas.{IsWithin, places_within}
use Rattle.lrc_ordered.proofs.BridgeLemmas.{closed_within}
use Rattle.lrc_cli.specs.Causes.{IsPlaced, IsCycleAt}

-- ---- an attribute that comes before another is one of its sort

module _ (g : Grammar) (well : IsTrue (is_well_formed g)) where
  placed_below : (s k a : ℕ) → Placed g [] s k a → a < length (attrs_of_sort g.sorts s)
  placed_below s zero a p = absurd p
  placed_below s (suc k) a (inl p) = placed_below s k a p
  placed_below s (suc k) a (inr p) =
      let turn = All-contains (HasTurn g s (suc k)) p.set a p.can_stand.turn p.member in
      slice_get_within (attrs_of_sort g.sorts s) a turn.attr turn.is_there

  induced_below : (s a b : ℕ) → Induced g [] s a b → a < length (attrs_of_sort g.sorts s)
  induced_below _ _ _ (is_given p s a b in_grammar stands given) = absurd (nothing given)
    where
      nothing : Contains {X = Given} [] (record { sort = s; first = a; then = b }) → ⊥
      nothing h = let short : h.0 < 0 = h.1 in absurd (omega arith)
  induced_below _ _ _ (is_joined p place s a b in_grammar at same here there leads) = here

  before_below : (s a b : ℕ) → Before g [] s a b → a < length (attrs_of_sort g.sorts s)
  before_below s a b (inl i) = induced_below s a b i
  before_below s a b (inr sets) = placed_below s (suc sets.0) a sets.1.0

  extended_below : (p : Production) → Contains g.prods p → (x y : ℕ) → Extended g [] p x y → x < length (occurrences_of g.sorts p)
  extended_below p among x y (inl n) =
      (All-contains (IsNeedBelow (length (occurrences_of g.sorts p))) (needs_of g.sorts p) _
      (All-contains (λ q. All (IsNeedBelow (length (occurrences_of g.sorts q))) (needs_of g.sorts q)) g.prods p (closed_within g well) among) n).0
  extended_below p among x y (inr b) =
      let within : IsWithin g.sorts (length (occurrences_of g.sorts p)) b.place = All-contains (IsWithin g.sorts (length (occurrences_of g.sorts p))) (places_of g.sorts p) b.place (places_within g.sorts p) b.is_place in
      let first = before_below b.place.sort b.first b.then b.before in
      let is = b.x_is in
      omega arith

  path_below : (p : Production) → Contains g.prods p → (x y : ℕ) → ExtendedPath g [] p x y → x < length (occurrences_of g.sorts p)
  path_below p among x y (step _ _ e) = extended_below p among x y e
  path_below p among x y (path.onward _ b _ e rest) = extended_below p among x b e

  leads_below : (p : Production) → Contains g.prods p → (x y : ℕ) → Leads g [] p x y → x < length (occurrences_of g.sorts p)
  leads_below _ among _ _ (by_need p x y n) =
      (All-contains (IsNeedBelow (length (occurrences_of g.sorts p))) (needs_of g.sorts p) _
      (All-contains (λ q. All (IsNeedBelow (length (occurrences_of g.sorts q))) (needs_of g.sorts q)) g.prods p (closed_within g well) among) n).0
  leads_below _ among _ _ (by_sort p place a b x y at pair x_is y_is) =
      let within : IsWithin g.sorts (length (occurrences_of g.sorts p)) place = All-contains (IsWithin g.sorts (length (occurrences_of g.sorts p))) (places_of g.sorts p) place (places_within g.sorts p) at in
      let first = induced_below place.sort a b pair in
      omega arith
  leads_below _ among _ _ (induced.onward p x y z one other) = leads_below p among x y one

  placed_at : (production occurrence : ℕ) (p : Production) → slice_get g.prods production ≡ Some p → (Contains g.prods p → occurrence < length (occurrences_of g.sorts p)) → IsPlaced g production occurrence
  placed_at production occurrence p is below = record {
    at = p;
    is_there = is;
    within = let n = below (member_slice g.prods production p is) in let same = signed_count g.sorts p in omega arith;
  }

  induced_placed : (production occurrence : ℕ) → IsInducedCycle g [] production occurrence → IsPlaced g production occurrence
  induced_placed production occurrence c =
      placed_at production occurrence c.production c.is_there (λ h. leads_below c.production h occurrence occurrence c.least.0)

  extended_placed : (production occurrence : ℕ) → IsExtendedCycle g [] production occurrence → IsPlaced g production occurrence
  extended_placed production occurrence c = placed_at production occurrence c.1.production c.1.is_there (λ h. path_below c.1.production h occurrence occurrence c.1.least.0)

  pub placed : (is_extended : Bool) (production occurrence : ℕ) → IsCycleAt is_extended g production occurrence → IsPlaced g production occurrence
  placed true production occurrence c = extended_placed production occurrence c
  placed false production occurrence c = induced_placed production occurrence c
