-- Of a production with few occurrences: its places have few, a set of its shape has room for its items, and the steps of
-- its segments need and make no others.
use Rattle.std.proofs.Common.{◌≡◌, ℕ, suc, ◌+◌, ◌<◌, ◌^◌, Bool, List, [], length, map, get_or, All, sym, subst, arith}
use Rattle.std.proofs.lemmas.List.Elements.{All-map, All-weaker}
use Rattle.lrc_base.specs.declared.grammar.Sort.{Sort}
use Rattle.lrc_base.specs.declared.grammar.Production.{Production}
use Rattle.lrc_meaning.specs.Grammar.{attrs_of_sort, occurrences_of}
use Rattle.lrc_order_meaning.specs.declared.Partition.{Partition}
use Rattle.lrc_order_meaning.specs.declared.Place.{Place}
use Rattle.lrc_order_meaning.specs.Needs.{left_place, symbols_of, places_of, needs_of}
use Rattle.lrc_ordered.specs.Setup.{IsNeedBelow}
use Rattle.lrc_ordered.proofs.PlaceLemmas.{IsWithin, places_within}
use Rattle.lrc_plan_meaning.specs.Items.{values_of_visit}
use Rattle.lrc_plan_meaning.specs.declared.Action.{Action}
use Rattle.lrc_plan_meaning.specs.declared.Bound.{Bound}
use Rattle.lrc_plan_meaning.specs.declared.Step.{Step}
use Rattle.lrc_plan_meaning.specs.Plans.{step_of}
use Rattle.lrc_plan_meaning.specs.Sequences.{actions_of, segments_of}
use Rattle.lrc_plan.specs.declared.shape.Shape.{Shape}
use Rattle.lrc_plan.specs.declared.waiting.Waiting.{Waiting}
use Rattle.lrc_plan.specs.Sites.{IsBehindTree}
use Rattle.lrc_plan.specs.Gaining.{shape_of, IsIn}
use Rattle.lrc_plan.specs.ItemSets.{Flags, HasRoom, HasRoomFor}
use Rattle.lrc_plan.specs.Waiting.{waiting_of}
use Rattle.lrc_plan.proofs.BindingLemmas.{steps_in}
use Rattle.lrc_plan.proofs.InLemmas.{has_room, left_values_in, actions_in, IsActionIn}

module _ (sorts : List Sort) (p : Production) (few : length (occurrences_of sorts p) < 2 ^ 32) where
  pub places_fit : All (λ (place : Place). place.start + length (attrs_of_sort sorts place.sort) < 2 ^ 32) (places_of sorts p)
  places_fit =
      All-weaker (IsWithin sorts (length (occurrences_of sorts p))) (λ (place : Place). place.start + length (attrs_of_sort sorts place.sort) < 2 ^ 32)
      (λ place within. omega arith) (places_of sorts p) (places_within sorts p)

  pub given_fit : (places : List Place) → places ≡ places_of sorts p → All (λ (place : Place). place.start + length (attrs_of_sort sorts place.sort) < 2 ^ 32) places
  given_fit places are = subst (All (λ (place : Place). place.start + length (attrs_of_sort sorts place.sort) < 2 ^ 32)) (sym are) places_fit

  pub symbols_fit : (symbols : List Place) → symbols ≡ symbols_of sorts p → All (λ (place : Place). place.start + length (attrs_of_sort sorts place.sort) < 2 ^ 32) symbols
  symbols_fit symbols are =
      subst (All (λ (place : Place). place.start + length (attrs_of_sort sorts place.sort) < 2 ^ 32)) (sym are) (λ s d less. places_fit (suc s) d (omega arith))

  pub own_fits : length (attrs_of_sort sorts p.left) < 2 ^ 32
  own_fits = let fit = places_fit 0 (left_place p) (omega arith) in omega arith

module _ (sorts : List Sort) (parts : List Partition) (p : Production) (shape : Shape) (is : shape ≡ shape_of sorts parts p) (f : Flags) (room : HasRoomFor f shape.occurrences shape.visits) where
  has_its_room : HasRoomFor f (shape_of sorts parts p).occurrences (shape_of sorts parts p).visits
  has_its_room = subst (λ (s : Shape). HasRoomFor f s.occurrences s.visits) is room

  pub values_fit : (inherited : Bool) (v : ℕ) → All (HasRoom f) (values_of_visit sorts parts inherited p.left 0 v)
  values_fit inherited v i d less =
      has_room f sorts parts p has_its_room (get_or (values_of_visit sorts parts inherited p.left 0 v) i d) (left_values_in sorts parts p inherited v i d less)

  pub makes_fit : All IsBehindTree (places_of sorts p) → All (IsNeedBelow (length (occurrences_of sorts p))) (needs_of sorts p)
      → All (λ (w : Waiting). All (HasRoom f) w.step.makes) (map (waiting_of sorts parts p) (actions_of sorts parts p))
  makes_fit behind below =
      All-map (λ (w : Waiting). All (HasRoom f) w.step.makes) (waiting_of sorts parts p) (actions_of sorts parts p)
      (All-weaker (IsActionIn sorts parts p) (λ x. All (HasRoom f) (waiting_of sorts parts p x).step.makes)
      (λ x h i d less. has_room f sorts parts p has_its_room (get_or (waiting_of sorts parts p x).step.makes i d) (h.1 i d less)) (actions_of sorts parts p)
      (actions_in sorts parts p behind below))

-- the steps of its segments need and make its items
module _ (sorts : List Sort) (parts : List Partition) (p : Production) (behind : All IsBehindTree (places_of sorts p)) (below : All (IsNeedBelow (length (occurrences_of sorts p))) (needs_of sorts p))
    (shape : Shape) (is : shape ≡ shape_of sorts parts p) (segments : List (List Step)) (are : segments ≡ map (map (step_of sorts parts p)) (segments_of sorts parts p)) where
  part_in : (part : Step → List Bound) → ((x : Action) → IsActionIn sorts parts p x → All (IsIn (shape_of sorts parts p)) (part (step_of sorts parts p x)))
      → (i : ℕ) → i < length segments → All (λ s. All (IsIn shape) (part s)) (get_or segments i [])
  part_in part told i there =
      steps_in sorts parts p segments are (λ s. All (IsIn shape) (part s))
      (subst (λ (given : Shape). All (λ x. All (IsIn given) (part (step_of sorts parts p x))) (actions_of sorts parts p)) (sym is)
      (All-weaker (IsActionIn sorts parts p) (λ x. All (IsIn (shape_of sorts parts p)) (part (step_of sorts parts p x))) told (actions_of sorts parts p) (actions_in sorts parts p behind below)))
      i [] there

  pub makes_in : (i : ℕ) → i < length segments → All (λ (s : Step). All (IsIn shape) s.makes) (get_or segments i [])
  makes_in = part_in (λ s. s.makes) (λ x h. h.1)

  pub needs_in : (i : ℕ) → i < length segments → All (λ (s : Step). All (IsIn shape) s.needs) (get_or segments i [])
  needs_in = part_in (λ s. s.needs) (λ x h. h.0)
