-- What the visits of a production's left side gain and use, by their steps.
use Rattle.std.specs.Prelude.{◌≡◌, ℕ, ◌+◌, ◌<◌, ◌≤◌, true, false, List, [], ◌++◌, flat_map, length, map, slice_index, slice_index_or}
use Rattle.lrc_base.specs.declared.grammar.Sort.{Sort}
use Rattle.lrc_base.specs.declared.grammar.Production.{Production}
use Rattle.lrc_meaning.specs.Grammar.{occurrences_of}
use Rattle.lrc_order_meaning.specs.declared.Partition.{Partition}
use Rattle.lrc_order_meaning.specs.declared.Place.{Place}
use Rattle.lrc_order_meaning.specs.Needs.{symbols_of}
use Rattle.lrc_plan_meaning.specs.declared.Bound.{Bound}
use Rattle.lrc_plan_meaning.specs.declared.Bound.TheVariants as b
use Rattle.lrc_plan_meaning.specs.declared.Step.{Step}
use Rattle.lrc_plan_meaning.specs.Items.{visits_of, values_of_visit}
use Rattle.lrc_plan.specs.declared.shape.Shape.{Shape}
use Rattle.lrc_plan.specs.ItemSets.{Flags, IsSetOf}
use Rattle.lrc_plan.specs.Handing.{no_items}

abbrev pub shape_of : List Sort → List Partition → Production → Shape
shape_of sorts parts p = record {
  occurrences = length (occurrences_of sorts p);
  visits = map (λ (place : Place). visits_of parts place.sort) (symbols_of sorts p);
}

-- an item by its numbers
abbrev pub IsIn : Shape → Bound → Type 0
IsIn shape (b.Value o) = o < shape.occurrences
IsIn shape (b.Kid s i j) = (s < length shape.visits) × (i ≤ slice_index shape.visits s) × (j ≤ slice_index shape.visits s)

abbrev pub gained_by : List Sort → List Partition → ℕ → ℕ → List Step → List Bound
gained_by sorts parts left v steps = values_of_visit sorts parts true left 0 v ++ flat_map (λ (s : Step). s.makes) steps

abbrev pub used_by : List Sort → List Partition → ℕ → ℕ → List Step → List Bound
used_by sorts parts left v steps = flat_map (λ (s : Step). s.needs) steps ++ values_of_visit sorts parts false left 0 v

-- a set for each visit, of what is said of its steps
pub record AreSetsOf (items : ℕ → List Step → List Bound) (segments : List (List Step)) (sets : List Flags) : Type 0 where
  pub count : length sets ≡ length segments
  pub each : (v : ℕ) → v < length segments → IsSetOf (slice_index_or sets v no_items) (items (v + 1) (slice_index_or segments v []))
