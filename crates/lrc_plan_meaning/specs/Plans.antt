-- What a plan keeps of a production: its segments, with what each action needs and makes, and its bindings.
use Rattle.std.specs.Prelude.{ℕ, ◌+◌, ◌-◌, List, map}
use Rattle.std.specs.List.{range_with_len}
use Rattle.lrc_base.specs.declared.grammar.Sort.{Sort}
use Rattle.lrc_base.specs.declared.grammar.Production.{Production}
use Rattle.lrc_order_meaning.specs.declared.Partition.{Partition}
use Rattle.lrc_order_meaning.specs.Needs.{symbols_of}
use Rattle.lrc_plan_meaning.specs.declared.Action.{Action}
use Rattle.lrc_plan_meaning.specs.declared.Bound.{Bound}
use Rattle.lrc_plan_meaning.specs.declared.Step.{Step}
use Rattle.lrc_plan_meaning.specs.declared.Sequences.{Sequences}
use Rattle.lrc_plan_meaning.specs.Items.{visits_of, needs, makes}
use Rattle.lrc_plan_meaning.specs.Sequences.{segments_of}
use Rattle.lrc_plan_meaning.specs.Bindings.{binding}

module _ (sorts : List Sort) (parts : List Partition) (p : Production) where
  abbrev pub step_of : Action → Step
  step_of x = record { action = x; needs = needs sorts parts p x; makes = makes sorts parts p x }

  -- the bindings from visit v of n, by the later visit
  abbrev pub bindings_from : ℕ → ℕ → List (List Bound)
  bindings_from n v = map (binding sorts parts p v) (range_with_len (v + 1) (n - v))

  abbrev pub bindings_of : List (List (List Bound))
  bindings_of = let n = visits_of parts p.left in map (bindings_from n) (range_with_len 1 n)

  abbrev pub sequences_of : Sequences
  sequences_of = record {
    symbols = symbols_of sorts p;
    actions = segments_of sorts parts p;
    steps = map (map step_of) (segments_of sorts parts p);
    bindings = bindings_of;
  }
