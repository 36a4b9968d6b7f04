-- Actions that wait to be done.
use Rattle.std.specs.Prelude.{ℕ, List, [], ◌∷◌, slice_index_or}
use Rattle.lrc_base.specs.declared.grammar.Sort.{Sort}
use Rattle.lrc_base.specs.declared.grammar.Production.{Production}
use Rattle.lrc_order_meaning.specs.declared.Partition.{Partition}
use Rattle.lrc_plan_meaning.specs.declared.Action.{Action}
use Rattle.lrc_plan_meaning.specs.declared.Action.TheVariants as a
use Rattle.lrc_plan_meaning.specs.declared.Bound.{Bound}
use Rattle.lrc_plan_meaning.specs.declared.Bound.TheVariants as item
use Rattle.lrc_plan_meaning.specs.Items.{awaits}
use Rattle.lrc_plan_meaning.specs.Plans.{step_of}
use Rattle.lrc_plan.specs.declared.waiting.Waiting.{Waiting}

-- an action of a production with what it awaits, of which nothing was looked at yet
abbrev pub waiting_of : List Sort → List Partition → Production → Action → Waiting
waiting_of sorts parts p x = record { step = step_of sorts parts p x; awaits = awaits sorts parts p x; checked = 0 }

-- an evaluation, where what each occurrence needs and awaits is in lists
abbrev pub waiting_evaluation : List (List Bound) → List (List Bound) → ℕ → Waiting
waiting_evaluation needs awaits o = record {
  step = record { action = a.Eval o; needs = slice_index_or needs o []; makes = item.Value o ∷ [] };
  awaits = slice_index_or awaits o [];
  checked = 0;
}
