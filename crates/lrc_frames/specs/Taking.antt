-- What a run takes of a visit that it made.
use Rattle.std.specs.Prelude.{◌≡◌, ℕ, ◌-◌, ◌^◌, min, List}
use Rattle.lrc_meaning.specs.Grammar.{Grammar}
use Rattle.lrc_order_meaning.specs.declared.Partition.{Partition}
use Rattle.lrc_plan_meaning.specs.declared.Action.TheVariants as a
use Rattle.lrc_plan_meaning.specs.Sound.{IsVisitThere}
use Rattle.lrc_visit_meaning.specs.Values.{Result}
use Rattle.lrc_visit_meaning.specs.Visits.{given_by}
use Rattle.lrc_store.specs.Standing.{Standing, Stands}
use Rattle.lrc_call_meaning.specs.Forms.{result_form}
use Rattle.lrc_call_meaning.specs.Spelled.{IsSpelledResult}
use Rattle.lrc_eval.specs.declared.values.Val.{Val}
use Rattle.lrc_functions.specs.declared.function.Callee.{Callee}
use Rattle.lrc_functions.specs.Functions.{callee_of}
use Rattle.lrc_frames.specs.declared.body.Body.{Body}
use Rattle.lrc_frames.specs.Frames.{Run, RunsAt, after}
use Rattle.lrc_frames.specs.Steps.{IsOf}

module _ (g : Grammar) (parts : List Partition) where
  -- A run that made visit v of symbol n, and the visit's result, whose handle this is.
  pub record TakesFrom (s : Standing) (frame : List Val) (body : Body) (r : Run) (callee : Callee) (handle n v : ℕ) (outcome : Result) : Type 0 where
    pub runs : RunsAt g parts s frame body r
    pub called : callee ≡ callee_of g.sorts parts r.production n v
    pub visit : IsVisitThere g.sorts parts r.production n v
    pub stands : Stands s handle (result_form outcome)
    pub spelled : IsSpelledResult outcome
    pub formed : IsOf g parts r n v outcome

  -- it goes on with what the visit gave, and this is read of the height
  pub record Takes (s : Standing) (frame : List Val) (body : Body) (r : Run) (n v : ℕ) (outcome : Result) (height : ℕ) : Type 0 where
    pub runs : RunsAt g parts s frame body (after g parts r (a.Visit n v) (given_by outcome).made)
    pub told : height ≡ min outcome.height (2 ^ 32 - 1)
