use Rattle.std.proofs.Common.{sym, subst, Contains}
use Rattle.lrc_call_meaning.specs.Reached.{cells_of, calls_in}
use Rattle.lrc_cell_laws.proofs.CallCellLemmas.{calls_met, met_calls}
use Rattle.lrc_cell_laws.proofs.cells.calls_are_told_by_tags.Goals as goal

pub returns : goal.returns
returns c ms tags cell = (
  calls_met ms cell,
  λ is. subst (Contains (calls_in (cells_of ms))) (sym is.2) (met_calls ms is.0 tags is.1),
)
