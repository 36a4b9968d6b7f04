use Rattle.lrc_eval.proofs.SameLemmas.{same-by-cells}
use Rattle.lrc_eval.proofs.laws.trees_are_the_same_by_cells.Goals as goal

pub returns : goal.returns
returns c = same-by-cells
