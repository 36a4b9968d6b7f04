use Rattle.lrc_rule.proofs.Unique.{row_unique, handle_unique, cell_unique}
use Rattle.lrc_rule.proofs.laws.equal_rows_are_one.Goals as goal

pub returns : goal.returns
returns c = record { rows = row_unique; handles = handle_unique; cells = cell_unique }
