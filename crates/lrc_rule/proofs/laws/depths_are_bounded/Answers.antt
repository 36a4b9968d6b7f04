use Rattle.lrc_rule.proofs.Counts.{depth-full, row-depth, full-le}
use Rattle.lrc_rule.proofs.laws.depths_are_bounded.Goals as goal

pub returns : goal.returns
returns c = record { cells = depth-full; rows = row-depth; full = full-le }
