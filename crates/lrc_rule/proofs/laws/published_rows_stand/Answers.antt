use Rattle.lrc_rule.proofs.Growth.{Stands-grown}
use Rattle.lrc_rule.proofs.laws.published_rows_stand.Goals as goal

pub returns : goal.returns
returns c = Stands-grown
