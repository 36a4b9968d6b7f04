use Rattle.lrc_rule.proofs.Keeping.{splits, joins}
use Rattle.lrc_rule.proofs.laws.splitting_and_meeting_keep_the_rule.Goals as goal

pub returns : goal.returns
returns g c = record { split = λ _ l id. splits l id; join = λ _ l id. joins l id }
