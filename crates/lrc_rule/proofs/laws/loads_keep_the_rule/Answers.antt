use Rattle.lrc_rule.proofs.Keeping.{loads, seeks}
use Rattle.lrc_rule.proofs.laws.loads_keep_the_rule.Goals as goal

pub returns : goal.returns
returns g c = record { load = λ _ l slots id me. loads slots id me l; seek = λ _ l slots id me. seeks slots id me l }
