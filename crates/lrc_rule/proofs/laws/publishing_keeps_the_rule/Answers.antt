use Rattle.lrc_rule.proofs.Keeping.{stores, publishes}
use Rattle.lrc_rule.proofs.laws.publishing_keeps_the_rule.Goals as goal

pub returns : goal.returns
returns g c = record { draft = λ _ l slots id me. stores slots id me l; publish = λ _ l slots id me. publishes slots id me l }
