use Rattle.lrc_rule.proofs.Keeping.{memo_loads, memo_stores, memo_clears}
use Rattle.lrc_rule.proofs.laws.memo_steps_keep_the_rule.Goals as goal

pub returns : goal.returns
returns g c = record { load = λ _ l slots id me. memo_loads slots id me l; store = λ _ l slots id me. memo_stores slots id me l; clear = λ _ l slots id me. memo_clears slots id me l }
