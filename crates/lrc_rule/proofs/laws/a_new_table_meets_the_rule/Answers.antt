use Rattle.lrc_rule.proofs.Keeping.{opens}
use Rattle.lrc_rule.proofs.laws.a_new_table_meets_the_rule.Goals as goal

pub returns : goal.returns
returns g c = λ _ l. opens l
