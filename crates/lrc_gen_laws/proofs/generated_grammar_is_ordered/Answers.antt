use Rattle.lrc_gen_laws.proofs.LetsOrderLemmas.{lets_is_ordered}
use Rattle.lrc_gen_laws.proofs.generated_grammar_is_ordered.Goals as goal

pub returns : goal.returns
returns c = lets_is_ordered
