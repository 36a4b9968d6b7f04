use Rattle.lrc_store.proofs.Lasting.{reads-then}
use Rattle.lrc_run.proofs.values.values_line.Goals as goal

pub returns-clause-reads : goal.returns-clause-reads
returns-clause-reads g c = reads-then _ _ _ c.values_text.ensures.reads c.first_number.ensures.reads
