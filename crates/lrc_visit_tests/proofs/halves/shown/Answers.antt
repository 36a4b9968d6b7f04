use Rattle.lrc_store.proofs.Lasting.{reads-then}
use Rattle.lrc_visit_tests.proofs.halves.shown.Goals as goal

pub returns-in_err-text-clause-reads : goal.returns-in_err-text-clause-reads
returns-in_err-text-clause-reads g c = reads-then _ _ _ c.first_number-number.ensures.reads c.value_text.ensures.reads

pub returns-clause-reads : goal.returns-clause-reads
returns-clause-reads g c = reads-then _ _ _ c.first_number-number.ensures.reads c.value_text.ensures.reads
