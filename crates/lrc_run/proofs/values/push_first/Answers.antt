use Rattle.lrc_store.proofs.Lasting.{reads-then}
use Rattle.lrc_run.proofs.values.push_first.Goals as goal

pub returns-in_err-value-clause-reads : goal.returns-in_err-value-clause-reads
returns-in_err-value-clause-reads g c = reads-then _ _ _ c.first_value.ensures.reads c.value_text.ensures.reads

pub returns-in_err-push_named-clause-reads : goal.returns-in_err-push_named-clause-reads
returns-in_err-push_named-clause-reads g c = reads-then _ _ _ c.first_value.ensures.reads c.value_text.ensures.reads

pub returns-clause-reads : goal.returns-clause-reads
returns-clause-reads g c = reads-then _ _ _ c.first_value.ensures.reads c.value_text.ensures.reads
