use Rattle.std.proofs.Common.{◌∙◌}
use Rattle.lrc_visit_tests.proofs.SessionLemmas.{opened_later}
use Rattle.lrc_visit_tests.proofs.sessions.answers.Goals as goal

pub edits-preserved : goal.edits-preserved
edits-preserved g c = record {
  session = opened_later c.args.functions.now (g.St.Store.state c.made-fault.new.store) (g.St.Store.state c.answer-in-edits.new.store) c.made-fault.new.session c.answer-in-edits.ensures.reads.stays.lasts c.made-fault.ensures.session;
  same_meaning = c.answer-in-edits.ensures.same_meaning ∙ (c.made-fault.ensures.same_meaning ∙ c.edits.invariant.same_meaning);
}
