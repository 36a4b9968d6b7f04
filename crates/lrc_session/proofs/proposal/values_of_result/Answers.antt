use Rattle.lrc_frames.proofs.TakeLemmas.{is_result, result_read}
use Rattle.lrc_session.proofs.proposal.values_of_result.Goals as goal

pub result_parts-requires-clause-outcome : goal.result_parts-requires-clause-outcome
result_parts-requires-clause-outcome g c = is_result (g.St.Store.state c.args.store.now) c.args.outcome.0 c.requires.0 c.requires.1

pub returns-clause-values : goal.returns-clause-values
returns-clause-values g c outcome stands =
    (result_read (g.St.Store.state c.args.store.now) (g.St.Store.state c.result_parts.new.store) c.args.outcome.0 outcome c.result_parts.result stands c.result_parts.ensures.parts).values
