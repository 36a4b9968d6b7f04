use Rattle.lrc_table.specs.Standings.{standing}
use Rattle.lrc_threads.proofs.PlayedLemmas.{answers-one}
use Rattle.lrc_threads.proofs.one.one_session.Goals as goal

pub returns-clause-answers : goal.returns-clause-answers
returns-clause-answers g c =
    answers-one c.args.functions.now c.args.sizes (standing c.play_alone-out.result.1.view) c.args.script.now c.play_alone-out.result.0 c.of.result c.of.ensures c.play_alone-out.ensures.played
