use Rattle.std.proofs.lemmas.Result.{IfOk-weaker}
use Rattle.lrc_session.specs.Sessions.{grammar}
use Rattle.lrc_run.proofs.LineLemmas.{refused_line}
use Rattle.lrc_run.proofs.editing.answered.Goals as goal

pub returns-in-Err-clause-line : goal.returns-in-Err-clause-line
returns-in-Err-clause-line g c t vs opened =
    let rules = grammar c.args.functions.now in
    IfOk-weaker c.fixed_line.result _ _
    (λ line is. refused_line rules _ c.args.session.now vs c.args.answer c.in-Err.fault c.outcome_of.result line c.in-Err.is c.outcome_of.ensures is) (c.fixed_line.ensures rules)
