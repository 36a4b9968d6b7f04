use Rattle.std.proofs.Common.{Bool, subst}
use Rattle.std.specs.Prelude.{MatchBool}
use Rattle.lrc_cli.specs.Causes.{ReadsNothing, ReadsJob}
use Rattle.lrc_cli.proofs.TopLemmas.{err_more, not_generated}
use Rattle.lrc_cli.proofs.top.command_output.Goals as goal

pub returns-then-reads_nothing-clause-refused : goal.returns-then-reads_nothing-clause-refused
returns-then-reads_nothing-clause-refused g c =
    err_more c.generated_text.result _ _ c.generated_text.ensures.cause
    (λ failure is. not_generated c.args.command.now _ _ failure (subst (λ (b : Bool). MatchBool b (ReadsNothing c.args.command.now.verb) (ReadsJob c.args.command.now.verb)) c.if-reads_nothing.true c.reads_nothing.ensures) is)
