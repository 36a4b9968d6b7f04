use Rattle.std.proofs.Common.{ℕ, List, Err, ap, subst}
use Rattle.lrc_failures.specs.Taken.{failure_of}
use Rattle.lrc_cli.specs.Causes.{IsCause}
use Rattle.lrc_cli.specs.Headline.{IsOutputOf}
use Rattle.lrc_cli.specs.Status.{IsHindrance}
use Rattle.lrc_cli.proofs.TopLemmas.{if_err, err_more, hindered, not_taken, read_output_is, loses_taken}
use Rattle.lrc_cli.proofs.RunLemmas.{if_ok}
use Rattle.lrc_cli.proofs.top.read_output.Goals as goal

pub returns-in_err-input-clause-refused : goal.returns-in_err-input-clause-refused
returns-in_err-input-clause-refused g c =
    if_err c.from_residual.result
    (IsHindrance c.args.command.now (g.S.Source.left c.args.source.now) (g.S.Source.left c.take_up_to.new.source) (g.S.Source.faults c.args.source.now) (g.S.Source.faults c.take_up_to.new.source))
    (failure_of c.in_err-input.field-0.0) c.from_residual.ensures.1 (not_taken c.args.command.now _ _ _ _ c.in_err-input.field-0.0 (λ e. c.in_err-input.ensures.rose (ap Err e)))

pub returns-clause-output : goal.returns-clause-output
returns-clause-output g c =
    if_ok c.output.result _ _ c.output.ensures.output
    (λ text is. read_output_is c.args.command.now _ _ c.in_ok-input.input text c.requires.reads c.in_ok-input.ensures.taken (subst (λ (bytes : List ℕ). IsOutputOf c.args.command.now bytes text) c.as_slice.ensures is))

pub returns-clause-refused : goal.returns-clause-refused
returns-clause-refused g c =
    err_more c.output.result (IsCause c.args.command.now c.as_slice.result.now) _ c.output.ensures.cause
    (λ failure cause. hindered c.args.command.now _ _ _ _ c.in_ok-input.input failure c.requires.reads c.in_ok-input.ensures.taken (subst (λ (bytes : List ℕ). IsCause c.args.command.now bytes failure) c.as_slice.ensures cause))

pub returns-clause-taken : goal.returns-clause-taken
returns-clause-taken g c = loses_taken _ _ c.in_ok-input.input c.in_ok-input.ensures.taken
