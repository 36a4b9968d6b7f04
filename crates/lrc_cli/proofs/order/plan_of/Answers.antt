use Rattle.std.proofs.Common.{[], sym, subst, arith}
use Rattle.lrc_failures.specs.declared.failure.Failure.TheVariants as f
use Rattle.lrc_order_meaning.specs.Ordered.{HasOrder}
use Rattle.lrc_order_meaning.proofs.OrderLemmas.{has_order}
use Rattle.lrc_grammar.specs.Grammar.{grammar_of}
use Rattle.lrc_cli.specs.Causes.{IsUnordered, has_no_memory}
use Rattle.lrc_cli.proofs.TopLemmas.{if_err}
use Rattle.lrc_cli.proofs.order.plan_of.Goals as goal

pub returns-in_err-copy-clause-fault : goal.returns-in_err-copy-clause-fault
returns-in_err-copy-clause-fault c = if_err c.from_residual.result (IsUnordered (grammar_of c.args.grammar.now)) f.Memory c.from_residual.ensures.1 has_no_memory

pub returns-in_err-plan-in-Ok-clause-fault : goal.returns-in_err-plan-in-Ok-clause-fault
returns-in_err-plan-in-Ok-clause-fault c = if_err c.from_residual-in_err-plan-in-Ok.result (IsUnordered (grammar_of c.args.grammar.now)) f.Memory c.from_residual-in_err-plan-in-Ok.ensures.1 has_no_memory

pub plan-requires : goal.plan-requires
plan-requires c =
    let g = c.args.grammar.now in
    subst (λ g. HasOrder g c.in-Ok.parts) (sym c.in_ok-copy.ensures)
    (has_order (grammar_of g) [] c.in-Ok.parts g.ok (λ i d less. absurd (omega arith)) c.in-Ok.ensures.ordered c.in-Ok.ensures.given c.in-Ok.ensures.partitions)
