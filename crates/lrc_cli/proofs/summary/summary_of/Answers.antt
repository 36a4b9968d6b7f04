use Rattle.std.proofs.Common.{List, flat_map, refl, subst, arith}
use Rattle.std.proofs.lemmas.List.{take_all}
use Rattle.lrc_run.specs.declared.reply.Line.{Line}
use Rattle.lrc_cli.specs.Printed.{IsSumOf}
use Rattle.lrc_cli.proofs.SumLemmas.{nothing_summed, one_session_in}
use Rattle.lrc_cli.proofs.summary.summary_of.Goals as goal

pub sessions-init : goal.sessions-init
sessions-init c = nothing_summed

pub sessions-preserved : goal.sessions-preserved
sessions-preserved c =
    one_session_in c.args.sessions.now c.sessions.lines-index c.lines-item.result c.as_slice.result.now c.sessions.summary c.in_ok-summary.summary c.sessions-test.true c.lines-item.is c.as_slice.ensures c.sessions.invariant
    c.in_ok-summary.ensures

pub returns : goal.returns
returns c =
    subst (λ (ls : List (List Line)). IsSumOf (flat_map (λ (lines : List Line). lines) ls) c.sessions.summary) (take_all c.sessions.lines-index c.args.sessions.now c.sessions-test.false) c.sessions.invariant
