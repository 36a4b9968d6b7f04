use Rattle.std.proofs.Common.{sym, subst, arith}
use Rattle.std.proofs.lemmas.List.{append-nil}
use Rattle.lrc_cli.specs.Printed.{IsSumOf}
use Rattle.lrc_cli.proofs.SumLemmas.{one_line_in, all_lines_in}
use Rattle.lrc_cli.proofs.summary.Summary.with_all.Goals as goal

pub lines-init : goal.lines-init
lines-init c = λ before is. subst (λ ls. IsSumOf ls c.args.self) (sym (append-nil before)) is

pub lines-preserved : goal.lines-preserved
lines-preserved c = λ before is.
    one_line_in before c.args.lines.now c.lines.line-index c.line-item.result c.lines.summary c.in_ok-summary.summary c.lines-test.true c.line-item.is (c.lines.invariant before is) c.in_ok-summary.ensures

pub returns : goal.returns
returns c = λ before is. all_lines_in before c.args.lines.now c.lines.line-index c.lines.summary (omega arith) (c.lines.invariant before is)
