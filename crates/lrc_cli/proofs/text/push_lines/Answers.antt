use Rattle.std.proofs.Common.{ap, sym, ◌∙◌, ◌++◌, ◌+◌, Bool, drop, arith}
use Rattle.lrc_cli.specs.Printed.{numbered_lines}
use Rattle.lrc_cli.proofs.TextLemmas.{one_line_more, no_line_more}
use Rattle.lrc_cli.proofs.text.push_lines.Goals as goal

pub loop-number-preserved : goal.loop-number-preserved
loop-number-preserved c =
    ap (λ (b : Bool). c.push_line.new.text.items ++ numbered_lines b (c.loop-number.number + 1) (drop (c.loop-number.number + 1) c.args.lines.now)) c.goes_on-counted.ensures
    ∙ one_line_more c.loop-number.counted c.loop-number.number c.args.lines.now c.index-lines-number.result c.loop-number.text.items c.push_line.new.text.items c.loop-number-test.true c.index-lines-number.is
    c.in_ok-push_line.ensures
    ∙ c.loop-number.invariant

pub returns : goal.returns
returns c = sym (no_line_more c.loop-number.counted c.loop-number.number c.args.lines.now c.loop-number.text.items (omega arith)) ∙ c.loop-number.invariant
