use Rattle.std.proofs.Common.{List, ◌++◌, ◌+◌, false, ap, sym, ◌∙◌, arith}
use Rattle.lrc_run.specs.declared.reply.Line.{Line}
use Rattle.lrc_cli.specs.Printed.{block}
use Rattle.lrc_cli.proofs.TextLemmas.{one_block_more, no_block_more}
use Rattle.lrc_cli.proofs.text.push_blocks.Goals as goal

pub loop-before-preserved : goal.loop-before-preserved
loop-before-preserved c =
    one_block_more c.loop-before.before c.args.sessions.now c.index-sessions-before.result c.loop-before.text.items c.push_block.new.text.items c.loop-before-test.true c.index-sessions-before.is
    (c.in_ok-push_block.ensures ∙ ap (λ (lines : List Line). c.loop-before.text.items ++ block false (c.loop-before.before + 1) lines) c.as_slice.ensures)
    ∙ c.loop-before.invariant

pub returns : goal.returns
returns c = sym (no_block_more c.loop-before.before c.args.sessions.now c.loop-before.text.items (omega arith)) ∙ c.loop-before.invariant
