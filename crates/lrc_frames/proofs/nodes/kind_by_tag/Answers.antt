use Rattle.std.proofs.Common.{arith, ◌∙◌}
use Rattle.lrc_frames.proofs.NodeLemmas.{truth_kind, node_kind}
use Rattle.lrc_frames.proofs.nodes.kind_by_tag.Goals as goal

pub returns-then-tag-lt-NAME : goal.returns-then-tag-lt-NAME
returns-then-tag-lt-NAME c t l r e = truth_kind c.args.prods.now t c.args.tag l r e c.if-tag-lt-NAME.true

pub returns-else-tag-lt-NODE : goal.returns-else-tag-lt-NODE
returns-else-tag-lt-NODE c t l r e = c.left_of.ensures ∙ node_kind c.args.prods.now t c.args.tag l r e (omega (arith, c.if-tag-lt-NODE.false))
