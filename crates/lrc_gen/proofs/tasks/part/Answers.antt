use Rattle.std.proofs.Common.{arith}
use Rattle.lrc_gen.proofs.PartLemmas.{on_ok, as_parts, tree_leaf, tree_neg, tree_fork}
use Rattle.lrc_gen.proofs.tasks.part.Goals as goal

pub returns-then-nodes-lt2 : goal.returns-then-nodes-lt2
returns-then-nodes-lt2 c =
    on_ok c.part_leaf.result c.part_leaf.ensures (as_parts _ _ _ _ _ _ _ _ (tree_leaf c.args.nodes c.if-nodes-lt2.true) (omega arith))

pub returns-then-nodes-lt3 : goal.returns-then-nodes-lt3
returns-then-nodes-lt3 c =
    on_ok c.part_neg.result c.part_neg.ensures (as_parts _ _ _ _ _ _ _ _ (tree_neg c.args.nodes (omega arith) c.if-nodes-lt3.true) (omega arith))

pub returns-else-nodes-lt3 : goal.returns-else-nodes-lt3
returns-else-nodes-lt3 c =
    on_ok c.part_fork.result c.part_fork.ensures (as_parts _ _ _ _ _ _ _ _ (tree_fork c.args.nodes (omega arith)) (omega arith))
