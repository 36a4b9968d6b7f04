use Rattle.lrc_gen.proofs.PartLemmas.{on_ok}
use Rattle.lrc_gen.proofs.TaskLemmas.{tree_performed, item_performed}
use Rattle.lrc_gen.proofs.terms.perform.Goals as goal

pub returns-in-Tree : goal.returns-in-Tree
returns-in-Tree c =
    rw c.in-Tree.is (on_ok c.part.result c.part.ensures (tree_performed c.in-Tree.nodes c.args.tasks.now.items c.part.new.tasks.items c.args.build.now c.args.draws.now.state c.part.new.draws.state))

pub returns-in-Item : goal.returns-in-Item
returns-in-Item c =
    rw c.in-Item.is (on_ok c.add.result c.add.ensures (item_performed c.in-Item.item c.args.tasks.now.items c.args.build.now c.add.new.build c.args.draws.now.state))
