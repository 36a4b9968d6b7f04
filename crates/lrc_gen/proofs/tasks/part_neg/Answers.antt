use Rattle.lrc_gen.proofs.PartLemmas.{on_ok, neg_parts}
use Rattle.lrc_gen.proofs.tasks.part_neg.Goals as goal

pub returns : goal.returns
returns c =
    on_ok c.part_leaf.result c.part_leaf.ensures
    (neg_parts c.args.tasks.now.items c.push.new.self.items c.part_leaf.new.tasks.items c.args.draws.now.state c.part_leaf.new.draws.state (rw c.name.ensures at c.in_ok-push.ensures.items))
