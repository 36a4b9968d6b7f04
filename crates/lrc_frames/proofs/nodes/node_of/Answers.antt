use Rattle.std.proofs.Common.{arith, sym, ◌∙◌}
use Rattle.lrc_store.specs.Standing.{meant}
use Rattle.lrc_store.proofs.Known.{stands-meant}
use Rattle.lrc_code.specs.Forms.{tree_cell}
use Rattle.lrc_frames.proofs.NodeLemmas.{node_there}
use Rattle.lrc_frames.proofs.nodes.node_of.Goals as goal

pub returns-clause-node : goal.returns-clause-node
returns-clause-node g c tree stands =
    let s = g.St.Store.state c.args.store.now in
    let t = g.St.Store.state c.look.new.self in
    let shown = c.in-Pair.ensures.shows in
    node_there t c.args.prods.now tree c.in-Pair.tag c.in-Pair.kids (meant t c.in-Pair.field-2.0) (sym (stands-meant s c.args.tree.0 (tree_cell tree) stands) ∙ shown.2) shown.0
    (omega (arith, c.if-tag-lt-NODE.false)) (omega (arith, c.if-tag-prods.false))
