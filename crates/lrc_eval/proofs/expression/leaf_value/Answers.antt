use Rattle.std.proofs.Common.{Some, ap, ◌∙◌}
use Rattle.lrc_store.specs.Standing.{meant}
use Rattle.lrc_store.proofs.Known.{known-stands}
use Rattle.lrc_store.proofs.Lasting.{reads-then}
use Rattle.lrc_code.specs.Forms.{tree_cell}
use Rattle.lrc_eval.proofs.CellLemmas.{one-kid}
use Rattle.lrc_eval.proofs.expression.leaf_value.Goals as goal

pub value_of_handle-requires : goal.value_of_handle-requires
value_of_handle-requires g c =
    let s = g.St.Store.state c.args.store.now in
    let t = g.St.Store.state c.kid_of-leaf.new.store in
    let leaf = c.kid_of-leaf.result.0 in (
      c.requires.leaf.0,
      known-stands t leaf c.kid_of-leaf.ensures.known
          ∙ ap Some (one-kid (meant s c.args.node.0) c.args.i (meant t leaf) (tree_cell c.requires.leaf.0) c.kid_of-leaf.ensures.kid c.requires.leaf.1),
    )

pub returns-clause-means : goal.returns-clause-means
returns-clause-means g c tree kid =
    let s = g.St.Store.state c.args.store.now in
    let t = g.St.Store.state c.kid_of-leaf.new.store in
    let leaf = c.kid_of-leaf.result.0 in
    c.value_of_handle.ensures.means tree
    (known-stands t leaf c.kid_of-leaf.ensures.known
    ∙ ap Some (one-kid (meant s c.args.node.0) c.args.i (meant t leaf) (tree_cell tree) c.kid_of-leaf.ensures.kid kid))

pub returns-clause-reads : goal.returns-clause-reads
returns-clause-reads g c =
    reads-then (g.St.Store.state c.args.store.now) (g.St.Store.state c.kid_of-leaf.new.store) (g.St.Store.state c.value_of_handle.new.store)
    c.kid_of-leaf.ensures.reads c.value_of_handle.ensures.reads
