use Rattle.std.proofs.Common.{sym, ◌∙◌}
use Rattle.lrc_store.specs.Standing.{meant}
use Rattle.lrc_store.proofs.Known.{stands-meant}
use Rattle.lrc_code.specs.Forms.{tree_cell}
use Rattle.lrc_frames.proofs.NodeLemmas.{number_kind}
use Rattle.lrc_frames.proofs.nodes.kind_of.Goals as goal

pub returns-in-Number-clause-kind : goal.returns-in-Number-clause-kind
returns-in-Number-clause-kind g c tree stands =
    let s = g.St.Store.state c.args.store.now in
    number_kind c.args.prods.now tree c.in-Number.field-0 (sym (stands-meant s c.args.tree.0 (tree_cell tree) stands) ∙ c.in-Number.ensures.shows)

pub returns-in-Pair-clause-kind : goal.returns-in-Pair-clause-kind
returns-in-Pair-clause-kind g c tree stands =
    let s = g.St.Store.state c.args.store.now in
    let t = g.St.Store.state c.look.new.self in
    c.kind_by_tag.ensures tree (meant t c.in-Pair.field-1.0) (meant t c.in-Pair.field-2.0)
    (sym (stands-meant s c.args.tree.0 (tree_cell tree) stands) ∙ c.in-Pair.ensures.shows.2)
