use Rattle.std.proofs.Common.{sym, ◌∙◌}
use Rattle.lrc_store.proofs.Known.{stands-meant}
use Rattle.lrc_code.specs.Forms.{tree_cell}
use Rattle.lrc_places.proofs.ShapeLemmas.{number-shown}
use Rattle.lrc_places.proofs.shapes.shape_of.Goals as goal

pub returns-in-Number-clause-shape : goal.returns-in-Number-clause-shape
returns-in-Number-clause-shape g c t e =
    number-shown t _ (sym (stands-meant (g.St.Store.state c.args.store.now) c.args.tree.0 (tree_cell t) e) ∙ c.in-Number.ensures.shows)
