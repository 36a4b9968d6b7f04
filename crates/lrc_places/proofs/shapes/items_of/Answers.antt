use Rattle.std.proofs.Common.{Some, sym, ap, ◌∙◌}
use Rattle.lrc_store.specs.Standing.{meant}
use Rattle.lrc_store.proofs.Known.{stands-meant, known-stands}
use Rattle.lrc_places.specs.Places.{kids_cell}
use Rattle.lrc_places.proofs.ShapeLemmas.{empty-shown, first-shown}
use Rattle.lrc_places.proofs.shapes.items_of.Goals as goal

pub returns-in-Nil : goal.returns-in-Nil
returns-in-Nil g c = record {
  first = λ ts e.
      empty-shown (g.St.Store.state c.look.new.self) ts c.look.result (meant (g.St.Store.state c.args.store.now) c.args.kids.0)
      (stands-meant (g.St.Store.state c.args.store.now) c.args.kids.0 (kids_cell ts) e) c.in-Nil.is c.look.ensures.shows;
  reads = c.look.ensures.reads;
  same_meaning = c.look.ensures.same_meaning;
}

pub returns-in-Pair-clause-first : goal.returns-in-Pair-clause-first
returns-in-Pair-clause-first g c ts e =
    let s = g.St.Store.state c.args.store.now in
    let t = g.St.Store.state c.look.new.self in
    let shows = c.in-Pair.ensures.shows in
    let shown = first-shown ts c.in-Pair.field-0 (meant t c.in-Pair.first.0) (meant t c.in-Pair.rest.0) (sym (stands-meant s c.args.kids.0 (kids_cell ts) e) ∙ shows.2) in (
      shown.0,
      shown.1,
      shown.2,
      known-stands t c.in-Pair.first.0 shows.0 ∙ ap Some shown.3,
      known-stands t c.in-Pair.rest.0 shows.1 ∙ ap Some shown.4,
    )
