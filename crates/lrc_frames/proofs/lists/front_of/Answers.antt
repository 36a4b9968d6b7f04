use Rattle.std.proofs.Common.{sym, ◌∙◌}
use Rattle.lrc_store.proofs.Known.{stands-meant}
use Rattle.lrc_code.specs.Forms.{list_cell}
use Rattle.lrc_frames.proofs.ReadLemmas.{no_front, no_number, front_shown}
use Rattle.lrc_frames.proofs.lists.front_of.Goals as goal

pub returns-in-Pair-clause-front : goal.returns-in-Pair-clause-front
returns-in-Pair-clause-front g c items stands =
    let s = g.St.Store.state c.args.store.now in
    let t = g.St.Store.state c.look.new.self in
    let shown = c.in-Pair.ensures.shows in
    front_shown t items c.in-Pair.field-0 c.in-Pair.item c.in-Pair.rest shown.0 shown.1 (sym (stands-meant s c.args.list.0 (list_cell items) stands) ∙ shown.2)

pub returns-in-Nil-clause-front : goal.returns-in-Nil-clause-front
returns-in-Nil-clause-front g c items stands =
    let s = g.St.Store.state c.args.store.now in
    no_front items (sym (stands-meant s c.args.list.0 (list_cell items) stands) ∙ c.in-Nil.ensures.shows)

pub unreachable-requires : goal.unreachable-requires
unreachable-requires g c =
    let s = g.St.Store.state c.args.store.now in
    let items = c.requires.0 in
    no_number items c.in-Number.field-0 (sym (stands-meant s c.args.list.0 (list_cell items) c.requires.1) ∙ c.in-Number.ensures.shows)
