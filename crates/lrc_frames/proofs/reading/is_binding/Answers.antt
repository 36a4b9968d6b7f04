use Rattle.std.proofs.Common.{sym, ◌∙◌}
use Rattle.lrc_store.specs.Standing.{meant}
use Rattle.lrc_store.proofs.Known.{stands-meant}
use Rattle.lrc_call_meaning.specs.Forms.{datum_cell}
use Rattle.lrc_frames.proofs.ReadLemmas.{nil_is_binding, number_is_value, pair_by_tag}
use Rattle.lrc_frames.proofs.reading.is_binding.Goals as goal

pub returns-in-Nil-clause-is : goal.returns-in-Nil-clause-is
returns-in-Nil-clause-is g c d stands spelled =
    let s = g.St.Store.state c.args.store.now in
    nil_is_binding d spelled (sym (stands-meant s c.args.item.0 (datum_cell d) stands) ∙ c.in-Nil.ensures.shows)

pub returns-in-Number-clause-is : goal.returns-in-Number-clause-is
returns-in-Number-clause-is g c d stands spelled =
    let s = g.St.Store.state c.args.store.now in
    number_is_value d c.in-Number.field-0 spelled (sym (stands-meant s c.args.item.0 (datum_cell d) stands) ∙ c.in-Number.ensures.shows)

pub returns-in-Pair-clause-is : goal.returns-in-Pair-clause-is
returns-in-Pair-clause-is g c d stands spelled =
    let s = g.St.Store.state c.args.store.now in
    let t = g.St.Store.state c.look.new.self in
    pair_by_tag d c.in-Pair.tag (meant t c.in-Pair.field-1.0) (meant t c.in-Pair.field-2.0) spelled (sym (stands-meant s c.args.item.0 (datum_cell d) stands) ∙ c.in-Pair.ensures.shows.2)
