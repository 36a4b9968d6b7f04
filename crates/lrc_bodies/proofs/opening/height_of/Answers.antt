use Rattle.std.proofs.Common.{rules, ◌≡◌, ◌∙◌, pos}
use mir.Syntax.{w64}
use mir.Val.{to_z, of_z}
use Rattle.lrc_store.proofs.Lasting.{reads-then}
use Rattle.lrc_store.specs.Standing.{meant}
use Rattle.lrc_bodies.proofs.OpenLemmas.{is_pair, height_stands, is_number, same_number}
use Rattle.lrc_bodies.proofs.opening.height_of.Goals as goal

pub unreachable-requires : goal.unreachable-requires
unreachable-requires g c =
    let w = c.requires.result in
    is_pair (g.St.Store.state c.args.store.now) (g.St.Store.state c.look.new.self) c.args.outcome.0 w.0 c.look.result w.1 c.look.ensures.shows c.in_default.not-Pair

pub unreachable-requires-in_default-look : goal.unreachable-requires-in_default-look
unreachable-requires-in_default-look g c =
    let w = c.requires.result in
    let t = g.St.Store.state c.look.new.self in
    let height = height_stands (g.St.Store.state c.args.store.now) t c.args.outcome.0 w.0 c.in-Pair.field-0 c.in-Pair.left c.in-Pair.field-2 w.1 c.in-Pair.ensures.shows.2 in
    is_number (g.St.Store.state c.look-2.new.self) (pos w.0.height) (meant t c.in-Pair.left.0) c.look-2.result height c.look-2.ensures.shows c.in_default-look.not-Number

pub returns-clause-height : goal.returns-clause-height
returns-clause-height g c r stands =
    let t = g.St.Store.state c.look.new.self in
    let height = height_stands (g.St.Store.state c.args.store.now) t c.args.outcome.0 r c.in-Pair.field-0 c.in-Pair.left c.in-Pair.field-2 stands c.in-Pair.ensures.shows.2 in
    let again : to_z w64 (of_z w64 c.in-Number.height) ≡ c.in-Number.height = search rules in
    again ∙ same_number c.in-Number.height (pos r.height) (meant t c.in-Pair.left.0) c.in-Number.ensures.shows height

pub returns-clause-reads : goal.returns-clause-reads
returns-clause-reads g c =
    reads-then (g.St.Store.state c.args.store.now) (g.St.Store.state c.look.new.self) (g.St.Store.state c.look-2.new.self) c.look.ensures.reads c.look-2.ensures.reads
