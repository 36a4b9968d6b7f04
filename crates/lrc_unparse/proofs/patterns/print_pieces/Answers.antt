use Rattle.std.proofs.Common.{◌≡◌, ◌∙◌, refl, sym, ap, length, slice_get, Some}
use Rattle.std.proofs.lemmas.Option.{slice_get_past, slice_get_read}
use Rattle.std.proofs.lemmas.Result.{on_ok_weaker}
use Rattle.lrc_base.specs.declared.grammar.Piece.TheVariants as a_piece
use Rattle.lrc_unparse.specs.Styles.{pieces_of}
use Rattle.lrc_unparse.specs.declared.printer.Printer.{Printer}
use Rattle.lrc_unparse.proofs.PatternLemmas.{pieces-done, child-begun}
use Rattle.lrc_unparse.proofs.patterns.print_pieces.Goals as goal

pub returns-in_default-clause-printed : goal.returns-in_default-clause-printed
returns-in_default-clause-printed g c style =
    let s = g.St.Store.state c.args.store.now in
    pieces-done style c.args.prods.now s s c.args.production c.args.next c.args.kids c.args.printer.now c.requires.short
    (ap (λ pieces. slice_get pieces c.args.next) (sym c.pieces.ensures) ∙ slice_get_past c.pieces.result.now c.args.next c.in_default.ensures.lookup.3)

pub returns-in_ok-push-in-Kid-clause-printed : goal.returns-in_ok-push-in-Kid-clause-printed
returns-in_ok-push-in-Kid-clause-printed g c style =
    let prods = c.args.prods.now in
    let opened : Printer = record { text = c.args.printer.now.text; pending = c.push-in-Kid.new.self } in
    let pieces = c.pieces.result.now in
    let lookup = c.in-Some.ensures.lookup in
    let found : slice_get (pieces_of prods c.args.production) c.args.next ≡ Some (a_piece.Kid c.in-Kid.number) =
    ap (λ pieces. slice_get pieces c.args.next) (sym c.pieces.ensures) ∙ slice_get_read pieces (length pieces) c.args.next c.in-Some.piece.now refl lookup.3.0 lookup.1 ∙ ap (λ piece. Some piece) c.in-Kid.is in
    on_ok_weaker c.print_kid.result (λ prints.
    child-begun style prods (g.St.Store.state c.args.store.now) (g.St.Store.state c.print_kid.new.store) c.args.production c.args.next c.args.kids c.in-Kid.number c.args.printer.now opened c.print_kid.new.printer
    c.print_kid.ensures.reads.stays.lasts.known found c.requires.known refl c.in_ok-push-in-Kid.ensures.ok prints) (c.print_kid.ensures.printed style prods)
