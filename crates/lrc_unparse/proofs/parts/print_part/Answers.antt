use Rattle.std.proofs.Common.{sym, subst}
use Rattle.std.specs.Prelude.{OnOk}
use Rattle.lrc_unparse.specs.Printing.{Begins}
use Rattle.lrc_unparse.proofs.parts.print_part.Goals as goal

pub returns-in-Pieces-clause-printed : goal.returns-in-Pieces-clause-printed
returns-in-Pieces-clause-printed g c =
    let s = g.St.Store.state c.args.store.now in
    let t = g.St.Store.state c.print_pieces.new.store in
    subst (λ part. OnOk c.print_pieces.result (Begins c.args.style c.args.prods.now s t part c.args.printer.now c.print_pieces.new.printer)) (sym c.in-Pieces.is)
    (c.print_pieces.ensures.printed c.args.style)
