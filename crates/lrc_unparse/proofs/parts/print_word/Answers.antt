use Rattle.std.proofs.Common.{sym, subst}
use Rattle.lrc_store.specs.Standing.{meant}
use Rattle.lrc_unparse.specs.Printing.{Puts}
use Rattle.lrc_unparse.proofs.StepLemmas.{puts-nothing, no-word}
use Rattle.lrc_unparse.proofs.parts.print_word.Goals as goal

pub returns-in-Nil : goal.returns-in-Nil
returns-in-Nil g c = record {
  printed =
      let none = no-word (g.St.Store.state c.look.new.self) c.look.result (meant (g.St.Store.state c.args.store.now) c.args.word.0) c.in-Nil.is c.look.ensures.shows in
      subst (λ bytes. Puts c.args.printer.now bytes c.args.printer.now) (sym none) (puts-nothing c.args.printer.now c.requires.short);
  reads = c.look.ensures.reads;
  same_meaning = c.look.ensures.same_meaning;
}
