use Rattle.std.proofs.Common.{[], refl}
use Rattle.std.proofs.lemmas.Result.{on_ok_weaker}
use Rattle.lrc_store.specs.Standing.{meant}
use Rattle.lrc_store.proofs.Lasting.{reads-then}
use Rattle.lrc_code.specs.Decoding.{bytes_of_name}
use Rattle.lrc_unparse.specs.Printing.{cell_size}
use Rattle.lrc_unparse.proofs.StepLemmas.{puts-nothing, puts-all, some-cell, no-words, word-begun}
use Rattle.lrc_unparse.proofs.parts.print_words.Goals as goal

pub returns-in_err-print_word-in-Pair-clause-reads : goal.returns-in_err-print_word-in-Pair-clause-reads
returns-in_err-print_word-in-Pair-clause-reads g c =
    reads-then (g.St.Store.state c.args.store.now) (g.St.Store.state c.look.new.self) (g.St.Store.state c.print_word.new.store) c.look.ensures.reads c.print_word.ensures.reads

pub returns-in_ok-print_word-in-Pair-clause-reads : goal.returns-in_ok-print_word-in-Pair-clause-reads
returns-in_ok-print_word-in-Pair-clause-reads g c =
    reads-then (g.St.Store.state c.args.store.now) (g.St.Store.state c.look.new.self) (g.St.Store.state c.print_word.new.store) c.look.ensures.reads c.print_word.ensures.reads

pub returns-in-Nil : goal.returns-in-Nil
returns-in-Nil g c = record {
  printed = λ style prods.
      let t = g.St.Store.state c.look.new.self in
      let words = meant (g.St.Store.state c.args.store.now) c.args.words.0 in
      puts-all style prods t (bytes_of_name words) [] (cell_size words) c.args.printer.now c.args.printer.now (puts-nothing c.args.printer.now c.requires.short)
      (no-words t c.look.result words c.in-Nil.is c.look.ensures.shows) (some-cell words);
  reads = c.look.ensures.reads;
  same_meaning = c.look.ensures.same_meaning;
}

pub returns-in_ok-print_word-in-Pair-clause-printed : goal.returns-in_ok-print_word-in-Pair-clause-printed
returns-in_ok-print_word-in-Pair-clause-printed g c style prods =
    let s = g.St.Store.state c.args.store.now in
    let t = g.St.Store.state c.look.new.self in
    let u = g.St.Store.state c.print_word.new.store in
    let shows = c.in-Pair.ensures.shows in
    on_ok_weaker c.push.result (λ opened.
    word-begun style prods s t u c.args.words c.in-Pair.word c.in-Pair.rest c.in-Pair.field-0 c.args.printer.now c.print_word.new.printer _ shows c.print_word.ensures.reads
    c.in_ok-print_word-in-Pair.ensures.printed refl opened) c.push.ensures.ok
