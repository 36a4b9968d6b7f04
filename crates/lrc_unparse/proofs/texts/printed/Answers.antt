use Rattle.std.proofs.Common.{◌≡◌, ◌++◌, refl, sym, ap, ◌∙◌, arith}
use Rattle.std.proofs.lemmas.Result.{IfOk-weaker}
use Rattle.lrc_meaning.specs.Tree.{Tree}
use Rattle.lrc_store.specs.Standing.{Standing, Stands, meant}
use Rattle.lrc_store.specs.declared.cells.Handle.{Handle}
use Rattle.lrc_store.proofs.Known.{stands-meant}
use Rattle.lrc_store.proofs.Lasting.{reads-then}
use Rattle.lrc_code.specs.Forms.{tree_cell}
use Rattle.lrc_code.specs.Decoding.{tree_in}
use Rattle.lrc_call_meaning.specs.Spelled.{IsSpelled}
use Rattle.lrc_call_meaning.proofs.DecodingLemmas.{value-back}
use Rattle.lrc_unparse.specs.declared.printer.Printer.{Printer}
use Rattle.lrc_unparse.specs.Styles.{text_of}
use Rattle.lrc_unparse.specs.Printing.{cut, pending_text}
use Rattle.lrc_unparse.proofs.TextLemmas.{finished, too-long}
use Rattle.lrc_unparse.proofs.StepLemmas.{last-known, step}
use Rattle.lrc_unparse.proofs.texts.printed.Goals as goal

-- what the handle stands for is the value
value-there : (s : Standing) (h : Handle) (v : Tree) → IsSpelled v → Stands s h.0 (tree_cell v) → tree_in (meant s h.0) ≡ v
value-there s h v spelled stands = ap tree_in (stands-meant s h.0 (tree_cell v) stands) ∙ value-back v spelled

pub returns-in_default-clause-text : goal.returns-in_default-clause-text
returns-in_default-clause-text g c v spelled stands =
    let text = c.loop-style.printer.text.items in
    let prods = c.args.prods.now in
    let pending = ap (λ ps. cut (text ++ pending_text c.args.style prods (g.St.Store.state c.loop-style.store) ps)) c.in_default.ensures.0 in
    c.from_vec.ensures
    ∙ finished text (text_of c.args.style prods v) (omega (arith, c.loop-style-test.true, c.len.ensures))
    (sym pending ∙ c.loop-style.invariant.whole ∙ ap (λ t. cut (text_of c.args.style prods t)) (value-there (g.St.Store.state c.args.store.now) c.args.tree v spelled stands))

pub print_part-requires-clause-known : goal.print_part-requires-clause-known
print_part-requires-clause-known g c =
    last-known (g.St.Store.state c.loop-style.store) c.loop-style.printer.pending c.pop.new.self c.in-Some.part c.in-Some.ensures c.loop-style.invariant.known

pub loop-style-smaller : goal.loop-style-smaller
loop-style-smaller g c =
    (step c.args.style c.args.prods.now (g.St.Store.state c.loop-style.store) (g.St.Store.state c.print_part.new.store) c.in-Some.part
    c.loop-style.printer (record { text = c.loop-style.printer.text; pending = c.pop.new.self }) c.print_part.new.printer
    c.print_part.ensures.reads.stays.lasts.known refl c.in-Some.ensures c.loop-style.invariant.known c.in_ok-print_part.ensures.printed).smaller

pub loop-style-preserved : goal.loop-style-preserved
loop-style-preserved g c =
    let s = g.St.Store.state c.loop-style.store in
    let t = g.St.Store.state c.print_part.new.store in
    let taken : Printer = record { text = c.loop-style.printer.text; pending = c.pop.new.self } in
    let stepped = step c.args.style c.args.prods.now s t c.in-Some.part c.loop-style.printer taken c.print_part.new.printer
    c.print_part.ensures.reads.stays.lasts.known refl c.in-Some.ensures c.loop-style.invariant.known c.in_ok-print_part.ensures.printed in
    record {
      whole = stepped.text ∙ c.loop-style.invariant.whole;
      short = stepped.short;
      known = stepped.known;
      reads = reads-then (g.St.Store.state c.args.store.now) s t c.loop-style.invariant.reads c.print_part.ensures.reads;
      same_meaning = c.print_part.ensures.same_meaning ∙ c.loop-style.invariant.same_meaning;
    }

pub returns-in_err-print_part-clause-reads : goal.returns-in_err-print_part-clause-reads
returns-in_err-print_part-clause-reads g c =
    reads-then (g.St.Store.state c.args.store.now) (g.St.Store.state c.loop-style.store) (g.St.Store.state c.print_part.new.store) c.loop-style.invariant.reads c.print_part.ensures.reads

pub returns-clause-text : goal.returns-clause-text
returns-clause-text g c v spelled stands =
    let text = c.loop-style.printer.text.items in
    let prods = c.args.prods.now in
    let s = g.St.Store.state c.loop-style.store in
    let long = too-long text (pending_text c.args.style prods s c.loop-style.printer.pending) (text_of c.args.style prods v) (omega (arith, c.loop-style-test.false, c.len.ensures))
    (c.loop-style.invariant.whole ∙ ap (λ t. cut (text_of c.args.style prods t)) (value-there (g.St.Store.state c.args.store.now) c.args.tree v spelled stands)) in
    IfOk-weaker c.from_slice.result _ _ (λ text is. is ∙ long) c.from_slice.ensures
