use Rattle.std.proofs.Common.{refl}
use Rattle.std.proofs.lemmas.Result.{on_ok_weaker}
use Rattle.lrc_store.specs.Standing.{meant}
use Rattle.lrc_unparse.proofs.PatternLemmas.{kid-begun, no-kid}
use Rattle.lrc_unparse.proofs.patterns.print_kid.Goals as goal

pub returns-in-Some-clause-printed : goal.returns-in-Some-clause-printed
returns-in-Some-clause-printed g c style prods =
    let kids = meant (g.St.Store.state c.args.store.now) c.args.kids.0 in
    on_ok_weaker c.push.result (λ opened.
    kid-begun style prods (g.St.Store.state c.kid_at.new.store) kids c.args.number c.in-Some.kid c.args.printer.now _ c.requires.short c.in-Some.ensures.kid c.in-Some.ensures.known
    refl opened) c.push.ensures.ok

pub returns-in-None-clause-printed : goal.returns-in-None-clause-printed
returns-in-None-clause-printed g c style prods =
    no-kid style prods (g.St.Store.state c.kid_at.new.store) (meant (g.St.Store.state c.args.store.now) c.args.kids.0) c.args.number c.args.printer.now c.requires.short c.in-None.ensures.kid
