use Rattle.std.proofs.Common.{refl, subst}
use Rattle.std.proofs.lemmas.Result.{on_ok_weaker}
use Rattle.lrc_meaning.specs.Text.{production_name}
use Rattle.lrc_unparse.specs.Printing.{Puts}
use Rattle.lrc_unparse.proofs.StepLemmas.{applied-begun}
use Rattle.lrc_unparse.proofs.parts.print_applied.Goals as goal

pub returns : goal.returns
returns c s style known =
    let prods = c.args.prods.now in
    let called = subst (λ bytes. Puts c.args.printer.now bytes c.put.new.self) c.name_of.ensures c.in_ok-put.ensures in
    on_ok_weaker c.push.result (λ opened. applied-begun style prods s (production_name prods c.args.production) c.args.kids c.args.printer.now c.put.new.self c.put-2.new.self _ called c.in_ok-put-2.ensures refl opened known) c.push.ensures.ok
