use Rattle.std.proofs.Common.{refl}
use Rattle.std.proofs.lemmas.Result.{on_ok_weaker}
use Rattle.lrc_unparse.proofs.StepLemmas.{pattern-begun}
use Rattle.lrc_unparse.proofs.parts.print_node.Goals as goal

pub returns-then-has_pattern : goal.returns-then-has_pattern
returns-then-has_pattern c s known =
    on_ok_weaker c.push.result (λ opened. pattern-begun c.args.style c.args.prods.now s c.args.production c.args.kids c.args.printer.now _ c.requires c.if-has_pattern.ensures refl opened known) c.push.ensures.ok
