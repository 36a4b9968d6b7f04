use Rattle.lrc_meaning.specs.Naming.{named_expr}
use Rattle.lrc_naming.proofs.ListLemmas.{NamesFirst}
use Rattle.lrc_naming.proofs.expr.+expr.Given as goal

abbrev pub invariant-named_exprs-loop-part : goal.invariant-named_exprs-loop-part
invariant-named_exprs-loop-part l = NamesFirst (named_expr l.scope) l.raw l.part-index l.named
