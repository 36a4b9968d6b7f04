use Rattle.std.proofs.Common.{◌≡◌, take}
use Rattle.lrc_grammar.proofs.copies.+copy.Given as goal

abbrev pub invariant-copied_exprs-loop-expr : goal.invariant-copied_exprs-loop-expr
invariant-copied_exprs-loop-expr l = l.copies.items ≡ take l.expr-index l.exprs
