use Rattle.std.proofs.Common.{sym, ◌∙◌}
use Rattle.std.proofs.lemmas.Bool.{false≢true}
use Rattle.lrc_syntax.proofs.ProductionLemmas.{not_bare}
use Rattle.lrc_syntax.proofs.production.production_parts.Goals as goal

pub returns-clause-right : goal.returns-clause-right
returns-clause-right c = record {
  pattern = c.in_ok-parts.ensures.right;
  children = λ w. false≢true (sym c.if-misses_some_child.false ∙ c.misses_some_child.ensures.1 w);
  covered = not_bare c.args.production.now c.in_ok-parts.parts c.as_slice.result.now c.as_slice-2.result.now c.are_bare.result c.in_ok-parts.ensures.parts c.as_slice.ensures c.as_slice-2.ensures c.are_bare.ensures c.if-are_bare.false;
}
