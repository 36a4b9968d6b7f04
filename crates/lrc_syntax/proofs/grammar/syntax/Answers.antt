use Rattle.std.proofs.Common.{ℕ, ◌<◌, List, All, Option, MatchOption, subst, sym, arith}
use Rattle.lrc_base.specs.declared.grammar.Production.{Production}
use Rattle.lrc_grammar.specs.Grammar.{grammar_of}
use Rattle.lrc_syntax.specs.Spelling.{AreSpelled}
use Rattle.lrc_syntax.specs.Faults.{IsReady, IsRight}
use Rattle.lrc_syntax.specs.Trees.{HasTree, IsFirstWithout}
use Rattle.lrc_syntax.proofs.ProductionLemmas.{all_ready}
use Rattle.lrc_syntax.proofs.grammar.syntax.Goals as goal

pub all_parts-requires-clause-ready : goal.all_parts-requires-clause-ready
all_parts-requires-clause-ready c =
    let g = c.args.grammar.now in
    subst (λ (prods : List Production). All IsReady prods) (sym c.as_slice-prods.ensures) (all_ready (grammar_of g) g.ok g.few.parts c.requires)

pub returns-in-None-clause-ok : goal.returns-in-None-clause-ok
returns-in-None-clause-ok c = record {
  parts = subst (λ (prods : List Production). AreSpelled prods c.in_ok-productions.productions) c.as_slice-prods.ensures c.in_ok-productions.ensures.parts;
  terminals = c.in_ok-productions.ensures.terminals;
  right = subst (λ (prods : List Production). All IsRight prods) c.as_slice-prods.ensures c.in_ok-productions.ensures.right;
  trees = λ sort lt.
      subst (λ (prods : List Production). HasTree prods sort) c.as_slice-prods.ensures
      (subst (λ (o : Option ℕ). MatchOption o ((s : ℕ) → s < c.len.result → HasTree c.as_slice-prods.result.now s) (IsFirstWithout c.as_slice-prods.result.now c.len.result)) c.in-None.is c.in_ok-sort.ensures
      sort (omega (arith, lt, c.len.ensures)));
}
