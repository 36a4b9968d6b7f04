use Rattle.std.proofs.Common.{Bool, subst, sym}
use Rattle.lrc_grammar.specs.Grammar.{grammar_of}
use Rattle.lrc_cli.specs.Causes.{IsCycleAt, has_cycle}
use Rattle.lrc_cli.proofs.PlacedLemmas.{placed}
use Rattle.lrc_cli.proofs.order.not_ordered.Goals as goal

pub cycle_at-requires : goal.cycle_at-requires
cycle_at-requires c = placed (grammar_of c.args.grammar.now) c.args.grammar.now.ok c.args.is_extended c.args.production c.args.occurrence c.requires

pub returns : goal.returns
returns c = has_cycle c.cycle_at.result (record {
  production = c.args.production;
  occurrence = c.args.occurrence;
  found = subst (λ (b : Bool). IsCycleAt b (grammar_of c.args.grammar.now) c.args.production c.args.occurrence) (sym c.cycle_at.ensures.kind) c.requires;
  named = c.cycle_at.ensures.named;
})
