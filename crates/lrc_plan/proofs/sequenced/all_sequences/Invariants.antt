use Rattle.std.proofs.Common.{◌≡◌, map, take}
use Rattle.lrc_plan_meaning.specs.Plans.{sequences_of}
use Rattle.lrc_plan.proofs.sequenced.all_sequences.Given as goal

abbrev pub invariant-productions : goal.invariant-productions
invariant-productions l = l.all ≡ map (sequences_of l.grammar.sorts l.parts) (take l.number l.grammar.prods)
