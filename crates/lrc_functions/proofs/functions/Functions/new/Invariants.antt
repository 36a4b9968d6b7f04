use Rattle.std.proofs.Common.{◌≡◌, map, take}
use Rattle.lrc_functions.specs.Numbers.{item_count}
use Rattle.lrc_functions.specs.Functions.{functions_of}
use Rattle.lrc_functions.proofs.functions.Functions.new.Given as goal

abbrev pub invariant-productions : goal.invariant-productions
invariant-productions l = record {
  functions : l.productions ≡ map (functions_of l.fn.plan.grammar.sorts l.fn.plan.parts.sorts) (take l.number l.fn.plan.grammar.prods);
  counts : l.counts ≡ map (item_count l.fn.plan.grammar.sorts l.fn.plan.parts.sorts) (take l.number l.fn.plan.grammar.prods);
}
