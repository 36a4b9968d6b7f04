use Rattle.std.proofs.Common.{take, All}
use Rattle.lrc_syntax.specs.Spelling.{AreSpelled}
use Rattle.lrc_syntax.specs.Faults.{AreTerminals, IsRight}
use Rattle.lrc_syntax.proofs.grammar.all_parts.Given as goal

-- the parts of the productions so far, of which none has a fault
abbrev pub invariant-loop-number : goal.invariant-loop-number
invariant-loop-number l = record {
  parts : AreSpelled (take l.number l.prods) l.all;
  terminals : All AreTerminals l.all;
  right : All IsRight (take l.number l.prods);
}
