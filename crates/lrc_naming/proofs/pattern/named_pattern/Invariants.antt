use Rattle.lrc_naming.proofs.PatternLemmas.{PatternFirst}
use Rattle.lrc_naming.proofs.pattern.named_pattern.Given as goal

abbrev pub invariant-loop-item : goal.invariant-loop-item
invariant-loop-item l = PatternFirst l.kids l.items l.item-index l.pattern
