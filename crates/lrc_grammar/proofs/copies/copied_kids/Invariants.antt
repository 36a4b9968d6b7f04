use Rattle.std.proofs.Common.{◌≡◌, take}
use Rattle.lrc_grammar.proofs.copies.copied_kids.Given as goal

abbrev pub invariant-loop-kid : goal.invariant-loop-kid
invariant-loop-kid l = l.copies.items ≡ take l.kid-index l.kids
