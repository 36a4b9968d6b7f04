use Rattle.std.proofs.Common.{◌≡◌, take}
use Rattle.lrc_grammar.proofs.copies.copied_extras.Given as goal

abbrev pub invariant-loop-extra : goal.invariant-loop-extra
invariant-loop-extra l = l.copies.items ≡ take l.extra-index l.extras
