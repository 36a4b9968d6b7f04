use Rattle.std.proofs.Common.{◌≡◌, take}
use Rattle.lrc_grammar.proofs.copies.copied_attrs.Given as goal

abbrev pub invariant-loop-attr : goal.invariant-loop-attr
invariant-loop-attr l = l.copies.items ≡ take l.attr-index l.attrs
