use Rattle.std.proofs.Common.{◌≡◌, ◌++◌, map, take}
use Rattle.lrc_meaning.specs.Signature.{attribute}
use Rattle.lrc_grammar.proofs.signature.push_attributes.Given as goal

abbrev pub invariant-loop-attr : goal.invariant-loop-attr
invariant-loop-attr l = l.all ≡ l.initial.all ++ map (attribute l.owner) (take l.attr-index l.attrs)
