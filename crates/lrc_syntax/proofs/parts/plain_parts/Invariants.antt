use Rattle.std.proofs.Common.{◌≡◌, ◌++◌, ◌∷◌, drop, codes}
use Rattle.lrc_syntax.specs.Spelling.{word, symbol, listed}
use Rattle.lrc_syntax.specs.declared.part.Part.TheVariants as part
use Rattle.lrc_syntax.proofs.parts.plain_parts.Given as goal

-- the parts so far, and those of the children from this one on
abbrev pub invariant-loop-number : goal.invariant-loop-number
invariant-loop-number l =
    l.parts ++ listed l.number (drop l.number l.kids) ≡ part.Token (word l.fn.name) ∷ part.Token (symbol (codes "(")) ∷ listed 0 l.kids
