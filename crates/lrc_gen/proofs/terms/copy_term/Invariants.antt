use Rattle.std.proofs.Common.{◌≡◌, take}
use Rattle.lrc_base.specs.RawTerms.{raw_forest}
use Rattle.lrc_gen.proofs.terms.copy_term.Given as goal

-- the trees of the items so far
abbrev pub invariant-loop-item : goal.invariant-loop-item
invariant-loop-item l = l.build ≡ raw_forest (take l.item-index l.item-items)
