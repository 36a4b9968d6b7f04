use Rattle.lrc_call_meaning.specs.Spelled.{IsSpelled}
use Rattle.lrc_code.proofs.FlatLemmas.{Each, trees_at}
use Rattle.lrc_call_meaning.proofs.spelled.term_is_spelled.Given as goal

-- the trees so far are spelled
abbrev pub invariant-loop-item : goal.invariant-loop-item
invariant-loop-item l = Each IsSpelled (trees_at l.item-items l.item-index)
