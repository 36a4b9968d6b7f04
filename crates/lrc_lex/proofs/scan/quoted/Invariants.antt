use Rattle.std.proofs.Common.{◌≡◌, ◌+◌, false, drop}
use Rattle.lrc_lex.specs.Front.{text_step}
use Rattle.lrc_lex.proofs.scan.quoted.Given as goal

-- the bytes so far are of a text
abbrev pub invariant-loop-at : goal.invariant-loop-at
invariant-loop-at l = text_step false 1 l.rest ≡ text_step l.behind_backslash (l.at + 1) (drop l.at l.rest)
