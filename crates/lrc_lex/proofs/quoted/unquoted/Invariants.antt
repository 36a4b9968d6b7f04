use Rattle.std.proofs.Common.{◌≡◌, ◌++◌, drop}
use Rattle.lrc_lex.specs.Quoted.{unquoted, unquoted_from}
use Rattle.lrc_lex.proofs.quoted.unquoted.Given as goal

-- the bytes so far are there
abbrev pub invariant-loop-at : goal.invariant-loop-at
invariant-loop-at l = unquoted l.text ≡ l.bytes ++ unquoted_from l.behind_backslash (drop l.at l.text)
