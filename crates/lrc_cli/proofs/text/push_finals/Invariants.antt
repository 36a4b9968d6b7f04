use Rattle.std.proofs.Common.{◌≡◌, ◌+◌, ◌++◌, drop}
use Rattle.lrc_cli.specs.Printed.{final_lines}
use Rattle.lrc_cli.proofs.text.push_finals.Given as goal

-- what is left to append completes the whole
abbrev pub invariant-loop-before : goal.invariant-loop-before
invariant-loop-before l = l.text.items ++ final_lines (l.before + 1) (drop l.before l.finals) ≡ l.initial.text.items ++ final_lines 1 l.finals
