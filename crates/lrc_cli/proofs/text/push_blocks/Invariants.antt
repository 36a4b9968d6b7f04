use Rattle.std.proofs.Common.{◌≡◌, ◌+◌, ◌++◌, drop}
use Rattle.lrc_cli.specs.Printed.{blocks}
use Rattle.lrc_cli.proofs.text.push_blocks.Given as goal

-- what is left to append completes the whole
abbrev pub invariant-loop-before : goal.invariant-loop-before
invariant-loop-before l = l.text.items ++ blocks (l.before + 1) (drop l.before l.sessions) ≡ l.initial.text.items ++ blocks 1 l.sessions
