use Rattle.std.proofs.Common.{◌≡◌, drop}
use Rattle.lrc_lex.specs.Tokens.{are_steps_small}
use Rattle.lrc_lex.proofs.paths.are_steps_small.Given as goal

-- the steps so far are small
abbrev pub invariant-loop-at : goal.invariant-loop-at
invariant-loop-at l = are_steps_small l.text ≡ are_steps_small (drop l.at l.text)
