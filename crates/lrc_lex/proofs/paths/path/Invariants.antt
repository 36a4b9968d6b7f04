use Rattle.std.proofs.Common.{◌≡◌, ◌++◌, drop}
use Rattle.lrc_lex.specs.Tokens.{path_steps}
use Rattle.lrc_lex.proofs.paths.path.Given as goal

-- the steps so far are there
abbrev pub invariant-loop-at : goal.invariant-loop-at
invariant-loop-at l = path_steps l.text ≡ l.steps ++ path_steps (drop l.at l.text)
