use Rattle.std.proofs.Common.{◌≡◌, ◌+◌, drop}
use Rattle.lrc_lex.specs.Forms.{path_len}
use Rattle.lrc_lex.proofs.paths.path_length.Given as goal

-- each character so far continues a path
abbrev pub invariant-loop-at : goal.invariant-loop-at
invariant-loop-at l = path_len l.text ≡ l.at + path_len (drop l.at l.text)
