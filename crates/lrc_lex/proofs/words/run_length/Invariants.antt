use Rattle.std.proofs.Common.{◌-◌, length}
use Rattle.lrc_lex.proofs.Utf8Lemmas.{RunsTo}
use Rattle.lrc_lex.proofs.words.run_length.Given as goal

-- each character so far continues a word
abbrev pub invariant-loop-character : goal.invariant-loop-character
invariant-loop-character l = RunsTo l.text l.at

abbrev pub decreases-loop-character : goal.decreases-loop-character
decreases-loop-character l = length l.text - l.at
