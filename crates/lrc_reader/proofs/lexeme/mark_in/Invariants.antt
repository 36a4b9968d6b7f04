use Rattle.std.proofs.Common.{◌≡◌, length, map}
use Rattle.lrc_reader.specs.Lexeme.{mark_in}
use Rattle.lrc_reader.proofs.lexeme.mark_in.Given as goal

-- what the rest of the table says of the spelling, the whole says
abbrev pub invariant-loop-table : goal.invariant-loop-table
invariant-loop-table l =
    mark_in (map (λ k. (k.0.now, k.1)) l.table) l.spelling ≡ mark_in (map (λ k. (k.0.now, k.1)) l.initial.table) l.spelling

abbrev pub decreases-loop-table : goal.decreases-loop-table
decreases-loop-table l = length l.table
