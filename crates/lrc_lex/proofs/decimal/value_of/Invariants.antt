use Rattle.std.proofs.Common.{◌≡◌, ◌≤◌, take}
use Rattle.lrc_lex.specs.Decimal.{natural_value}
use Rattle.lrc_lex.proofs.decimal.value_of.Given as goal

abbrev pub invariant-loop-byte : goal.invariant-loop-byte
invariant-loop-byte l = record { so_far : l.value ≡ natural_value (take l.byte-index l.digits); in_range : l.value ≤ l.limit }
