use Rattle.std.proofs.Common.{◌≡◌, ◌-◌, ◌≤◌, min, length, vec_len}
use Rattle.std.specs.Io.KnownBytes.{Consumes}
use Rattle.lrc_outside.proofs.take_all.take_up_to.Given as goal

abbrev pub invariant-loop-block : goal.invariant-loop-block
invariant-loop-block g l =
    (length l.bytes.items ≤ l.limit) × Consumes (g.S.Source.left l.initial.source) (g.S.Source.left l.source) l.bytes.items
    × (g.S.Source.faults l.initial.source ≤ g.S.Source.faults l.source) × (length l.block ≡ min 65536 l.limit)

abbrev pub decreases-loop-block : goal.decreases-loop-block
decreases-loop-block g l = l.limit - vec_len l.bytes
