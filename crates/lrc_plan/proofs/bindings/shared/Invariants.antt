use Rattle.std.proofs.Common.{◌≡◌, take}
use Rattle.lrc_plan.specs.Handing.{shared}
use Rattle.lrc_plan.proofs.bindings.shared.Given as goal

abbrev pub invariant-items : goal.invariant-items
invariant-items l = l.both ≡ shared (take l.item-index l.items) l.gained l.used
