use Rattle.std.proofs.Common.{◌≡◌, ◌++◌, take}
use Rattle.std.specs.List.{flat_map}
use Rattle.lrc_order_meaning.specs.Needs.{equation_needs}
use Rattle.lrc_ordered.proofs.needs.push_equation_needs.Given as goal

abbrev pub invariant-loop-equation : goal.invariant-loop-equation
invariant-loop-equation l = l.needs ≡ l.initial.needs ++ flat_map equation_needs (take l.equation-index l.equations)
