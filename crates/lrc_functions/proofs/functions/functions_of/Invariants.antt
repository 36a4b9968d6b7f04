use Rattle.std.proofs.Common.{◌≡◌, ◌≤◌, map}
use Rattle.std.specs.List.{range_with_len}
use Rattle.lrc_functions.specs.Functions.{function_of}
use Rattle.lrc_functions.proofs.functions.functions_of.Given as goal

abbrev pub invariant-visits : goal.invariant-visits
invariant-visits l = l.functions ≡ map (function_of l.scene.sorts.now l.scene.parts.now l.scene.production.now) (range_with_len 1 l.before)
