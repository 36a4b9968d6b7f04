use Rattle.std.proofs.Common.{◌≡◌, map, take}
use Rattle.lrc_functions.specs.Functions.{operation_of}
use Rattle.lrc_functions.proofs.scene.Scene.operations.Given as goal

abbrev pub invariant-actions : goal.invariant-actions
invariant-actions l = l.operations ≡ map (operation_of l.self.sorts.now l.self.parts.now l.self.production.now) (take l.action-index l.actions)
