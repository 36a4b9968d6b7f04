use Rattle.std.proofs.Common.{◌≡◌, ◌+◌, ◌&&◌, ◌==◌, ◌++◌, []}
use Rattle.lrc_plan_meaning.specs.Items.{is_of, visit_of}
use Rattle.lrc_plan.proofs.VisitLemmas.{passed}
use Rattle.lrc_functions.proofs.scene.Scene.values.Given as goal

abbrev pub invariant-attributes : goal.invariant-attributes
invariant-attributes l = l.values ≡ passed (λ x. l.start + x) (λ x. is_of l.attrs l.block.inherited x && (visit_of l.self.parts.now l.block.sort x == l.block.visit)) l.attr
