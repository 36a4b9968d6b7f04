use Rattle.std.proofs.Common.{◌≡◌, ◌+◌, ◌++◌, ◌∷◌, [], List, ap, ◌∙◌, arith}
use Rattle.lrc_plan.proofs.VisitLemmas.{row_more}
use Rattle.lrc_functions.specs.declared.function.Function.{Function}
use Rattle.lrc_functions.specs.Functions.{function_of}
use Rattle.lrc_functions.proofs.functions.functions_of.Goals as goal

pub visits-preserved : goal.visits-preserved
visits-preserved c =
    let scene = c.args.scene.now in
    row_more (function_of scene.sorts.now scene.parts.now scene.production.now) [] c.visits.functions c.push.new.self 1 c.visits.before (c.visits.before + 1) (c.visits.before + 1)
    c.visits.invariant (c.in_ok-push.ensures.ok ∙ ap (λ (f : Function). c.visits.functions ++ f ∷ []) c.in_ok-function.ensures) (omega arith) (omega arith)
