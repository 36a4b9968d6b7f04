use Rattle.std.proofs.Common.{[], ◌∷◌}
use Rattle.lrc_gen.specs.Generated.{root, tree}
use Rattle.lrc_gen.specs.Tasks.{Makes, weights}
use Rattle.lrc_gen.proofs.terms.draw_term.Given as goal

-- what is made and the tasks that are left make the whole
abbrev pub invariant-loop-task : goal.invariant-loop-task
invariant-loop-task l =
    Makes l.tasks.items (l.build, l.draws.state) (root (tree l.nodes l.fn.draws.state).0 ∷ [], (tree l.nodes l.fn.draws.state).1)

-- each task is heavier than what it is parted into
abbrev pub decreases-loop-task : goal.decreases-loop-task
decreases-loop-task l = weights l.tasks.items
