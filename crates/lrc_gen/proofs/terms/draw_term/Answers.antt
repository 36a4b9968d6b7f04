use Rattle.lrc_gen.proofs.TaskLemmas.{begun, room, next_made, next_lighter}
use Rattle.lrc_gen.proofs.terms.draw_term.Goals as goal

pub loop-task-init : goal.loop-task-init
loop-task-init c =
    begun c.args.nodes c.args.draws.now.state c.in_ok-tasks.tasks.items c.new-build.result (rw c.name.ensures at c.in_ok-tasks.ensures.items) c.new-build.ensures

pub perform-requires : goal.perform-requires
perform-requires c = room c.loop-task.tasks.items c.pop.new.self.items c.in-Some.task _ _ c.loop-task.invariant c.in-Some.ensures.items

pub loop-task-smaller : goal.loop-task-smaller
loop-task-smaller c =
    next_lighter c.loop-task.tasks.items c.pop.new.self.items c.perform.new.tasks.items c.in-Some.task _ _ c.in-Some.ensures.items c.in_ok-perform.ensures

pub loop-task-preserved : goal.loop-task-preserved
loop-task-preserved c =
    next_made c.loop-task.tasks.items c.pop.new.self.items c.perform.new.tasks.items c.in-Some.task _ _ _ c.loop-task.invariant c.in-Some.ensures.items c.in_ok-perform.ensures
