use Rattle.std.proofs.Common.{length, ◌*◌, ◌+◌}
use Rattle.lrc_threads.proofs.halves.+session_runs.Given as goal

-- each half is shorter, and a thread's work comes before the list that it plays
abbrev pub decreases-join+arg2 : goal.decreases-join+arg2
decreases-join+arg2 g l = 2 * length l.left.now + 1

abbrev pub decreases-join+arg3 : goal.decreases-join+arg3
decreases-join+arg3 g l = 2 * length l.right.now + 1

abbrev pub decreases-session_runs : goal.decreases-session_runs
decreases-session_runs g l = 2 * length l.scripts.now
