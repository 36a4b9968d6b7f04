use Rattle.std.proofs.Common.{List, take, flat_map}
use Rattle.lrc_run.specs.declared.reply.Line.{Line}
use Rattle.lrc_cli.specs.Printed.{IsSumOf}
use Rattle.lrc_cli.proofs.summary.summary_of.Given as goal

-- the lines of the sessions so far are summed up
abbrev pub invariant-sessions : goal.invariant-sessions
invariant-sessions l = IsSumOf (flat_map (λ (lines : List Line). lines) (take l.lines-index l.sessions)) l.summary
