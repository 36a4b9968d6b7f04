use Rattle.std.proofs.Common.{List, ◌++◌, take}
use Rattle.lrc_run.specs.declared.reply.Line.{Line}
use Rattle.lrc_cli.specs.Printed.{IsSumOf}
use Rattle.lrc_cli.proofs.summary.Summary.with_all.Given as goal

-- the lines so far are summed up
abbrev pub invariant-lines : goal.invariant-lines
invariant-lines l = (before : List Line) → IsSumOf before l.initial.summary → IsSumOf (before ++ take l.line-index l.lines) l.summary
