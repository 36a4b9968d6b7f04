use Rattle.lrc_reader.proofs.Verdict.{read_up, stopped, stopped_only, rest_left, rest_only}
use Rattle.lrc_reader.proofs.job.job_of.Goals as goal

pub returns-then-left-eq0-clause-ok : goal.returns-then-left-eq0-clause-ok
returns-then-left-eq0-clause-ok c = read_up _ _ _ _ _ _ c.requires.short c.requires.cut c.new-cursor.ensures c.in-Ok.ensures c.left-left.ensures c.if-left-eq0.true

pub returns-else-left-eq0-clause-fault : goal.returns-else-left-eq0-clause-fault
returns-else-left-eq0-clause-fault c = λ _.
    rest_left _ _ _ _ _ _ _ _ c.requires.short c.requires.cut c.new-cursor.ensures c.in-Ok.ensures c.left-left.ensures c.if-left-eq0.false c.place.ensures c.fault.ensures

pub returns-else-left-eq0-clause-only : goal.returns-else-left-eq0-clause-only
returns-else-left-eq0-clause-only c = λ _. rest_only _ _ _ _ _ _ c.requires.cut c.new-cursor.ensures c.in-Ok.ensures c.left-left.ensures c.if-left-eq0.false

pub returns-in-Err-clause-fault : goal.returns-in-Err-clause-fault
returns-in-Err-clause-fault c =
    stopped _ _ _ _ _ _ _ _ c.requires.short c.requires.cut c.new-cursor.ensures c.in-Err.ensures c.left.ensures c.place-in-Err.ensures c.fault-in-Err.ensures

pub returns-in-Err-clause-only : goal.returns-in-Err-clause-only
returns-in-Err-clause-only c = stopped_only _ _ _ _ _ _ _ c.requires.cut c.new-cursor.ensures c.in-Err.ensures c.fault-in-Err.ensures
