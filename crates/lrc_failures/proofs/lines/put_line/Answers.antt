use Rattle.lrc_failures.proofs.lines.put_line.Goals as goal

pub returns-in-Usage : goal.returns-in-Usage
returns-in-Usage g c = rw c.in-Usage.is c.put_alone.ensures

pub returns-in-Write : goal.returns-in-Write
returns-in-Write g c = rw c.in-Write.is c.put_alone-in-Write.ensures

pub returns-in-NotOneSession : goal.returns-in-NotOneSession
returns-in-NotOneSession g c = rw c.in-NotOneSession.is c.put_of_job-in-NotOneSession.ensures

pub returns-in-Memory : goal.returns-in-Memory
returns-in-Memory g c = rw c.in-Memory.is c.put_alone-in-Memory.ensures
