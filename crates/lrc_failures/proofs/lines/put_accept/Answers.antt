use Rattle.lrc_failures.proofs.lines.put_accept.Goals as goal

pub returns-in-NotStart : goal.returns-in-NotStart
returns-in-NotStart g c = rw c.in-NotStart.is c.put_pieces.ensures

pub returns-in-Memory : goal.returns-in-Memory
returns-in-Memory g c = rw c.in-Memory.is c.put_alone.ensures
