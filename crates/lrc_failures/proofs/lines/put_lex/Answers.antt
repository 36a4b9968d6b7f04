use Rattle.lrc_failures.proofs.lines.put_lex.Goals as goal

pub returns-in-NotUtf8 : goal.returns-in-NotUtf8
returns-in-NotUtf8 g c = rw c.in-NotUtf8.is c.put_at_place.ensures

pub returns-in-Memory : goal.returns-in-Memory
returns-in-Memory g c = rw c.in-Memory.is c.put_alone.ensures
