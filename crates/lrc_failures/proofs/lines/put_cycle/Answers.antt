use Rattle.lrc_failures.proofs.lines.put_cycle.Goals as goal

pub returns-in-None : goal.returns-in-None
returns-in-None g c = rw (c.in-None.is, ← c.cycle_words.ensures) c.put_pieces.ensures

pub returns-in-Some : goal.returns-in-Some
returns-in-Some g c = rw (c.in-Some.is, ← c.cycle_words.ensures) c.put_pieces-in-Some.ensures
