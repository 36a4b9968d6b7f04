use Rattle.lrc_failures.proofs.lines.put_grammar.Goals as goal

pub returns-in-None : goal.returns-in-None
returns-in-None g c = rw (c.in-None.is, ← c.wrong_in.ensures) c.put_pieces.ensures

pub returns-in-Some : goal.returns-in-Some
returns-in-Some g c = rw (c.in-Some.is, ← c.wrong_in.ensures) c.put_pieces-in-Some.ensures
