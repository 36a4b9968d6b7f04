use Rattle.lrc_failures.proofs.lines.put_term.Goals as goal

pub returns-in-UnknownProduction : goal.returns-in-UnknownProduction
returns-in-UnknownProduction g c = rw c.in-UnknownProduction.is c.put_pieces.ensures

pub returns-in-Arity : goal.returns-in-Arity
returns-in-Arity g c = rw c.in-Arity.is c.put_pieces-in-Arity.ensures

pub returns-in-KidKind : goal.returns-in-KidKind
returns-in-KidKind g c = rw c.in-KidKind.is c.put_pieces-in-KidKind.ensures

pub returns-in-Memory : goal.returns-in-Memory
returns-in-Memory g c = rw c.in-Memory.is c.put_pieces-in-Memory.ensures
