use Rattle.lrc_store.specs.Standing.{Stands}
use Rattle.bench_store.specs.Numbers.{numbers}
use Rattle.bench_store.proofs.numbers.put_numbers.Given as goal

-- the numbers so far are in the list
abbrev pub invariant-loop-number : goal.invariant-loop-number
invariant-loop-number g l = Stands (g.S.Store.state l.store) l.list.0 (numbers l.number)
