use Rattle.lrc_store.specs.Standing.{IsKnown}
use Rattle.lrc_table.specs.Passes.{IsOf}
use Rattle.lrc_table.specs.Standings.{standing}
use Rattle.lrc_store_tests.proofs.threads.lists.Given as goal

abbrev pub invariant-loop-value : goal.invariant-loop-value
invariant-loop-value g l = IsOf l.pass l.table × IsKnown (standing l.pass.view) l.list.0
