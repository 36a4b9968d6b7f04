-- What a call does to a store that builds a cell of several rows.
use Rattle.std.specs.Prelude.{Result, IfOk, OnErr}
use Rattle.lrc_store.specs.Cells.{CellTree, parts}
use Rattle.lrc_store.specs.Standing.{Standing}
use Rattle.lrc_store.specs.Words.{Adds, LacksOne, Tells}
use Rattle.lrc_store.specs.declared.cells.Handle.{Handle}
use Rattle.lrc_store.specs.declared.stores.Full.{Full}

-- what a call answers that builds a cell in the store, part by part
pub record Builds (s t : Standing) (cell : CellTree) (answer : Result Handle Full) : Type 0 where
  pub adds : Adds s t (parts cell)
  pub ok : IfOk answer (λ handle. Tells t handle.0 cell)
  pub full : OnErr answer (LacksOne t (parts cell))
