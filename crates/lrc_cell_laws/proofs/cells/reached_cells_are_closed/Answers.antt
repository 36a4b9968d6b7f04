use Rattle.lrc_cell_laws.proofs.ClosedLemmas.{cells_closed, cells_without_nil}
use Rattle.lrc_cell_laws.proofs.cells.reached_cells_are_closed.Goals as goal

pub returns : goal.returns
returns c ms = (cells_closed ms, cells_without_nil ms)
