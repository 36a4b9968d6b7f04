use Rattle.lrc_cell_laws.proofs.DemandCellLemmas.{demand_is_cells}
use Rattle.lrc_cell_laws.proofs.reached.demand_is_cells_of_reach.Goals as goal

pub returns : goal.returns
returns c g found order limit t fit = demand_is_cells g found order limit t fit
