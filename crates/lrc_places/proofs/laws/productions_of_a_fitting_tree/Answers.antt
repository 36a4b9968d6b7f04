use Rattle.lrc_places.proofs.PlaceLemmas.{productions-below}
use Rattle.lrc_places.proofs.laws.productions_of_a_fitting_tree.Goals as goal

pub returns : goal.returns
returns c prods limit t kind few h = productions-below prods limit few t kind h
