use Rattle.lrc_places.proofs.DeclaredLemmas.{kind-at, declared-kind, fits-declared}
use Rattle.lrc_places.proofs.laws.each_place_is_of_its_kind.Goals as goal

pub returns-clause-kinds : goal.returns-clause-kinds
returns-clause-kinds c = kind-at

pub returns-clause-fitting : goal.returns-clause-fitting
returns-clause-fitting c prods t part kind own steps h e is = fits-declared prods t part kind own steps h e (declared-kind prods t part kind own steps h e is)
