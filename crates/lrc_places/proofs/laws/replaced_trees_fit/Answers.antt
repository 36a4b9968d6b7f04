use Rattle.lrc_places.proofs.DeclaredLemmas.{declared-kind, fits-put}
use Rattle.lrc_places.proofs.laws.replaced_trees_fit.Goals as goal

pub returns : goal.returns
returns c prods t u old steps kind own h e is new = fits-put prods t u kind own steps h (declared-kind prods t old kind own steps h e is) new
