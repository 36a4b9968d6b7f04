use Rattle.std.proofs.Common.{refl, negsuc}
use Rattle.lrc_meaning.specs.Tree.{int}
use Rattle.lrc_visit_tests.proofs.handles.a_number_is_read_back.Goals as goal

pub read_back_alone-requires : goal.read_back_alone-requires
read_back_alone-requires g c = (int (negsuc 6), λ s. refl)
