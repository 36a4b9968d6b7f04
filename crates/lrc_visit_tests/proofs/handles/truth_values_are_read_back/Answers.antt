use Rattle.std.proofs.Common.{refl, true, false}
use Rattle.lrc_meaning.specs.Tree.{bool}
use Rattle.lrc_visit_tests.proofs.handles.truth_values_are_read_back.Goals as goal

pub read_back_alone-requires : goal.read_back_alone-requires
read_back_alone-requires g c = (bool false, λ s. refl)

pub read_back_alone-requires-2 : goal.read_back_alone-requires-2
read_back_alone-requires-2 g c = (bool true, λ s. refl)
