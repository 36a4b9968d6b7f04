use Rattle.std.proofs.Common.{refl}
use Rattle.lrc_visit_tests.specs.Nodes.{num_five}
use Rattle.lrc_visit_tests.proofs.handles.node_read_back.Goals as goal

pub read_back-requires : goal.read_back-requires
read_back-requires c = (num_five, (refl, c.in_ok-store.ensures.stands))
