use Rattle.lrc_parse.proofs.SumProofs.{exact_sum, full_sum, deeper_widens}
use Rattle.lrc_parse.proofs.sums.sum_read_exactly.Goals as goal

pub whole_text_within-requires : goal.whole_text_within-requires
whole_text_within-requires g c = full_sum _

pub one_value-requires : goal.one_value-requires
one_value-requires g c = exact_sum _

pub stop_place-requires-clause-wide : goal.stop_place-requires-clause-wide
stop_place-requires-clause-wide g c = deeper_widens

pub stop_place-requires-clause-full : goal.stop_place-requires-clause-full
stop_place-requires-clause-full g c = full_sum _

pub left_place-requires-clause-wide : goal.left_place-requires-clause-wide
left_place-requires-clause-wide g c = deeper_widens

pub left_place-requires-clause-full : goal.left_place-requires-clause-full
left_place-requires-clause-full g c = full_sum _
