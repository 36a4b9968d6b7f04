use Rattle.lrc_base.specs.declared.grammar.Kind.TheVariants as k
use Rattle.lrc_visit_tests.specs.Nodes.{num_five}
use Rattle.lrc_visit_tests.proofs.putting.put_and_read.Goals as goal

pub replace-requires-clause-whole : goal.replace-requires-clause-whole
replace-requires-clause-whole g c = (num_five, k.Sort 0, c.requires.fits, c.requires.node.stands)

pub part_at-requires : goal.part_at-requires
part_at-requires g c = (_, (c.in_ok-whole.ensures.replaces num_five (k.Sort 0) c.requires.fits c.requires.node.stands).answers.2.stands)

pub value_of_handle-requires : goal.value_of_handle-requires
value_of_handle-requires g c =
    let (part, there, here) = c.in-Some.ensures.part _ (c.in_ok-whole.ensures.replaces num_five (k.Sort 0) c.requires.fits c.requires.node.stands).answers.2.stands in (part, here)
