use Rattle.lrc_meaning.specs.Tree.{replaced}
use Rattle.lrc_places.proofs.PlaceLemmas.{placed, within-place}
use Rattle.lrc_places.proofs.laws.parts_of_parts.Goals as goal

pub returns-clause-at_places : goal.returns-clause-at_places
returns-clause-at_places c = within-place

pub returns-clause-put : goal.returns-clause-put
returns-clause-put c t u old steps e = within-place (replaced t steps u) u steps (placed t u old steps e)
