use Rattle.lrc_call_meaning.specs.Spelled.{IsSpelledName}
use Rattle.lrc_places.proofs.PlaceLemmas.{named-place, named-replaced}
use Rattle.lrc_places.proofs.laws.replaced_trees_are_spelled.Goals as goal

pub returns-clause-at_places : goal.returns-clause-at_places
returns-clause-at_places c = named-place IsSpelledName

pub returns-clause-replaced : goal.returns-clause-replaced
returns-clause-replaced c = named-replaced IsSpelledName
