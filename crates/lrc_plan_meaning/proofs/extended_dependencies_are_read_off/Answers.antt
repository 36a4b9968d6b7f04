use Rattle.lrc_plan_meaning.proofs.ExtendedLemmas.{read_extended, extended_read}
use Rattle.lrc_plan_meaning.proofs.extended_dependencies_are_read_off.Goals as goal

pub returns : goal.returns
returns c = λ g found are there p known x y. (read_extended g found are there p known x y, extended_read g found are there p known x y)
