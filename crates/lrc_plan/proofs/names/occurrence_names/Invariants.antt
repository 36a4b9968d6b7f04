use Rattle.std.proofs.Common.{◌≡◌, map, take}
use Rattle.lrc_plan.specs.Text.{occurrence_name}
use Rattle.lrc_plan.proofs.names.occurrence_names.Given as goal

abbrev pub invariant-occurrences : goal.invariant-occurrences
invariant-occurrences l = l.names ≡ map occurrence_name (take l.occurrence-index l.occurrences)
