use Rattle.std.proofs.Common.{◌≡◌, ◌++◌, map}
use Rattle.lrc_meaning.specs.Signature.{role_of}
use Rattle.lrc_plan_meaning.specs.Sequences.{is_defined}
use Rattle.lrc_plan.specs.Waiting.{waiting_evaluation}
use Rattle.lrc_plan.proofs.VisitLemmas.{passed}
use Rattle.lrc_plan.proofs.waiting.push_evaluations.Given as goal

abbrev pub invariant-occurrences : goal.invariant-occurrences
invariant-occurrences l =
    l.waiting.items ≡ l.initial.waiting.items ++ passed (waiting_evaluation l.needs l.awaits) (is_defined (map role_of l.occurrences)) l.number
