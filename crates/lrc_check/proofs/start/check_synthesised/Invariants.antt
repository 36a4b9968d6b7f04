use Rattle.std.proofs.Common.{◌≡◌, drop}
use Rattle.lrc_fault_meaning.specs.Faults.{first_inherited}
use Rattle.lrc_check.specs.Verdict.{verdict}
use Rattle.lrc_check.proofs.start.check_synthesised.Given as goal

abbrev pub invariant-loop-attr : goal.invariant-loop-attr
invariant-loop-attr l = verdict (first_inherited l.place l.attrs) ≡ verdict (first_inherited l.place (drop l.attr-index l.attrs))
