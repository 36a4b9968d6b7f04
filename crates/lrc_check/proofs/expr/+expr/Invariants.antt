use Rattle.lrc_fault_meaning.specs.Faults.{wrong_kind, target_fault, found_of}
use Rattle.lrc_check.proofs.ArgumentLemmas.{ArgumentsBefore}
use Rattle.lrc_check.proofs.expr.+expr.Given as goal

abbrev pub invariant-are_args_right-loop-i : goal.invariant-are_args_right-loop-i
invariant-are_args_right-loop-i l =
    ArgumentsBefore (found_of l.scope.grammar l.scope.prod (target_fault wrong_kind l.scope.prod.name l.target)) l.args l.kids l.i l.right
