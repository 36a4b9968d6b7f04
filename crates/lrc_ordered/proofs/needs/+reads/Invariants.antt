use Rattle.std.proofs.Common.{◌≡◌, ◌++◌, map, drop}
use Rattle.lrc_meaning.specs.Expression.{expression, expression_row}
use Rattle.lrc_order_meaning.specs.Needs.{need, reads_of_each}
use Rattle.lrc_ordered.proofs.needs.+reads.Given as goal

abbrev pub invariant-push_reads_of_each-loop-arg : goal.invariant-push_reads_of_each-loop-arg
invariant-push_reads_of_each-loop-arg l =
    l.needs ++ map (λ o. need o l.target) (reads_of_each (expression_row (map expression (drop l.arg-index l.args))))
    ≡ l.initial.needs ++ map (λ o. need o l.target) (reads_of_each (expression_row (map expression l.args)))
