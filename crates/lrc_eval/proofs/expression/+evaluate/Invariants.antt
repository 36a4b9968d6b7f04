use Rattle.std.proofs.Common.{◌+◌, map}
use Rattle.lrc_meaning.specs.Expression.{expression, expression_row}
use Rattle.lrc_eval.proofs.FormLemmas.{weight, weight_of_each}
use Rattle.lrc_eval.proofs.expression.+evaluate.Given as goal

abbrev pub decreases-evaluate : goal.decreases-evaluate
decreases-evaluate g l = weight (expression l.expr.now)

abbrev pub decreases-operation : goal.decreases-operation
decreases-operation g l = 1 + (weight (expression l.left.now) + weight (expression l.right.now))

abbrev pub decreases-chosen : goal.decreases-chosen
decreases-chosen g l = 1 + (weight (expression l.condition.now) + (weight (expression l.then.now) + weight (expression l.other.now)))

abbrev pub decreases-made : goal.decreases-made
decreases-made g l = 1 + weight_of_each (expression_row (map expression l.args.now))

abbrev pub decreases-arguments : goal.decreases-arguments
decreases-arguments g l = weight_of_each (expression_row (map expression l.args.now))
