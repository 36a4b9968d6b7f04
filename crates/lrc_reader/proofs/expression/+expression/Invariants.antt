use Rattle.std.proofs.Common.{◌≡◌, ◌+◌, ◌*◌, length}
use Rattle.lrc_reader.specs.Reading.{read_expr_at, read_more_arguments, read_arguments, read_factors, read_product, read_addends, read_sum}
use Rattle.lrc_reader.proofs.expression.+expression.Given as goal

-- an expression calls for parts with a level less, and these lead to expressions of their level
abbrev pub decreases-expression_at : goal.decreases-expression_at
decreases-expression_at l = 16 * l.levels

abbrev pub decreases-brackets : goal.decreases-brackets
decreases-brackets l = 16 * l.levels + 1

abbrev pub decreases-push_argument : goal.decreases-push_argument
decreases-push_argument l = 16 * l.levels + 2

abbrev pub decreases-another_argument : goal.decreases-another_argument
decreases-another_argument l = 16 * l.levels + 3

abbrev pub decreases-some_arguments : goal.decreases-some_arguments
decreases-some_arguments l = 16 * l.levels + 4

abbrev pub decreases-any_arguments : goal.decreases-any_arguments
decreases-any_arguments l = 16 * l.levels + 5

abbrev pub decreases-tree : goal.decreases-tree
decreases-tree l = 16 * l.levels + 6

abbrev pub decreases-named : goal.decreases-named
decreases-named l = 16 * l.levels + 7

abbrev pub decreases-atom : goal.decreases-atom
decreases-atom l = 16 * l.levels + 8

abbrev pub decreases-factor : goal.decreases-factor
decreases-factor l = 16 * l.levels + 9

abbrev pub decreases-product : goal.decreases-product
decreases-product l = 16 * l.levels + 10

abbrev pub decreases-addend : goal.decreases-addend
decreases-addend l = 16 * l.levels + 11

abbrev pub decreases-sum : goal.decreases-sum
decreases-sum l = 16 * l.levels + 12

abbrev pub decreases-compared : goal.decreases-compared
decreases-compared l = 16 * l.levels + 13

abbrev pub decreases-comparison : goal.decreases-comparison
decreases-comparison l = 16 * l.levels + 14

abbrev pub decreases-conditional : goal.decreases-conditional
decreases-conditional l = 16 * l.levels + 15

-- what is read from here on is what is read from the start
abbrev pub invariant-some_arguments-more : goal.invariant-some_arguments-more
invariant-some_arguments-more l = read_more_arguments 0 (read_expr_at 0 l.levels) (l.arguments, l.nodes) l.cursor ≡ read_arguments 0 (read_expr_at 0 l.levels) l.fn.nodes l.fn.cursor

abbrev pub decreases-some_arguments-more : goal.decreases-some_arguments-more
decreases-some_arguments-more l = length l.cursor

-- what is read from here on is what is read from the start
abbrev pub invariant-product-more : goal.invariant-product-more
invariant-product-more l = read_factors 0 (read_expr_at 0 l.levels) (l.product, l.nodes) l.cursor ≡ read_product 0 (read_expr_at 0 l.levels) l.fn.nodes l.fn.cursor

abbrev pub decreases-product-more : goal.decreases-product-more
decreases-product-more l = length l.cursor

-- what is read from here on is what is read from the start
abbrev pub invariant-sum-more : goal.invariant-sum-more
invariant-sum-more l = read_addends 0 (read_expr_at 0 l.levels) (l.sum, l.nodes) l.cursor ≡ read_sum 0 (read_expr_at 0 l.levels) l.fn.nodes l.fn.cursor

abbrev pub decreases-sum-more : goal.decreases-sum-more
decreases-sum-more l = length l.cursor
