use Rattle.std.proofs.Common.{◌∙◌, ◌+◌, ◌++◌, map, drop, ap}
use Rattle.lrc_meaning.specs.Expression.{expression, expression_row}
use Rattle.lrc_ordered.proofs.NeedLemmas.{nothing_read, both_read, choice_read, made_read, occurrence_read, read_next}
use Rattle.lrc_order_meaning.specs.Needs.{need, reads_of_each}
use Rattle.lrc_ordered.proofs.needs.+reads.Goals as goal

pub push_reads-returns-in_ok-push_reads-in-Op-2 : goal.push_reads-returns-in_ok-push_reads-in-Op-2
push_reads-returns-in_ok-push_reads-in-Op-2 t c =
    both_read c.args.target c.args.needs.now c.args.expr.now c.in-Op.field-0 c.in-Op.left c.in-Op.right c.get.result.now c.get-in-Op.result.now c.push_reads.new.needs c.push_reads-in-Op.new.needs
    c.in-Op.is c.get.ensures c.get-in-Op.ensures c.in_ok-push_reads-in-Op.ensures c.in_ok-push_reads-in-Op-2.ensures

pub push_reads-returns-in_ok-push_reads-in-If-3 : goal.push_reads-returns-in_ok-push_reads-in-If-3
push_reads-returns-in_ok-push_reads-in-If-3 t c =
    choice_read c.args.target c.args.needs.now c.args.expr.now c.in-If.condition c.in-If.yes c.in-If.no c.get-in-If.result.now c.get-in-If-2.result.now c.get-in-If-3.result.now
    c.push_reads-in-If.new.needs c.push_reads-in-If-2.new.needs c.push_reads-in-If-3.new.needs
    c.in-If.is c.get-in-If.ensures c.get-in-If-2.ensures c.get-in-If-3.ensures
    c.in_ok-push_reads-in-If.ensures c.in_ok-push_reads-in-If-2.ensures c.in_ok-push_reads-in-If-3.ensures

pub push_reads-returns-in_ok-push_reads_of_each-in-Make : goal.push_reads-returns-in_ok-push_reads_of_each-in-Make
push_reads-returns-in_ok-push_reads_of_each-in-Make t c =
    made_read c.args.target c.args.needs.now c.args.expr.now c.in-Make.field-0 c.in-Make.args c.as_slice.result.now c.push_reads_of_each.new.needs
    c.in-Make.is c.as_slice.ensures c.in_ok-push_reads_of_each-in-Make.ensures

pub push_reads-returns-in_ok-push-in-Occ : goal.push_reads-returns-in_ok-push-in-Occ
push_reads-returns-in_ok-push-in-Occ t c =
    occurrence_read c.args.target c.args.needs.now c.args.expr.now c.in-Occ.first c.push.new.self c.in-Occ.is c.in_ok-push-in-Occ.ensures.ok

pub push_reads-returns-in-Int : goal.push_reads-returns-in-Int
push_reads-returns-in-Int t c = nothing_read c.args.target c.args.needs.now c.args.expr.now c.in-Int.is

pub push_reads-returns-in-Int-2 : goal.push_reads-returns-in-Int-2
push_reads-returns-in-Int-2 t c = nothing_read c.args.target c.args.needs.now c.args.expr.now c.in-Int.is

pub push_reads-returns-in-Int-3 : goal.push_reads-returns-in-Int-3
push_reads-returns-in-Int-3 t c = nothing_read c.args.target c.args.needs.now c.args.expr.now c.in-Int.is

pub push_reads-returns-in-Int-4 : goal.push_reads-returns-in-Int-4
push_reads-returns-in-Int-4 t c = nothing_read c.args.target c.args.needs.now c.args.expr.now c.in-Int.is

pub push_reads_of_each-loop-arg-preserved : goal.push_reads_of_each-loop-arg-preserved
push_reads_of_each-loop-arg-preserved t c =
    ap (λ ns. ns ++ map (λ o. need o c.args.target) (reads_of_each (expression_row (map expression (drop (c.loop-arg.arg-index + 1) c.args.args.now))))) c.in_ok-push_reads.ensures
    ∙ read_next c.args.target c.loop-arg.needs c.args.args.now c.loop-arg.arg-index c.arg-item.result c.loop-arg-test.true c.arg-item.is
    ∙ c.loop-arg.invariant
