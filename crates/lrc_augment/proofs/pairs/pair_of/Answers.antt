use Rattle.std.proofs.Common.{subst, sym}
use Rattle.std.specs.Prelude.{length, ◌≤◌}
use Rattle.lrc_base.specs.declared.limits.TheConstants.{ATTRIBUTE_LIMIT}
use Rattle.lrc_grammar.specs.Grammar.{grammar_of}
use Rattle.lrc_augment.specs.Orders.{pair_of}
use Rattle.lrc_augment.proofs.OrderLemmas.{few_attrs_at, told, unknown_first, unknown_then}
use Rattle.lrc_augment.proofs.pairs.pair_of.Goals as goal

pub returns-in_err-first : goal.returns-in_err-first
returns-in_err-first c =
    let sorts = c.args.grammar.now.sorts in
    told c.from_residual-in_err-first.result (pair_of sorts c.args.line.now) c.in_err-first.field-0.0 c.from_residual-in_err-first.ensures.0 c.from_residual-in_err-first.ensures.1
    (unknown_first sorts c.as_slice-sorts.result.now c.attrs_of_sort-attrs.result.now c.args.line.now c.in_ok-sort.sort c.as_slice-sorts.ensures c.attrs_of_sort-attrs.ensures c.in_ok-sort.ensures c.in_err-first.field-0.0 c.in_err-first.ensures)

pub attr_number-requires-2 : goal.attr_number-requires-2
attr_number-requires-2 c =
    few_attrs_at (grammar_of c.args.grammar.now) c.args.grammar.now.few c.as_slice-sorts.result.now c.attrs_of_sort-attrs.result.now c.in_ok-sort.sort c.as_slice-sorts.ensures c.attrs_of_sort-attrs.ensures

pub returns-in_err-then : goal.returns-in_err-then
returns-in_err-then c =
    let sorts = c.args.grammar.now.sorts in
    told c.from_residual-in_err-then.result (pair_of sorts c.args.line.now) c.in_err-then.field-0.0 c.from_residual-in_err-then.ensures.0 c.from_residual-in_err-then.ensures.1
    (unknown_then sorts c.as_slice-sorts.result.now c.attrs_of_sort-attrs.result.now c.args.line.now c.in_ok-sort.sort c.as_slice-sorts.ensures c.attrs_of_sort-attrs.ensures c.in_ok-sort.ensures c.in_ok-first.first c.in_err-then.field-0.0 c.in_ok-first.ensures c.in_err-then.ensures)
