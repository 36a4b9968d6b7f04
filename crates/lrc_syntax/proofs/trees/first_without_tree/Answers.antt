use Rattle.std.proofs.Common.{false, sym, ◌∙◌, arith}
use Rattle.std.proofs.lemmas.List.{get_or_read}
use Rattle.lrc_syntax.specs.Trees.{HasTree}
use Rattle.lrc_syntax.proofs.ListLemmas.{below_more}
use Rattle.lrc_syntax.proofs.trees.first_without_tree.Goals as goal

pub loop-sort-preserved : goal.loop-sort-preserved
loop-sort-preserved c =
    below_more (HasTree c.args.prods.now) c.loop-sort.sort c.loop-sort.invariant
    ((c.in_ok-found.ensures.trees c.loop-sort.sort).0
    (sym (get_or_read c.in_ok-found.found.items c.loop-sort.sort c.index.result.now (omega (arith, c.loop-sort-test.true, c.in_ok-found.ensures.count)) c.index.ensures false)
    ∙ c.if-not-index.false))
