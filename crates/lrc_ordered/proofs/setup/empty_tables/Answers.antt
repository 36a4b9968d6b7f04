use Rattle.std.proofs.Common.{◌+◌, take, sym, subst, ◌∙◌}
use Rattle.std.specs.List.{AllZip}
use Rattle.lrc_ordered.proofs.SetupLemmas.{zip_more}
use Rattle.lrc_ordered.specs.Setup.{IsEmptyTable}
use Rattle.lrc_ordered.proofs.setup.empty_tables.Goals as goal

pub loop-sort-preserved : goal.loop-sort-preserved
loop-sort-preserved c =
    subst (λ ts. AllZip IsEmptyTable (take (c.loop-sort.sort-index + 1) c.args.sorts.now) ts) (sym c.in_ok-push.ensures.items)
    (zip_more IsEmptyTable c.args.sorts.now c.loop-sort.tables.items c.loop-sort.sort-index c.sort-item.result c.in_ok-new.field-0
    c.loop-sort-test.true c.sort-item.is c.loop-sort.invariant
    (record { points = c.in_ok-new.ensures.points ∙ c.len.ensures; empty = c.in_ok-new.ensures.empty }))
