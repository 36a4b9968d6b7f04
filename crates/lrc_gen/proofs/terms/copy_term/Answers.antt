use Rattle.std.proofs.Common.{◌≤◌, length, sym, ap, ◌∙◌, subst}
use Rattle.lrc_base.specs.RawTerms.{RawFits, raw_grown, raw_wanted}
use Rattle.lrc_base.proofs.RawItemLemmas.{raw_forest_none, raw_forest_next, raw_wanted_at}
use Rattle.lrc_gen.proofs.terms.copy_term.Goals as goal

pub loop-item-init : goal.loop-item-init
loop-item-init c = c.new-build.ensures ∙ sym raw_forest_none

pub add-requires : goal.add-requires
add-requires c =
    let fits : RawFits c.as_slice-item-items.result.now = subst RawFits (sym c.as_slice-item-items.ensures) c.items.ensures.fits in
    subst (λ ts. raw_wanted c.item-item.result ≤ length ts) (sym c.loop-item.invariant) (raw_wanted_at c.as_slice-item-items.result.now c.loop-item.item-index c.item-item.result fits c.loop-item-test.true c.item-item.is)

pub loop-item-preserved : goal.loop-item-preserved
loop-item-preserved c =
    c.in_ok-add.ensures ∙ ap (λ ts. raw_grown ts c.item-item.result) c.loop-item.invariant
    ∙ sym (raw_forest_next c.as_slice-item-items.result.now c.loop-item.item-index c.item-item.result c.loop-item-test.true c.item-item.is)
