use Rattle.std.proofs.Common.{◌≡◌, ℕ, List}
use Rattle.lrc_base.specs.declared.item.TermItem.TheVariants as i
use Rattle.lrc_call_meaning.specs.Spelled.{IsSpelledName}
use Rattle.lrc_call_meaning.proofs.SpelledLemmas.{none-spelled, only-name, next-spelled, all-spelled}
use Rattle.lrc_call_meaning.proofs.spelled.term_is_spelled.Goals as goal
use Rattle.lrc_call_meaning.proofs.spelled.term_is_spelled.Goals.{in-Name, in_default}

pub loop-item-init : goal.loop-item-init
loop-item-init c = none-spelled c.as_slice-item-items.result.now

pub loop-item-preserved : goal.loop-item-preserved
loop-item-preserved c =
    let next = λ (named : (bytes : List ℕ) → c.item-item.result ≡ i.Name bytes → IsSpelledName bytes).
    next-spelled c.as_slice-item-items.result.now c.loop-item.item-index c.item-item.result c.loop-item-test.true c.item-item.is named c.loop-item.invariant in
    elim c.match-item.branch [
      | in-Name w ↦ next (λ bytes e. only-name c.item-item.result w.in-Name.name bytes w.in-Name.is e w.name_is_spelled.ensures)
      | in_default w ↦ next (λ bytes e. absurd (w.in_default.not-Name bytes e))
    ]

pub returns : goal.returns
returns c = all-spelled c.items.result.now c.as_slice-item-items.result.now c.loop-item.item-index c.args.term.now c.as_slice-item-items.ensures c.items.ensures.trees c.loop-item-test.false c.loop-item.invariant
