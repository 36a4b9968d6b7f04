use Rattle.std.proofs.Common.{get_or, refl, subst}
use Rattle.std.specs.Prelude.{List}
use Rattle.lrc_base.specs.declared.grammar.Given.{Given}
use Rattle.lrc_base.specs.declared.grammar.Sort.{Sort}
use Rattle.lrc_order_meaning.specs.Ordered.{IsGivenThere}
use Rattle.std.proofs.lemmas.List.{get_or_default}
use Rattle.lrc_ordered.proofs.AllLemmas.{all_next, all_done}
use Rattle.lrc_ordered.proofs.small.are_given_there.Goals as goal

abbrev none : Given
none = record { sort = 0; first = 0; then = 0 }

pub loop-pair-preserved : goal.loop-pair-preserved
loop-pair-preserved c =
    let n = c.loop-pair.pair-index in
    let pair : Given = get_or c.args.given.now n none in
    all_next (IsGivenThere c.args.grammar.now.sorts) c.args.given.now n pair c.loop-pair-test.true (get_or_default c.args.given.now n none pair c.loop-pair-test.true)
    (subst (λ (list : List Sort). IsGivenThere list pair) c.as_slice.ensures (c.is_given_there.ensures.0 c.if-not-is_given_there.false)) c.loop-pair.invariant

pub returns : goal.returns
returns c = (
  λ h. all_done (IsGivenThere c.args.grammar.now.sorts) c.args.given.now c.loop-pair.pair-index c.loop-pair-test.false c.loop-pair.invariant,
  λ h. refl,
)
