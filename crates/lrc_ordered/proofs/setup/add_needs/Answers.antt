use Rattle.std.proofs.Common.{get_or, ◌∙◌}
use Rattle.lrc_order_meaning.specs.declared.Need.{Need}
use Rattle.std.proofs.lemmas.List.{get_or_default}
use Rattle.lrc_ordered.proofs.SetupLemmas.{needs_more, needs_all}
use Rattle.lrc_ordered.proofs.setup.add_needs.Goals as goal

pub loop-need-preserved : goal.loop-need-preserved
loop-need-preserved c =
    let i = c.loop-need.need-index in
    let n : Need = get_or c.args.needs.now i (record { first = 0; then = 0 }) in
    record {
      points = c.add.ensures.points ∙ c.loop-need.invariant.points;
      pairs = needs_more c.args.relation.now c.loop-need.relation c.add.new.self c.args.needs.now i n c.loop-need-test.true
          (get_or_default c.args.needs.now i (record { first = 0; then = 0 }) n c.loop-need-test.true) c.loop-need.invariant.pairs c.add.ensures.pairs;
    }

pub returns-clause-pairs : goal.returns-clause-pairs
returns-clause-pairs c =
    needs_all c.args.relation.now c.loop-need.relation c.args.needs.now c.loop-need.need-index c.loop-need-test.false c.loop-need.invariant.pairs
