use Rattle.std.proofs.Common.{◌≡◌, ◌+◌, ◌-◌, ◌++◌, map, ap, ◌∙◌, arith}
use Rattle.std.specs.List.{range_with_len}
use Rattle.lrc_plan_meaning.specs.declared.Bound.TheVariants as b
use Rattle.lrc_plan.proofs.VisitLemmas.{row_more}
use Rattle.lrc_plan.proofs.visits.push_earlier.Goals as goal

pub visits-preserved : goal.visits-preserved
visits-preserved c =
    let low = c.visits.auto.earlier in
    record {
      items = row_more (λ u. b.Kid c.args.symbol u c.args.visit) c.args.items.now c.visits.items c.push.new.self 1 (c.visits.earlier - 1) c.visits.earlier (c.visits.earlier + 1 - 1)
          c.visits.invariant.items c.in_ok-push.ensures.ok (omega arith) (omega arith);
      within = omega arith;
    }

pub returns : goal.returns
returns c =
    let end = c.visits-test.false in
    let within = c.visits.invariant.within in
    let low = c.visits.auto.earlier in
    let e : c.visits.earlier - 1 ≡ c.args.visit - 1 = omega arith in
    c.visits.invariant.items ∙ ap (λ n. c.args.items.now ++ map (λ u. b.Kid c.args.symbol u c.args.visit) (range_with_len 1 n)) e
