use Rattle.std.proofs.Common.{◌≡◌, ◌+◌, ◌-◌, ◌++◌, map, ap, ◌∙◌, arith}
use Rattle.std.specs.List.{range_with_len}
use Rattle.lrc_plan_meaning.specs.declared.Bound.TheVariants as b
use Rattle.lrc_plan.proofs.VisitLemmas.{row_more}
use Rattle.lrc_plan.proofs.bindings.push_later_bindings.Goals as goal

pub visits-preserved : goal.visits-preserved
visits-preserved c =
    let low = c.visits.auto.earlier in
    record {
      items = row_more (b.Kid c.args.symbol c.args.from) c.args.items.now c.visits.items c.push.new.self (c.args.from + 1) (c.visits.earlier - c.args.from) (c.visits.earlier + 1) (c.visits.earlier + 1 - c.args.from)
          c.visits.invariant.items c.in_ok-push.ensures.ok (omega arith) (omega arith);
      within = omega arith;
    }

pub returns : goal.returns
returns c =
    let end = c.visits-test.false in
    let within = c.visits.invariant.within in
    let low = c.visits.auto.earlier in
    let e : c.visits.earlier - c.args.from ≡ c.args.visits - c.args.from = omega arith in
    c.visits.invariant.items ∙ ap (λ n. c.args.items.now ++ map (b.Kid c.args.symbol c.args.from) (range_with_len (c.args.from + 1) n)) e
