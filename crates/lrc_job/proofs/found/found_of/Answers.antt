use Rattle.std.proofs.Common.{Ok, map, sym, ap, ◌∙◌}
use Rattle.lrc_base.specs.RawTerms.{raw_forest}
use Rattle.lrc_meaning.specs.Tree.{tree}
use Rattle.lrc_job.specs.Resolved.{each_ok, resolved}
use Rattle.lrc_job.proofs.FoundLemmas.{found_none, found_nothing, found_next, fault_at, room_at, told}
use Rattle.lrc_job.proofs.found.found_of.Goals as goal

pub loop-item-init : goal.loop-item-init
loop-item-init c = record {
  found = found_none c.args.prods.now ∙ ap (λ ts. Ok (map tree ts)) (sym c.new-found.ensures.terms);
  kinds = found_nothing c.args.prods.now c.new-found.result.build c.new-found.result.kinds.items c.new-found.ensures.terms c.new-found.ensures.kinds;
}

pub add-requires-clause-room : goal.add-requires-clause-room
add-requires-clause-room c =
    room_at c.args.prods.now c.args.items.now c.loop-item.item-index c.item-item.result c.loop-item.found.build c.requires.fits c.loop-item-test.true c.item-item.is c.loop-item.invariant.found

pub returns-in_err-add-clause-fault : goal.returns-in_err-add-clause-fault
returns-in_err-add-clause-fault c =
    told c.from_residual.result (each_ok (map (resolved c.args.prods.now) (raw_forest c.args.items.now))) c.in_err-add.field-0.0 c.from_residual.ensures.1
    (λ other. fault_at c.args.prods.now c.args.items.now c.loop-item.item-index c.item-item.result (map tree c.loop-item.found.build) c.in_err-add.field-0.0 c.loop-item-test.true c.item-item.is c.loop-item.invariant.found (c.in_err-add.ensures.fault other))

pub loop-item-preserved : goal.loop-item-preserved
loop-item-preserved c = record {
  found = found_next c.args.prods.now c.args.items.now c.loop-item.item-index c.item-item.result (map tree c.loop-item.found.build) c.loop-item-test.true c.item-item.is c.loop-item.invariant.found ∙ c.in_ok-add.ensures.found;
  kinds = c.in_ok-add.ensures.kinds;
}
