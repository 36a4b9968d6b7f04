use Rattle.std.proofs.Common.{◌↔◌, ◌⊎◌, IsTrue, Contains, get_or, subst, List, arith}
use Rattle.std.proofs.lemmas.List.{take_all, get_or_default}
use Rattle.lrc_plan_meaning.specs.declared.Bound as sequence
use Rattle.lrc_plan_meaning.specs.declared.Bound.TheVariants as b
use Rattle.lrc_plan.specs.ItemSets.{holds}
use Rattle.lrc_plan.proofs.SetLemmas.{items_more}
use Rattle.lrc_plan.proofs.item_set.ItemSet.insert_all.Goals as goal

pub items-preserved : goal.items-preserved
items-preserved c =
    let i = c.items.item-index in
    let items = c.args.items.now in
    let item = get_or items i (b.Value 0) in
    record {
      items = items_more c.args.self.now c.items.self c.insert.new.self items i item c.items-test.true
          (get_or_default items i (b.Value 0) item c.items-test.true) c.items.invariant.items c.insert.ensures.items;
      room = λ x h. c.insert.ensures.room x (c.items.invariant.room x h);
    }

pub returns-clause-items : goal.returns-clause-items
returns-clause-items c =
    let done = c.items-test.false in
    subst (λ (xs : List sequence.Bound). (x : sequence.Bound) → IsTrue (holds c.items.self x) ↔ (IsTrue (holds c.args.self.now x) ⊎ Contains xs x))
    (take_all c.items.item-index c.args.items.now (omega arith)) c.items.invariant.items
