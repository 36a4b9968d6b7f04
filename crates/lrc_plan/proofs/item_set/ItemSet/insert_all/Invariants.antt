use Rattle.std.proofs.Common.{◌↔◌, ◌⊎◌, IsTrue, Contains, take}
use Rattle.lrc_plan_meaning.specs.declared.Bound as sequence
use Rattle.lrc_plan.specs.ItemSets.{holds, HasRoom}
use Rattle.lrc_plan.proofs.item_set.ItemSet.insert_all.Given as goal

abbrev pub invariant-items : goal.invariant-items
invariant-items l = record {
  items : (x : sequence.Bound) → IsTrue (holds l.self x) ↔ (IsTrue (holds l.initial.self x) ⊎ Contains (take l.item-index l.items) x);
  room : (x : sequence.Bound) → HasRoom l.initial.self x → HasRoom l.self x;
}
