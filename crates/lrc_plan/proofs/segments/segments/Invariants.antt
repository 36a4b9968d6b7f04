use Rattle.lrc_plan_meaning.specs.declared.Bound as sequence
use Rattle.lrc_plan.specs.ItemSets.{HasRoom}
use Rattle.lrc_plan.specs.Running.{IsLeft, FoundSo}
use Rattle.lrc_plan.proofs.segments.segments.Given as goal

abbrev pub invariant-visits : goal.invariant-visits
invariant-visits l = record {
  left : IsLeft l.available l.left.items;
  room : (x : sequence.Bound) → HasRoom l.initial.available x → HasRoom l.available x;
  found : FoundSo l.site.sorts.now l.site.parts.now l.site.production.now l.left.items l.available l.segments l.earlier;
}
