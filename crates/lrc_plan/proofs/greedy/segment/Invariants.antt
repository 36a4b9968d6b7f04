use Rattle.std.proofs.Common.{◌≡◌, List, [], length}
use Rattle.lrc_base.specs.declared.grammar.Sort.{Sort}
use Rattle.lrc_base.specs.declared.grammar.Production.{Production}
use Rattle.lrc_order_meaning.specs.declared.Partition.{Partition}
use Rattle.lrc_plan_meaning.specs.declared.Bound as sequence
use Rattle.lrc_plan_meaning.specs.Sequences.{State, greedy}
use Rattle.lrc_plan.specs.ItemSets.{HasRoom}
use Rattle.lrc_plan.specs.Running.{IsLeft, StandsFor}
use Rattle.lrc_plan.proofs.greedy.segment.Given as goal

abbrev pub invariant-actions : goal.invariant-actions
invariant-actions l = record {
  left : IsLeft l.available l.left.items;
  room : (x : sequence.Bound) → HasRoom l.initial.available x → HasRoom l.available x;
  steps : (sorts : List Sort) (parts : List Partition) (p : Production) (s : State) → StandsFor sorts parts p l.initial.left.items l.initial.available [] s
      → (t : State) × StandsFor sorts parts p l.left.items l.available l.steps t × (greedy sorts parts p (length t.left) t ≡ greedy sorts parts p (length s.left) s);
}

abbrev pub decreases-actions : goal.decreases-actions
decreases-actions l = length l.left.items
