use Rattle.std.proofs.Common.{◌≡◌, ◌+◌, ◌++◌}
use Rattle.lrc_order_meaning.specs.Needs.{need}
use Rattle.lrc_plan_meaning.specs.Items.{comes_before}
use Rattle.lrc_plan.proofs.VisitLemmas.{passed}
use Rattle.lrc_plan.proofs.pairs.push_after.Given as goal

abbrev pub invariant-attributes : goal.invariant-attributes
invariant-attributes l =
    l.pairs ≡ l.initial.pairs ++ passed (λ y. need (l.place.start + l.first) (l.place.start + y)) (comes_before l.parts l.place.sort l.first) l.then
