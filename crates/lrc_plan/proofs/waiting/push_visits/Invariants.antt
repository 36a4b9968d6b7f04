use Rattle.std.proofs.Common.{◌≡◌, ◌++◌, map}
use Rattle.std.specs.List.{range_with_len}
use Rattle.lrc_plan_meaning.specs.declared.Action.TheVariants as a
use Rattle.lrc_plan.specs.Waiting.{waiting_of}
use Rattle.lrc_plan.proofs.waiting.push_visits.Given as goal

abbrev pub invariant-visits : goal.invariant-visits
invariant-visits l =
    l.waiting.items
    ≡ l.initial.waiting.items
    ++ map (λ v. waiting_of l.site.sorts.now l.site.parts.now l.site.production.now (a.Visit l.symbol v)) (range_with_len 1 l.earlier)
