use Rattle.std.proofs.Common.{◌≡◌, ◌++◌, map}
use Rattle.std.specs.Prelude.{flat_map}
use Rattle.std.specs.List.{range_with_len}
use Rattle.lrc_plan_meaning.specs.Sequences.{visits_at}
use Rattle.lrc_plan.specs.Waiting.{waiting_of}
use Rattle.lrc_plan.proofs.waiting.push_all_visits.Given as goal

abbrev pub invariant-symbols : goal.invariant-symbols
invariant-symbols l =
    let sorts = l.site.sorts.now in
    let parts = l.site.parts.now in
    let p = l.site.production.now in
    l.waiting.items ≡ l.initial.waiting.items ++ flat_map (λ s. map (waiting_of sorts parts p) (visits_at sorts parts p s)) (range_with_len 0 l.symbol)
