use Rattle.std.proofs.Common.{map}
use Rattle.lrc_plan_meaning.specs.Sequences.{visits_at}
use Rattle.lrc_plan.specs.Waiting.{waiting_of}
use Rattle.lrc_plan.proofs.PairLemmas.{flat_range_more}
use Rattle.lrc_plan.proofs.waiting.push_all_visits.Goals as goal

pub symbols-preserved : goal.symbols-preserved
symbols-preserved c =
    let site = c.args.site.now in
    let sorts = site.sorts.now in
    let parts = site.parts.now in
    let p = site.production.now in
    flat_range_more (λ n. map (waiting_of sorts parts p) (visits_at sorts parts p n)) c.args.waiting.now.items c.symbols.waiting.items c.push_visits.new.waiting.items c.symbols.symbol
    c.symbols.invariant c.in_ok-push_visits.ensures
