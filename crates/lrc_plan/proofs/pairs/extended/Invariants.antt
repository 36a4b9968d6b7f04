use Rattle.std.proofs.Common.{◌≡◌, ◌++◌, take}
use Rattle.std.specs.Prelude.{flat_map}
use Rattle.lrc_order_meaning.specs.Needs.{needs_of}
use Rattle.lrc_plan_meaning.specs.Items.{ordered_at}
use Rattle.lrc_plan.proofs.pairs.extended.Given as goal

abbrev pub invariant-places : goal.invariant-places
invariant-places l =
    let site = l.site in
    l.pairs ≡ needs_of site.sorts.now site.production.now ++ flat_map (ordered_at site.sorts.now site.parts.now) (take l.place-index site.places.now)
