use Rattle.std.proofs.Common.{◌<◌, subst, take, get_or, arith, length, ◌+◌}
use Rattle.std.specs.Prelude.{None}
use Rattle.lrc_graph.specs.Pairs.{Pairs}
use Rattle.lrc_order_meaning.specs.declared.Place.{Place}
use Rattle.lrc_ordered.specs.Tables.{nothing, table_at, Gathered, JoinedAt, JoinedAmong}
use Rattle.std.proofs.lemmas.List.{get_or_default}
use Rattle.lrc_ordered.proofs.GatherLemmas.{gathered_set, joined_more}
use Rattle.lrc_ordered.proofs.gather.gather_places.Goals as goal

abbrev none : Place
none = record { sort = 0; start = 0; tree = None }

pub places-preserved : goal.places-preserved
places-preserved c =
    let old = c.args.sorts.now in
    let now = c.places.sorts in
    let relation = c.args.relation.now in
    let i = c.places.place-index in
    let place : Place = get_or c.args.places.now i none in
    let len = c.places.auto.sorts in
    let small = (c.requires.within i none c.places-test.true).0 in
    let there : place.sort < length now = omega arith in
    let default = get_or_default now place.sort c.index-sorts-place.result nothing there in
    let points = c.places.invariant.points place.sort in
    gathered_set old now c.places.found c.gather_place-found.result (JoinedAmong old relation (take i c.args.places.now)) (JoinedAmong old relation (take (i + 1) c.args.places.now))
    place.sort c.gather_place-found.new.sort (JoinedAt (table_at old place.sort).points relation place.start) c.places.invariant there
    (subst (λ n. Gathered (table_at now place.sort) c.gather_place-found.new.sort c.gather_place-found.result (JoinedAt n relation place.start)) points
    (subst (λ (t : Pairs). Gathered t c.gather_place-found.new.sort c.gather_place-found.result (JoinedAt t.points relation place.start)) default c.gather_place-found.ensures))
    (joined_more old relation c.args.places.now i place c.places-test.true (get_or_default c.args.places.now i none place c.places-test.true))
