use Rattle.std.proofs.Common.{◌≡◌, ◌+◌, [], take, get_or, subst, sym, arith}
use Rattle.std.specs.Prelude.{None}
use Rattle.lrc_graph.specs.Pairs.{Pairs}
use Rattle.lrc_order_meaning.specs.declared.Place.{Place}
use Rattle.lrc_ordered.specs.Tables.{Closed, HandedAt, HandedAmong, table_at, nothing}
use Rattle.std.proofs.lemmas.List.{length-map, get_or_default}
use Rattle.lrc_order_meaning.specs.declared.Partition.{Partition}
use Rattle.lrc_ordered.specs.Setup.{orders_of}
use Rattle.lrc_ordered.proofs.SetupLemmas.{map_at}
use Rattle.lrc_ordered.proofs.SpreadLemmas.{handed_among_more, none_among, closed_then, closed_none}
use Rattle.lrc_ordered.proofs.extend.extend_places.Goals as goal

abbrev none : Place
none = record { sort = 0; start = 0; tree = None }

pub places-init : goal.places-init
places-init c = closed_none c.args.relation.now (HandedAmong (orders_of c.args.sorts.now) []) c.requires.closed (none_among (orders_of c.args.sorts.now))

pub places-preserved : goal.places-preserved
places-preserved c =
    let sorts = orders_of c.args.sorts.now in
    let i = c.places.place-index in
    let place : Place = get_or c.args.places.now i none in
    let small = (c.requires.within i none c.places-test.true).0 in
    let count = length-map c.args.sorts.now (λ (found : Partition). found.before) in
    let found : (get_or c.args.sorts.now place.sort c.index-sorts-place.result).before ≡ table_at sorts place.sort =
    sym (map_at (λ (found : Partition). found.before) c.args.sorts.now place.sort nothing c.index-sorts-place.result (omega arith)) in
    closed_then c.args.relation.now c.places.relation c.spread_place.new.relation (HandedAmong sorts (take i c.args.places.now))
    (HandedAt (table_at sorts place.sort) place.start) (HandedAmong sorts (take (i + 1) c.args.places.now)) c.places.invariant
    (subst (λ (t : Pairs). Closed c.places.relation c.spread_place.new.relation (HandedAt t place.start)) found c.spread_place.ensures)
    (handed_among_more sorts c.args.places.now i place c.places-test.true (get_or_default c.args.places.now i none place c.places-test.true))
