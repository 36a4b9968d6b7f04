use Rattle.std.proofs.Common.{◌+◌, ◌<◌, ◌^◌, length, arith}
use Rattle.std.proofs.lemmas.List.Elements.{All-same, All-weaker}
use Rattle.lrc_meaning.specs.Grammar.{attrs_of_sort, occurrences_of}
use Rattle.lrc_order_meaning.specs.declared.Place.{Place}
use Rattle.lrc_order_meaning.specs.Needs.{places_of}
use Rattle.lrc_ordered.proofs.PlaceLemmas.{IsWithin, places_within}
use Rattle.lrc_ordered.proofs.needs.needs_of.Goals as goal

pub push_trees_needs-requires : goal.push_trees_needs-requires
push_trees_needs-requires c =
    let sorts = c.args.sorts.now in
    let p = c.args.production.now in
    let few = c.requires.few in
    All-weaker (IsWithin sorts (length (occurrences_of sorts p))) (λ (place : Place). place.start + length (attrs_of_sort sorts place.sort) < 2 ^ 32)
    (λ place within. omega arith) c.args.places.now
    (All-same (IsWithin sorts (length (occurrences_of sorts p))) c.args.places.now (places_of sorts p) c.requires.places (places_within sorts p))
