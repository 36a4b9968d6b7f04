use Rattle.std.proofs.Common.{◌≡◌, ◌<◌, [], List, length, get_or, subst, sym, ◌∙◌, All, arith, le_refl}
use Rattle.std.proofs.lemmas.List.Elements.{All-same}
use Rattle.lrc_graph.specs.Pairs.{Pairs}
use Rattle.lrc_order_meaning.specs.declared.Place.{Place}
use Rattle.lrc_ordered.specs.Tables.{nothing, table_at, FitsIn}
use Rattle.std.proofs.lemmas.List.{get_or_default}
use Rattle.lrc_ordered.proofs.spread.spread.Goals as goal

pub spread_places-requires-clause-within : goal.spread_places-requires-clause-within
spread_places-requires-clause-within c =
    let sorts = c.args.sorts.now in
    let n = c.productions.production in
    let relations = c.args.relations.now in
    let places : List Place = get_or c.args.places.now n [] in
    let number = c.requires.productions in
    let length_now = c.productions.invariant.number in
    let test = c.productions-test.true in
    let there : n < length relations = omega arith in
    let found : get_or c.productions.relations n c.index-relations-production.result ≡ table_at relations n =
    get_or_default c.productions.relations n c.index-relations-production.result nothing (omega arith) ∙ c.productions.invariant.left n (le_refl n) in
    let list : c.as_slice.result.now ≡ places =
    c.as_slice.ensures ∙ c.index-places-production.is ∙ get_or_default c.args.places.now n c.index-places-production.result [] (omega arith) in
    subst (λ (r : Pairs). All (FitsIn sorts r.points) c.as_slice.result.now) (sym found)
    (All-same (FitsIn sorts (table_at relations n).points) c.as_slice.result.now places list (c.requires.within n there))
