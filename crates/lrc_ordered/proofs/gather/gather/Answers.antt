use Rattle.std.proofs.Common.{◌≡◌, ◌+◌, [], List, get_or, subst, sym, ◌∙◌, All, arith, inl, inr}
use Rattle.std.proofs.lemmas.List.Elements.{All-weaker, All-same}
use Rattle.lrc_graph.specs.Pairs.{Pairs}
use Rattle.lrc_order_meaning.specs.declared.Place.{Place}
use Rattle.lrc_ordered.specs.Tables.{nothing, table_at, GatheredAll, JoinedAmong, JoinedIn, FitsIn}
use Rattle.std.proofs.lemmas.List.{get_or_default}
use Rattle.lrc_ordered.proofs.GatherLemmas.{same_joined, same_fits, gathered_then, JoinedBelow, joined_below_more, gathered_change}
use Rattle.lrc_ordered.proofs.gather.gather.Goals as goal

pub gather_places-found-requires-clause-within : goal.gather_places-found-requires-clause-within
gather_places-found-requires-clause-within c =
    let old = c.args.sorts.now in
    let now = c.productions.sorts in
    let n = c.productions.production in
    let relation = table_at c.args.relations.now n in
    let places : List Place = get_or c.args.places.now n [] in
    let number = c.requires.productions in
    let within = c.productions-test.true in
    let found : c.index-relations-production.result ≡ relation =
    c.index-relations-production.is ∙ get_or_default c.args.relations.now n c.index-relations-production.result nothing c.productions-test.true in
    let list : c.as_slice.result.now ≡ places =
    c.as_slice.ensures ∙ c.index-places-production.is ∙ get_or_default c.args.places.now n c.index-places-production.result [] (omega arith) in
    subst (λ (r : Pairs). All (FitsIn now r.points) c.as_slice.result.now) (sym found)
    (All-same (FitsIn now relation.points) c.as_slice.result.now places list
    (All-weaker (FitsIn old relation.points) (FitsIn now relation.points)
    (same_fits old now relation.points c.productions.invariant.tables c.productions.invariant.points) places (c.requires.within n c.productions-test.true)))

pub productions-preserved : goal.productions-preserved
productions-preserved c =
    let old = c.args.sorts.now in
    let now = c.productions.sorts in
    let n = c.productions.production in
    let relations = c.args.relations.now in
    let relation = table_at relations n in
    let places : List Place = get_or c.args.places.now n [] in
    let number = c.requires.productions in
    let within = c.productions-test.true in
    let found : c.index-relations-production.result ≡ relation =
    c.index-relations-production.is ∙ get_or_default relations n c.index-relations-production.result nothing c.productions-test.true in
    let list : c.as_slice.result.now ≡ places =
    c.as_slice.ensures ∙ c.index-places-production.is ∙ get_or_default c.args.places.now n c.index-places-production.result [] (omega arith) in
    gathered_then old now c.gather_places-found.new.sorts c.productions.found c.gather_places-found.result
    (JoinedBelow old relations c.args.places.now n) (JoinedAmong now relation places) (JoinedBelow old relations c.args.places.now (n + 1)) c.productions.invariant
    (subst (λ (r : Pairs). GatheredAll now c.gather_places-found.new.sorts c.gather_places-found.result (JoinedAmong now r places)) found
    (subst (λ ps. GatheredAll now c.gather_places-found.new.sorts c.gather_places-found.result (JoinedAmong now c.index-relations-production.result ps)) list c.gather_places-found.ensures))
    (λ s x y.
    let more = joined_below_more old relations c.args.places.now n s x y c.productions-test.true in
    let same = same_joined old now relation places c.productions.invariant.points s x y in (
      λ j. elim (more.0 j) [ inl p ↦ inl p | inr p ↦ inr (same.1 p) ],
      λ j. more.1 (elim j [ inl p ↦ inl p | inr p ↦ inr (same.0 p) ]),
    ))

pub returns : goal.returns
returns c =
    let end = c.productions-test.false in
    gathered_change c.args.sorts.now c.productions.sorts c.productions.found
    (JoinedBelow c.args.sorts.now c.args.relations.now c.args.places.now c.productions.production)
    (JoinedIn c.args.sorts.now c.args.relations.now c.args.places.now) c.productions.invariant
    (λ s x y. (λ j. j.0, λ j. (j, let there = j.is_there in omega arith)))
