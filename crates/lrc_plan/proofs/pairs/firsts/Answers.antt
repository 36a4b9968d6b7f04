use Rattle.std.proofs.Common.{◌≡◌, ◌<◌, [], arith, ◌∙◌, ap, ◌++◌, ◌∷◌, List, get_or, length}
use Rattle.lrc_order_meaning.specs.declared.Need.{Need}
use Rattle.lrc_plan_meaning.specs.declared.Bound.{Bound}
use Rattle.lrc_plan_meaning.specs.declared.Bound.TheVariants as item
use Rattle.std.proofs.lemmas.List.{get_or_default}
use Rattle.lrc_plan.proofs.PairLemmas.{lists_more, lists_count}
use Rattle.lrc_plan.proofs.pairs.firsts.Goals as goal

pub index_mut-requires : goal.index_mut-requires
index_mut-requires c =
    let pairs = c.args.pairs.now in
    let i = c.pairs.pair-index in
    let n : Need = get_or pairs i (record { first = 0; then = 0 }) in
    let small : n.then < c.args.count = c.requires i (record { first = 0; then = 0 }) c.pairs-test.true in
    let count : length c.pairs.lists.items ≡ c.args.count = lists_count _ c.args.count c.pairs.lists.items c.pairs.invariant in
    omega (arith, c.pairs.lists.ok.0)

pub pairs-preserved : goal.pairs-preserved
pairs-preserved c =
    let pairs = c.args.pairs.now in
    let i = c.pairs.pair-index in
    let n : Need = get_or pairs i (record { first = 0; then = 0 }) in
    let small : n.then < c.args.count = c.requires i (record { first = 0; then = 0 }) c.pairs-test.true in
    let count : length c.pairs.lists.items ≡ c.args.count = lists_count _ c.args.count c.pairs.lists.items c.pairs.invariant in
    let there : n.then < length c.pairs.lists.items = omega arith in
    lists_more pairs i c.args.count n c.pairs.lists.items c.push.new.self c.pairs-test.true (get_or_default pairs i n (record { first = 0; then = 0 }) c.pairs-test.true) small
    c.pairs.invariant
    (c.in_ok-push.ensures.ok
    ∙ ap (λ (xs : List Bound). xs ++ item.Value n.first ∷ []) (c.index_mut.ensures.value ∙ get_or_default c.pairs.lists.items n.then _ [] there))
