use Rattle.std.proofs.Common.{◌≡◌, ◌<◌, List, Bool, false, length, subst, ◌∙◌, arith}
use Rattle.std.proofs.lemmas.List.{length-set}
use Rattle.lrc_base.specs.declared.grammar.Kind.TheVariants as k
use Rattle.lrc_syntax.specs.Trees.{has_sort, IsClosed, Makes}
use Rattle.lrc_syntax.proofs.TreeLemmas.{made, complete, sound_more, fewer, makes_below}
use Rattle.lrc_syntax.proofs.trees.sorts_with_trees.Goals as goal
use Rattle.lrc_syntax.proofs.trees.sorts_with_trees.Goals.{In-Some}

makes_it : (c : In-Some) → Makes c.args.prods.now c.loop-sort.found.items c.in-Some.sort
makes_it c = subst (λ (found : List Bool). Makes c.args.prods.now found c.in-Some.sort) c.deref.ensures.value c.in-Some.ensures.1

below : (c : In-Some) → c.in-Some.sort < length c.loop-sort.found.items
below c =
    let lt = makes_below c.args.prods.now c.loop-sort.found.items c.args.sorts c.in-Some.sort c.requires (makes_it c) in
    omega (arith, lt, c.loop-sort.invariant.count)

is_new : (c : In-Some) → has_sort c.loop-sort.found.items c.in-Some.sort ≡ false
is_new c = subst (λ (found : List Bool). has_sort found c.in-Some.sort ≡ false) c.deref.ensures.value c.in-Some.ensures.0

pub loop-sort-smaller : goal.loop-sort-smaller
loop-sort-smaller c =
    let d = (goal.at.loop-sort-smaller c).In-Some in fewer c.loop-sort.found.items c.in-Some.sort (below d) (is_new d)

pub loop-sort-preserved : goal.loop-sort-preserved
loop-sort-preserved c =
    let d = (goal.at.loop-sort-preserved c).In-Some in
    let found = c.loop-sort.found.items in
    record {
      count = length-set found c.in-Some.sort _ ∙ c.loop-sort.invariant.count;
      sound = sound_more c.args.prods.now found c.in-Some.sort c.loop-sort.invariant.sound (made c.args.prods.now found c.in-Some.sort c.loop-sort.invariant.sound (makes_it d));
    }

pub returns-clause-trees : goal.returns-clause-trees
returns-clause-trees c s =
    let closed = subst (λ (found : List Bool). IsClosed c.args.prods.now found) c.deref.ensures.value c.in_default.ensures in
    (c.loop-sort.invariant.sound s, λ tree. complete c.args.prods.now c.loop-sort.found.items tree.0 (k.Sort s) closed tree.1)
