use Rattle.std.proofs.Common.{◌≡◌, ◌<◌, ◌+◌, ◌∷◌, [], List, length, get_or, slice_get, Some, ap, sym, subst, ◌∙◌, arith, length-append}
use Rattle.lrc_graph.specs.Pairs.{Pairs, Has, HasExactly, IsTransitive}
use Rattle.lrc_base.specs.declared.grammar.Sort.{Sort}
use Rattle.lrc_base.specs.declared.grammar.Attr.{Attr}
use Rattle.lrc_grammar.specs.Grammar.{grammar_of}
use Rattle.lrc_meaning.specs.Grammar.{attrs_of_sort}
use Rattle.lrc_order_meaning.specs.declared.Partition.{Partition}
use Rattle.lrc_base.specs.declared.grammar.Given.{Given}
use Rattle.lrc_order_meaning.specs.Induced.{Induced}
use Rattle.lrc_order_meaning.specs.Ordered.{IsPartition, IsAcyclic}
use Rattle.lrc_ordered.specs.Tables.{table_at, nothing}
use Rattle.std.proofs.lemmas.List.{get_or_default}
use Rattle.lrc_ordered.proofs.OrderLemmas.{table_transitive, table_acyclic, pushed, few_attrs, attrs_at}
use Rattle.lrc_ordered.proofs.partitions.partition_sorts.Goals as goal

pub partition-requires-clause-few : goal.partition-requires-clause-few
partition-requires-clause-few c =
    let g = c.args.grammar.now in
    let tables = c.args.tables.now.sorts.items in
    let n = c.loop-sort.sort in
    let small : n < length g.sorts = subst (λ (list : List Sort). n < length list) c.as_slice-declared.ensures c.loop-sort-test.true in
    let attrs : c.as_slice-attrs.result.now ≡ attrs_of_sort g.sorts n =
    c.as_slice-attrs.ensures ∙ ap (λ (list : List Sort). (get_or list n c.index-declared-sort.result).attrs) c.as_slice-declared.ensures
    ∙ sym (attrs_at g.sorts n c.index-declared-sort.result small) in
    subst (λ (list : List Attr). length list < 1024) (sym attrs) (few_attrs g.sorts n c.requires.small.attributes)

pub partition-requires-clause-attributes : goal.partition-requires-clause-attributes
partition-requires-clause-attributes c =
    let g = c.args.grammar.now in
    let tables = c.args.tables.now.sorts.items in
    let n = c.loop-sort.sort in
    let small : n < length g.sorts = subst (λ (list : List Sort). n < length list) c.as_slice-declared.ensures c.loop-sort-test.true in
    let attrs : c.as_slice-attrs.result.now ≡ attrs_of_sort g.sorts n =
    c.as_slice-attrs.ensures ∙ ap (λ (list : List Sort). (get_or list n c.index-declared-sort.result).attrs) c.as_slice-declared.ensures
    ∙ sym (attrs_at g.sorts n c.index-declared-sort.result small) in
    let many = c.requires.tables.tables in
    let found : c.index.result.now ≡ table_at tables n = c.index.ensures ∙ get_or_default tables n c.index.result.now nothing (omega arith) in
    ap (λ (r : Pairs). r.points) found ∙ c.requires.tables.sort_points n ∙ sym (ap length attrs)

pub partition-requires-clause-transitive : goal.partition-requires-clause-transitive
partition-requires-clause-transitive c =
    let g = c.args.grammar.now in
    let tables = c.args.tables.now.sorts.items in
    let n = c.loop-sort.sort in
    let small : n < length g.sorts = subst (λ (list : List Sort). n < length list) c.as_slice-declared.ensures c.loop-sort-test.true in
    let attrs : c.as_slice-attrs.result.now ≡ attrs_of_sort g.sorts n =
    c.as_slice-attrs.ensures ∙ ap (λ (list : List Sort). (get_or list n c.index-declared-sort.result).attrs) c.as_slice-declared.ensures
    ∙ sym (attrs_at g.sorts n c.index-declared-sort.result small) in
    let many = c.requires.tables.tables in
    let found : c.index.result.now ≡ table_at tables n = c.index.ensures ∙ get_or_default tables n c.index.result.now nothing (omega arith) in
    subst (λ (r : Pairs). IsTransitive (Has r)) (sym found)
    (table_transitive (grammar_of g) c.args.given.now c.requires.there n (table_at tables n) (c.requires.tables.induced n))

pub partition-requires-clause-acyclic : goal.partition-requires-clause-acyclic
partition-requires-clause-acyclic c =
    let g = c.args.grammar.now in
    let tables = c.args.tables.now.sorts.items in
    let n = c.loop-sort.sort in
    let small : n < length g.sorts = subst (λ (list : List Sort). n < length list) c.as_slice-declared.ensures c.loop-sort-test.true in
    let attrs : c.as_slice-attrs.result.now ≡ attrs_of_sort g.sorts n =
    c.as_slice-attrs.ensures ∙ ap (λ (list : List Sort). (get_or list n c.index-declared-sort.result).attrs) c.as_slice-declared.ensures
    ∙ sym (attrs_at g.sorts n c.index-declared-sort.result small) in
    let many = c.requires.tables.tables in
    let found : c.index.result.now ≡ table_at tables n = c.index.ensures ∙ get_or_default tables n c.index.result.now nothing (omega arith) in
    subst (λ (r : Pairs). IsAcyclic (Has r)) (sym found)
    (table_acyclic (grammar_of g) c.args.given.now c.requires.there n (table_at tables n) (c.requires.tables.induced n) c.requires.acyclic)

pub loop-sort-preserved : goal.loop-sort-preserved
loop-sort-preserved c =
    let g = c.args.grammar.now in
    let tables = c.args.tables.now.sorts.items in
    let n = c.loop-sort.sort in
    let small : n < length g.sorts = subst (λ (list : List Sort). n < length list) c.as_slice-declared.ensures c.loop-sort-test.true in
    let attrs : c.as_slice-attrs.result.now ≡ attrs_of_sort g.sorts n =
    c.as_slice-attrs.ensures ∙ ap (λ (list : List Sort). (get_or list n c.index-declared-sort.result).attrs) c.as_slice-declared.ensures
    ∙ sym (attrs_at g.sorts n c.index-declared-sort.result small) in
    let many = c.requires.tables.tables in
    let found : c.index.result.now ≡ table_at tables n = c.index.ensures ∙ get_or_default tables n c.index.result.now nothing (omega arith) in
    let is : IsPartition (grammar_of g) c.args.given.now n c.in_ok-partition.field-0 =
    c.in_ok-partition.ensures (grammar_of g) c.args.given.now n
    (record {
      there = c.requires.there;
      attributes = attrs;
      exact = subst (λ (r : Pairs). HasExactly r (Induced (grammar_of g) c.args.given.now n)) (sym found) (c.requires.tables.induced n);
    }) in
    let count = c.loop-sort.invariant.count in
    let grown = c.in_ok-push.ensures.ok in
    record {
      count = ap length grown ∙ length-append c.loop-sort.sorts (c.in_ok-partition.field-0 ∷ []) ∙ ap (λ k. k + 1) count;
      each = λ s found e.
          pushed (IsPartition (grammar_of g) c.args.given.now) c.loop-sort.sorts c.in_ok-partition.field-0 c.loop-sort.invariant.each
          (subst (λ k. IsPartition (grammar_of g) c.args.given.now k c.in_ok-partition.field-0) (sym count) is) s found
          (subst (λ (list : List Partition). slice_get list s ≡ Some found) grown e);
    }

pub returns-clause-are : goal.returns-clause-are
returns-clause-are c =
    let g = c.args.grammar.now in
    let end = c.loop-sort-test.false in
    let high = c.loop-sort.auto.sort-end in
    let count = c.loop-sort.invariant.count in
    let number = ap length c.as_slice-declared.ensures in
    record {
      sorts = omega arith;
      each = λ s found e.
          subst (λ (list : List Given). IsPartition (grammar_of g) list s found) (sym c.in_ok-from_slice.ensures) (c.loop-sort.invariant.each s found e);
    }
