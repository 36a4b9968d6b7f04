use Rattle.std.proofs.Common.{◌≡◌, ◌<◌, ◌+◌, List, All, length, take, sym, ap, subst, ◌∙◌, Contains, arith}
use Rattle.std.specs.List.{AllZip}
use Rattle.lrc_graph.specs.Pairs.{HasExactly}
use Rattle.lrc_base.specs.declared.signature.Signature.{Signature}
use Rattle.lrc_grammar.specs.Grammar.{grammar_of}
use Rattle.lrc_order_meaning.specs.declared.Need.{Need}
use Rattle.lrc_order_meaning.specs.Needs.{need, needs_of}
use Rattle.lrc_ordered.specs.Setup.{HasNeeds, IsNeedBelow}
use Rattle.lrc_ordered.proofs.SetupLemmas.{zip_more, paths_of}
use Rattle.lrc_ordered.proofs.SignedLemmas.{few_at, needs_at, within_at}
use Rattle.lrc_ordered.proofs.setup.closed_tables.Goals as goal

pub overflow_cast-points : goal.overflow_cast-points
overflow_cast-points c =
    let g = c.args.grammar.now in
    let few = few_at (grammar_of g) c.as_slice-signatures.result.now (c.as_slice-signatures.ensures ∙ g.signed) c.requires.few c.loop-i.i c.index-signatures-i.result c.loop-i-test.true c.index-signatures-i.is in
    let small = few.few in
    let count : c.len-points.result ≡ length c.index-signatures-i.result.occurrences = c.len-points.ensures ∙ ap (λ (s : Signature). length s.occurrences) (sym c.index-signatures-i.is) in
    omega arith

pub needs_table-requires-clause-few : goal.needs_table-requires-clause-few
needs_table-requires-clause-few c =
    let g = c.args.grammar.now in
    let few = few_at (grammar_of g) c.as_slice-signatures.result.now (c.as_slice-signatures.ensures ∙ g.signed) c.requires.few c.loop-i.i c.index-signatures-i.result c.loop-i-test.true c.index-signatures-i.is in
    subst (λ n. n < 1024) (sym (c.len-points.ensures ∙ ap (λ (s : Signature). length s.occurrences) (sym c.index-signatures-i.is))) few.few

pub needs_table-requires-clause-within : goal.needs_table-requires-clause-within
needs_table-requires-clause-within c =
    let g = c.args.grammar.now in
    let few = few_at (grammar_of g) c.as_slice-signatures.result.now (c.as_slice-signatures.ensures ∙ g.signed) c.requires.few c.loop-i.i c.index-signatures-i.result c.loop-i-test.true c.index-signatures-i.is in
    subst (λ n. All (IsNeedBelow n) c.as_slice.result.now) (sym (c.len-points.ensures ∙ ap (λ (s : Signature). length s.occurrences) (sym c.index-signatures-i.is)))
    (subst (λ (ns : List Need). All (IsNeedBelow (length c.index-signatures-i.result.occurrences)) ns) (sym c.as_slice.ensures)
    (within_at (grammar_of g) c.args.needs.now c.requires.needs c.loop-i.i g.ok c.index-needs-i.result (length c.index-signatures-i.result.occurrences) few c.index-needs-i.is))

pub loop-i-preserved : goal.loop-i-preserved
loop-i-preserved c =
    let g = c.args.grammar.now in
    let few = few_at (grammar_of g) c.as_slice-signatures.result.now (c.as_slice-signatures.ensures ∙ g.signed) c.requires.few c.loop-i.i c.index-signatures-i.result c.loop-i-test.true c.index-signatures-i.is in
    let list : c.as_slice.result.now ≡ needs_of g.sorts few.production =
    c.as_slice.ensures ∙ needs_at (grammar_of g) c.args.needs.now c.requires.needs c.loop-i.i c.index-needs-i.result few.production c.index-needs-i.is few.index few.there in
    subst (λ ts. AllZip (HasNeeds g.sorts) (take (c.loop-i.i + 1) g.prods) ts) (sym c.in_ok-push.ensures.items)
    (zip_more (HasNeeds g.sorts) g.prods c.loop-i.tables.items c.loop-i.i few.production c.close.new.self
    few.index few.there c.loop-i.invariant
    (record {
      points = c.close.ensures.points ∙ c.in_ok-relation.ensures.points ∙ (c.len-points.ensures ∙ ap (λ (s : Signature). length s.occurrences) (sym c.index-signatures-i.is)) ∙ few.points;
      closed = c.close.ensures.closed;
      pairs = paths_of c.in_ok-relation.relation c.close.new.self (λ x y. Contains (needs_of g.sorts few.production) (need x y))
          (subst (λ (ns : List Need). HasExactly c.in_ok-relation.relation (λ x y. Contains ns (need x y))) list c.in_ok-relation.ensures.pairs) c.close.ensures.pairs;
    }))
