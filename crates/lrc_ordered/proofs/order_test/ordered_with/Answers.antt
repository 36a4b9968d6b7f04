use Rattle.std.proofs.Common.{◌≡◌, ◌<◌, ℕ, List, [], length, get_or, All, ap, sym, subst, ◌∙◌}
use Rattle.lrc_base.specs.declared.grammar.Given.{Given}
use Rattle.lrc_graph.specs.Pairs.{Pairs}
use Rattle.lrc_grammar.specs.Grammar.{grammar_of}
use Rattle.lrc_order_meaning.specs.declared.Place.{Place}
use Rattle.lrc_order_meaning.specs.Induced.{Leads}
use Rattle.lrc_order_meaning.specs.Extended.{ExtendedPath}
use Rattle.lrc_order_meaning.specs.Ordered.{IsAcyclic}
use Rattle.lrc_ordered.specs.Cycles.{HasNone, IsFirst}
use Rattle.lrc_ordered.specs.Setup.{AreInduced, orders_of}
use Rattle.lrc_ordered.specs.Tables.{table_at, Closed, HandedAmong, FitsIn}
use Rattle.lrc_ordered.proofs.SmallLemmas.{few_is_small}
use Rattle.lrc_ordered.proofs.CycleLemmas.{no_cycle, first_is}
use Rattle.lrc_ordered.proofs.ExtendLemmas.{few_points, all_closed, orders_fit, extended_same}
use Rattle.lrc_ordered.proofs.order_test.ordered_with.Goals as goal

pub extended-relations-requires-clause-few : goal.extended-relations-requires-clause-few
extended-relations-requires-clause-few c =
    let g = c.args.grammar.now in
    let given = c.args.given.now in
    let t = c.in_ok-tables.tables in
    let made : AreInduced (grammar_of g) given t.places t.needs t.relations.items t.sorts.items =
    subst (λ (list : List Given). AreInduced (grammar_of g) list t.places t.needs t.relations.items t.sorts.items) c.as_slice.ensures c.in_ok-tables.ensures.tables in
    let kept : c.in-Ok.found.given ≡ given = c.in-Ok.ensures.given ∙ c.as_slice-2.ensures in
    few_points (grammar_of g) g.ok (few_is_small (grammar_of g) g.few) given c.in-Ok.found kept c.in-Ok.ensures.are t.places t.needs t.relations.items t.sorts.items made

pub extended-relations-requires-clause-closed : goal.extended-relations-requires-clause-closed
extended-relations-requires-clause-closed c =
    let g = c.args.grammar.now in
    let given = c.args.given.now in
    let t = c.in_ok-tables.tables in
    let made : AreInduced (grammar_of g) given t.places t.needs t.relations.items t.sorts.items =
    subst (λ (list : List Given). AreInduced (grammar_of g) list t.places t.needs t.relations.items t.sorts.items) c.as_slice.ensures c.in_ok-tables.ensures.tables in
    let kept : c.in-Ok.found.given ≡ given = c.in-Ok.ensures.given ∙ c.as_slice-2.ensures in
    all_closed (grammar_of g) g.ok (few_is_small (grammar_of g) g.few) given c.in-Ok.found kept c.in-Ok.ensures.are t.places t.needs t.relations.items t.sorts.items made

pub extended-relations-requires-clause-within : goal.extended-relations-requires-clause-within
extended-relations-requires-clause-within c =
    let g = c.args.grammar.now in
    let given = c.args.given.now in
    let t = c.in_ok-tables.tables in
    let made : AreInduced (grammar_of g) given t.places t.needs t.relations.items t.sorts.items =
    subst (λ (list : List Given). AreInduced (grammar_of g) list t.places t.needs t.relations.items t.sorts.items) c.as_slice.ensures c.in_ok-tables.ensures.tables in
    let kept : c.in-Ok.found.given ≡ given = c.in-Ok.ensures.given ∙ c.as_slice-2.ensures in
    subst (λ (places : List (List Place)). (i : ℕ) → i < length t.relations.items
    → All (FitsIn (orders_of c.sorts.result.now) (table_at t.relations.items i).points) (get_or places i [])) (sym c.as_slice-3.ensures)
    (subst (λ (orders : List Pairs). (i : ℕ) → i < length t.relations.items
    → All (FitsIn orders (table_at t.relations.items i).points) (get_or t.places i [])) (sym (ap orders_of c.sorts.ensures))
    (orders_fit (grammar_of g) g.ok (few_is_small (grammar_of g) g.few) given c.in-Ok.found kept c.in-Ok.ensures.are t.places t.needs t.relations.items t.sorts.items made))

pub returns-in-Some-clause-fault : goal.returns-in-Some-clause-fault
returns-in-Some-clause-fault c =
    let g = c.args.grammar.now in
    let given = c.args.given.now in
    let t = c.in_ok-tables.tables in
    let made : AreInduced (grammar_of g) given t.places t.needs t.relations.items t.sorts.items =
    subst (λ (list : List Given). AreInduced (grammar_of g) list t.places t.needs t.relations.items t.sorts.items) c.as_slice.ensures c.in_ok-tables.ensures.tables in
    let kept : c.in-Ok.found.given ≡ given = c.in-Ok.ensures.given ∙ c.as_slice-2.ensures in
    let one : orders_of c.sorts.result.now ≡ orders_of c.in-Ok.found.sorts = ap orders_of c.sorts.ensures in
    let closed : (i : ℕ) → i < length t.relations.items
    → Closed (table_at t.relations.items i) (table_at c.extended-relations.result.items i) (HandedAmong (orders_of c.in-Ok.found.sorts) (get_or t.places i [])) =
    subst (λ (places : List (List Place)). (i : ℕ) → i < length t.relations.items
    → Closed (table_at t.relations.items i) (table_at c.extended-relations.result.items i) (HandedAmong (orders_of c.in-Ok.found.sorts) (get_or places i []))) c.as_slice-3.ensures
    (subst (λ (orders : List Pairs). (i : ℕ) → i < length t.relations.items
    → Closed (table_at t.relations.items i) (table_at c.extended-relations.result.items i) (HandedAmong orders (get_or c.as_slice-3.result.now i []))) one c.extended-relations.ensures.closed) in
    let number = c.extended-relations.ensures.number ∙ made.productions in
    let exact = extended_same (grammar_of g) g.ok (few_is_small (grammar_of g) g.few) given c.in-Ok.found kept c.in-Ok.ensures.are t.places t.needs t.relations.items t.sorts.items made c.extended-relations.result.items closed in
    let acyclic : All (λ p. IsAcyclic (Leads (grammar_of g) given p)) g.prods =
    subst (λ (list : List Given). All (λ p. IsAcyclic (Leads (grammar_of g) list p)) g.prods) c.as_slice.ensures c.in_ok-tables.ensures.acyclic in (
      acyclic,
      first_is g.prods (ExtendedPath (grammar_of g) given) c.extended-relations.result.items number exact c.in-Some.cycle.production c.in-Some.cycle.occurrence
          (subst (λ (rs : List Pairs). IsFirst rs c.in-Some.cycle.production c.in-Some.cycle.occurrence) c.as_slice-4.ensures.value c.in-Some.ensures),
    )

pub returns-clause-ordered : goal.returns-clause-ordered
returns-clause-ordered c =
    let g = c.args.grammar.now in
    let given = c.args.given.now in
    let t = c.in_ok-tables.tables in
    let made : AreInduced (grammar_of g) given t.places t.needs t.relations.items t.sorts.items =
    subst (λ (list : List Given). AreInduced (grammar_of g) list t.places t.needs t.relations.items t.sorts.items) c.as_slice.ensures c.in_ok-tables.ensures.tables in
    let kept : c.in-Ok.found.given ≡ given = c.in-Ok.ensures.given ∙ c.as_slice-2.ensures in
    let one : orders_of c.sorts.result.now ≡ orders_of c.in-Ok.found.sorts = ap orders_of c.sorts.ensures in
    let closed : (i : ℕ) → i < length t.relations.items
    → Closed (table_at t.relations.items i) (table_at c.extended-relations.result.items i) (HandedAmong (orders_of c.in-Ok.found.sorts) (get_or t.places i [])) =
    subst (λ (places : List (List Place)). (i : ℕ) → i < length t.relations.items
    → Closed (table_at t.relations.items i) (table_at c.extended-relations.result.items i) (HandedAmong (orders_of c.in-Ok.found.sorts) (get_or places i []))) c.as_slice-3.ensures
    (subst (λ (orders : List Pairs). (i : ℕ) → i < length t.relations.items
    → Closed (table_at t.relations.items i) (table_at c.extended-relations.result.items i) (HandedAmong orders (get_or c.as_slice-3.result.now i []))) one c.extended-relations.ensures.closed) in
    let number = c.extended-relations.ensures.number ∙ made.productions in
    let exact = extended_same (grammar_of g) g.ok (few_is_small (grammar_of g) g.few) given c.in-Ok.found kept c.in-Ok.ensures.are t.places t.needs t.relations.items t.sorts.items made c.extended-relations.result.items closed in
    let acyclic : All (λ p. IsAcyclic (Leads (grammar_of g) given p)) g.prods =
    subst (λ (list : List Given). All (λ p. IsAcyclic (Leads (grammar_of g) list p)) g.prods) c.as_slice.ensures c.in_ok-tables.ensures.acyclic in
    record {
      induced = acyclic;
      extended = no_cycle g.prods (ExtendedPath (grammar_of g) given) c.extended-relations.result.items number exact
          (subst (λ (rs : List Pairs). HasNone rs) c.as_slice-4.ensures.value c.in-None.ensures);
    }

pub acyclic_induced-requires-clause-small : goal.acyclic_induced-requires-clause-small
acyclic_induced-requires-clause-small c = few_is_small (grammar_of c.args.grammar.now) c.args.grammar.now.few

pub partition_sorts-requires-clause-small : goal.partition_sorts-requires-clause-small
partition_sorts-requires-clause-small c = few_is_small (grammar_of c.args.grammar.now) c.args.grammar.now.few
