use Rattle.std.proofs.Common.{ℕ, ◌↔◌, ◌⊎◌, ◌≡◌, List, map, All, sym, ap₂, subst, subst₂, ◌∙◌, length}
use Rattle.std.specs.List.{AllZip}
use Rattle.lrc_base.specs.declared.grammar.Sort.{Sort}
use Rattle.lrc_base.specs.declared.grammar.Production.{Production}
use Rattle.lrc_meaning.specs.Grammar.{occurrences_of}
use Rattle.lrc_grammar.specs.Grammar.{grammar_of}
use Rattle.lrc_order_meaning.specs.declared.Place.{Place}
use Rattle.lrc_order_meaning.specs.Needs.{needs_of, places_of}
use Rattle.lrc_ordered.specs.Setup.{IsNeedBelow, HasNeeds, IsEmptyTable}
use Rattle.lrc_ordered.specs.Tables.{AreTables, AreSettled, HasAt}
use Rattle.lrc_ordered.proofs.SetupLemmas.{IsPut}
use Rattle.lrc_ordered.proofs.BridgeLemmas.{closed_within, given_within, ready, induced_made}
use Rattle.lrc_ordered.proofs.induce.induced.Goals as goal

pub with_given-handed-requires : goal.with_given-handed-requires
with_given-handed-requires c =
    given_within c.args.grammar.now.sorts c.args.given.now c.in_ok-empty_tables.field-0.items
    (subst (λ (ss : List Sort). AllZip IsEmptyTable ss c.in_ok-empty_tables.field-0.items) c.as_slice-sorts.ensures c.in_ok-empty_tables.ensures) c.requires.there

pub settled-relations-requires : goal.settled-relations-requires
settled-relations-requires c =
    let g = c.args.grammar.now in
    let made : c.in_ok-places.places ≡ map (places_of g.sorts) g.prods =
    c.in_ok-places.ensures in
    subst (λ (ps : List (List Place)). AreTables c.in_ok-relations.relations.items c.with_given-handed.result.items ps) (sym c.as_slice-4.ensures)
    (ready (grammar_of g) g.ok c.requires.small c.args.given.now c.in_ok-relations.relations.items c.in_ok-empty_tables.field-0.items c.with_given-handed.result.items c.in_ok-places.places
    c.in_ok-relations.ensures
    made
    (subst (λ (ss : List Sort). AllZip IsEmptyTable ss c.in_ok-empty_tables.field-0.items) c.as_slice-sorts.ensures c.in_ok-empty_tables.ensures)
    c.with_given-handed.ensures.number c.with_given-handed.ensures.points
    (subst (λ (ps : List (List Place)). (s x y : ℕ) → HasAt c.with_given-handed.result.items s x y
    ↔ (HasAt c.in_ok-empty_tables.field-0.items s x y ⊎ IsPut ps c.args.given.now s x y)) c.as_slice-3.ensures c.with_given-handed.ensures.pairs))

pub returns : goal.returns
returns c =
    let g = c.args.grammar.now in
    let made : c.in_ok-places.places ≡ map (places_of g.sorts) g.prods =
    c.in_ok-places.ensures in
    let needs : c.in_ok-needs.needs ≡ map (needs_of g.sorts) g.prods =
    c.in_ok-needs.ensures ∙ ap₂ (λ (ss : List Sort) (ps : List Production). map (needs_of ss) ps) c.as_slice-sorts.ensures c.as_slice-prods.ensures in
    induced_made (grammar_of g) g.ok c.requires.small c.args.given.now c.in_ok-relations.relations.items c.in_ok-empty_tables.field-0.items c.with_given-handed.result.items c.in_ok-places.places
    c.in_ok-relations.ensures
    made
    (subst (λ (ss : List Sort). AllZip IsEmptyTable ss c.in_ok-empty_tables.field-0.items) c.as_slice-sorts.ensures c.in_ok-empty_tables.ensures)
    c.with_given-handed.ensures.number c.with_given-handed.ensures.points
    (subst (λ (ps : List (List Place)). (s x y : ℕ) → HasAt c.with_given-handed.result.items s x y
    ↔ (HasAt c.in_ok-empty_tables.field-0.items s x y ⊎ IsPut ps c.args.given.now s x y)) c.as_slice-3.ensures c.with_given-handed.ensures.pairs)
    c.settled-relations.result.0.items c.settled-relations.result.1.items c.in_ok-needs.needs needs
    (subst (λ (ps : List (List Place)). AreSettled c.in_ok-relations.relations.items c.settled-relations.result.0.items c.with_given-handed.result.items c.settled-relations.result.1.items ps)
    c.as_slice-4.ensures c.settled-relations.ensures)
