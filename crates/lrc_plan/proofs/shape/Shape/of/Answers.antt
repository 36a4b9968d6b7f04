use Rattle.std.proofs.Common.{◌≡◌, ℕ, ◌<◌, ◌^◌, List, length, map, sym, ap, subst, ◌∙◌, refl, arith}
use Rattle.lrc_base.specs.declared.grammar.Sort.{Sort}
use Rattle.lrc_base.specs.declared.grammar.Production.{Production}
use Rattle.lrc_meaning.specs.Grammar.{occurrences_of}
use Rattle.lrc_order_meaning.specs.declared.Partition.{Partition}
use Rattle.lrc_order_meaning.specs.declared.Place.{Place}
use Rattle.lrc_order_meaning.specs.Needs.{symbols_of}
use Rattle.lrc_plan_meaning.specs.Items.{visits_of}
use Rattle.lrc_plan.specs.Gaining.{shape_of}
use Rattle.lrc_plan.proofs.WaitingLemmas.{count_is}
use Rattle.lrc_plan.proofs.shape.Shape.of.Goals as goal

shaped : (sorts : List Sort) (parts : List Partition) (p : Production) (occurrences : ℕ) (visits : List ℕ) → occurrences ≡ length (occurrences_of sorts p)
    → visits ≡ map (λ (place : Place). visits_of parts place.sort) (symbols_of sorts p) → record { occurrences = occurrences; visits = visits } ≡ shape_of sorts parts p
shaped sorts parts p occurrences visits count are = rw (count, are) refl

pub overflow_cast-result : goal.overflow_cast-result
overflow_cast-result c =
    let site = c.args.site.now in
    let count = count_is site.sorts.now site.production.now site.signature.now site.signed site.signature.now.occurrences refl in
    let small : c.len.result < 2 ^ 32 = subst (λ n. n < 2 ^ 32) (sym (c.len.ensures ∙ count)) site.few in
    omega arith

pub returns : goal.returns
returns c =
    let site = c.args.site.now in
    let count = count_is site.sorts.now site.production.now site.signature.now site.signed site.signature.now.occurrences refl in
    shaped site.sorts.now site.parts.now site.production.now c.len.result c.in_ok-visits_of_each.field-0 (c.len.ensures ∙ count)
    (c.in_ok-visits_of_each.ensures ∙ ap (map (λ (place : Place). visits_of site.parts.now place.sort)) c.symbols.ensures)
