use Rattle.std.proofs.Common.{◌≡◌, ◌<◌, ◌^◌, ◌++◌, List, All, length, map, subst, sym, ap, ◌∙◌}
use Rattle.std.specs.Prelude.{flat_map}
use Rattle.std.specs.List.{range_with_len}
use Rattle.std.proofs.lemmas.List.Elements.{All-weaker}
use Rattle.lrc_meaning.specs.Grammar.{occurrences_of}
use Rattle.lrc_meaning.specs.Signature.{role_of}
use Rattle.lrc_order_meaning.specs.declared.Need.{Need}
use Rattle.lrc_order_meaning.specs.Needs.{equation_needs, tree_needs, places_of}
use Rattle.lrc_ordered.specs.Setup.{IsNeedBelow}
use Rattle.lrc_plan_meaning.specs.declared.Bound.{Bound}
use Rattle.lrc_plan_meaning.specs.Items.{firsts_of, extended_of}
use Rattle.lrc_plan_meaning.specs.Sequences.{is_defined}
use Rattle.lrc_plan.specs.declared.waiting.Waiting.{Waiting}
use Rattle.lrc_plan.specs.Waiting.{waiting_evaluation}
use Rattle.lrc_plan.proofs.InLemmas.{extended_in}
use Rattle.lrc_plan.proofs.PairLemmas.{lists_count, lists_are, all_front}
use Rattle.lrc_plan.proofs.VisitLemmas.{passed}
use Rattle.lrc_plan.proofs.WaitingLemmas.{count_is, roles_are, evaluations_wait}
use Rattle.lrc_plan.proofs.waiting.evaluations.Goals as goal

pub firsts-requires : goal.firsts-requires
firsts-requires c =
    let site = c.args.site.now in
    let p = site.production.now in
    let total = length (occurrences_of site.sorts.now p) in
    let count = count_is site.sorts.now p site.signature.now site.signed c.as_slice-occurrences.result.now c.as_slice-occurrences.ensures in
    let read : c.as_slice.result.now ≡ flat_map equation_needs p.equations = c.as_slice.ensures ∙ c.in_ok-read.ensures in
    let front = all_front (IsNeedBelow total) (flat_map equation_needs p.equations) (flat_map (tree_needs site.sorts.now) (places_of site.sorts.now p)) site.below in
    let ends = All-weaker (IsNeedBelow total) (λ (n : Need). n.then < total) (λ n h. h.1) (flat_map equation_needs p.equations) front in
    subst (λ (ns : List Need). All (λ (n : Need). n.then < length c.as_slice-occurrences.result.now) ns) (sym read)
    (subst (λ k. All (λ (n : Need). n.then < k) (flat_map equation_needs p.equations)) (sym count) ends)

pub firsts-requires-2 : goal.firsts-requires-2
firsts-requires-2 c =
    let site = c.args.site.now in
    let p = site.production.now in
    let count = count_is site.sorts.now p site.signature.now site.signed c.as_slice-occurrences.result.now c.as_slice-occurrences.ensures in
    subst (λ (ns : List Need). All (λ (n : Need). n.then < length c.as_slice-occurrences.result.now) ns) (sym (c.as_slice-2.ensures ∙ c.in_ok-pairs.ensures))
    (subst (λ k. All (λ (n : Need). n.then < k) (extended_of site.sorts.now site.parts.now p)) (sym count) (extended_in site.sorts.now site.parts.now p site.below))

pub push_evaluations-requires-clause-few : goal.push_evaluations-requires-clause-few
push_evaluations-requires-clause-few c =
    let site = c.args.site.now in
    let count = count_is site.sorts.now site.production.now site.signature.now site.signed c.as_slice-occurrences.result.now c.as_slice-occurrences.ensures in
    subst (λ n. n < 2 ^ 32) (sym count) site.few

pub push_evaluations-requires-clause-lists : goal.push_evaluations-requires-clause-lists
push_evaluations-requires-clause-lists c =
    let count = length c.as_slice-occurrences.result.now in (
      ap (length {A = List Bound}) c.deref.ensures.value ∙ lists_count c.as_slice.result.now count c.in_ok-needs.needs.items c.in_ok-needs.ensures,
      ap (length {A = List Bound}) c.deref-2.ensures.value ∙ lists_count c.as_slice-2.result.now count c.in_ok-awaits.awaits.items c.in_ok-awaits.ensures,
    )

pub returns : goal.returns
returns c =
    let site = c.args.site.now in
    let sorts = site.sorts.now in
    let parts = site.parts.now in
    let p = site.production.now in
    let total = length (occurrences_of sorts p) in
    let occurrences = c.as_slice-occurrences.result.now in
    let count = count_is sorts p site.signature.now site.signed occurrences c.as_slice-occurrences.ensures in
    let needs : c.deref.result.now ≡ map (firsts_of (flat_map equation_needs p.equations)) (range_with_len 0 total) =
    c.deref.ensures.value
    ∙ lists_are c.as_slice.result.now (flat_map equation_needs p.equations) (length occurrences) total c.in_ok-needs.needs.items c.in_ok-needs.ensures
    (c.as_slice.ensures ∙ c.in_ok-read.ensures) count in
    let awaits : c.deref-2.result.now ≡ map (firsts_of (extended_of sorts parts p)) (range_with_len 0 total) =
    c.deref-2.ensures.value
    ∙ lists_are c.as_slice-2.result.now (extended_of sorts parts p) (length occurrences) total c.in_ok-awaits.awaits.items c.in_ok-awaits.ensures
    (c.as_slice-2.ensures ∙ c.in_ok-pairs.ensures) count in
    let roles = roles_are sorts p site.signature.now site.signed occurrences c.as_slice-occurrences.ensures in
    c.in_ok-push_evaluations.ensures
    ∙ ap (λ (ws : List Waiting). ws ++ passed (waiting_evaluation c.deref.result.now c.deref-2.result.now) (is_defined (map role_of occurrences)) (length occurrences)) c.new-waiting.ensures.items
    ∙ ap (λ n. passed (waiting_evaluation c.deref.result.now c.deref-2.result.now) (is_defined (map role_of occurrences)) n) count
    ∙ ap (λ xs. passed (waiting_evaluation c.deref.result.now c.deref-2.result.now) (is_defined xs) total) roles
    ∙ evaluations_wait sorts parts p c.deref.result.now c.deref-2.result.now needs awaits
