use Rattle.std.proofs.Common.{◌≡◌, ℕ, List, length, slice_get, ap, ◌∙◌}
use Rattle.std.proofs.lemmas.Result.{IfOk-weaker}
use Rattle.lrc_base.specs.declared.grammar.Production.{Production}
use Rattle.lrc_base.specs.declared.signature.Signature.{Signature}
use Rattle.lrc_meaning.specs.Grammar.{occurrences_of}
use Rattle.lrc_meaning.specs.Signature.{signature_of}
use Rattle.lrc_meaning.proofs.SignatureLemmas.{signed_count}
use Rattle.lrc_plan.proofs.ReadLemmas.{in_some}
use Rattle.lrc_functions.specs.Numbers.{rows_from, end_from, symbol_visits, item_count}
use Rattle.lrc_functions.proofs.functions.numbers_of.Goals as goal

pub returns-clause-numbers : goal.returns-clause-numbers
returns-clause-numbers c =
    let plan = c.args.plan.now in
    let p = c.args.production.now in
    let visits : c.as_slice.result.now ≡ symbol_visits plan.grammar.sorts plan.parts.sorts p =
    c.as_slice.ensures
    ∙ in_some (λ (q : Production). c.in_ok-visits.visits ≡ symbol_visits plan.grammar.sorts plan.parts.sorts q) (slice_get plan.grammar.prods c.args.number) p c.requires c.in_ok-visits.ensures in
    let signature : c.signature.result.now ≡ signature_of plan.grammar.sorts p =
    in_some (λ (q : Production). c.signature.result.now ≡ signature_of plan.grammar.sorts q) (slice_get plan.grammar.prods c.args.number) p c.requires c.signature.ensures in
    let occurrences : c.in_ok-occurrences.occurrences ≡ length (occurrences_of plan.grammar.sorts p) =
    c.in_ok-occurrences.ensures ∙ c.len.ensures ∙ ap (λ (s : Signature). length s.occurrences) signature ∙ signed_count plan.grammar.sorts p in
    let same : rows_from c.in_ok-occurrences.occurrences c.as_slice.result.now ≡ rows_from (length (occurrences_of plan.grammar.sorts p)) (symbol_visits plan.grammar.sorts plan.parts.sorts p) =
    ap (λ n. rows_from n c.as_slice.result.now) occurrences ∙ ap (λ (ns : List ℕ). rows_from (length (occurrences_of plan.grammar.sorts p)) ns) visits in
    IfOk-weaker c.new.result (λ found. found.0 ≡ rows_from c.in_ok-occurrences.occurrences c.as_slice.result.now)
    (λ found. found.0 ≡ rows_from (length (occurrences_of plan.grammar.sorts p)) (symbol_visits plan.grammar.sorts plan.parts.sorts p)) (λ found is. is ∙ same) c.new.ensures.numbers

pub returns-clause-count : goal.returns-clause-count
returns-clause-count c =
    let plan = c.args.plan.now in
    let p = c.args.production.now in
    let visits : c.as_slice.result.now ≡ symbol_visits plan.grammar.sorts plan.parts.sorts p =
    c.as_slice.ensures
    ∙ in_some (λ (q : Production). c.in_ok-visits.visits ≡ symbol_visits plan.grammar.sorts plan.parts.sorts q) (slice_get plan.grammar.prods c.args.number) p c.requires c.in_ok-visits.ensures in
    let signature : c.signature.result.now ≡ signature_of plan.grammar.sorts p =
    in_some (λ (q : Production). c.signature.result.now ≡ signature_of plan.grammar.sorts q) (slice_get plan.grammar.prods c.args.number) p c.requires c.signature.ensures in
    let occurrences : c.in_ok-occurrences.occurrences ≡ length (occurrences_of plan.grammar.sorts p) =
    c.in_ok-occurrences.ensures ∙ c.len.ensures ∙ ap (λ (s : Signature). length s.occurrences) signature ∙ signed_count plan.grammar.sorts p in
    let same : end_from c.in_ok-occurrences.occurrences c.as_slice.result.now ≡ item_count plan.grammar.sorts plan.parts.sorts p =
    ap (λ n. end_from n c.as_slice.result.now) occurrences ∙ ap (λ (ns : List ℕ). end_from (length (occurrences_of plan.grammar.sorts p)) ns) visits in
    IfOk-weaker c.new.result (λ found. found.1 ≡ end_from c.in_ok-occurrences.occurrences c.as_slice.result.now)
    (λ found. found.1 ≡ item_count plan.grammar.sorts plan.parts.sorts p) (λ found is. is ∙ same) c.new.ensures.count
