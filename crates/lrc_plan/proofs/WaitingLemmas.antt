-- The actions that wait are those of the definition.
use Rattle.std.proofs.Common.{◌≡◌, ℕ, ◌<◌, ◌++◌, List, [], ◌∷◌, length, map, get_or, Some, false, sym, ap, ◌∙◌, arith}
use Rattle.std.specs.Prelude.{filter, flat_map}
use Rattle.std.specs.List.{range_with_len}
use Rattle.std.specs.Option.{option_map_or}
use Rattle.std.proofs.lemmas.Option.{slice_get-get_or}
use Rattle.std.proofs.lemmas.List.{map-append, get_or_default, get_or-map, length-map}
use Rattle.std.proofs.lemmas.Simd.{map-map}
use Rattle.std.proofs.lemmas.List.FromFn.{get_or-map-range_with_len}
use Rattle.lrc_base.specs.declared.grammar.Sort.{Sort}
use Rattle.lrc_base.specs.declared.grammar.Production.{Production}
use Rattle.lrc_base.specs.declared.signature.Occurrence as signed
use Rattle.lrc_base.specs.declared.signature.Signature.{Signature}
use Rattle.lrc_meaning.specs.Grammar.{Occurrence, occurrences_of}
use Rattle.lrc_meaning.specs.Signature.{role_of, signature_of}
use Rattle.lrc_meaning.proofs.SignatureLemmas.{signed_roles, signed_count}
use Rattle.lrc_order_meaning.specs.declared.Partition.{Partition}
use Rattle.lrc_order_meaning.specs.Needs.{symbols_of, equation_needs}
use Rattle.lrc_plan_meaning.specs.declared.Action.TheVariants as a
use Rattle.lrc_plan_meaning.specs.declared.Bound.{Bound}
use Rattle.lrc_plan_meaning.specs.declared.Bound.TheVariants as item
use Rattle.lrc_plan_meaning.specs.Items.{firsts_of, extended_of}
use Rattle.lrc_plan_meaning.specs.Sequences.{is_defined, visits_at, actions_of}
use Rattle.lrc_plan.specs.declared.waiting.Waiting.{Waiting}
use Rattle.lrc_plan.specs.Waiting.{waiting_of, waiting_evaluation}
use Rattle.lrc_plan.proofs.VisitLemmas.{passed, passed_same}
use Rattle.lrc_plan.proofs.ListLemmas.{map_flat}

pub defined_at : (occurrences : List Occurrence) (i : ℕ) (x : Occurrence) → i < length occurrences → x ≡ get_or occurrences i x → is_defined occurrences i ≡ x.is_defined
defined_at occurrences i x there is =
    ap (λ found. option_map_or (λ (o : Occurrence). o.is_defined) found false) (slice_get-get_or occurrences i x there ∙ ap Some (sym is))

-- what is told of the occurrences of a signature
pub role_defined : (occurrences : List signed.Occurrence) (i : ℕ) (x : signed.Occurrence) → i < length occurrences → x ≡ get_or occurrences i x
    → is_defined (map role_of occurrences) i ≡ x.is_defined
role_defined occurrences i x there is =
    let count = length-map occurrences role_of in
    defined_at (map role_of occurrences) i (role_of x) (omega arith) (ap role_of is ∙ sym (get_or-map role_of occurrences i x (role_of x) there))

module _ (sorts : List Sort) (p : Production) (signature : Signature) (is : signature ≡ signature_of sorts p) (occurrences : List signed.Occurrence) (are : occurrences ≡ signature.occurrences) where
  pub roles_are : map role_of occurrences ≡ occurrences_of sorts p
  roles_are = ap (map role_of) are ∙ ap (λ (s : Signature). map role_of s.occurrences) is ∙ signed_roles sorts p

  pub count_is : length occurrences ≡ length (occurrences_of sorts p)
  count_is = ap length are ∙ ap (λ (s : Signature). length s.occurrences) is ∙ signed_count sorts p

pub evaluation_made : (needs awaits : List (List Bound)) (o : ℕ) (needed awaited : List Bound) → o < length needs → o < length awaits
    → needed ≡ get_or needs o needed → awaited ≡ get_or awaits o awaited
    → record { step = record { action = a.Eval o; needs = needed; makes = item.Value o ∷ [] }; awaits = awaited; checked = 0 } ≡ waiting_evaluation needs awaits o
evaluation_made needs awaits o needed awaited one other n w =
    let x = n ∙ get_or_default needs o needed [] one in
    let y = w ∙ get_or_default awaits o awaited [] other in
    ap (λ (list : List Bound). record { step = record { action = a.Eval o; needs = list; makes = item.Value o ∷ [] }; awaits = awaited; checked = 0 }) x
    ∙ ap (λ (list : List Bound). record { step = record { action = a.Eval o; needs = get_or needs o []; makes = item.Value o ∷ [] }; awaits = list; checked = 0 }) y

module _ (sorts : List Sort) (parts : List Partition) (p : Production) where
  abbrev total : ℕ
  total = length (occurrences_of sorts p)

  pub evaluations_wait : (needs awaits : List (List Bound)) → needs ≡ map (firsts_of (flat_map equation_needs p.equations)) (range_with_len 0 total)
      → awaits ≡ map (firsts_of (extended_of sorts parts p)) (range_with_len 0 total)
      → passed (waiting_evaluation needs awaits) (is_defined (occurrences_of sorts p)) total
      ≡ passed (λ o. waiting_of sorts parts p (a.Eval o)) (is_defined (occurrences_of sorts p)) total
  evaluations_wait needs awaits needs_are awaits_are =
      passed_same (waiting_evaluation needs awaits) (λ o. waiting_of sorts parts p (a.Eval o)) (is_defined (occurrences_of sorts p)) total
      (λ o less.
      let n : get_or needs o [] ≡ firsts_of (flat_map equation_needs p.equations) o =
      ap (λ (all : List (List Bound)). get_or all o []) needs_are
      ∙ get_or-map-range_with_len (firsts_of (flat_map equation_needs p.equations)) 0 total o o [] less (omega arith) in
      let w : get_or awaits o [] ≡ firsts_of (extended_of sorts parts p) o =
      ap (λ (all : List (List Bound)). get_or all o []) awaits_are
      ∙ get_or-map-range_with_len (firsts_of (extended_of sorts parts p)) 0 total o o [] less (omega arith) in
      cc)

  pub all_wait : (waiting all : List Waiting)
      → waiting ≡ map (λ o. waiting_of sorts parts p (a.Eval o)) (filter (is_defined (occurrences_of sorts p)) (range_with_len 0 total))
      → all ≡ waiting ++ flat_map (λ s. map (waiting_of sorts parts p) (visits_at sorts parts p s)) (range_with_len 0 (length (symbols_of sorts p)))
      → all ≡ map (waiting_of sorts parts p) (actions_of sorts parts p)
  all_wait waiting all are grown =
      let evals = map a.Eval (filter (is_defined (occurrences_of sorts p)) (range_with_len 0 total)) in
      let visits = flat_map (visits_at sorts parts p) (range_with_len 0 (length (symbols_of sorts p))) in
      grown
      ∙ ap (λ (ws : List Waiting). ws ++ flat_map (λ s. map (waiting_of sorts parts p) (visits_at sorts parts p s)) (range_with_len 0 (length (symbols_of sorts p))))
      (are ∙ sym (map-map (waiting_of sorts parts p) a.Eval (filter (is_defined (occurrences_of sorts p)) (range_with_len 0 total))))
      ∙ ap (λ (ws : List Waiting). map (waiting_of sorts parts p) evals ++ ws)
      (sym (map_flat (waiting_of sorts parts p) (visits_at sorts parts p) (range_with_len 0 (length (symbols_of sorts p)))))
      ∙ sym (map-append (waiting_of sorts parts p) evals visits)
