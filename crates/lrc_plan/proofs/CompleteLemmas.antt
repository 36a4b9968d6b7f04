-- In an ordered grammar every action of a production is made, and no other.
use Rattle.std.proofs.Common.{◌≡◌, ℕ, ◌-◌, ◌<◌, ◌≤◌, true, false, IsTrue, List, [], length, map, slice_get, All, Contains, Option, Some, None, inl, inr, refl, sym, arith}
use Rattle.std.specs.Prelude.{filter, flat_map}
use Rattle.std.specs.Option.{option_map_or}
use Rattle.std.specs.List.{range_with_len}
use Rattle.std.proofs.lemmas.Bool.{true≢false}
use Rattle.std.proofs.lemmas.Option.{slice_get_within}
use Rattle.std.proofs.lemmas.List.Elements.{All-append, All-map, All-contains, filter_passes}
use Rattle.lrc_base.specs.declared.grammar.Sort.{Sort}
use Rattle.lrc_base.specs.declared.grammar.Production.{Production}
use Rattle.lrc_meaning.specs.Grammar.{Grammar, Occurrence, occurrences_of, is_well_formed}
use Rattle.lrc_order_meaning.specs.declared.Partition.{Partition}
use Rattle.lrc_order_meaning.specs.Extended.{ExtendedPath}
use Rattle.lrc_order_meaning.specs.Needs.{symbols_of}
use Rattle.lrc_order_meaning.specs.Ordered.{Partitions, ArePartitions, IsGivenThere, IsAcyclic, IsOrdered}
use Rattle.lrc_ordered.proofs.RangeLemmas.{all_flat}
use Rattle.lrc_plan_meaning.specs.declared.Action.{Action}
use Rattle.lrc_plan_meaning.specs.declared.Action.TheVariants as a
use Rattle.lrc_plan_meaning.specs.Items.{visits_of, symbol_at}
use Rattle.lrc_plan_meaning.specs.Sequences.{is_defined, visits_at, actions_of, segment}
use Rattle.lrc_plan_meaning.specs.Sound.{IsDone, IsVisitThere, IsComplete}
use Rattle.lrc_plan_meaning.proofs.ExtendedLemmas.{partition_of}
use Rattle.lrc_plan_meaning.proofs.GreedyLemmas.{segments_are_of}
use Rattle.lrc_plan.proofs.InLemmas.{in_range, production_is_right}
use Rattle.lrc_plan.proofs.BindingLemmas.{segments_number}
use Rattle.lrc_plan.proofs.TraceLemmas.{eval_there, visit_there}
use Rattle.lrc_plan.proofs.BackLemmas.{visits_read, left_known, no_eval_left, no_visit_left}
use Rattle.lrc_plan.proofs.GivesLemmas.{EndsAt, end_of}

defined_over : (occurrences : List Occurrence) (i : ℕ) (o : Option Occurrence) → slice_get occurrences i ≡ o → option_map_or (λ (x : Occurrence). x.is_defined) o false ≡ true → i < length occurrences
defined_over occurrences i None e h = absurd (true≢false (sym h))
defined_over occurrences i (Some x) e h = slice_get_within occurrences i x e

pub defined_within : (occurrences : List Occurrence) (i : ℕ) → is_defined occurrences i ≡ true → i < length occurrences
defined_within occurrences i h = defined_over occurrences i (slice_get occurrences i) refl h

module _ (sorts : List Sort) (parts : List Partition) (p : Production) where
  abbrev IsOwn : Action → Type 0
  IsOwn (a.Eval o) = is_defined (occurrences_of sorts p) o ≡ true
  IsOwn (a.Visit s v) = IsVisitThere sorts parts p s v

  actions_own : All IsOwn (actions_of sorts parts p)
  actions_own =
      let total = length (occurrences_of sorts p) in
      let symbols = length (symbols_of sorts p) in
      All-append IsOwn (map a.Eval (filter (is_defined (occurrences_of sorts p)) (range_with_len 0 total))) (flat_map (visits_at sorts parts p) (range_with_len 0 symbols))
      (All-map IsOwn a.Eval (filter (is_defined (occurrences_of sorts p)) (range_with_len 0 total)) (filter_passes (is_defined (occurrences_of sorts p)) (range_with_len 0 total)))
      (all_flat (visits_at sorts parts p) IsOwn (range_with_len 0 symbols)
      (in_range (λ s. All IsOwn (visits_at sorts parts p s)) 0 symbols
      (λ s low less.
      let n = visits_of parts (symbol_at sorts p s).sort in
      All-map IsOwn (a.Visit s) (range_with_len 1 n) (in_range (λ v. IsOwn (a.Visit s v)) 1 n (λ v one le. record { symbol = omega arith; first = one; last = omega arith })))))

  -- what is done is one of the actions
  pub done_own : (x : Action) → IsDone sorts parts p x → IsOwn x
  done_own x done =
      let v = done.0 in
      let one = done.1 in
      let le = done.2 in
      let count = segments_number sorts parts p in
      All-contains IsOwn (segment sorts parts p v) x (segments_are_of sorts parts p IsOwn actions_own (v - 1) [] (omega arith)) done.3

module _ (g : Grammar) (well : IsTrue (is_well_formed g)) (found : Partitions) (are : ArePartitions g found) (there : All (IsGivenThere g.sorts) found.given)
    (p : Production) (in_grammar : Contains g.prods p) (acyclic : IsAcyclic (ExtendedPath g found.given p)) (some : 1 ≤ visits_of found.sorts p.left) where
  abbrev last : ℕ
  last = visits_of found.sorts p.left

  abbrev end : EndsAt g.sorts found.sorts p last
  end = end_of g.sorts found.sorts p last some (omega arith)

  abbrev done_of : (x : Action) → (Contains end.state.left x → ⊥) → Contains (actions_of g.sorts found.sorts p) x → IsDone g.sorts found.sorts p x
  done_of x not_left m =
      elim (end.left_or_done x m) [
        | inl left ↦ absurd (not_left left)
        | inr d ↦ let l = d.2 in (d.0, d.1, omega arith, d.3)
      ]

  pub is_complete : IsComplete g.sorts found.sorts p
  is_complete =
      let right = production_is_right g well p in_grammar in
      record {
        evaluates = λ o. (
          λ defined.
              done_of (a.Eval o) (no_eval_left g found are there p right end.state end.kept end.ended last end.taken acyclic (omega arith) o)
              (eval_there g.sorts found.sorts p end.state end.kept end.ended o (defined_within (occurrences_of g.sorts p) o defined) defined),
          λ done. done_own g.sorts found.sorts p (a.Eval o) done,
        );
        visits = λ s v. (
          λ h.
              done_of (a.Visit s v) (no_visit_left g found are there p right end.state end.kept end.ended last end.taken acyclic (omega arith) s v h.symbol h.first h.last)
              (visit_there g.sorts found.sorts p end.state end.kept end.ended s v h.symbol h.first h.last),
          λ done. done_own g.sorts found.sorts p (a.Visit s v) done,
        );
      }

pub ordered_complete : (g : Grammar) → IsTrue (is_well_formed g) → (found : Partitions) → ArePartitions g found → All (IsGivenThere g.sorts) found.given → IsOrdered g found.given
    → (p : Production) → Contains g.prods p → IsComplete g.sorts found.sorts p
ordered_complete g well found are there ordered p in_grammar =
    let known = left_known g found are there p (production_is_right g well p in_grammar) in
    let some = (partition_of g found are there p.left known).2.visits.0.some in
    let read = visits_read g found are there p.left known in
    is_complete g well found are there p in_grammar (All-contains (λ q. IsAcyclic (ExtendedPath g found.given q)) g.prods p ordered.extended in_grammar) (omega arith)
