-- The next action of a body: an evaluation, or a visit, which waits for the result of its call.
use Rattle.std.proofs.Common.{◌≡◌, ℕ, suc, ◌+◌, ◌-◌, ◌<◌, max, false, IsTrue, cond, List, [], ◌∷◌, ◌++◌, Contains, Option, Some, None, slice_get, refl, sym, ap, ◌∙◌, subst, arith}
use Rattle.std.specs.Option.{option_map, option_map_or}
use Rattle.std.proofs.lemmas.List.FromFn.{length-range_with_len}
use Rattle.lrc_base.specs.declared.grammar.Equation.{Equation}
use Rattle.lrc_meaning.specs.Tree.{Tree}
use Rattle.lrc_meaning.specs.Grammar.{Grammar, occurrences_of}
use Rattle.lrc_order_meaning.specs.declared.Partition.{Partition}
use Rattle.lrc_plan_meaning.specs.declared.Action.{Action}
use Rattle.lrc_plan_meaning.specs.declared.Action.TheVariants as a
use Rattle.lrc_plan_meaning.specs.Items.{symbol_at, visits_of}
use Rattle.lrc_plan_meaning.specs.Sequences.{is_defined}
use Rattle.lrc_plan_meaning.specs.Sound as plan
use Rattle.lrc_plan_meaning.specs.Sound.{IsVisitThere, IsSound}
use Rattle.lrc_visit_meaning.specs.Values.{value, Call, Result}
use Rattle.lrc_visit_meaning.specs.Visits.{Given, leaf_in, equation_of, values_in, evaluated, call_of, given_by, plain_visit}
use Rattle.lrc_visit_meaning.specs.Demand.{Met, equation_met, reach}
use Rattle.lrc_call_meaning.specs.Reached.{cells_of}
use Rattle.lrc_frames.specs.Frames.{Run, after}
use Rattle.lrc_frames.specs.Steps.{is_callable, evaluation_cells, IsOf}
use Rattle.lrc_order_meaning.proofs.MemberLemmas.{member_slice}
use Rattle.lrc_laws.proofs.FuelLemmas.{mapped, where_true}
use Rattle.lrc_laws.proofs.BackLemmas.{plain_whole}
use Rattle.lrc_bodies.specs.Points.{evaluation_met, segment_of, Point, AtVisit}
use Rattle.lrc_bodies.proofs.ProperLemmas.{called}
use Rattle.lrc_bodies.proofs.PointLemmas.{next_within, stops, gives_lower, moves_on}

module _ (g : Grammar) (parts : List Partition) where
  -- the cells of what an evaluation meets
  pub evaluation_cells_are : (r : Run) (o : ℕ) → cells_of (evaluation_met g parts r o) ≡ evaluation_cells g parts r o
  unfolding cells_of
  evaluation_cells_are r o = over (equation_of r.production o)
    where
      over : (found : Option Equation) → cells_of (option_map_or (equation_met g (values_in g r.production r.held) (leaf_in r.production.kids r.kids)) found [])
          ≡ option_map_or (λ e. cells_of (equation_met g (values_in g r.production r.held) (leaf_in r.production.kids r.kids) e)) found []
      over None = refl
      over (Some e) = refl

  module _ (fuel : ℕ) (c : Call) (number : ℕ) (r : Run) (at height : ℕ) (met : List Met) (point : Point g parts fuel c number r at height met) where
    -- an action of a segment is one of the plan
    pub planned : (x : Action) → slice_get (segment_of g parts c r) at ≡ Some x → plan.IsDone g.sorts parts r.production x
    planned x next =
        let is = called g parts r.production r.kids c point.visited in
        (c.visit, is.first, is.last, member_slice (segment_of g parts c r) at x next)

    module _ (o : ℕ) (next : slice_get (segment_of g parts c r) at ≡ Some (a.Eval o)) where
      pub defined : IsSound g.sorts parts r.production → IsTrue (is_defined (occurrences_of g.sorts r.production) o)
      defined sound = (sound.complete.evaluates o).1 (planned (a.Eval o) next)

      pub evaluation_within : (x : Met) → Contains (evaluation_met g parts r o) x → Contains (reach g parts (suc fuel) c) x
      evaluation_within = next_within g parts fuel c number r at height met point (a.Eval o) next

      pub no_value : evaluated g r.production r.kids r.held o ≡ None → plain_visit g parts (suc fuel) c ≡ None
      no_value none =
          stops g parts fuel c number r at height met point (a.Eval o) next
          (ap (option_map (λ t. record { height = 0; made = value t ∷ [] })) none)

      -- With a value the body stands behind the evaluation, and is no higher.
      pub evaluates : (t : Tree) → evaluated g r.production r.kids r.held o ≡ Some t
          → Point g parts fuel c number (after g parts r (a.Eval o) (value t ∷ [])) (at + 1) height (met ++ evaluation_met g parts r o)
      evaluates t some =
          let same : max height 0 ≡ height = omega arith in
          subst (λ h. Point g parts fuel c number (after g parts r (a.Eval o) (value t ∷ [])) (at + 1) h (met ++ evaluation_met g parts r o)) same
          (moves_on g parts fuel c number r at height met point (a.Eval o) next (record { height = 0; made = value t ∷ [] })
          (ap (option_map (λ t. record { height = 0; made = value t ∷ [] })) some) (evaluation_met g parts r o) refl)

    module _ (s v : ℕ) (next : slice_get (segment_of g parts c r) at ≡ Some (a.Visit s v)) where
      pub visit_there : IsSound g.sorts parts r.production → IsVisitThere g.sorts parts r.production s v
      visit_there sound = (sound.complete.visits s v).1 (planned (a.Visit s v) next)

      -- a tree that is no node of its symbol's sort has no visit
      pub no_call : is_callable g parts r s ≡ false → plain_visit g parts (suc fuel) c ≡ None
      no_call other =
          stops g parts fuel c number r at height met point (a.Visit s v) next
          (ap (λ b. cond b (option_map given_by (plain_visit g parts fuel (call_of g parts r.production r.kids r.held s v))) None) other)

  module _ (fuel : ℕ) (c : Call) (number : ℕ) (r : Run) (at height : ℕ) (met : List Met) (s v : ℕ) (d : Call) (here : AtVisit g parts fuel c number r at height met s v d) where
    abbrev inner : Call
    inner = call_of g parts r.production r.kids r.held s v

    pub inner_within : (x : Met) → Contains (reach g parts fuel d) x → Contains (reach g parts (suc fuel) c) x
    inner_within x h =
        next_within g parts fuel c number r at height met here.point (a.Visit s v) here.action x
        (subst (λ b. Contains (cond b (reach g parts fuel inner) []) x) (sym here.callable) (subst (λ e. Contains (reach g parts fuel e) x) here.call h))

    pub no_result : plain_visit g parts fuel d ≡ None → plain_visit g parts (suc fuel) c ≡ None
    no_result none =
        stops g parts fuel c number r at height met here.point (a.Visit s v) here.action
        (ap (λ b. cond b (option_map given_by (plain_visit g parts fuel inner)) None) here.callable
        ∙ ap (option_map given_by) (ap (plain_visit g parts fuel) (sym here.call) ∙ none))

    -- where the whole call has a result this has one, which is lower
    pub inner_lower : (q : Result) → plain_visit g parts (suc fuel) c ≡ Some q → (i : Result) × (plain_visit g parts fuel d ≡ Some i) × (i.height < q.height)
    inner_lower q some =
        let gives = gives_lower g parts fuel c number r at height met here.point (a.Visit s v) here.action q some in
        let inside = where_true (is_callable g parts r s) (option_map given_by (plain_visit g parts fuel inner)) gives.0 gives.1 in
        let found = mapped given_by (plain_visit g parts fuel inner) gives.0 inside.1 in
        let less = gives.2 in
        (found.0, ap (plain_visit g parts fuel) here.call ∙ found.1, subst (λ (given : Given). given.height < q.height) (sym found.2) less)

    module _ (q : Result) (some : plain_visit g parts fuel d ≡ Some q) where
      inner_some : plain_visit g parts fuel inner ≡ Some q
      inner_some = ap (plain_visit g parts fuel) (sym here.call) ∙ some

      -- With a result the body stands behind the visit, and is as high as that at least.
      pub visits : Point g parts fuel c number (after g parts r (a.Visit s v) (given_by q).made) (at + 1) (max height q.height) (met ++ reach g parts fuel d)
      visits =
          moves_on g parts fuel c number r at height met here.point (a.Visit s v) here.action (given_by q)
          (ap (λ b. cond b (option_map given_by (plain_visit g parts fuel inner)) None) here.callable ∙ ap (option_map given_by) inner_some)
          (reach g parts fuel d)
          (ap (λ b. cond b (reach g parts fuel inner) []) here.callable ∙ ap (reach g parts fuel) (sym here.call))

      -- a result has as many values and bindings as its visit gives
      pub is_of : IsOf g parts r s v q
      is_of =
          let sort = (symbol_at g.sorts r.production s).sort in
          let whole = plain_whole g parts fuel inner sort q here.callable inner_some in
          record { values = whole.values; bindings = whole.bindings ∙ length-range_with_len (v + 1) (visits_of parts sort - v) }
