-- The cells of what a body meets: those of its next action are among its call's, and at its end all its call's are among those
-- of what it met, of the call and of the result.
use Rattle.std.proofs.Common.{◌≡◌, ℕ, zero, suc, ◌≤◌, Bool, true, false, cond, List, [], ◌∷◌, ◌++◌, length, Contains, Some, inl, inr, slice_get, refl, sym, subst}
use Rattle.std.proofs.lemmas.List.Elements.{Contains-append_cases}
use Rattle.lrc_meaning.specs.Grammar.{Grammar}
use Rattle.lrc_order_meaning.specs.declared.Partition.{Partition}
use Rattle.lrc_plan_meaning.specs.declared.Action.TheVariants as a
use Rattle.lrc_plan_meaning.specs.Sound.{IsSound}
use Rattle.lrc_visit_meaning.specs.Values.{Call, Result}
use Rattle.lrc_visit_meaning.specs.Visits.{call_of}
use Rattle.lrc_visit_meaning.specs.Demand.{Met, called, answered, reach}
use Rattle.lrc_store.specs.Cells.{CellTree, parts as parts_of, IsWithin}
use Rattle.lrc_call_meaning.specs.Forms.{call_form, result_form}
use Rattle.lrc_call_meaning.specs.Reached.{met_cell, cells_of}
use Rattle.lrc_frames.specs.Frames.{Run}
use Rattle.lrc_frames.specs.Steps.{is_callable, evaluation_cells, call_cells}
use Rattle.lrc_order_meaning.proofs.MemberLemmas.{member_first, member_cases, no_member}
use Rattle.lrc_cell_laws.proofs.ReachedLemmas.{call_met}
use Rattle.lrc_cell_laws.proofs.ClosedLemmas.{met_parts, of_met}
use Rattle.lrc_cell_laws.proofs.DemandCellLemmas.{cells_within}
use Rattle.lrc_bodies.specs.Points.{evaluation_met, segment_of, Point, AtVisit}
use Rattle.lrc_bodies.proofs.PointLemmas.{result, all_met, ends, result_met}
use Rattle.lrc_bodies.proofs.ActionLemmas.{evaluation_cells_are, evaluation_within, inner_within}

-- cells that have those of all that was met
pub cells_of_all : (ms : List Met) (cells : List CellTree) → ((m : Met) → Contains ms m → IsWithin (parts_of (met_cell m)) cells) → IsWithin (cells_of ms) cells
cells_of_all ms cells h x c = let of = of_met ms x c in h of.0 of.1 x of.2

pub cells_of_both : (ms ns : List Met) (cells : List CellTree) → IsWithin (cells_of ms) cells → IsWithin (cells_of ns) cells → IsWithin (cells_of (ms ++ ns)) cells
cells_of_both ms ns cells h k =
    cells_of_all (ms ++ ns) cells
    (λ m c x d.
    elim (Contains-append_cases ms ns m c) [ inl l ↦ h x (met_parts ms m x l d) | inr r ↦ k x (met_parts ns m x r d) ])

pub called_cells : (ms : List Met) (c : Call) → Contains ms (called c) → IsWithin (parts_of (call_form c)) (cells_of ms)
unfolding met_cell
called_cells ms c h x d = met_parts ms (called c) x h d

pub answered_cells : (ms : List Met) (q : Result) → Contains ms (answered q) → IsWithin (parts_of (result_form q)) (cells_of ms)
unfolding met_cell
answered_cells ms q h x d = met_parts ms (answered q) x h d

module _ (g : Grammar) (parts : List Partition) where
  -- a call is in its own reach, with whatever fuel
  pub call_reached : (fuel : ℕ) (c : Call) → Contains (reach g parts fuel c) (called c)
  unfolding reach
  call_reached zero c = member_first (called c) []
  call_reached (suc fuel) c = call_met g parts fuel c

  module _ (fuel : ℕ) (c : Call) (number : ℕ) (r : Run) (at height : ℕ) (met : List Met) (point : Point g parts fuel c number r at height met) where
    abbrev reached : List CellTree
    reached = cells_of (reach g parts (suc fuel) c)

    pub evaluation_cells_within : (o : ℕ) → slice_get (segment_of g parts c r) at ≡ Some (a.Eval o) → IsWithin (evaluation_cells g parts r o) reached
    evaluation_cells_within o next x h =
        cells_within (evaluation_met g parts r o) (reach g parts (suc fuel) c) (evaluation_within g parts fuel c number r at height met point o next) x
        (subst (λ cells. Contains cells x) (sym (evaluation_cells_are g parts r o)) h)

    pub call_cells_within : (s v : ℕ) → slice_get (segment_of g parts c r) at ≡ Some (a.Visit s v) → IsWithin (call_cells g parts r s v) reached
    call_cells_within s v next = over (is_callable g parts r s) refl
      where
        inner : Call
        inner = call_of g parts r.production r.kids r.held s v

        over : (b : Bool) → is_callable g parts r s ≡ b → IsWithin (cond b (parts_of (call_form (call_of g parts r.production r.kids r.held s v))) []) reached
        over false is x h = absurd (no_member x h)
        over true is x h =
            let here : AtVisit g parts fuel c number r at height met s v inner = record { point = point; action = next; callable = is; call = refl } in
            called_cells (reach g parts (suc fuel) c) inner
            (inner_within g parts fuel c number r at height met s v inner here (called inner) (call_reached fuel inner)) x h

    module _ (sound : IsSound g.sorts parts r.production) (last : length (segment_of g parts c r) ≤ at) where
      abbrev outcome : Result
      outcome = result g parts fuel c number r at height met point sound last

      pub result_cells_within : IsWithin (parts_of (result_form outcome)) reached
      result_cells_within =
          answered_cells (reach g parts (suc fuel) c) outcome (result_met g parts fuel c outcome (ends g parts fuel c number r at height met point sound last))

      -- at the end all that is reached is what was met, the call and the result
      pub reached_within : (cells : List CellTree) → IsWithin (cells_of met) cells → IsWithin (parts_of (call_form c)) cells → IsWithin (parts_of (result_form outcome)) cells → IsWithin reached cells
      unfolding met_cell
      reached_within cells done own gives =
          cells_of_all (reach g parts (suc fuel) c) cells
          (λ m h x d.
          elim (member_cases (called c) (met ++ answered outcome ∷ []) m (all_met g parts fuel c number r at height met point sound last m h)) [
            | inl e ↦ own x (subst (λ n. Contains (parts_of (met_cell n)) x) (sym e) d)
            | inr behind ↦
                elim (Contains-append_cases met (answered outcome ∷ []) m behind) [
                  | inl old ↦ done x (met_parts met m x old d)
                  | inr new ↦
                      elim (member_cases (answered outcome) [] m new) [
                        | inl e ↦ gives x (subst (λ n. Contains (parts_of (met_cell n)) x) (sym e) d)
                        | inr more ↦ absurd (no_member m more)
                      ]
                ]
          ])
