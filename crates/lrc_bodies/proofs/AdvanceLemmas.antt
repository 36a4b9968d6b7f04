-- The next step of a body: the action behind the operation that stands there, and what its evaluation or its visit answers.
use Rattle.std.proofs.Common.{◌≡◌, ℕ, suc, ◌+◌, ◌<◌, ◌≤◌, Bool, true, false, IsTrue, inl, inr, List, [], ◌∷◌, ◌++◌, length, map, Option, Some, None, slice_get, refl, sym, ap, ◌∙◌, subst, arith}
use Rattle.std.specs.Prelude.{Result, Ok, Err, IsErr}
use Rattle.std.proofs.lemmas.Option.{none-some, same_Some, slice_get-map, slice_get_within, slice_get_past}
use Rattle.std.proofs.lemmas.Bool.{cases_lt, false≢true}
use Rattle.std.specs.Option.{option_map_or}
use Rattle.lrc_base.specs.declared.grammar.Production.{Production}
use Rattle.lrc_meaning.specs.Grammar.{Grammar, Occurrence, occurrences_of}
use Rattle.lrc_order_meaning.specs.declared.Partition.{Partition}
use Rattle.lrc_plan_meaning.specs.declared.Action.{Action}
use Rattle.lrc_plan_meaning.specs.declared.Action.TheVariants as a
use Rattle.lrc_plan_meaning.specs.Items.{visits_of}
use Rattle.lrc_plan_meaning.specs.Sequences.{segment, is_defined}
use Rattle.lrc_plan_meaning.specs.Sound.{IsSound}
use Rattle.lrc_visit_meaning.specs.Values.{value, Call}
use Rattle.lrc_visit_meaning.specs.Visits.{call_of}
use Rattle.lrc_visit_meaning.specs.Demand.{reach}
use Rattle.lrc_store.specs.Cells.{CellTree, IsWithin}
use Rattle.lrc_store.specs.Standing.{Standing, Stands, Told}
use Rattle.lrc_store.specs.Words.{Gains}
use Rattle.lrc_store.specs.declared.cells.Handle.{Handle}
use Rattle.lrc_store.specs.declared.stores.Full.{Full}
use Rattle.lrc_store.proofs.Lasting.{gains-more, lacks-more}
use Rattle.lrc_call_meaning.specs.Forms.{call_form}
use Rattle.lrc_call_meaning.specs.Reached.{cells_of}
use Rattle.lrc_eval.specs.declared.values.Val.{Val}
use Rattle.lrc_eval.proofs.CellLemmas.{told-lasts}
use Rattle.lrc_functions.specs.declared.function.Callee.{Callee}
use Rattle.lrc_functions.specs.declared.function.Function.{Function}
use Rattle.lrc_functions.specs.declared.function.Operation.{Operation}
use Rattle.lrc_functions.specs.declared.function.Operation.TheVariants as op
use Rattle.lrc_functions.specs.Functions.{callee_of, operation_of, function_of, functions_of}
use Rattle.lrc_frames.specs.Frames.{Run, after}
use Rattle.lrc_frames.specs.Steps.{Evaluates, Calls, evaluation_cells, call_cells}
use Rattle.lrc_frames.specs.Writing.{CanEvaluate, CanCall}
use Rattle.lrc_machine.specs.declared.bodies.Moved.{Moved}
use Rattle.lrc_machine.specs.declared.bodies.Moved.TheVariants as m
use Rattle.lrc_order_meaning.proofs.MemberLemmas.{member_slice}
use Rattle.lrc_laws.proofs.FuelLemmas.{mapped}
use Rattle.lrc_bodies.specs.declared.mark.Mark.{Mark}
use Rattle.lrc_bodies.specs.Points.{evaluation_met, segment_of, Point}
use Rattle.lrc_bodies.specs.Bodies.{function_at, Runs, WaitsAt}
use Rattle.lrc_bodies.specs.Advancing.{Faces, Advances}
use Rattle.lrc_bodies.proofs.ProperLemmas.{called, IsCalled}
use Rattle.lrc_bodies.proofs.PointLemmas.{needed}
use Rattle.lrc_bodies.proofs.ActionLemmas.{evaluation_cells_are, defined, no_value, evaluates, visit_there, no_call}
use Rattle.lrc_machine.specs.Counts.{IsKept}
use Rattle.lrc_machine.proofs.CountLemmas.{keeps_same}
use Rattle.lrc_bodies.specs.Counting.{AreMade}
use Rattle.lrc_bodies.proofs.CountingLemmas.{made_evaluating, whole_on}
use Rattle.lrc_bodies.proofs.LoopLemmas.{waits_on}
use Rattle.lrc_bodies.proofs.OpenLemmas.{asks_on}
use Rattle.lrc_bodies.proofs.ResumeLemmas.{told_both, function_there}
use Rattle.lrc_bodies.proofs.MetCellLemmas.{evaluation_cells_within, call_cells_within}

-- ---- operations and actions

-- an occurrence that is defined is there
defined_below : (xs : List Occurrence) (o : ℕ) → IsTrue (is_defined xs o) → o < length xs
defined_below xs o h = elim (cases_lt o (length xs)) [
  | inl less ↦ less
  | inr above ↦ absurd (false≢true (sym (ap (λ x. option_map_or (λ (x : Occurrence). x.is_defined) x false) (slice_get_past xs o above)) ∙ h))
]

module _ (g : Grammar) (parts : List Partition) (p : Production) where
  eval_of : (x : Action) (o : ℕ) (e : Option ℕ) → operation_of g.sorts parts p x ≡ op.Eval o e → x ≡ a.Eval o
  eval_of (a.Eval n) o e same = ap a.Eval (cc)
  eval_of (a.Visit s v) o e same = absurd (cc)

  visit_of : (x : Action) (callee : Callee) → operation_of g.sorts parts p x ≡ op.Visit callee → (s : ℕ) × (v : ℕ) × (x ≡ a.Visit s v) × (callee ≡ callee_of g.sorts parts p s v)
  visit_of (a.Eval n) callee same = absurd (cc)
  visit_of (a.Visit s v) callee same = (s, v, refl, cc)

module _ (g : Grammar) (parts : List Partition) (productions : List (List Function)) (made : productions ≡ map (functions_of g.sorts parts) g.prods) where
  module _ (s : Standing) (frame : List Val) (fuel : ℕ) (c : Call) (mark : Mark) where
    -- the visit at the mark is one of the left side's
    pub is_there : (runs : Runs g parts s frame fuel c mark) → IsCalled g parts runs.run.production c
    is_there runs = called g parts runs.run.production runs.run.kids c runs.point.visited

    pub sound_there : (runs : Runs g parts s frame fuel c mark) → IsSound g.sorts parts runs.run.production
    sound_there runs = runs.asks.sound runs.run.production (member_slice g.prods mark.body.production runs.run.production runs.point.there)

    pub own_function : (runs : Runs g parts s frame fuel c mark) → function_at productions mark ≡ function_of g.sorts parts runs.run.production mark.body.visit
    own_function runs =
        let is = is_there runs in
        let visit = runs.visit in
        let first = is.first in
        let last = is.last in
        function_there g parts productions mark runs.run made runs.point.there (omega (arith, visit, first)) (subst (λ v. v ≤ visits_of parts runs.run.production.left) (sym visit) last)

    module _ (operation : Operation) (faces : Faces g parts productions s frame fuel c mark operation) where
      abbrev run : Run
      run = faces.runs.run

      -- the action that the operation does
      pub action : (x : Action) × (slice_get (segment_of g parts c run) mark.at ≡ Some x) × (operation_of g.sorts parts run.production x ≡ operation)
      action =
          let of = operation_of g.sorts parts run.production in
          let seg = segment g.sorts parts run.production in
          let found = mapped of (slice_get (seg mark.body.visit) mark.at) operation
          (sym (slice_get-map of (seg mark.body.visit) mark.at)
          ∙ sym (ap (λ (f : Function). slice_get f.operations mark.at) (own_function faces.runs))
          ∙ faces.next) in
          (found.0, subst (λ v. slice_get (seg v) mark.at ≡ Some found.0) faces.runs.visit found.1, found.2)

      -- behind it less is left, and before it one
      pub some_left : mark.at < length (function_at productions mark).operations
      some_left = slice_get_within (function_at productions mark).operations mark.at operation faces.next

    -- ---- an evaluation

    module _ (o : ℕ) (equation : Option ℕ) (faces : Faces g parts productions s frame fuel c mark (op.Eval o equation)) where
      abbrev run_here : Run
      run_here = faces.runs.run

      abbrev point_here : Point g parts fuel c mark.body.production run_here mark.at mark.height faces.runs.met
      point_here = faces.runs.point

      next_eval : slice_get (segment_of g parts c run_here) mark.at ≡ Some (a.Eval o)
      next_eval =
          let found = action (op.Eval o equation) faces in
          found.1 ∙ ap (λ x. Some x) (eval_of g parts run_here.production found.0 o equation found.2)

      is_operation : operation_of g.sorts parts run_here.production (a.Eval o) ≡ op.Eval o equation
      is_operation =
          let found = action (op.Eval o equation) faces in
          ap (operation_of g.sorts parts run_here.production) (sym (eval_of g parts run_here.production found.0 o equation found.2)) ∙ found.2

      pub can_evaluate : CanEvaluate g parts s frame mark.body o equation run_here
      can_evaluate = record {
        runs = faces.runs.runs;
        occurrence = defined_below (occurrences_of g.sorts run_here.production) o
            (defined g parts fuel c mark.body.production run_here mark.at mark.height faces.runs.met point_here o next_eval (sound_there faces.runs));
        operation = is_operation;
        needed = needed g parts fuel c mark.body.production run_here mark.at mark.height faces.runs.met point_here (a.Eval o) next_eval;
      }

      within_reach : IsWithin (evaluation_cells g parts run_here o) (cells_of (reach g parts (suc fuel) c))
      within_reach = evaluation_cells_within g parts fuel c mark.body.production run_here mark.at mark.height faces.runs.met point_here o next_eval

      module _ (t : Standing) (after_frame : List Val) where
        abbrev Answers : Result Bool Full → Type 0
        Answers = Evaluates g parts s t after_frame mark.body run_here o

        kept : (answer : Result Bool Full) → Answers answer → IsKept s t
        kept answer h = record { memo = h.adds.memo; missed = h.adds.missed }

        gained : (answer : Result Bool Full) → Answers answer → Gains s t (cells_of (reach g parts (suc fuel) c))
        gained answer h = gains-more s t (evaluation_cells g parts run_here o) (cells_of (reach g parts (suc fuel) c)) within_reach h.adds.gains

        pub evaluation_stopped : (e : Full) (answer : Result (Moved Mark) Full) → IsErr answer → Answers (Err e) → Advances g parts productions s t after_frame fuel c mark answer
        evaluation_stopped e (Ok move) is h = absurd (false≢true is)
        evaluation_stopped e (Err f) is h = record {
          gains = gained (Err e) h;
          moves = tt;
          counts = tt;
          wholes = whole_on g parts s.memo t.memo h.adds.memo;
          full = lacks-more t (evaluation_cells g parts run_here o) (cells_of (reach g parts (suc fuel) c)) within_reach h.full;
        }

        pub evaluation_none : (b : Bool) → b ≡ false → Answers (Ok b) → Advances g parts productions s t after_frame fuel c mark (Ok m.Deep)
        evaluation_none true is_false h = absurd (false≢true (sym is_false))
        evaluation_none false is_false h = record {
          gains = gained (Ok false) h;
          counts = kept (Ok false) h;
          wholes = whole_on g parts s.memo t.memo h.adds.memo;
          moves = no_value g parts fuel c mark.body.production run_here mark.at mark.height faces.runs.met point_here o next_eval h.ok;
          full = tt;
        }

        pub evaluation_done : (b : Bool) → b ≡ true → Answers (Ok b) → Advances g parts productions s t after_frame fuel c mark (Ok (m.Went (record mark { at = mark.at + 1 })))
        evaluation_done false is_true h = absurd (false≢true is_true)
        evaluation_done true is_true h =
            let met = faces.runs.met in
            let lasts = h.adds.gains.lasts in record {
              gains = gained (Ok true) h;
              counts = kept (Ok true) h;
              wholes = whole_on g parts s.memo t.memo h.adds.memo;
              moves = (
                record {
                  asks = asks_on g parts s t c mark.call.0 lasts.known faces.runs.asks;
                  run = after g parts run_here (a.Eval o) (value h.ok.0 ∷ []);
                  met = met ++ evaluation_met g parts run_here o;
                  point = evaluates g parts fuel c mark.body.production run_here mark.at mark.height met point_here o next_eval h.ok.0 h.ok.1;
                  visit = faces.runs.visit;
                  runs = h.ok.2;
                  seen = told_both t.seen met (evaluation_met g parts run_here o) (told-lasts s.seen t.seen (cells_of met) lasts.seen faces.runs.seen)
                      (subst (λ (cells : List CellTree). Told t.seen (IsWithin cells)) (sym (evaluation_cells_are g parts run_here o)) h.ok.3);
                  made = subst (λ pairs. Told pairs (AreMade g parts (met ++ evaluation_met g parts run_here o))) (sym h.adds.memo) (made_evaluating g parts s.memo met run_here o faces.runs.made);
                  low = faces.runs.low;
                },
                (let less = some_left (op.Eval o equation) faces in omega (arith, less)),
              );
              full = tt;
            }

    -- ---- a visit

    module _ (callee : Callee) (faces : Faces g parts productions s frame fuel c mark (op.Visit callee)) where
      abbrev run_at : Run
      run_at = faces.runs.run

      abbrev point_at : Point g parts fuel c mark.body.production run_at mark.at mark.height faces.runs.met
      point_at = faces.runs.point

      -- the visit of a symbol behind the callee
      pub visited : (n : ℕ) × (v : ℕ) × ((a.Visit n v) ≡ (action (op.Visit callee) faces).0) × (callee ≡ callee_of g.sorts parts run_at.production n v)
      visited =
          let found = action (op.Visit callee) faces in
          let of = visit_of g parts run_at.production found.0 callee found.2 in
          (of.0, of.1, sym of.2, of.3)

      abbrev pub symbol : ℕ
      symbol = visited.0

      abbrev pub visit : ℕ
      visit = visited.1

      next_visit : slice_get (segment_of g parts c run_at) mark.at ≡ Some (a.Visit symbol visit)
      next_visit = (action (op.Visit callee) faces).1 ∙ ap (λ x. Some x) (sym visited.2)

      pub can_call : CanCall g parts s frame mark.body callee run_at symbol visit
      can_call = record {
        runs = faces.runs.runs;
        is_there = visit_there g parts fuel c mark.body.production run_at mark.at mark.height faces.runs.met point_at symbol visit next_visit (sound_there faces.runs);
        is_callee = visited.3;
        taken = needed g parts fuel c mark.body.production run_at mark.at mark.height faces.runs.met point_at (a.Visit symbol visit) next_visit;
      }

      call_reach : IsWithin (call_cells g parts run_at symbol visit) (cells_of (reach g parts (suc fuel) c))
      call_reach = call_cells_within g parts fuel c mark.body.production run_at mark.at mark.height faces.runs.met point_at symbol visit next_visit

      module _ (t : Standing) where
        abbrev CallAnswers : Result (Option Handle) Full → Type 0
        CallAnswers = Calls g parts s t run_at symbol visit

        call_kept : (answer : Result (Option Handle) Full) → CallAnswers answer → IsKept s t
        call_kept answer h = record { memo = h.adds.memo; missed = h.adds.missed }

        call_gained : (answer : Result (Option Handle) Full) → CallAnswers answer → Gains s t (cells_of (reach g parts (suc fuel) c))
        call_gained answer h = gains-more s t (call_cells g parts run_at symbol visit) (cells_of (reach g parts (suc fuel) c)) call_reach h.adds.gains

        pub call_stopped : (e : Full) (answer : Result (Moved Mark) Full) → IsErr answer → CallAnswers (Err e) → Advances g parts productions s t frame fuel c mark answer
        call_stopped e (Ok move) is h = absurd (false≢true is)
        call_stopped e (Err f) is h = record {
          gains = call_gained (Err e) h;
          moves = tt;
          counts = tt;
          wholes = whole_on g parts s.memo t.memo h.adds.memo;
          full = lacks-more t (call_cells g parts run_at symbol visit) (cells_of (reach g parts (suc fuel) c)) call_reach h.full;
        }

        pub call_none : (found : Option Handle) → found ≡ None → CallAnswers (Ok found) → Advances g parts productions s t frame fuel c mark (Ok m.Deep)
        call_none (Some handle) is h = absurd (none-some handle (sym is))
        call_none None is h = record {
          gains = call_gained (Ok None) h;
          counts = call_kept (Ok None) h;
          wholes = whole_on g parts s.memo t.memo h.adds.memo;
          moves = no_call g parts fuel c mark.body.production run_at mark.at mark.height faces.runs.met point_at symbol visit next_visit h.ok;
          full = tt;
        }

        pub call_made : (found : Option Handle) (handle : Handle) → found ≡ Some handle → CallAnswers (Ok found) → Advances g parts productions s t frame fuel c mark (Ok (m.Asked mark handle))
        call_made None handle is h = absurd (none-some handle is)
        call_made (Some made_handle) handle is h =
            let less = some_left (op.Visit callee) faces in
            let same : made_handle ≡ handle = same_Some made_handle handle is in
            let inner = call_of g parts run_at.production run_at.kids run_at.held symbol visit in
            let waits : WaitsAt g parts s frame fuel c mark inner = record {
              asks = faces.runs.asks;
              run = run_at;
              met = faces.runs.met;
              symbol = symbol;
              visit_there = visit;
              stands = record { point = point_at; action = next_visit; callable = h.ok.0; call = refl };
              visit = faces.runs.visit;
              runs = faces.runs.runs;
              seen = faces.runs.seen;
              made = faces.runs.made;
              low = faces.runs.low;
            } in record {
              gains = call_gained (Ok (Some made_handle)) h;
              counts = call_kept (Ok (Some made_handle)) h;
              wholes = whole_on g parts s.memo t.memo h.adds.memo;
              moves = (
                inner,
                waits_on g parts s frame fuel c mark inner waits t h.adds.gains.lasts (keeps_same s.memo t.memo h.adds.memo),
                record { sound = faces.runs.asks.sound; spelled = h.ok.2; stands = subst (λ (x : Handle). Stands t x.0 (call_form inner)) same h.ok.1.stands },
                omega (arith, less),
                omega arith,
              );
              full = tt;
            }
