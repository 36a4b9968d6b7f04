-- The end of a body: its result is made, and may be remembered, since all that its call meets is in the store for good.
use Rattle.std.proofs.Common.{◌≡◌, ◌⊎◌, Contains, ℕ, suc, ◌+◌, ◌<◌, ◌≤◌, ◌^◌, List, length, Option, Some, None, refl, sym, ap, ◌∙◌, subst, arith}
use Rattle.std.specs.Prelude.{Result, Ok, Err, IsErr, OnErr}
use Rattle.std.proofs.lemmas.Bool.{false≢true}
use Rattle.std.proofs.lemmas.List.{length-map}
use Rattle.lrc_meaning.specs.Grammar.{Grammar}
use Rattle.lrc_order_meaning.specs.declared.Partition.{Partition}
use Rattle.lrc_grammar.specs.Grammar.{grammar_of}
use Rattle.lrc_plan_meaning.specs.Sequences.{segment}
use Rattle.lrc_plan_meaning.specs.Sound.{IsSound}
use Rattle.lrc_visit_meaning.specs.Values as plain
use Rattle.lrc_visit_meaning.specs.Values.{Call}
use Rattle.lrc_visit_meaning.specs.Visits.{Walked, plain_visit}
use Rattle.lrc_visit_meaning.specs.Demand.{called, reach}
use Rattle.lrc_store.specs.Cells.{CellTree, parts as parts_of, IsWithin}
use Rattle.lrc_store.specs.Standing.{Standing, Stands, IsKnown, IsSound as IsStoreSound, Told, meant}
use Rattle.lrc_store.specs.Words.{Stays, LacksOne, Remembers}
use Rattle.lrc_store.specs.declared.cells.Handle.{Handle}
use Rattle.lrc_store.specs.declared.stores.Full.{Full}
use Rattle.lrc_store.proofs.Known.{stands-known, stands-meant}
use Rattle.lrc_store.proofs.Lasting.{gains-more, gains-then, lacks-more, stays-gains}
use Rattle.lrc_call_meaning.specs.Forms.{call_form, result_form}
use Rattle.lrc_call_meaning.specs.Reached.{cells_of}
use Rattle.lrc_call_meaning.specs.Meaning.{Allows, reached_by}
use Rattle.lrc_call_meaning.specs.Decoding.{read_call}
use Rattle.lrc_call_meaning.proofs.DecodingLemmas.{call-back}
use Rattle.lrc_cell_laws.proofs.MeaningLemmas.{reached_is}
use Rattle.lrc_eval.specs.declared.values.Val.{Val}
use Rattle.lrc_eval.proofs.ValueLemmas.{known-told}
use Rattle.lrc_eval.proofs.CellLemmas.{told-lasts}
use Rattle.lrc_functions.specs.declared.function.Function.{Function}
use Rattle.lrc_functions.specs.Functions.{operation_of, function_of}
use Rattle.lrc_frames.specs.Frames.{Run}
use Rattle.lrc_frames.specs.Writing.{CanEnd, Ends}
use Rattle.lrc_order_meaning.proofs.MemberLemmas.{member_slice}
use Rattle.lrc_laws.proofs.FuelLemmas.{visit_same}
use Rattle.lrc_laws.proofs.SameReachLemmas.{reach_same}
use Rattle.lrc_bodies.specs.declared.mark.Mark.{Mark}
use Rattle.lrc_bodies.specs.declared.remembered.VisitMeaning.{VisitMeaning}
use Rattle.lrc_bodies.specs.Points.{segment_of, Point}
use Rattle.lrc_bodies.specs.Advancing.{IsAtEnd, EndsWith}
use Rattle.lrc_bodies.specs.Counting.{MeetsCall}
use Rattle.lrc_bodies.proofs.CountingLemmas.{remembers_is, has_pair, calls_at_end, whole_ended, whole_on}
use Rattle.lrc_bodies.proofs.PointLemmas.{result, ends, is_done, all_met}
use Rattle.lrc_bodies.proofs.MetCellLemmas.{result_cells_within, reached_within}

-- what follows from three facts that are told is told
told_three : (o : Option (List CellTree)) (A B C D : List CellTree → Type 0) → ((seen : List CellTree) → A seen → B seen → C seen → D seen) → Told o A → Told o B → Told o C → Told o D
told_three None A B C D all h k l = tt
told_three (Some seen) A B C D all h k l = all seen h k l

-- a body that does not end, since the store is full, lacks a cell of what its call meets
pub lacks_one : {X : Type 0} (g : Grammar) (parts : List Partition) (s t : Standing) (fuel : ℕ) (c : Call) (e : Full) (answer : Result X Full) → EndsWith g parts s t fuel c (Err e)
    → OnErr answer (LacksOne t (cells_of (reach g parts (suc fuel) c)))
lacks_one g parts s t fuel c e (Ok x) end = tt
lacks_one g parts s t fuel c e (Err f) end = end.full

module _ (g : Grammar) (parts : List Partition) (s : Standing) (frame : List Val) (fuel : ℕ) (c : Call) (mark : Mark) (function : Function) (remembered : VisitMeaning)
    (end : IsAtEnd g parts s frame fuel c mark function remembered) where
  abbrev run : Run
  run = end.runs.run

  abbrev point : Point g parts fuel c mark.body.production run mark.at mark.height end.runs.met
  point = end.runs.point

  abbrev reached : List CellTree
  reached = cells_of (reach g parts (suc fuel) c)

  pub sound : IsSound g.sorts parts run.production
  sound = end.runs.asks.sound run.production (member_slice g.prods mark.body.production run.production point.there)

  own_function : function ≡ function_of g.sorts parts run.production c.visit
  own_function = end.is_function ∙ ap (function_of g.sorts parts run.production) end.runs.visit

  pub all_done : length (segment_of g parts c run) ≤ mark.at
  all_done =
      let of = operation_of g.sorts parts run.production in
      let seg = segment g.sorts parts run.production c.visit in
      let size : length function.operations ≡ length seg = ap (λ (f : Function). length f.operations) own_function ∙ length-map seg of in
      let last = end.last in
      omega (arith, size, last)

  abbrev pub walked : Walked
  walked = record { height = mark.height; held = run.held }

  abbrev outcome : plain.Result
  outcome = result g parts fuel c mark.body.production run mark.at mark.height end.runs.met point sound all_done

  outcome_is : plain_visit g parts (suc fuel) c ≡ Some outcome
  outcome_is = ends g parts fuel c mark.body.production run mark.at mark.height end.runs.met point sound all_done

  -- the height of its result
  pub height_fits : mark.height + 1 < 2 ^ 32
  height_fits = let low = end.runs.low in let small = end.low in omega (arith, low, small)

  pub can_end : CanEnd g parts s frame function (mark.height + 1) run c.visit walked
  can_end = record {
    body = mark.body;
    runs = end.runs.runs;
    is_function = own_function;
    done = is_done g parts fuel c mark.body.production run mark.at mark.height end.runs.met point sound all_done;
    same_held = refl;
    is_height = omega arith;
  }

  result_within : IsWithin (parts_of (result_form outcome)) reached
  result_within = result_cells_within g parts fuel c mark.body.production run mark.at mark.height end.runs.met point sound all_done

  module _ (t : Standing) where
    pub end_stopped : (e : Full) (answer : Result Handle Full) → IsErr answer → Ends s t outcome (Err e) → EndsWith g parts s t fuel c answer
    end_stopped e (Ok handle) is h = absurd (false≢true is)
    end_stopped e (Err f) is h = record {
      gains = gains-more s t (parts_of (result_form outcome)) reached result_within h.builds.adds.gains;
      gives = tt;
      counts = tt;
      wholes = whole_on g parts s.memo t.memo h.builds.adds.memo;
      full = lacks-more t (parts_of (result_form outcome)) reached result_within h.builds.full;
    }

    module _ (made : Handle) (store_sound : IsStoreSound s) (h : Ends s t outcome (Ok made)) where
      call_stands : Stands t mark.call.0 (call_form c)
      call_stands = h.builds.adds.gains.lasts.known mark.call.0 (call_form c) end.runs.asks.stands

      pub call_known : IsKnown t mark.call.0
      call_known = stands-known t mark.call.0 (call_form c) call_stands

      pub made_known : IsKnown t made.0
      made_known = stands-known t made.0 (result_form outcome) h.builds.ok.stands

      call_is : meant t mark.call.0 ≡ call_form c
      call_is = stands-meant t mark.call.0 (call_form c) call_stands

      made_is : meant t made.0 ≡ result_form outcome
      made_is = stands-meant t made.0 (result_form outcome) h.builds.ok.stands

      -- all that the call meets is in the store for good
      call_told : Told t.seen (IsWithin (parts_of (call_form c)))
      call_told =
          let stands = end.runs.asks.stands in
          let told = known-told s mark.call.0 store_sound (stands-known s mark.call.0 (call_form c) stands) in
          told-lasts s.seen t.seen (parts_of (call_form c)) h.builds.adds.gains.lasts.seen
          (subst (λ (cell : CellTree). Told s.seen (IsWithin (parts_of cell))) (stands-meant s mark.call.0 (call_form c) stands) told.seen)

      all_told : Told t.seen (IsWithin reached)
      all_told =
          told_three t.seen (IsWithin (cells_of end.runs.met)) (IsWithin (parts_of (call_form c))) (IsWithin (parts_of (result_form outcome))) (IsWithin reached)
          (λ seen met own gives. reached_within g parts fuel c mark.body.production run mark.at mark.height end.runs.met point sound all_done seen met own gives)
          (told-lasts s.seen t.seen (cells_of end.runs.met) h.builds.adds.gains.lasts.seen end.runs.seen) call_told h.builds.ok.seen

      low : outcome.height ≤ suc fuel
      low = let low = end.runs.low in omega (arith, low)

      by_height : plain_visit g parts outcome.height c ≡ Some outcome
      by_height = visit_same g parts (suc fuel) outcome.height c outcome outcome_is (omega arith)

      allowed_here : Allows g parts (meant t mark.call.0) (meant t made.0)
      allowed_here = record {
        asked = c;
        result = outcome;
        spelled_call = end.runs.asks.spelled;
        spelled_result = h.spelled;
        is_call = call_is;
        is_read = ap read_call call_is ∙ call-back c end.runs.asks.spelled end.tag;
        is_outcome = made_is;
        is_result = by_height;
      }

      -- the cells that are read off both are these
      reached_here : Told t.seen (IsWithin (reached_by g parts (meant t mark.call.0) (meant t made.0)))
      unfolding allowed_here reached_by
      reached_here =
          subst (λ (cells : List CellTree). Told t.seen (IsWithin cells))
          (ap cells_of (sym (reach_same g parts outcome.height (suc fuel) c outcome by_height low)) ∙ sym (reached_is g parts (meant t mark.call.0) (meant t made.0) allowed_here)) all_told

      module _ (now : VisitMeaning) (same : now ≡ remembered) where
        grammar_now : g ≡ grammar_of now.grammar
        grammar_now = sym (ap (λ (m : VisitMeaning). grammar_of m.grammar) same ∙ end.same_grammar)

        parts_now : parts ≡ now.parts.sorts
        parts_now = sym (ap (λ (m : VisitMeaning). m.parts.sorts) same ∙ end.same_parts)

        pub may_remember : Allows (grammar_of now.grammar) now.parts.sorts (meant t mark.call.0) (meant t made.0)
        may_remember =
            subst (λ (ps : List Partition). Allows (grammar_of now.grammar) ps (meant t mark.call.0) (meant t made.0)) parts_now
            (subst (λ (gr : Grammar). Allows gr parts (meant t mark.call.0) (meant t made.0)) grammar_now allowed_here)

        pub all_reached : Told t.seen (IsWithin (reached_by (grammar_of now.grammar) now.parts.sorts (meant t mark.call.0) (meant t made.0)))
        all_reached =
            subst (λ (ps : List Partition). Told t.seen (IsWithin (reached_by (grammar_of now.grammar) ps (meant t mark.call.0) (meant t made.0)))) parts_now
            (subst (λ (gr : Grammar). Told t.seen (IsWithin (reached_by gr parts (meant t mark.call.0) (meant t made.0)))) grammar_now reached_here)

      -- the calls of its reach are itself and those that its body made
      calls_made : (d : Call) → MeetsCall g parts (suc fuel) c d → (c ≡ d) ⊎ Contains end.runs.met (called d)
      calls_made d meets =
          calls_at_end c end.runs.met outcome d (all_met g parts fuel c mark.body.production run mark.at mark.height end.runs.met point sound all_done (called d) meets)

      pub body_ended : (u : Standing) → Stays t u → u.missed ≡ t.missed → Remembers t.memo u.memo (meant t mark.call.0) (meant t made.0) → EndsWith g parts s u fuel c (Ok made)
      body_ended u stays missed remembers = let gained = remembers_is s.memo t.memo u.memo (meant t mark.call.0) (meant t made.0) c outcome h.builds.adds.memo call_is made_is remembers in record {
        gains = gains-then s t u reached (gains-more s t (parts_of (result_form outcome)) reached result_within h.builds.adds.gains) (stays-gains t u reached stays);
        gives = record {
          outcome = outcome;
          is_result = outcome_is;
          spelled = h.spelled;
          stands = stays.lasts.known made.0 (result_form outcome) h.builds.ok.stands;
          reached = told-lasts t.seen u.seen reached stays.lasts.seen all_told;
          spelled_call = end.runs.asks.spelled;
          remembered = has_pair s.memo u.memo c outcome gained;
        };
        counts = record { outcome = result_form outcome; remembers = gained; missed = missed ∙ h.builds.adds.missed };
        wholes = whole_ended g parts s.memo u.memo (suc fuel) c outcome end.runs.met end.runs.asks.spelled outcome_is calls_made gained end.runs.made;
        full = tt;
      }
