-- A body that waits stands at an operation of its function, and goes on behind it with the result that the visit gave.
use Rattle.std.proofs.Common.{◌≡◌, ℕ, ◌+◌, ◌-◌, ◌<◌, ◌≤◌, ◌^◌, min, max, List, [], ◌++◌, length, map, get_or, sym, ap, ◌∙◌, subst, arith, Option, Some, None, slice_get}
use Rattle.std.specs.Prelude.{IfSome}
use Rattle.std.proofs.lemmas.List.{length-map, get_or-map, get_or_default}
use Rattle.std.proofs.lemmas.Option.{slice_get_within, get_or_from_slice_get}
use Rattle.lrc_meaning.specs.Grammar.{Grammar}
use Rattle.lrc_order_meaning.specs.declared.Partition.{Partition}
use Rattle.lrc_order_meaning.proofs.MemberLemmas.{member_slice}
use Rattle.lrc_plan_meaning.specs.declared.Action.{Action}
use Rattle.lrc_plan_meaning.specs.declared.Action.TheVariants as a
use Rattle.lrc_plan_meaning.specs.Items.{visits_of}
use Rattle.lrc_plan_meaning.specs.Sequences.{segment}
use Rattle.lrc_visit_meaning.specs.Values.{Call}
use Rattle.lrc_visit_meaning.specs.Visits.{given_by}
use Rattle.lrc_visit_meaning.specs.Demand.{Met, reach}
use Rattle.lrc_store.specs.Cells.{CellTree, IsWithin}
use Rattle.lrc_store.specs.Standing.{Standing, Told}
use Rattle.lrc_store.specs.Words.{Lasts}
use Rattle.lrc_laws.proofs.FuelLemmas.{visit_bounded}
use Rattle.lrc_eval.specs.declared.values.Val.{Val}
use Rattle.lrc_eval.proofs.CellLemmas.{told-lasts}
use Rattle.lrc_call_meaning.specs.Reached.{cells_of}
use Rattle.lrc_plan.proofs.ReadLemmas.{in_some}
use Rattle.lrc_functions.specs.declared.function.Callee.{Callee}
use Rattle.lrc_functions.specs.declared.function.Function.{Function}
use Rattle.lrc_functions.specs.declared.function.Operation.{Operation}
use Rattle.lrc_functions.specs.declared.function.Operation.TheVariants as o
use Rattle.lrc_functions.specs.Functions.{callee_of, operation_of, function_of, functions_of}
use Rattle.lrc_functions.proofs.FunctionLemmas.{production_read, visit_within, visit_read}
use Rattle.lrc_frames.specs.declared.body.Body.{Body}
use Rattle.lrc_frames.specs.Frames.{Run, after}
use Rattle.lrc_frames.specs.Taking.{TakesFrom, Takes}
use Rattle.lrc_bodies.specs.declared.mark.Mark.{Mark}
use Rattle.lrc_bodies.specs.Points.{Point}
use Rattle.lrc_bodies.specs.Bodies.{no_function, function_at, left_at, Gives, Runs, WaitsAt}
use Rattle.lrc_bodies.specs.Counting.{AreMade}
use Rattle.lrc_bodies.proofs.CountingLemmas.{made_visiting}
use Rattle.lrc_bodies.proofs.ProperLemmas.{called}
use Rattle.lrc_bodies.proofs.ActionLemmas.{visit_there, visits, is_of}
use Rattle.lrc_bodies.proofs.MetCellLemmas.{cells_of_both}
use Rattle.lrc_bodies.proofs.OpenLemmas.{asks_on}

-- cells that were met are told of together
pub told_both : (seen : Option (List CellTree)) (ms ns : List Met) → Told seen (IsWithin (cells_of ms)) → Told seen (IsWithin (cells_of ns)) → Told seen (IsWithin (cells_of (ms ++ ns)))
told_both None ms ns h k = tt
told_both (Some cells) ms ns h k = cells_of_both ms ns cells h k

-- a height is read whole where a visit of so much fuel gave it
height_whole : (height fuel read : ℕ) → height ≤ fuel → fuel < 2 ^ 32 → read ≡ min height (2 ^ 32 - 1) → read ≡ height
height_whole height fuel read low fits e = omega (arith, low, fits, e)

-- an operation is that of the action at its place
operation_read : (f : Action → Operation) (actions : List Action) (operations : List Operation) (i : ℕ) (x : Action) (found : Operation) → operations ≡ map f actions → slice_get actions i ≡ Some x
    → found ≡ get_or operations i found → found ≡ f x
operation_read f actions operations i x found are there is =
    is
    ∙ ap (λ (xs : List Operation). get_or xs i found) are
    ∙ get_or-map f actions i x found (slice_get_within actions i x there)
    ∙ ap f (get_or_from_slice_get actions i x x there)

same_callee : (one other : Callee) → o.Visit one ≡ o.Visit other → one ≡ other
same_callee one other e = cc

pub no_evaluation : (x : ℕ) (equation : Option ℕ) (callee : Callee) → o.Eval x equation ≡ o.Visit callee → ⊥
no_evaluation x equation callee e = cc

module _ (g : Grammar) (parts : List Partition) where
  -- the function of a mark's production and visit
  pub function_there : (productions : List (List Function)) (mark : Mark) (run : Run) → productions ≡ map (functions_of g.sorts parts) g.prods → slice_get g.prods mark.body.production ≡ Some run.production
      → 1 ≤ mark.body.visit → mark.body.visit ≤ visits_of parts run.production.left → function_at productions mark ≡ function_of g.sorts parts run.production mark.body.visit
  function_there productions mark run made there first last =
      let n = mark.body.production in
      let p = run.production in
      let within = slice_get_within g.prods n p there in
      let count : length productions ≡ length g.prods = ap length made ∙ length-map g.prods (functions_of g.sorts parts) in
      let own = get_or productions n [] in
      let is_own = production_read g.sorts parts g.prods productions n p own there made within (get_or_from_slice_get g.prods n p p there) (get_or_default productions n [] own (omega (arith, count, within))) in
      let here = get_or own (mark.body.visit - 1) no_function in
      visit_read g.sorts parts p own mark.body.visit here is_own first last
      (get_or_default own (mark.body.visit - 1) no_function here (visit_within g.sorts parts p own mark.body.visit is_own first last))

  module _ (s : Standing) (frame : List Val) (fuel : ℕ) (c : Call) (mark : Mark) (d : Call) (w : WaitsAt g parts s frame fuel c mark d) where
    pub there : slice_get g.prods mark.body.production ≡ Some w.run.production
    there = w.stands.point.there

    pub first : 1 ≤ mark.body.visit
    first = subst (λ v. 1 ≤ v) (sym w.visit) (called g parts w.run.production w.run.kids c w.stands.point.visited).first

    pub last : mark.body.visit ≤ visits_of parts w.run.production.left
    last = subst (λ v. v ≤ visits_of parts w.run.production.left) (sym w.visit) (called g parts w.run.production w.run.kids c w.stands.point.visited).last

    -- the body's function is the one that is found by its production and visit,
    pub function_is : (f : Function) → IfSome (slice_get g.prods mark.body.production) (λ p. f ≡ function_of g.sorts parts p mark.body.visit) → f ≡ function_of g.sorts parts w.run.production mark.body.visit
    function_is f h = in_some (λ p. f ≡ function_of g.sorts parts p mark.body.visit) (slice_get g.prods mark.body.production) w.run.production there h

    action : slice_get (segment g.sorts parts w.run.production mark.body.visit) mark.at ≡ Some (a.Visit w.symbol w.visit_there)
    action = subst (λ v. slice_get (segment g.sorts parts w.run.production v) mark.at ≡ Some (a.Visit w.symbol w.visit_there)) (sym w.visit) w.stands.action

    -- it has an operation there,
    pub operation_within : (f : Function) → f ≡ function_of g.sorts parts w.run.production mark.body.visit → mark.at < length f.operations
    operation_within f is =
        let actions = segment g.sorts parts w.run.production mark.body.visit in
        let count : length f.operations ≡ length actions = ap (λ (h : Function). length h.operations) is ∙ length-map actions (operation_of g.sorts parts w.run.production) in
        let within = slice_get_within actions mark.at (a.Visit w.symbol w.visit_there) action in
        omega (arith, count, within)

    -- which is the visit
    pub operation_is : (f : Function) (operations : List Operation) (found : Operation) → f ≡ function_of g.sorts parts w.run.production mark.body.visit → operations ≡ f.operations
        → found ≡ get_or operations mark.at found → found ≡ o.Visit (callee_of g.sorts parts w.run.production w.symbol w.visit_there)
    operation_is f operations found is are at =
        operation_read (operation_of g.sorts parts w.run.production) (segment g.sorts parts w.run.production mark.body.visit) operations mark.at (a.Visit w.symbol w.visit_there) found
        (are ∙ ap (λ (h : Function). h.operations) is) action at

    pub callee_is : (f : Function) (operations : List Operation) (found : Operation) (callee : Callee) → f ≡ function_of g.sorts parts w.run.production mark.body.visit → operations ≡ f.operations
        → found ≡ get_or operations mark.at found → found ≡ o.Visit callee → callee ≡ callee_of g.sorts parts w.run.production w.symbol w.visit_there
    callee_is f operations found callee is are at e =
        same_callee callee (callee_of g.sorts parts w.run.production w.symbol w.visit_there) (sym e ∙ operation_is f operations found is are at)

    -- what is left falls
    pub left_falls : (productions : List (List Function)) (next : Mark) → productions ≡ map (functions_of g.sorts parts) g.prods → next.body ≡ mark.body → next.at ≡ mark.at + 1
        → left_at productions next < left_at productions mark
    left_falls productions next made same on =
        let within = operation_within (function_at productions mark) (function_there productions mark w.run made there first last) in
        let size : length (function_at productions next).operations ≡ length (function_at productions mark).operations =
        ap (λ (b : Body). length (get_or (get_or productions b.production []) (b.visit - 1) no_function).operations) same in
        omega (arith, within, size, on)

    module _ (given : ℕ) (gives : Gives g parts s fuel d given) where
      -- the result is taken,
      pub takes_from : (callee : Callee) → callee ≡ callee_of g.sorts parts w.run.production w.symbol w.visit_there → TakesFrom g parts s frame mark.body w.run callee given w.symbol w.visit_there gives.outcome
      takes_from callee is = record {
        runs = w.runs;
        called = is;
        visit = visit_there g parts fuel c mark.body.production w.run mark.at mark.height w.met w.stands.point w.symbol w.visit_there w.stands.action
            (w.asks.sound w.run.production (member_slice g.prods mark.body.production w.run.production there));
        stands = gives.stands;
        spelled = gives.spelled;
        formed = is_of g parts fuel c mark.body.production w.run mark.at mark.height w.met w.symbol w.visit_there d w.stands gives.outcome gives.is_result;
      }

      -- and the body goes on
      pub goes_on : (t : Standing) (now : List Val) (read : ℕ) (next : Mark) → Lasts s t → t.memo ≡ s.memo → fuel < 2 ^ 32 → Takes g parts t now mark.body w.run w.symbol w.visit_there gives.outcome read
          → next ≡ record { call = mark.call; body = mark.body; at = mark.at + 1; height = max mark.height read } → Runs g parts t now fuel c next
      goes_on t now read next lasts memo fits takes is = subst (λ (m : Mark). Runs g parts t now fuel c m) (sym is) (record {
        asks = asks_on g parts s t c mark.call.0 lasts.known w.asks;
        run = after g parts w.run (a.Visit w.symbol w.visit_there) (given_by gives.outcome).made;
        met = w.met ++ reach g parts fuel d;
        point = subst (λ h. Point g parts fuel c mark.body.production (after g parts w.run (a.Visit w.symbol w.visit_there) (given_by gives.outcome).made) (mark.at + 1) (max mark.height h) (w.met ++ reach g parts fuel d)) (sym whole)
            (visits g parts fuel c mark.body.production w.run mark.at mark.height w.met w.symbol w.visit_there d w.stands gives.outcome gives.is_result);
        visit = w.visit;
        runs = takes.runs;
        seen = told_both t.seen w.met (reach g parts fuel d) (told-lasts s.seen t.seen (cells_of w.met) lasts.seen w.seen) (told-lasts s.seen t.seen (cells_of (reach g parts fuel d)) lasts.seen gives.reached);
        made = subst (λ pairs. Told pairs (AreMade g parts (w.met ++ reach g parts fuel d))) (sym memo)
            (made_visiting g parts s.memo w.met fuel d gives.outcome gives.spelled_call gives.is_result gives.remembered w.made);
        low = let high = bounded in let own = w.low in omega (arith, high, own, whole);
      })
        where
          bounded : gives.outcome.height ≤ fuel
          bounded = visit_bounded g parts fuel d gives.outcome gives.is_result

          whole : read ≡ gives.outcome.height
          whole = height_whole gives.outcome.height fuel read bounded fits takes.told
