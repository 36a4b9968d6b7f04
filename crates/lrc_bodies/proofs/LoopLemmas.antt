-- What the loop of visits asks of bodies that wait: what follows for their call, and that they wait on while the store grows.
use Rattle.std.proofs.Common.{◌≡◌, ℕ, suc, ◌<◌, ◌≤◌, List, Option, None, Some, refl, sym, ap, ◌∙◌, arith}
use Rattle.std.proofs.lemmas.Option.{same_Some}
use Rattle.lrc_meaning.specs.Grammar.{Grammar}
use Rattle.lrc_order_meaning.specs.declared.Partition.{Partition}
use Rattle.lrc_visit_meaning.specs.Values.{Call, Result}
use Rattle.lrc_visit_meaning.specs.Visits.{plain_visit}
use Rattle.lrc_visit_meaning.specs.Demand.{called, reach}
use Rattle.lrc_laws.proofs.FuelLemmas.{visit_bounded, visit_same}
use Rattle.lrc_store.specs.Cells.{CellTree, IsWithin}
use Rattle.lrc_store.specs.Standing.{Standing, Told, IsRemembered}
use Rattle.lrc_store.specs.Words.{Grows, Lasts}
use Rattle.lrc_call_meaning.specs.Forms.{call_form}
use Rattle.lrc_call_meaning.specs.Reached.{cells_of}
use Rattle.lrc_call_meaning.proofs.DecodingLemmas.{calls-injective}
use Rattle.lrc_cell_laws.proofs.DemandCellLemmas.{cells_within}
use Rattle.lrc_eval.specs.declared.values.Val.{Val}
use Rattle.lrc_frames.proofs.FrameLemmas.{runs_last}
use Rattle.lrc_bodies.specs.declared.mark.Mark.{Mark}
use Rattle.lrc_machine.specs.Counts.{KeepsPairs}
use Rattle.lrc_bodies.specs.Bodies.{Gives, Runs, WaitsAt}
use Rattle.lrc_bodies.specs.Counting.{MeetsCall, IsWhole}
use Rattle.lrc_bodies.proofs.ActionLemmas.{no_result, inner_within, inner_lower}
use Rattle.lrc_bodies.proofs.CountingLemmas.{made_on, whole_sure}

-- what was in a store for good is so in one that knows more
seen_last : (before after : Option (List CellTree)) (cells : List CellTree) → Grows before after → Told before (IsWithin cells) → Told after (IsWithin cells)
seen_last None None cells grows seen = tt
seen_last (Some old) (Some new) cells grows seen = λ cell there. grows cell (seen cell there)
seen_last None (Some new) cells grows seen = absurd grows
seen_last (Some old) None cells grows seen = absurd grows

-- the call has a result of this height with so much fuel
abbrev pub HasHeight : Grammar → List Partition → ℕ → Call → ℕ → Type 0
HasHeight g parts fuel c h = (r : Result) × (plain_visit g parts fuel c ≡ Some r) × (r.height ≡ h)

-- a call whose result is there has one height, and where the memo is whole its calls are remembered
module _ (g : Grammar) (parts : List Partition) (s : Standing) (n : ℕ) (c : Call) (handle : ℕ) (gives : Gives g parts s n c handle) where
  pub one_height : (h : ℕ) × HasHeight g parts n c h × ((k : ℕ) → HasHeight g parts n c k → h ≡ k)
  one_height = (
    gives.outcome.height,
    (gives.outcome, gives.is_result, refl),
    λ k other. ap (λ (r : Result). r.height) (same_Some gives.outcome other.0 (sym gives.is_result ∙ other.1)) ∙ other.2,
  )

  pub gives_sure : IsWhole g parts s.memo → (d : Call) → MeetsCall g parts n c d → Told s.memo (λ pairs. IsRemembered pairs (call_form d))
  gives_sure known d meets = whole_sure g parts s.memo n c gives.outcome gives.spelled_call gives.is_result gives.remembered known d meets

module _ (g : Grammar) (parts : List Partition) (s : Standing) (frame : List Val) (n : ℕ) (c : Call) (mark : Mark) (d : Call) (w : WaitsAt g parts s frame n c mark d) where
  pub waits_in_vain : plain_visit g parts n d ≡ None → plain_visit g parts (suc n) c ≡ None
  waits_in_vain none = no_result g parts n c mark.body.production w.run mark.at mark.height w.met w.symbol w.visit_there d w.stands none

  pub meets_more : IsWithin (cells_of (reach g parts n d)) (cells_of (reach g parts (suc n) c))
  meets_more = cells_within (reach g parts n d) (reach g parts (suc n) c) (inner_within g parts n c mark.body.production w.run mark.at mark.height w.met w.symbol w.visit_there d w.stands)

  pub calls_more : (e : Call) → MeetsCall g parts n d e → MeetsCall g parts (suc n) c e
  calls_more e h = inner_within g parts n c mark.body.production w.run mark.at mark.height w.met w.symbol w.visit_there d w.stands (called e) h

  -- the call that is waited for has a lower result than the body's call
  pub waits_lower : (h : ℕ) → HasHeight g parts (suc n) c h → (k : ℕ) × HasHeight g parts n d k × (k < h)
  waits_lower h (r, is, same) =
      let low = inner_lower g parts n c mark.body.production w.run mark.at mark.height w.met w.symbol w.visit_there d w.stands r is in
      let less = low.2 in
      (low.0.height, (low.0, low.1, refl), omega (arith, less, same))

  -- a body's call of the same cell has the same result, at less fuel
  pub same_height : (t : Standing) (other : List Val) (k : ℕ) (e : Call) (at : Mark) → Runs g parts t other k e at → call_form c ≡ call_form e → k ≤ n → (h : ℕ) → HasHeight g parts (suc k) e h → HasHeight g parts (suc n) c h
  same_height t other k e at runs same le h (r, is, height) =
      let low = visit_bounded g parts (suc k) e r is in (
        r,
        ap (plain_visit g parts (suc n)) (calls-injective c e w.asks.spelled runs.asks.spelled same) ∙ visit_same g parts (suc k) (suc n) e r is (omega (arith, low, le)),
        height,
      )

  pub waits_on : (t : Standing) → Lasts s t → KeepsPairs s.memo t.memo → WaitsAt g parts t frame n c mark d
  waits_on t lasts keeps = record {
    asks = record { sound = w.asks.sound; spelled = w.asks.spelled; stands = lasts.known mark.call.0 (call_form c) w.asks.stands };
    run = w.run;
    met = w.met;
    symbol = w.symbol;
    visit_there = w.visit_there;
    stands = w.stands;
    visit = w.visit;
    runs = runs_last g parts s t frame mark.body w.run lasts.known w.runs;
    seen = seen_last s.seen t.seen (cells_of w.met) lasts.seen w.seen;
    made = made_on g parts s.memo t.memo w.met keeps w.made;
    low = w.low;
  }
