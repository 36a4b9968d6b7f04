-- How far the body of a call has come, over plain values alone: which actions of its segment are left, and what it has still
-- to meet.
use Rattle.std.specs.Prelude.{◌≡◌, ℕ, suc, ◌⊎◌, true, IsTrue, List, [], ◌++◌, flat_map, drop, Option, Some, Contains, slice_get}
use Rattle.std.specs.Option.{option_map_or}
use Rattle.lrc_meaning.specs.Tree.{node}
use Rattle.lrc_meaning.specs.Grammar.{Grammar}
use Rattle.lrc_order_meaning.specs.declared.Partition.{Partition}
use Rattle.lrc_plan_meaning.specs.declared.Action.{Action}
use Rattle.lrc_plan_meaning.specs.declared.Action.TheVariants as a
use Rattle.lrc_plan_meaning.specs.declared.Bound.{Bound}
use Rattle.lrc_plan_meaning.specs.Items.{makes}
use Rattle.lrc_plan_meaning.specs.Sequences.{segment}
use Rattle.lrc_plan_meaning.specs.Bindings.{gained}
use Rattle.lrc_plan_meaning.specs.Sound.{handed_in, AreReady}
use Rattle.lrc_visit_meaning.specs.Values.{Call, Result}
use Rattle.lrc_visit_meaning.specs.Visits.{Walked, walk, leaf_in, equation_of, values_in, is_visited, call_of, step, plain_visit}
use Rattle.lrc_visit_meaning.specs.Demand.{Met, called, answered, equation_met, walk_met, action_met, reach}
use Rattle.lrc_frames.specs.Frames.{Run, at_start}
use Rattle.lrc_frames.specs.Steps.{is_callable, IsProper}

module _ (g : Grammar) (parts : List Partition) where
  -- These actions one after another, from a run on whose highest visit so far is so high, where each visit has so much fuel;
  -- and what they meet.
  abbrev pub walk_on : ℕ → Run → ℕ → List Action → Option Walked
  walk_on fuel r height actions =
      walk (makes g.sorts parts r.production) (step g parts (plain_visit g parts fuel) r.production r.kids) actions (record { height = height; held = r.held })

  abbrev pub met_on : ℕ → Run → ℕ → List Action → List Met
  met_on fuel r height actions =
      walk_met (makes g.sorts parts r.production) (step g parts (plain_visit g parts fuel) r.production r.kids)
      (action_met g parts (reach g parts fuel) r.production r.kids) actions (record { height = height; held = r.held })

  -- what the evaluation of an occurrence meets
  abbrev pub evaluation_met : Run → ℕ → List Met
  evaluation_met r o =
      option_map_or (equation_met g (values_in g r.production r.held) (leaf_in r.production.kids r.kids)) (equation_of r.production o) []

  -- the segment that a call runs, and what is left of it behind so many actions
  abbrev pub segment_of : Call → Run → List Action
  segment_of c r = segment g.sorts parts r.production c.visit

  abbrev pub left_of : Call → Run → ℕ → List Action
  left_of c r at = drop at (segment_of c r)

  -- What is in the reach of a call whose body met these so far, and will meet those: the call, one of them, or its result.
  pub data Meets (fuel : ℕ) (c : Call) (met still : List Met) (x : Met) : Type 0 where
    itself : called c ≡ x → Meets fuel c met still x
    earlier : Contains met x → Meets fuel c met still x
    later : Contains still x → Meets fuel c met still x
    outcome : (r : Result) → plain_visit g parts (suc fuel) c ≡ Some r → answered r ≡ x → Meets fuel c met still x

  -- The body of call c, of a node of the production of this number, runs with fuel + 1: it has done so many actions of its
  -- segment, its highest visit so far is so high, and it met these.
  pub record Point (fuel : ℕ) (c : Call) (number : ℕ) (r : Run) (at height : ℕ) (met : List Met) : Type 0 where
    pub tree : c.tree ≡ node number r.kids
    pub there : slice_get g.prods number ≡ Some r.production
    pub visited : IsTrue (is_visited g parts r.production r.kids c)
    -- the actions that are left find what they need, and complete what is available
    pub ready : AreReady g.sorts parts r.production r.available (left_of c r at)
    pub available : r.available ++ flat_map (makes g.sorts parts r.production) (left_of c r at)
        ≡ handed_in g.sorts parts r.production c.visit ++ flat_map (makes g.sorts parts r.production) (segment_of c r)
    -- what becomes available in this visit is still to be made, or holds what is of its sort
    pub proper : (x : Bound) → Contains (gained g.sorts parts r.production c.visit (segment_of c r)) x
        → Contains (flat_map (makes g.sorts parts r.production) (left_of c r at)) x ⊎ IsProper x (r.held x)
    -- the walk of the rest is the walk of the whole, and with what it meets the call's reach is complete
    pub walks : walk_on fuel r height (left_of c r at) ≡ walk_on fuel (at_start g parts r.production r.kids c) 0 (segment_of c r)
    pub within : (x : Met) → Contains (met ++ met_on fuel r height (left_of c r at)) x → Contains (reach g parts (suc fuel) c) x
    pub covers : (x : Met) → Contains (reach g parts (suc fuel) c) x → Meets fuel c met (met_on fuel r height (left_of c r at)) x

  -- The body stands at visit v of symbol s, whose tree is a node of the symbol's sort, and the call of that visit is d.
  pub record AtVisit (fuel : ℕ) (c : Call) (number : ℕ) (r : Run) (at height : ℕ) (met : List Met) (s v : ℕ) (d : Call) : Type 0 where
    pub point : Point fuel c number r at height met
    pub action : slice_get (segment_of c r) at ≡ Some (a.Visit s v)
    pub callable : is_callable g parts r s ≡ true
    pub call : d ≡ call_of g parts r.production r.kids r.held s v

  -- The body of call c, with fuel + 1, stands at a visit whose call is d.
  pub record WaitsFor (fuel : ℕ) (c d : Call) : Type 0 where
    pub number : ℕ
    pub run : Run
    pub at : ℕ
    pub height : ℕ
    pub met : List Met
    pub symbol : ℕ
    pub visit : ℕ
    pub stands : AtVisit fuel c number run at height met symbol visit d
