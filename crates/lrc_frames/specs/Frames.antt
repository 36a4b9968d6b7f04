-- What a frame holds while a visit of a node runs: a value for each item of the node's production, at the item's number.
use Rattle.std.specs.Prelude.{◌≡◌, ℕ, ◌≤◌, List, ◌++◌, length, Some, IsTrue, Contains, slice_get}
use Rattle.lrc_base.specs.declared.grammar.Production.{Production}
use Rattle.lrc_meaning.specs.Tree.{Trees, node}
use Rattle.lrc_meaning.specs.Grammar.{Grammar}
use Rattle.lrc_order_meaning.specs.declared.Partition.{Partition}
use Rattle.lrc_plan_meaning.specs.declared.Action.{Action}
use Rattle.lrc_plan_meaning.specs.declared.Bound.{Bound}
use Rattle.lrc_plan_meaning.specs.declared.Bound.TheVariants as b
use Rattle.lrc_plan_meaning.specs.Items.{makes}
use Rattle.lrc_plan_meaning.specs.Bindings.{items_of}
use Rattle.lrc_plan_meaning.specs.Sound.{handed_in}
use Rattle.lrc_visit_meaning.specs.Values.{Datum, Data, value_in, binding_in, Call}
use Rattle.lrc_visit_meaning.specs.Visits.{Held, holding, are_of_kinds, held_at_start}
use Rattle.lrc_store.specs.Standing.{Standing, Stands}
use Rattle.lrc_code.specs.Forms.{tree_cell}
use Rattle.lrc_call_meaning.specs.Forms.{binding_cell}
use Rattle.lrc_call_meaning.specs.Spelled.{IsSpelled, AreSpelledData}
use Rattle.lrc_eval.specs.declared.values.Val.{Val}
use Rattle.lrc_eval.specs.declared.values.Val.TheVariants as v
use Rattle.lrc_eval.specs.Values.{IsMeant}
use Rattle.lrc_functions.specs.Numbers.{number}
use Rattle.lrc_frames.specs.declared.body.Body.{Body}

-- the value is a handle of the list of what the binding holds, whose names are spelled
abbrev pub MeansBinding : Standing → Val → Data → Type 0
MeansBinding s (v.Int n) ds = ⊥
MeansBinding s (v.Bool b) ds = ⊥
MeansBinding s (v.Ref handle) ds = Stands s handle.0 (binding_cell ds) × AreSpelledData ds
MeansBinding s v.Unset ds = ⊥

-- the value stands for what the item holds: an occurrence its tree, and a binding what its own items hold
abbrev pub Shows : Standing → Val → Bound → Datum → Type 0
Shows s value (b.Value o) d = IsMeant s value (value_in d)
Shows s value (b.Kid t i j) d = MeansBinding s value (binding_in d)

-- a value for the item stands at this number
pub record ShowsAt (s : Standing) (frame : List Val) (n : ℕ) (x : Bound) (d : Datum) : Type 0 where
  pub value : Val
  pub there : slice_get frame n ≡ Some value
  pub shows : Shows s value x d

-- A visit that runs: the production of its node, the node's children, the items that are available so far, and what they
-- hold.
pub record Run : Type 0 where
  pub production : Production
  pub kids : Trees
  pub available : List Bound
  pub held : Held

-- the run with these items available besides, which hold these data
abbrev pub gaining : Run → List Bound → List Datum → Run
gaining r items ds = record r { available = r.available ++ items; held = holding items ds r.held }

module _ (g : Grammar) (parts : List Partition) where
  -- A visit runs over this frame, on this node: each item that is available is shown.
  pub record RunsAt (s : Standing) (frame : List Val) (body : Body) (r : Run) : Type 0 where
    pub there : slice_get g.prods body.production ≡ Some r.production
    pub tree : Stands s body.tree.0 (tree_cell (node body.production r.kids))
    pub spelled : IsSpelled (node body.production r.kids)
    pub kinds : IsTrue (are_of_kinds g.prods r.kids r.production.kids)
    pub listed : (x : Bound) → Contains r.available x → Contains (items_of g.sorts parts r.production) x
    pub room : length (items_of g.sorts parts r.production) ≤ length frame
    pub holds : (x : Bound) → Contains r.available x → ShowsAt s frame (number g.sorts parts r.production x) x (r.held x)

  -- the run at the start of a call's body
  abbrev pub at_start : Production → Trees → Call → Run
  at_start p kids c =
      record { production = p; kids = kids; available = handed_in g.sorts parts p c.visit; held = held_at_start g parts p c }

  -- the run behind an action that gave these data
  abbrev pub after : Run → Action → List Datum → Run
  after r x ds = gaining r (makes g.sorts parts r.production x) ds
