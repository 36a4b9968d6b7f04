-- What the steps that write to the store ask of a visit that runs, and which cells the values of a frame hold.
use Rattle.std.specs.Prelude.{◌≡◌, ℕ, suc, ◌<◌, true, false, List, length, Option, Some, All, Contains, slice_get, MatchOption, Result, IfOk}
use Rattle.lrc_base.specs.declared.grammar.Kind.TheVariants as k
use Rattle.lrc_base.specs.declared.grammar.Production.{Production}
use Rattle.lrc_meaning.specs.Tree.{Tree}
use Rattle.lrc_meaning.specs.Grammar.{Grammar, occurrences_of}
use Rattle.lrc_order_meaning.specs.declared.Partition.{Partition}
use Rattle.lrc_base.specs.declared.signature.Origin.{Origin}
use Rattle.lrc_base.specs.declared.signature.Origin.TheVariants as origin
use Rattle.lrc_plan_meaning.specs.declared.Action.TheVariants as a
use Rattle.lrc_plan_meaning.specs.Items.{needs}
use Rattle.lrc_plan_meaning.specs.Sound.{IsVisitThere}
use Rattle.lrc_visit_meaning.specs.Values as plain
use Rattle.lrc_visit_meaning.specs.Visits.{Walked, is_of_kind}
use Rattle.lrc_store.specs.Cells.{CellTree, number}
use Rattle.lrc_store.specs.Standing.{Standing, Stands, meant}
use Rattle.lrc_store.specs.declared.cells.Handle.{Handle}
use Rattle.lrc_store.specs.declared.stores.Full.{Full}
use Rattle.lrc_code.specs.Forms.{truth_cell, tree_cell}
use Rattle.lrc_code.specs.Building.{Builds}
use Rattle.lrc_code.specs.Reading.{HasKid}
use Rattle.lrc_call_meaning.specs.Forms.{result_form}
use Rattle.lrc_call_meaning.specs.Spelled.{IsSpelledResult}
use Rattle.lrc_eval.specs.declared.values.Val.{Val}
use Rattle.lrc_eval.specs.declared.values.Val.TheVariants as v
use Rattle.lrc_eval.specs.Values.{Means, is_name_or_node}
use Rattle.lrc_functions.specs.declared.function.Callee.{Callee}
use Rattle.lrc_functions.specs.declared.function.Function.{Function}
use Rattle.lrc_functions.specs.declared.function.Operation.TheVariants as op
use Rattle.lrc_functions.specs.Functions.{callee_of, operation_of, function_of}
use Rattle.lrc_frames.specs.declared.body.Body.{Body}
use Rattle.lrc_frames.specs.Frames.{Run, RunsAt}
use Rattle.lrc_frames.specs.Steps.{IsDone}

-- the value holds the cell: that of its number or of its truth value, or the one that its handle stands for
abbrev pub HoldsCell : Standing → Val → CellTree → Type 0
HoldsCell s (v.Int n) cell = cell ≡ number n
HoldsCell s (v.Bool b) cell = cell ≡ truth_cell b
HoldsCell s (v.Ref handle) cell = Stands s handle.0 cell
HoldsCell s v.Unset cell = ⊥

-- a value that holds the cell stands at this number
pub record HoldsAt (s : Standing) (frame : List Val) (n : ℕ) (cell : CellTree) : Type 0 where
  pub value : Val
  pub there : slice_get frame n ≡ Some value
  pub holds : HoldsCell s value cell

-- the values at these numbers hold these cells, one by one
pub record AreHeld (s : Standing) (frame : List Val) (numbers : List ℕ) (cells : List CellTree) : Type 0 where
  pub count : length numbers ≡ length cells
  pub each : (i n : ℕ) (cell : CellTree) → slice_get numbers i ≡ Some n → slice_get cells i ≡ Some cell → HoldsAt s frame n cell

-- the same of lists of numbers, each with a list of cells
pub record AreHeldEach (s : Standing) (frame : List Val) (lists : List (List ℕ)) (rows : List (List CellTree)) : Type 0 where
  pub count : length lists ≡ length rows
  pub each : (i : ℕ) (numbers : List ℕ) (cells : List CellTree) → slice_get lists i ≡ Some numbers → slice_get rows i ≡ Some cells → AreHeld s frame numbers cells

-- the tree stands at the origin: it is that child of the body's node, or what the value of that occurrence means
abbrev pub StandsAt : Standing → List Val → Body → Origin → Tree → Type 0
StandsAt s frame body (origin.Child i) t = HasKid (meant s body.tree.0) i (tree_cell t)
StandsAt s frame body (origin.Value o) t = (value : Val) × (slice_get frame o ≡ Some value) × Means s value t

-- a handle of the tree; none where it is a number or a truth value
abbrev pub FindsTree : Standing → Tree → Option Handle → Type 0
FindsTree s t answer = MatchOption answer (is_name_or_node t ≡ false) (λ handle. Stands s handle.0 (tree_cell t))

-- a handle of the tree, just where it is a node of this sort
abbrev pub FindsNode : List Production → Standing → ℕ → Tree → Option Handle → Type 0
FindsNode prods s sort t answer =
    MatchOption answer (is_of_kind prods t (k.Sort sort) ≡ false) (λ handle. (is_of_kind prods t (k.Sort sort) ≡ true) × Stands s handle.0 (tree_cell t))

-- what a call answers that makes a result: a handle of its cell, and the names in it are spelled
pub record Ends (s t : Standing) (outcome : plain.Result) (answer : Result Handle Full) : Type 0 where
  pub builds : Builds s t (result_form outcome) answer
  pub spelled : IfOk answer (λ _. IsSpelledResult outcome)

module _ (g : Grammar) (parts : List Partition) where
  -- The occurrence can be evaluated: the visit runs, this is its equation, and what its evaluation needs is available.
  pub record CanEvaluate (s : Standing) (frame : List Val) (body : Body) (o : ℕ) (equation : Option ℕ) (r : Run) : Type 0 where
    pub runs : RunsAt g parts s frame body r
    pub occurrence : o < length (occurrences_of g.sorts r.production)
    pub operation : operation_of g.sorts parts r.production (a.Eval o) ≡ op.Eval o equation
    pub needed : All (Contains r.available) (needs g.sorts parts r.production (a.Eval o))

  -- Visit v of symbol n can be called: the visit runs, the callee is that one, and what it takes is available.
  pub record CanCall (s : Standing) (frame : List Val) (body : Body) (callee : Callee) (r : Run) (n v : ℕ) : Type 0 where
    pub runs : RunsAt g parts s frame body r
    pub is_there : IsVisitThere g.sorts parts r.production n v
    pub is_callee : callee ≡ callee_of g.sorts parts r.production n v
    pub taken : All (Contains r.available) (needs g.sorts parts r.production (a.Visit n v))

  -- The visit, which is visit v of its production by this function, can end: all that it gives is available, what it walked
  -- holds what the run holds, and its result's height is this one.
  pub record CanEnd (s : Standing) (frame : List Val) (function : Function) (height : ℕ) (r : Run) (v : ℕ) (w : Walked) : Type 0 where
    pub body : Body
    pub runs : RunsAt g parts s frame body r
    pub is_function : function ≡ function_of g.sorts parts r.production v
    pub done : IsDone g parts r v
    pub same_held : w.held ≡ r.held
    pub is_height : height ≡ suc w.height
