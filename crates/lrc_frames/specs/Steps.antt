-- What the steps of a visit that runs answer.
use Rattle.std.specs.Prelude.{◌≡◌, ℕ, ◌-◌, Bool, true, false, cond, List, [], ◌∷◌, length, Option, Some, None, IsTrue, Contains, Result, IfOk, OnErr}
use Rattle.std.specs.Option.{option_map_or}
use Rattle.lrc_base.specs.declared.grammar.Kind.TheVariants as k
use Rattle.lrc_base.specs.declared.grammar.Production.{Production}
use Rattle.lrc_meaning.specs.Tree.{Tree, Trees, node}
use Rattle.lrc_meaning.specs.Grammar.{Grammar}
use Rattle.lrc_order_meaning.specs.declared.Partition.{Partition}
use Rattle.lrc_plan_meaning.specs.declared.Action.TheVariants as a
use Rattle.lrc_plan_meaning.specs.declared.Bound.{Bound}
use Rattle.lrc_plan_meaning.specs.declared.Bound.TheVariants as b
use Rattle.lrc_plan_meaning.specs.Items.{visits_of, attrs_of_visit, values_of_visit, symbol_at}
use Rattle.lrc_plan_meaning.specs.Bindings.{binding}
use Rattle.lrc_visit_meaning.specs.Values as plain
use Rattle.lrc_visit_meaning.specs.Values.{Datum, value, Data, Call}
use Rattle.lrc_visit_meaning.specs.Visits.{is_of_kind, leaf_in, equation_of, values_in, evaluated, tree_at, is_visited, call_of, one_visit}
use Rattle.lrc_visit_meaning.specs.Demand.{equation_met}
use Rattle.lrc_store.specs.Cells.{CellTree, parts as parts_of, IsWithin}
use Rattle.lrc_store.specs.Standing.{Standing, Told}
use Rattle.lrc_store.specs.Words.{Adds, LacksOne, Tells}
use Rattle.lrc_store.specs.declared.cells.Handle.{Handle}
use Rattle.lrc_store.specs.declared.stores.Full.{Full}
use Rattle.lrc_call_meaning.specs.Forms.{call_form}
use Rattle.lrc_call_meaning.specs.Reached.{cells_of}
use Rattle.lrc_call_meaning.specs.Spelled.{IsSpelledCall}
use Rattle.lrc_eval.specs.declared.values.Val.{Val}
use Rattle.lrc_frames.specs.declared.body.Body.{Body}
use Rattle.lrc_frames.specs.Frames.{Run, RunsAt, at_start, after}

-- the item holds what is of its sort: an occurrence a value, and a symbol's binding a binding
abbrev pub IsProper : Bound → Datum → Type 0
IsProper (b.Value o) d = (t : Tree) × (d ≡ value t)
IsProper (b.Kid n i j) d = (ds : Data) × (d ≡ plain.binding ds)

module _ (g : Grammar) (parts : List Partition) where
  -- the call visits a node, whose body is at its start
  pub record Begins (s : Standing) (frame : List Val) (c : Call) (body : Body) : Type 0 where
    pub production : Production
    pub kids : Trees
    pub tree : c.tree ≡ node body.production kids
    pub visit : body.visit ≡ c.visit
    pub visited : IsTrue (is_visited g parts production kids c)
    pub runs : RunsAt g parts s frame body (at_start g parts production kids c)

  -- a body begins; or there is none, and the call has no result, whatever its node's own visits give
  abbrev pub BeginsIf : Standing → List Val → Call → Option Body → Type 0
  BeginsIf s frame c None = (visit : Call → Option plain.Result) → one_visit g parts visit c ≡ None
  BeginsIf s frame c (Some body) = Begins s frame c body

  -- the cells that the evaluation of an occurrence meets
  abbrev pub evaluation_cells : Run → ℕ → List CellTree
  evaluation_cells r o =
      option_map_or (λ e. cells_of (equation_met g (values_in g r.production r.held) (leaf_in r.production.kids r.kids) e)) (equation_of r.production o) []

  -- the occurrence has a value, with which the run goes on, and what it met is in the store for good; or it has none
  abbrev pub GoesOnIf : Standing → List Val → Body → Run → ℕ → Bool → Type 0
  GoesOnIf s frame body r o false = evaluated g r.production r.kids r.held o ≡ None
  GoesOnIf s frame body r o true =
      (t : Tree)
      × (evaluated g r.production r.kids r.held o ≡ Some t)
      × RunsAt g parts s frame body (after g parts r (a.Eval o) (value t ∷ []))
      × Told s.seen (IsWithin (evaluation_cells r o))

  pub record Evaluates (s t : Standing) (frame : List Val) (body : Body) (r : Run) (o : ℕ) (answer : Result Bool Full) : Type 0 where
    pub adds : Adds s t (evaluation_cells r o)
    pub ok : IfOk answer (GoesOnIf t frame body r o)
    pub full : OnErr answer (LacksOne t (evaluation_cells r o))

  -- visit v of symbol n can be called: its tree is a node of the symbol's sort
  abbrev pub is_callable : Run → ℕ → Bool
  is_callable r n = is_of_kind g.prods (tree_at g r.production r.kids r.held n) (k.Sort (symbol_at g.sorts r.production n).sort)

  abbrev pub call_cells : Run → ℕ → ℕ → List CellTree
  call_cells r n v = cond (is_callable r n) (parts_of (call_form (call_of g parts r.production r.kids r.held n v))) []

  -- a handle of the call, or none where it can't be called
  abbrev pub CallsIf : Standing → Run → ℕ → ℕ → Option Handle → Type 0
  CallsIf s r n v None = is_callable r n ≡ false
  CallsIf s r n v (Some handle) =
      (is_callable r n ≡ true)
      × Tells s handle.0 (call_form (call_of g parts r.production r.kids r.held n v))
      × IsSpelledCall (call_of g parts r.production r.kids r.held n v)

  pub record Calls (s t : Standing) (r : Run) (n v : ℕ) (answer : Result (Option Handle) Full) : Type 0 where
    pub adds : Adds s t (call_cells r n v)
    pub ok : IfOk answer (CallsIf t r n v)
    pub full : OnErr answer (LacksOne t (call_cells r n v))

  -- the result has as many values, and as many bindings, as visit v of symbol n gives
  pub record IsOf (r : Run) (n v : ℕ) (outcome : plain.Result) : Type 0 where
    pub values : length outcome.synthesised ≡ length (attrs_of_visit g.sorts parts false (symbol_at g.sorts r.production n).sort v)
    pub bindings : length outcome.bindings ≡ visits_of parts (symbol_at g.sorts r.production n).sort - v

  -- at the end of visit v all that it gives is available, and what it hands on is proper
  pub record IsDone (r : Run) (v : ℕ) : Type 0 where
    pub gives : (x : Bound) → Contains (values_of_visit g.sorts parts false r.production.left 0 v) x → Contains r.available x
    pub hands_on : (w : ℕ) (x : Bound) → Contains (binding g.sorts parts r.production v w) x → Contains r.available x × IsProper x (r.held x)
