-- Expressions whose kinds are right, which have a value of their kind.
use Rattle.std.specs.Prelude.{ℕ, ◌≡◌, ◌≤◌, List, length, Option, Some, Contains, IsTrue, slice_get, Result, Ok, Err, IfOk}
use Rattle.lrc_base.specs.declared.grammar.Kind.{Kind}
use Rattle.lrc_base.specs.declared.grammar.Production.{Production}
use Rattle.lrc_meaning.specs.Tree.{Tree, kind_of}
use Rattle.lrc_meaning.specs.Expression.{Expression}
use Rattle.lrc_meaning.specs.Grammar.{Occurrence, read_kind, expression_kind}
use Rattle.lrc_order_meaning.specs.Needs.{reads}
use Rattle.lrc_visit_meaning.specs.Visits.{are_of_kinds}
use Rattle.lrc_store.specs.Standing.{Standing}
use Rattle.lrc_store.specs.declared.cells.Handle.{Handle}
use Rattle.lrc_store.specs.declared.stores.Full.{Full}
use Rattle.lrc_eval.specs.declared.values.Val.{Val}
use Rattle.lrc_eval.specs.Values.{IsMeant}
use Rattle.lrc_eval.specs.Evaluating.{Inputs, IsSet, IsNode, Evaluates}

-- there is such a tree, of this kind
abbrev pub HasKind : List Production → Option Tree → Kind → Type 0
HasKind prods found kind = (t : Tree) × (found ≡ Some t) × (kind_of prods t ≡ Some kind)

-- The expression is of this kind, over values of the occurrences that it reads and over children, which are of theirs.
pub record AreOfKinds (prods : List Production) (occurrences : List Occurrence) (x : Inputs) (e : Expression) (kind : Kind) : Type 0 where
  pub whole : expression_kind prods occurrences x.kids e ≡ Some kind
  pub values : (i : ℕ) (own : Kind) → Contains (reads e) i → read_kind occurrences i ≡ Some own → HasKind prods (slice_get x.values i) own
  pub children : IsTrue (are_of_kinds prods x.trees x.kids)

-- What such an expression reads is there: the node, and a value for each occurrence that it reads in any branch. There are no
-- more productions than cells have room for.
pub record AreGivenOfKinds (s : Standing) (values : List Val) (handle : Handle) (prods : List Production) (occurrences : List Occurrence) (x : Inputs) (e : Expression) (kind : Kind) : Type 0 where
  pub kinds : AreOfKinds prods occurrences x e kind
  pub node : IsNode s handle x
  pub set : (i : ℕ) → Contains (reads e) i → IsSet s values x.values i
  pub few : length prods ≤ 65280

-- the answer of a call that finds a value, or is full
abbrev pub always : Result Val Full → Result (Option Val) Full
always (Ok value) = Ok (Some value)
always (Err fault) = Err fault

-- what a call answers that evaluates an expression of this kind: there is always a value, which is of the kind, or full
pub record EvaluatesTo (s t : Standing) (prods : List Production) (x : Inputs) (e : Expression) (kind : Kind) (answer : Result Val Full) : Type 0 where
  pub evaluates : Evaluates s t x e (always answer)
  pub of_kind : IfOk answer (λ value. (tree : Tree) × IsMeant t value tree × (kind_of prods tree ≡ Some kind))
