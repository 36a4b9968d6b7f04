-- What an expression is evaluated over, and what a call answers that evaluates it.
use Rattle.std.specs.Prelude.{ℕ, ◌≡◌, ◌<◌, List, [], ◌++◌, flat_map, length, Option, Some, None, IsSome, Contains, slice_get, Result, IfOk, IfSome, OnErr}
use Rattle.std.specs.Option.{option_map_or}
use Rattle.lrc_base.specs.declared.grammar.Kid.{Kid}
use Rattle.lrc_meaning.specs.Tree.{Tree, Trees, name, node, in_order}
use Rattle.lrc_meaning.specs.Expression.{Expression, literal, occurrence, leaf, binary, choice, make, Expressions, no_more, and_more, value_of, values_of}
use Rattle.lrc_meaning.specs.Grammar.{leaf_kind}
use Rattle.lrc_order_meaning.specs.Needs.{reads, reads_of_each}
use Rattle.lrc_visit_meaning.specs.Visits.{leaf_in}
use Rattle.lrc_visit_meaning.specs.Demand.{built_in, built_in_each}
use Rattle.lrc_store.specs.Cells.{CellTree, parts, IsWithin}
use Rattle.lrc_store.specs.Standing.{Standing, Stands, Told}
use Rattle.lrc_store.specs.Words.{Adds, LacksOne, Tells}
use Rattle.lrc_store.specs.declared.cells.Handle.{Handle}
use Rattle.lrc_store.specs.declared.stores.Full.{Full}
use Rattle.lrc_code.specs.Forms.{list_cell, name_cell, tree_cell, kid_cells, EachNameBelow}
use Rattle.lrc_call_meaning.specs.Spelled.{IsSpelledName, IsSpelled}
use Rattle.lrc_eval.specs.declared.values.Val.{Val}
use Rattle.lrc_eval.specs.Values.{IsMeant, Finds}

-- What an expression is evaluated over: the values of the occurrences by number, and a node, by its production and its
-- children, with what is declared of these.
pub record Inputs : Type 0 where
  pub values : List Tree
  pub production : ℕ
  pub trees : Trees
  pub kids : List Kid

-- the children that are leaves, by number
abbrev pub leaves : Inputs → ℕ → Option Tree
leaves x = leaf_in x.kids x.trees

-- each leaf that the expression reads is a child whose kind is no sort, and the number of each production of which it makes
-- a node is below 65,280, as cells have room for it
abbrev mutual
  pub FitsNode : List Kid → Expression → Type 0
  FitsNode kids (literal t) = Unit {0}
  FitsNode kids (occurrence i) = Unit {0}
  FitsNode kids (leaf i) = IsSome (leaf_kind kids i)
  FitsNode kids (binary op a b) = FitsNode kids a × FitsNode kids b
  FitsNode kids (choice c a b) = FitsNode kids c × FitsNode kids a × FitsNode kids b
  FitsNode kids (make p args) = (p < 65280) × EachFitsNode kids args

  pub EachFitsNode : List Kid → Expressions → Type 0
  EachFitsNode kids no_more = Unit {0}
  EachFitsNode kids (and_more e es) = FitsNode kids e × EachFitsNode kids es

-- the value at this number is set: it means the occurrence's value
pub record IsSet (s : Standing) (values : List Val) (trees : List Tree) (i : ℕ) : Type 0 where
  pub value : Val
  pub tree : Tree
  pub is_there : slice_get values i ≡ Some value
  pub of_tree : slice_get trees i ≡ Some tree
  pub meant : IsMeant s value tree

-- the handle stands for the node, whose names are spelled, and which has as many children as are declared
pub record IsNode (s : Standing) (handle : Handle) (x : Inputs) : Type 0 where
  pub stands : Stands s handle.0 (tree_cell (node x.production x.trees))
  pub spelled : IsSpelled (node x.production x.trees)
  pub count : length (in_order x.trees) ≡ length x.kids

-- What the expression reads is there: the node, and a value for each occurrence that it reads in any branch.
pub record AreGiven (s : Standing) (values : List Val) (handle : Handle) (x : Inputs) (e : Expression) : Type 0 where
  pub node : IsNode s handle x
  pub set : (i : ℕ) → Contains (reads e) i → IsSet s values x.values i
  pub fits : FitsNode x.kids e

-- the same of arguments
pub record AreGivenForEach (s : Standing) (values : List Val) (handle : Handle) (x : Inputs) (es : Expressions) : Type 0 where
  pub node : IsNode s handle x
  pub set : (i : ℕ) → Contains (reads_of_each es) i → IsSet s values x.values i
  pub fits : EachFitsNode x.kids es

-- the cells of trees and of their parts
abbrev pub cells_of_trees : List Tree → List CellTree
cells_of_trees ts = flat_map (λ t. parts (tree_cell t)) ts

-- the cells of what the expression builds
abbrev pub built_cells : Inputs → Expression → List CellTree
built_cells x e = cells_of_trees (built_in x.values (leaves x) e)

-- the cells of what arguments build, and of the list of their values where each has one
abbrev pub argument_cells : Inputs → Expressions → List CellTree
argument_cells x es =
    cells_of_trees (built_in_each x.values (leaves x) es)
    ++ option_map_or (λ ts. parts (list_cell (kid_cells ts))) (values_of x.values (leaves x) es) []

-- the cells are in the store for good
abbrev pub AreSeen : Standing → List CellTree → Type 0
AreSeen s cells = Told s.seen (IsWithin cells)

-- What a call answers that evaluates an expression: at most rows of what is built are gained; with a value what is built is
-- in the store for good; and full comes only where a part of it can't be.
pub record Evaluates (s t : Standing) (x : Inputs) (e : Expression) (answer : Result (Option Val) Full) : Type 0 where
  pub adds : Adds s t (built_cells x e)
  pub found : IfOk answer (Finds t (value_of x.values (leaves x) e))
  pub seen : IfOk answer (λ found. IfSome found (λ _. AreSeen t (built_cells x e)))
  pub full : OnErr answer (LacksOne t (built_cells x e))

-- what a call answers that puts a name: the value that it is
pub record NamesValue (s t : Standing) (bytes : List ℕ) (answer : Result Val Full) : Type 0 where
  pub adds : Adds s t (parts (name_cell bytes))
  pub ok : IfOk answer (λ value. IsMeant t value (name bytes) × AreSeen t (parts (name_cell bytes)))
  pub full : OnErr answer (LacksOne t (parts (name_cell bytes)))

-- the handle stands for the list of these trees, whose names are spelled; and none is wanted where there are none
abbrev pub FindsList : Standing → Option Trees → Option Handle → Type 0
FindsList s wanted None = wanted ≡ None
FindsList s wanted (Some handle) = (ts : Trees) × (wanted ≡ Some ts) × Tells s handle.0 (list_cell (kid_cells ts)) × EachNameBelow IsSpelledName ts

-- the same of arguments, with the list of their values
pub record EvaluatesEach (s t : Standing) (x : Inputs) (es : Expressions) (answer : Result (Option Handle) Full) : Type 0 where
  pub adds : Adds s t (argument_cells x es)
  pub found : IfOk answer (FindsList t (values_of x.values (leaves x) es))
  pub seen : IfOk answer (λ found. IfSome found (λ _. AreSeen t (argument_cells x es)))
  pub full : OnErr answer (LacksOne t (argument_cells x es))
