-- The generated job: a tree that is drawn once, and sessions on it with four edits each, drawn one after the other.
use Rattle.std.specs.Prelude.{ℕ, zero, suc, ◌+◌, ◌-◌, ◌/◌, pos, List, [], ◌∷◌, codes, if◌then◌else◌, ◌==◌, nat_lt}
use Rattle.lrc_base.specs.declared.raw_term.RawTermTree.{RawTermTree}
use Rattle.lrc_base.specs.declared.raw_term.RawTermTree.TheVariants as t
use Rattle.lrc_base.specs.declared.job.Path.{Path}
use Rattle.lrc_base.specs.declared.job.RawEdit.{RawEdit}
use Rattle.lrc_base.specs.declared.job.RawEdit.TheVariants as edit
use Rattle.lrc_base.specs.declared.job.RawScript.{RawScript}
use Rattle.lrc_base.specs.declared.job.Job.{Job}
use Rattle.lrc_gen.specs.Drawing.{Drawing, ◌>>=◌, pure, draw, row}
use Rattle.lrc_gen.specs.Lets.{lets}

-- ---- trees

-- the names by number: a, b, c, d
abbrev pub letter : ℕ → List ℕ
letter n = (97 + n) ∷ []

abbrev pub root : RawTermTree → RawTermTree
root e = t.Node (codes "Root") (e ∷ [])

abbrev pub var : List ℕ → RawTermTree
var x = t.Node (codes "Var") (t.Name x ∷ [])

abbrev pub num : ℕ → RawTermTree
num n = t.Node (codes "Num") (t.Int (pos n) ∷ [])

abbrev pub neg : RawTermTree → RawTermTree
neg e = t.Node (codes "Neg") (e ∷ [])

abbrev pub add : RawTermTree → RawTermTree → RawTermTree
add l r = t.Node (codes "Add") (l ∷ r ∷ [])

abbrev pub let_in : List ℕ → RawTermTree → RawTermTree → RawTermTree
let_in x e b = t.Node (codes "Let") (t.Name x ∷ e ∷ b ∷ [])

abbrev pub var_leaf : Drawing RawTermTree
var_leaf = do
  x ← draw 4
  pure (var (letter x))

abbrev pub num_leaf : Drawing RawTermTree
num_leaf = do
  n ← draw 100
  pure (num n)

-- a variable one time in four, else a number
abbrev pub leaf : Drawing RawTermTree
leaf = do
  kind ← draw 4
  if kind == 0 then var_leaf else num_leaf

abbrev pub neg_leaf : Drawing RawTermTree
neg_leaf = do
  e ← leaf
  pure (neg e)

abbrev pub let_fork : Drawing RawTermTree → Drawing RawTermTree → Drawing RawTermTree
let_fork left right = do
  x ← draw 4
  e ← left
  b ← right
  pure (let_in (letter x) e b)

abbrev pub add_fork : Drawing RawTermTree → Drawing RawTermTree → Drawing RawTermTree
add_fork left right = do
  l ← left
  r ← right
  pure (add l r)

-- a `Let` one time in four, else a sum
abbrev pub fork : Drawing RawTermTree → Drawing RawTermTree → Drawing RawTermTree
fork left right = do
  kind ← draw 4
  if kind == 0 then let_fork left right else add_fork left right

-- the nodes on the left of a tree of so many, and those on its right
abbrev pub left_nodes : ℕ → ℕ
left_nodes n = (n - 1) / 2

abbrev pub right_nodes : ℕ → ℕ
right_nodes n = n - 1 - left_nodes n

-- a tree of so many nodes, by what is drawn on its left and on its right where it has at least three
abbrev pub tree_over : ℕ → Drawing RawTermTree → Drawing RawTermTree → Drawing RawTermTree
tree_over n left right = if nat_lt n 2 then leaf else (if nat_lt n 3 then neg_leaf else fork left right)

-- a tree of so many nodes, with at most so many levels above its leaves
unfoldable pub tree_within : ℕ → ℕ → Drawing RawTermTree
tree_within zero n = leaf
tree_within (suc levels) n = tree_over n (tree_within levels (left_nodes n)) (tree_within levels (right_nodes n))

-- a tree of so many nodes, which has no more levels than nodes
unfoldable pub tree : ℕ → Drawing RawTermTree
tree n = tree_within n n

-- ---- sessions

-- how many steps a path has further than is drawn: trees of many nodes are deeper
abbrev pub further : ℕ → ℕ
further nodes = if nat_lt nodes 100 then 0 else 4

-- a path from the root to its child, and so many steps on
abbrev pub path : ℕ → Drawing Path
path n = do
  steps ← row n (draw 2)
  pure (record { steps = 0 ∷ steps })

-- a number is put at a place
abbrev pub put : ℕ → Drawing RawEdit
put nodes = do
  m ← draw 4
  place ← path (m + further nodes)
  n ← draw 100
  pure (edit.Put place (num n))

abbrev pub session : ℕ → RawTermTree → Drawing RawScript
session nodes whole = do
  edits ← row 4 (put nodes)
  pure (record { tree = whole; edits = edits })

abbrev pub sessions_of : ℕ → ℕ → Drawing (List RawScript)
sessions_of nodes sessions = do
  e ← tree nodes
  row sessions (session nodes (root e))

-- the job of a seed, of this many nodes in its tree below the root and this many sessions
abbrev pub generated : ℕ → ℕ → ℕ → Job
generated seed nodes sessions = record { grammar = lets; sessions = (sessions_of nodes sessions seed).0 }
