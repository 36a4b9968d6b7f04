-- Trees in the making: what the tasks that are still to be done make of the trees that no node has taken yet.
use Rattle.std.specs.Prelude.{ℕ, ◌≡◌, ◌+◌, ◌*◌, ◌<◌, ◌≤◌, List, [], ◌∷◌, ◌++◌, length}
use Rattle.lrc_base.specs.declared.raw_term.RawTermTree.{RawTermTree}
use Rattle.lrc_base.specs.RawTerms.{raw_grown, raw_wanted}
use Rattle.lrc_gen.specs.declared.tasks.Task.{Task}
use Rattle.lrc_gen.specs.declared.tasks.Task.TheVariants as task
use Rattle.lrc_gen.specs.Drawing.{Drawing}
use Rattle.lrc_gen.specs.Generated.{tree}

-- the trees that no node has taken yet, and the state of the draws
abbrev pub Making : Type 0
Making = List RawTermTree × ℕ

-- a tree more
abbrev pub with_tree : Drawing RawTermTree → Making → Making
with_tree drawing m = (m.0 ++ (drawing m.1).0 ∷ [], (drawing m.1).1)

-- what a task does
abbrev pub does : Task → Making → Making
does (task.Tree n) m = with_tree (tree n) m
does (task.Item i) m = (raw_grown m.0 i, m.1)

-- what tasks do, the last one first
abbrev pub resumed : List Task → Making → Making
resumed [] m = m
resumed (t ∷ ts) m = does t (resumed ts m)

-- how many trees a task takes
abbrev pub needs : Task → ℕ
needs (task.Tree n) = 0
needs (task.Item i) = raw_wanted i

-- each task finds as many trees as it takes
abbrev pub Fed : List Task → Making → Type 0
Fed [] m = Unit {0}
Fed (t ∷ ts) m = (needs t ≤ length (resumed ts m).0) × Fed ts m

-- a measure of a task: what a tree is parted into is smaller
abbrev pub weight : Task → ℕ
weight (task.Tree n) = 6 * n + 3
weight (task.Item i) = 1

abbrev pub weights : List Task → ℕ
weights [] = 0
weights (t ∷ ts) = weight t + weights ts

-- a tree was parted into tasks that make it, with the draws that this takes
pub record Parts (drawing : Drawing RawTermTree) (limit : ℕ) (before : List Task) (x : ℕ) (after : List Task) (y : ℕ) : Type 0 where
  pub parts : List Task
  pub tasks : after ≡ before ++ parts
  pub makes : (ts : List RawTermTree) → resumed parts (ts, y) ≡ with_tree drawing (ts, x)
  pub fed : (ts : List RawTermTree) → Fed parts (ts, y)
  pub lighter : weights parts < limit

-- what the tasks make of the trees that no node has taken yet, each of them finding as many as it takes
pub record Makes (tasks : List Task) (m whole : Making) : Type 0 where
  pub same : resumed tasks m ≡ whole
  pub fed : Fed tasks m

-- a task was done: what it was to do is done, or left to new tasks, which are lighter
pub record Performs (task : Task) (before : List Task) (m : Making) (after : List Task) (n : Making) : Type 0 where
  pub same : resumed after n ≡ resumed before (does task m)
  pub fed : Fed before (does task m) → Fed after n
  pub lighter : weights after < weights before + weight task
