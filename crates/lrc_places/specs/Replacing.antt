-- What a put answers: a tree of a store with another part at a place, if that part is of the kind that stands there, and no
-- higher than a limit.
use Rattle.std.specs.Prelude.{ℕ, ◌≡◌, ◌≢◌, ◌<◌, ◌≤◌, List, Some, None, Result, Ok, Err}
use Rattle.lrc_base.specs.declared.grammar.Kind.{Kind}
use Rattle.lrc_base.specs.declared.grammar.Production.{Production}
use Rattle.lrc_meaning.specs.Tree.{Tree, kind_of, tree_height, at_place, replaced}
use Rattle.lrc_store.specs.Cells.{parts}
use Rattle.lrc_store.specs.Standing.{Standing}
use Rattle.lrc_store.specs.Words.{Adds, LacksOne, Reads, Tells}
use Rattle.lrc_store.specs.declared.cells.Handle.{Handle}
use Rattle.lrc_code.specs.Forms.{tree_cell}
use Rattle.lrc_places.specs.declared.putting.ReplaceFault.{ReplaceFault}
use Rattle.lrc_places.specs.declared.putting.ReplaceFault.TheVariants as fault

module _ (prods : List Production) where
  -- the tree has a place of this kind there
  pub record IsPlace (t : Tree) (steps : List ℕ) (kind : Kind) : Type 0 where
    pub old : Tree
    pub there : at_place t steps ≡ Some old
    pub of_kind : kind_of prods old ≡ Some kind

  -- what stands there is of another kind
  pub record IsOtherPlace (t : Tree) (steps : List ℕ) (kind : Kind) : Type 0 where
    pub old : Tree
    pub there : at_place t steps ≡ Some old
    pub other : kind_of prods old ≢ Some kind

  -- what a put answers, of a tree of this kind: the handle of the whole with it at the place; a fault of the place or of the
  -- height where the store was only read; or that a part of the new whole is in no row
  abbrev pub ReplaceAnswers : Standing → Standing → Tree → List ℕ → Tree → Kind → ℕ → Result Handle ReplaceFault → Type 0
  ReplaceAnswers s t whole steps new kind limit (Ok handle) = IsPlace whole steps kind × (tree_height new ≤ limit) × Tells t handle.0 (tree_cell (replaced whole steps new))
  ReplaceAnswers s t whole steps new kind limit (Err fault.BadPath) = (at_place whole steps ≡ None) × Reads s t
  ReplaceAnswers s t whole steps new kind limit (Err fault.WrongSort) = IsOtherPlace whole steps kind × Reads s t
  ReplaceAnswers s t whole steps new kind limit (Err fault.TooHigh) = IsPlace whole steps kind × (limit < tree_height new) × Reads s t
  ReplaceAnswers s t whole steps new kind limit (Err fault.Full) = IsPlace whole steps kind × (tree_height new ≤ limit) × LacksOne t (parts (tree_cell (replaced whole steps new)))

  -- a put: at most rows of parts of the new whole are gained
  pub record Replaces (s t : Standing) (whole : Tree) (steps : List ℕ) (new : Tree) (kind : Kind) (limit : ℕ) (answer : Result Handle ReplaceFault) : Type 0 where
    pub adds : Adds s t (parts (tree_cell (replaced whole steps new)))
    pub answers : ReplaceAnswers s t whole steps new kind limit answer
