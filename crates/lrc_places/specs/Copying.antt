-- What a copy answers: a tree of a store with the part that stands at one place at another too, if that is of the kind that
-- stands there.
use Rattle.std.specs.Prelude.{ℕ, ◌≡◌, List, Some, None, Result, Ok, Err}
use Rattle.lrc_base.specs.declared.grammar.Kind.{Kind}
use Rattle.lrc_base.specs.declared.grammar.Production.{Production}
use Rattle.lrc_meaning.specs.Tree.{Tree, kind_of, at_place, replaced}
use Rattle.lrc_store.specs.Cells.{parts}
use Rattle.lrc_store.specs.Standing.{Standing}
use Rattle.lrc_store.specs.Words.{Adds, LacksOne, Reads, Tells}
use Rattle.lrc_store.specs.declared.cells.Handle.{Handle}
use Rattle.lrc_code.specs.Forms.{tree_cell}
use Rattle.lrc_places.specs.Replacing.{IsPlace, IsOtherPlace}
use Rattle.lrc_places.specs.declared.copying.CopyFault.{CopyFault}
use Rattle.lrc_places.specs.declared.copying.CopyFault.TheVariants as fault

module _ (prods : List Production) where
  -- what a copy of a part of this kind answers: the handle of the whole with it at the place; a fault of the place where the
  -- store was only read; or that a part of the new whole is in no row
  abbrev pub PartAnswers : Standing → Standing → Tree → List ℕ → Tree → Kind → Result Handle CopyFault → Type 0
  PartAnswers s t whole to new kind (Ok handle) = IsPlace prods whole to kind × Tells t handle.0 (tree_cell (replaced whole to new))
  PartAnswers s t whole to new kind (Err fault.BadPath) = (at_place whole to ≡ None) × Reads s t
  PartAnswers s t whole to new kind (Err fault.WrongSort) = IsOtherPlace prods whole to kind × Reads s t
  PartAnswers s t whole to new kind (Err fault.Full) = IsPlace prods whole to kind × LacksOne t (parts (tree_cell (replaced whole to new)))

  -- a copy of a part of this kind: at most rows of parts of the new whole are gained
  pub record CopiesPart (s t : Standing) (whole : Tree) (to : List ℕ) (new : Tree) (kind : Kind) (answer : Result Handle CopyFault) : Type 0 where
    pub adds : Adds s t (parts (tree_cell (replaced whole to new)))
    pub answers : PartAnswers s t whole to new kind answer

  -- A copy: nothing stands at the first place, and the store was only read; or a part does, and is put at the second.
  pub data Copies (s t : Standing) (whole : Tree) (from to : List ℕ) (answer : Result Handle CopyFault) : Type 0 where
    from_nowhere : at_place whole from ≡ None → answer ≡ Err fault.BadPath → Reads s t → Copies s t whole from to answer
    of_part : (new : Tree) (kind : Kind) → at_place whole from ≡ Some new → kind_of prods new ≡ Some kind → CopiesPart s t whole to new kind answer → Copies s t whole from to answer
