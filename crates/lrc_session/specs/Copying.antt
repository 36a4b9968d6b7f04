-- Copies within the tree of a session: what they answer, as puts of the part that stands at the first place at the second.
use Rattle.std.specs.Prelude.{ℕ, ◌≡◌, List, Some, None, Result, Err}
use Rattle.lrc_base.specs.declared.grammar.Kind.{Kind}
use Rattle.lrc_meaning.specs.Tree.{Tree, kind_of, at_place}
use Rattle.lrc_store.specs.Standing.{Standing}
use Rattle.lrc_store.specs.Words.{Reads}
use Rattle.lrc_store.specs.declared.cells.Handle.{Handle}
use Rattle.lrc_functions.specs.declared.functions.Functions.{Functions}
use Rattle.lrc_session.specs.declared.session.Session.{Session}
use Rattle.lrc_session.specs.declared.fault.EditFault.{EditFault}
use Rattle.lrc_session.specs.declared.fault.EditFault.TheVariants as fault
use Rattle.lrc_session.specs.Sessions.{IsOpen, Edits}
use Rattle.lrc_session.specs.Proposals.{ProposesPut}

module _ (functions : Functions) where
  -- nothing stands at the place: the store was only read, and the session is open as it was
  pub record HasNoPart (s t : Standing) (whole : Tree) (vs : List Tree) (before after : Session) (place : List ℕ) : Type 0 where
    pub none : at_place whole place ≡ None
    pub reads : Reads s t
    pub is_open : IsOpen functions t after whole vs
    pub depth : after.depth ≡ before.depth
    pub runs : after.runs ≡ before.runs

  -- What the first half of a copy is answered: that the first path names no place; or what the first half of a put of the part
  -- that stands there is.
  pub data ProposesCopy (s t : Standing) (whole : Tree) (vs : List Tree) (before after : Session) (from to : List ℕ) (answer : Result Handle EditFault) : Type 0 where
    proposes_nothing : answer ≡ Err fault.BadPath → HasNoPart s t whole vs before after from → ProposesCopy s t whole vs before after from to answer
    proposes_part : (new : Tree) (kind : Kind) → at_place whole from ≡ Some new → kind_of functions.plan.grammar.prods new ≡ Some kind →
        ProposesPut functions s t whole vs before after to new kind answer → ProposesCopy s t whole vs before after from to answer

  -- What a copy is answered: that the first path names no place; or what a put of the part that stands there is.
  pub data Copies (s t : Standing) (whole : Tree) (vs : List Tree) (before after : Session) (from to : List ℕ) (answer : Result (Unit {0}) EditFault) : Type 0 where
    copies_nothing : answer ≡ Err fault.BadPath → HasNoPart s t whole vs before after from → Copies s t whole vs before after from to answer
    copies_part : (new : Tree) (kind : Kind) → at_place whole from ≡ Some new → kind_of functions.plan.grammar.prods new ≡ Some kind →
        Edits functions s t whole vs before after to new kind answer → Copies s t whole vs before after from to answer
