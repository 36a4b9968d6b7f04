-- The halves of opening a session and of a put: what is there before the root's visit, and what its result leaves.
use Rattle.std.specs.Prelude.{ℕ, ◌≡◌, ◌<◌, List, None, Result, Ok, Err}
use Rattle.lrc_base.specs.declared.grammar.Kind.{Kind}
use Rattle.lrc_meaning.specs.Tree.{Tree, at_place, replaced, tree_height}
use Rattle.lrc_visit_meaning.specs.Values.{root_call}
use Rattle.lrc_store.specs.Standing.{Standing}
use Rattle.lrc_store.specs.Words.{Adds, LacksOne, Reads}
use Rattle.lrc_store.specs.declared.cells.Handle.{Handle}
use Rattle.lrc_places.specs.Replacing.{IsPlace, IsOtherPlace}
use Rattle.lrc_functions.specs.declared.functions.Functions.{Functions}
use Rattle.lrc_bodies.specs.Bodies.{Gives}
use Rattle.lrc_visit.specs.Asked.{IsAsked}
use Rattle.lrc_session.specs.declared.session.Session.{Session}
use Rattle.lrc_session.specs.declared.proposal.Proposal.{Proposal}
use Rattle.lrc_session.specs.declared.fault.EditFault.{EditFault}
use Rattle.lrc_session.specs.declared.fault.EditFault.TheVariants as fault
use Rattle.lrc_session.specs.Sessions.{grammar, sorts, demands, IsStartTree, HasFrames, IsOpen}

module _ (functions : Functions) where
  -- the handle stands for the root's call of a tree of the start sort
  pub record IsRootAsked (s : Standing) (t : Tree) (handle : ℕ) : Type 0 where
    pub fitting : IsStartTree functions t
    pub asked : IsAsked s (root_call t) handle

  -- the handle stands for the result of the root's visit within the limit
  abbrev pub IsRootGiven : Standing → ℕ → Tree → ℕ → Type 0
  IsRootGiven s limit t handle = Gives (grammar functions) (sorts functions) s limit (root_call t) handle

  -- a session is to be opened with this tree
  pub record IsProposal (s : Standing) (t : Tree) (proposal : Proposal) : Type 0 where
    pub call : IsRootAsked s t proposal.call.0
    pub frames : HasFrames functions proposal.frames proposal.depth

  -- What the first half of a put is answered: a handle of the root's call of the changed tree; or that the path names no
  -- place, that what stands there is of another kind, that the part is higher than the limit, where the store was only read,
  -- or that the store is full.
  abbrev pub ProposalAnswers : Standing → Standing → ℕ → Tree → List ℕ → Tree → Kind → Result Handle EditFault → Type 0
  ProposalAnswers s t limit whole steps new kind (Ok call) = IsPlace functions.plan.grammar.prods whole steps kind × IsRootAsked t (replaced whole steps new) call.0
  ProposalAnswers s t limit whole steps new kind (Err fault.BadPath) = (at_place whole steps ≡ None) × Reads s t
  ProposalAnswers s t limit whole steps new kind (Err fault.WrongSort) = IsOtherPlace functions.plan.grammar.prods whole steps kind × Reads s t
  ProposalAnswers s t limit whole steps new kind (Err fault.TooDeep) = IsPlace functions.plan.grammar.prods whole steps kind × (limit < tree_height new) × Reads s t
  ProposalAnswers s t limit whole steps new kind (Err fault.Full) = IsPlace functions.plan.grammar.prods whole steps kind × LacksOne t (demands functions limit (replaced whole steps new))

  -- The first half of a put leaves the session's tree and its attributes; at most rows of what the changed tree demands are
  -- gained.
  pub record ProposesPut (s t : Standing) (whole : Tree) (vs : List Tree) (before after : Session) (steps : List ℕ) (new : Tree) (kind : Kind) (answer : Result Handle EditFault) : Type 0 where
    pub adds : Adds s t (demands functions before.depth (replaced whole steps new))
    pub is_open : IsOpen functions t after whole vs
    pub depth : after.depth ≡ before.depth
    pub runs : after.runs ≡ before.runs
    pub answers : ProposalAnswers s t before.depth whole steps new kind answer
