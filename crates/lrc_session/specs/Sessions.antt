-- Sessions over a store: what an open session has, and what opening one and putting a part in its tree answer.
--
-- The root's attributes are those of the tree's attribution within the session's depth. The rules of edits are this project's
-- own.
use Rattle.std.specs.Prelude.{ℕ, ◌≡◌, IsTrue, List, None, Result, Ok, Err}
use Rattle.std.specs.List.{AllByRecursion}
use Rattle.lrc_base.specs.declared.grammar.Kind.{Kind}
use Rattle.lrc_base.specs.declared.grammar.Kind.TheVariants as k
use Rattle.lrc_meaning.specs.Grammar as meaning
use Rattle.lrc_meaning.specs.Tree.{Tree, fits, at_place, replaced}
use Rattle.lrc_meaning.specs.Attribution.{Attributes}
use Rattle.lrc_order_meaning.specs.declared.Partition.{Partition}
use Rattle.lrc_order_meaning.specs.Ordered.{HasOrder}
use Rattle.lrc_grammar.specs.Grammar.{grammar_of}
use Rattle.lrc_visit_meaning.specs.Values.{root_call}
use Rattle.lrc_visit_meaning.specs.Demand.{reach}
use Rattle.lrc_store.specs.Cells.{CellTree, IsWithin}
use Rattle.lrc_store.specs.Standing.{Standing, Stands, Told}
use Rattle.lrc_store.specs.Words.{Gains, LacksOne, Reads}
use Rattle.lrc_code.specs.Forms.{tree_cell}
use Rattle.lrc_call_meaning.specs.Forms.{values_cell, call_form}
use Rattle.lrc_call_meaning.specs.Reached.{cells_of}
use Rattle.lrc_call_meaning.specs.Spelled.{IsSpelled}
use Rattle.lrc_places.specs.Replacing.{IsPlace, IsOtherPlace}
use Rattle.lrc_functions.specs.declared.functions.Functions.{Functions}
use Rattle.lrc_bodies.specs.Bodies.{HasRoom, stack_room}
use Rattle.lrc_bodies.specs.Counting.{MeetsCall}
use Rattle.lrc_bodies.specs.declared.frames.Frames.{Frames}
use Rattle.lrc_machine.specs.Counts.{IsCellOf}
use Rattle.lrc_machine.specs.Machine.{HasLevels}
use Rattle.lrc_machine.specs.Levels.{slots_of}
use Rattle.lrc_session.specs.declared.session.Session.{Session}
use Rattle.lrc_session.specs.declared.fault.EditFault.{EditFault}
use Rattle.lrc_session.specs.declared.fault.EditFault.TheVariants as fault

-- the cells that the root's visit meets within a limit: by law, those that an attempt at the tree demands
abbrev pub demanded : meaning.Grammar → List Partition → ℕ → Tree → List CellTree
demanded g parts limit t = cells_of (reach g parts limit (root_call t))

module _ (functions : Functions) where
  abbrev pub grammar : meaning.Grammar
  grammar = grammar_of functions.plan.grammar

  abbrev pub sorts : List Partition
  sorts = functions.plan.parts.sorts

  -- a tree of the start sort
  abbrev pub IsStartTree : Tree → Type 0
  IsStartTree t = IsTrue (fits functions.plan.grammar.prods t (k.Sort functions.plan.grammar.start))

  -- there are so many levels of frames, each with room for the items of each production, and the stack has room for the
  -- parts of a term with so many nodes on its longest path
  pub record HasFrames (frames : Frames) (depth : ℕ) : Type 0 where
    pub levels : HasLevels (λ frame. HasRoom functions.counts frame.items) (slots_of frames.levels) depth
    pub stack : frames.stack.room ≡ stack_room depth

  -- the cells that an attempt at a tree demands
  abbrev pub demands : ℕ → Tree → List CellTree
  demands limit t = demanded grammar sorts limit t

  -- the cell is that of a call that an attempt at a tree makes
  abbrev pub IsCalled : ℕ → Tree → CellTree → Type 0
  IsCalled limit t = IsCellOf call_form (MeetsCall grammar sorts limit (root_call t))

  -- the tree has no attributes within the limit
  abbrev pub IsTooDeep : ℕ → Tree → Type 0
  IsTooDeep limit t = (vs : List Tree) → ¬ Attributes grammar limit t vs

  -- The session has this tree, and the root's attributes have these values.
  pub record IsOpen (s : Standing) (session : Session) (t : Tree) (vs : List Tree) : Type 0 where
    pub fitting : IsStartTree t
    pub spelled : IsSpelled t
    pub tree : Stands s session.tree.0 (tree_cell t)
    pub spelled_values : AllByRecursion IsSpelled vs
    pub values : Stands s session.values.0 (values_cell vs)
    pub attributes : HasOrder grammar functions.plan.parts → Attributes grammar session.depth t vs
    pub frames : HasFrames session.frames session.depth

  -- An attempt at a tree was answered with values: the session has this tree, and all that is demanded is in the store for
  -- good.
  pub record Opens (s : Standing) (limit : ℕ) (attempt : Tree) (session : Session) : Type 0 where
    pub values : List Tree
    pub is_open : IsOpen s session attempt values
    pub depth : session.depth ≡ limit
    pub seen : Told s.seen (IsWithin (demands limit attempt))

  -- What a put is answered: the session has the changed tree; or it is as it was, where the path names no place, where what
  -- stands there is of another kind, where the changed tree has no attributes within the depth, or where the store is full.
  abbrev pub EditAnswers : Standing → Standing → Tree → List Tree → Session → List ℕ → Tree → Kind → Result (Unit {0}) EditFault → Type 0
  EditAnswers s t whole vs session steps new kind (Ok done) = IsPlace functions.plan.grammar.prods whole steps kind × Opens t session.depth (replaced whole steps new) session
  EditAnswers s t whole vs session steps new kind (Err fault.BadPath) = (at_place whole steps ≡ None) × Reads s t × IsOpen t session whole vs
  EditAnswers s t whole vs session steps new kind (Err fault.WrongSort) = IsOtherPlace functions.plan.grammar.prods whole steps kind × Reads s t × IsOpen t session whole vs
  EditAnswers s t whole vs session steps new kind (Err fault.TooDeep) = IsPlace functions.plan.grammar.prods whole steps kind × IsTooDeep session.depth (replaced whole steps new) × IsOpen t session whole vs
  EditAnswers s t whole vs session steps new kind (Err fault.Full) = IsPlace functions.plan.grammar.prods whole steps kind × LacksOne t (demands session.depth (replaced whole steps new)) × IsOpen t session whole vs

  -- A put in the tree of a session: at most rows of what the changed tree demands are gained.
  pub record Edits (s t : Standing) (whole : Tree) (vs : List Tree) (before after : Session) (steps : List ℕ) (new : Tree) (kind : Kind) (answer : Result (Unit {0}) EditFault) : Type 0 where
    pub gains : Gains s t (demands before.depth (replaced whole steps new))
    pub depth : after.depth ≡ before.depth
    pub answers : EditAnswers s t whole vs after steps new kind answer
