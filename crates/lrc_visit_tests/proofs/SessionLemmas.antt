-- Sessions that stay open, and what fits in the sessions of a job.
use Rattle.std.proofs.Common.{◌≡◌, ℕ, ◌<◌, IsTrue, List, [], ◌∷◌, length, slice_get, Option, Some, IsSome, Result, Ok, Err, subst, sym, refl, arith}
use Rattle.std.specs.List.{list_all}
use Rattle.std.proofs.lemmas.Bool.{and_parts}
use Rattle.lrc_base.specs.declared.grammar.Kind.{Kind}
use Rattle.lrc_base.specs.declared.grammar.Kind.TheVariants as k
use Rattle.lrc_base.specs.declared.grammar.Production.{Production}
use Rattle.lrc_base.specs.declared.job.Script.{Script}
use Rattle.lrc_meaning.specs.Tree.{Tree, tree, fits}
use Rattle.lrc_store.specs.Standing.{Standing, Stands, IsKnown}
use Rattle.lrc_store.specs.Cells.{CellTree}
use Rattle.lrc_store.specs.Words.{Lasts}
use Rattle.lrc_job.specs.Fitting.{edit_fits, script_fits}
use Rattle.lrc_functions.specs.declared.functions.Functions.{Functions}
use Rattle.lrc_session.specs.declared.session.Session.{Session}
use Rattle.lrc_session.specs.declared.fault.EditFault.{EditFault}
use Rattle.lrc_session.specs.declared.fault.EditFault.TheVariants as f
use Rattle.lrc_session.specs.Sessions.{IsOpen, Edits}
use Rattle.lrc_session.specs.Copying.{Copies, copies_nothing, copies_part}
use Rattle.lrc_session.proofs.SessionLemmas.{still_open}
use Rattle.lrc_visit_tests.specs.Opened.{IsOpened}

module _ (functions : Functions) where
  pub open_later : (s t : Standing) (session : Session) (whole : Tree) (vs : List Tree) → Lasts s t → IsOpen functions s session whole vs → IsOpen functions t session whole vs
  open_later s t session whole vs lasts has = still_open functions s t whole vs session session lasts.known refl refl refl has.frames has

  pub opened_later : (s t : Standing) (session : Session) → Lasts s t → IsOpened functions s session → IsOpened functions t session
  opened_later s t session lasts (whole, vs, has) = (whole, vs, open_later s t session whole vs lasts has)

  -- whatever a put is answered
  pub opened_after : (s t : Standing) (whole : Tree) (vs : List Tree) (before after : Session) (steps : List ℕ) (new : Tree) (kind : Kind) (answer : Result (Unit {0}) EditFault)
      → Edits functions s t whole vs before after steps new kind answer → IsOpened functions t after
  opened_after s t whole vs before after steps new kind (Ok made) edits = (_, edits.answers.1.values, edits.answers.1.is_open)
  opened_after s t whole vs before after steps new kind (Err f.BadPath) edits = (whole, vs, edits.answers.2)
  opened_after s t whole vs before after steps new kind (Err f.WrongSort) edits = (whole, vs, edits.answers.2)
  opened_after s t whole vs before after steps new kind (Err f.TooDeep) edits = (whole, vs, edits.answers.2)
  opened_after s t whole vs before after steps new kind (Err f.Full) edits = (whole, vs, edits.answers.2)

  -- whatever a copy is answered
  pub opened_copy : (s t : Standing) (whole : Tree) (vs : List Tree) (before after : Session) (from to : List ℕ) (answer : Result (Unit {0}) EditFault)
      → Copies functions s t whole vs before after from to answer → IsOpened functions t after
  opened_copy s t whole vs before after from to answer (copies_nothing is none) = (whole, vs, none.is_open)
  opened_copy s t whole vs before after from to answer (copies_part new kind there of_kind edits) = opened_after s t whole vs before after to new kind answer edits

-- the first of some values
pub first_of : (vs : List Tree) → 0 < length vs → (v : Tree) × (slice_get vs 0 ≡ Some v)
first_of [] some = absurd (omega (arith, some))
first_of (v ∷ vs) some = (v, refl)

-- a handle that stands for a cell is known
pub known_of : (s : Standing) (handle : ℕ) (cell : CellTree) → Stands s handle cell → IsKnown s handle
known_of s handle cell stands = subst (λ (o : Option CellTree). IsSome o) (sym stands) refl

-- what fits in a session: its tree and its edits
pub script_parts : (prods : List Production) (start : ℕ) (script : Script) → IsTrue (script_fits prods start script)
    → IsTrue (fits prods (tree script.tree) (k.Sort start)) × IsTrue (list_all (edit_fits prods) script.edits)
script_parts prods start script h = and_parts (fits prods (tree script.tree) (k.Sort start)) (list_all (edit_fits prods) script.edits) h
