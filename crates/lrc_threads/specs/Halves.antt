-- What sessions in a row are played over, and what they are answered. Each half of the list is played by a pass of its own, with
-- rows for its sessions, and a pass that met another knows the last trees of both halves.
use Rattle.std.specs.Prelude.{ℕ, ◌≡◌, ◌*◌, IsTrue, List, [], ◌∷◌, ◌++◌, length, map, Option, Some, None, IfSome, Result, Ok, IfOk, ⊤}
use Rattle.std.specs.List.{list_all}
use Rattle.lrc_base.specs.declared.job.Script.{Script}
use Rattle.lrc_meaning.specs.Tree.{Tree}
use Rattle.lrc_meaning.specs.Editing.{Reply}
use Rattle.lrc_job.specs.Job.{session}
use Rattle.lrc_job.specs.Fitting.{script_fits}
use Rattle.lrc_order_meaning.specs.Ordered.{HasOrder}
use Rattle.lrc_store.specs.Standing.{Standing}
use Rattle.lrc_store.specs.declared.cells.Handle.{Handle}
use Rattle.lrc_call_meaning.specs.Spelled.{IsSpelled}
use Rattle.lrc_functions.specs.declared.functions.Functions.{Functions}
use Rattle.lrc_table.specs.Passes.{TableView, PassView, IsOf}
use Rattle.lrc_table.specs.Standings.{standing}
use Rattle.lrc_bodies.specs.Bodies.{IsMeaningOf}
use Rattle.lrc_bodies.specs.declared.remembered.VisitMeaning.{VisitMeaning}
use Rattle.lrc_session.specs.Sessions.{grammar, sorts}
use Rattle.lrc_run.specs.Rows.{RowsRunOut}
use Rattle.lrc_run.specs.Lines.{AreLines}
use Rattle.lrc_run.specs.Playing.{IsLast}
use Rattle.lrc_run.specs.declared.reply.Out.{Out}
use Rattle.lrc_threads.specs.Runs.{IsRun, AreRuns}
use Rattle.lrc_threads.specs.Sessions.{AreBlocks}
use Rattle.lrc_threads.specs.declared.outs.Sizes.{Sizes}
use Rattle.lrc_threads.specs.declared.outs.Played.{Played}

-- nothing was put by this owner, and as far as it knows no cell is in the store for good
pub record IsBlank (s : Standing) : Type 0 where
  pub made : s.made ≡ []
  pub seen : s.seen ≡ Some []

-- The pass is one of the table, nothing was put by it, and it has so many rows for each of so many sessions.
pub record IsReady {M : Type 0} (rows : ℕ) (table : TableView M) (pass : PassView) (sessions : ℕ) : Type 0 where
  pub is_of : IsOf pass table
  pub blank : IsBlank (standing pass.view)
  pub quota : pass.view.owned.quota ≡ rows * sessions

-- the terms of the sessions fit
abbrev pub AreFitting : Functions → List Script → Type 0
AreFitting functions scripts = IsTrue (list_all (script_fits functions.plan.grammar.prods functions.plan.grammar.start) scripts)

-- A session was played by the editing rules alone, and its last tree is in the store.
pub record IsPlayed (functions : Functions) (sizes : Sizes) (s : Standing) (script : Script) (out : Out) : Type 0 where
  pub replies : List Reply
  pub last : Option Tree
  pub run : IsRun (grammar functions) sizes.depth (RowsRunOut (grammar functions) (sorts functions) sizes.depth sizes.rows) (session script) replies last
  pub lines : AreLines (grammar functions) replies out.lines
  pub is_last : IsLast s last out.last
  pub spelled : IfSome last IsSpelled

-- each handle stands for the last tree beside it, which is spelled
abbrev pub AreKept : Standing → List (Option Tree) → List (Option Handle) → Type 0
AreKept s [] [] = ⊤
AreKept s [] (handle ∷ handles) = ⊥
AreKept s (last ∷ lasts) [] = ⊥
AreKept s (last ∷ lasts) (handle ∷ handles) = IsLast s last handle × IfSome last IsSpelled × AreKept s lasts handles

-- Sessions in a row were played, each by the editing rules alone, and their last trees are in the store.
pub record ArePlayed (functions : Functions) (sizes : Sizes) (s : Standing) (scripts : List Script) (played : Played) : Type 0 where
  pub replies : List (List Reply)
  pub lasts : List (Option Tree)
  pub runs : AreRuns (grammar functions) sizes.depth (RowsRunOut (grammar functions) (sorts functions) sizes.depth sizes.rows) (map session scripts) replies lasts
  pub lines : AreBlocks (grammar functions) replies played.sessions
  pub kept : AreKept s lasts played.lasts

-- What sessions in a row were answered: something of each, and what they are by the editing rules, where the grammar has an order.
pub record Answers (functions : Functions) (sizes : Sizes) (s : Standing) (scripts : List Script) (played : Played) : Type 0 where
  pub count : length played.lasts ≡ length scripts
  pub by_rules : HasOrder (grammar functions) functions.plan.parts → ArePlayed functions sizes s scripts played

-- what one session was answered
pub record IsOnly {E : Type 0} (answer : Result Out E) (all : Played) : Type 0 where
  pub out : Out
  pub answer_is : answer ≡ Ok out
  pub sessions : all.sessions ≡ out.lines ∷ []
  pub lasts : all.lasts ≡ out.last ∷ []

-- what the left half was answered comes before what the right half was answered
pub record AreInOrder {E : Type 0} (left right : Result Played E) (all : Played) : Type 0 where
  pub before : Played
  pub after : Played
  pub left_is : left ≡ Ok before
  pub right_is : right ≡ Ok after
  pub sessions : all.sessions ≡ before.sessions ++ after.sessions
  pub lasts : all.lasts ≡ before.lasts ++ after.lasts
