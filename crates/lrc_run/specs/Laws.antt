-- What a run over a store of so many rows says of rows alone.
use Rattle.std.specs.Prelude.{ℕ, ◌≡◌, List, Option}
use Rattle.lrc_meaning.specs.Tree.{Tree}
use Rattle.lrc_meaning.specs.Editing.{Change, Reply, Attempt, ReplyRun}
use Rattle.lrc_store.specs.Standing.{Standing}
use Rattle.lrc_functions.specs.declared.functions.Functions.{Functions}
use Rattle.lrc_session.specs.Sessions.{grammar, sorts}
use Rattle.lrc_run.specs.Rows.{RowsRunOut}
use Rattle.lrc_run.specs.Playing.{RunsOut}

-- a run where `full` comes only where the rows of a store have run out is one where it comes only where so many rows are less
-- than what is demanded, if the store has so many
abbrev pub RunsOutOfRows : Type 0
RunsOutOfRows =
    (functions : Functions) (limit rows : ℕ) (text_of : Tree → List ℕ) (s : Standing) (opening : Tree) (changes : List Change) (replies : List Reply) (last : Option Tree) (attempts : List Attempt) →
    s.quota ≡ rows → ReplyRun (grammar functions) limit text_of (RunsOut functions limit s) opening changes replies last attempts
    → ReplyRun (grammar functions) limit text_of (RowsRunOut (grammar functions) (sorts functions) limit rows) opening changes replies last attempts
