-- What sessions of a job are answered: each by the editing rules alone, whatever the others do, and the final of each.
use Rattle.std.specs.Prelude.{ℕ, List, [], ◌∷◌, Option, Some, None, map}
use Rattle.lrc_meaning.specs.Tree.{Tree}
use Rattle.lrc_meaning.specs.Grammar.{Grammar}
use Rattle.lrc_meaning.specs.Editing.{Reply, Attempt, ReplyRun}
use Rattle.lrc_meaning.specs.Text.{unparsed, first_with}
use Rattle.lrc_job.specs.Job.{Session}

-- `full_may_come` says of the earlier attempts of a session and the tree at hand that the session may be answered `full`.
module _ (g : Grammar) (limit : ℕ) (full_may_come : List Attempt → Tree → Type 0) where
  -- A session was answered by the editing rules: its replies, and its last tree, none where the opening failed.
  pub record IsRun (session : Session) (replies : List Reply) (last : Option Tree) : Type 0 where
    pub attempts : List Attempt
    pub run : ReplyRun g limit (unparsed g.prods) full_may_come session.opening session.changes replies last attempts

  -- Sessions in a row, each answered so.
  pub data AreRuns : List Session → List (List Reply) → List (Option Tree) → Type 0 where
    no_session : AreRuns [] [] []
    one_more : (session : Session) (replies : List Reply) (last : Option Tree) (sessions : List Session) (all : List (List Reply)) (lasts : List (Option Tree)) →
        IsRun session replies last → AreRuns sessions all lasts → AreRuns (session ∷ sessions) (replies ∷ all) (last ∷ lasts)

-- the final of a session: the number of the first session with an equal last tree, from 1, if it has a last tree
abbrev pub final_of : List (Option Tree) → Option Tree → Option ℕ
final_of lasts None = None
final_of lasts (Some t) = Some (first_with t 1 lasts)

-- the finals of sessions with these last trees
abbrev pub finals_of : List (Option Tree) → List (Option ℕ)
finals_of lasts = map (final_of lasts) lasts
