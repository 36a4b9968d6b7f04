-- What the edits of an open session are answered over a store, one after another.
use Rattle.std.specs.Prelude.{ℕ, ◌≡◌, not, IsTrue, List, [], ◌∷◌, ◌++◌, map, Result, Ok, Err, ⊤}
use Rattle.lrc_meaning.specs.Tree.{Tree}
use Rattle.lrc_meaning.specs.Grammar.{Grammar}
use Rattle.lrc_meaning.specs.Editing.{Change, Reply, values, bad_path, wrong_sort, too_deep, full, unopened, shown, forgot, Attempt, asked, EditStep, EditRun}
use Rattle.lrc_meaning.specs.Text.{unparsed}
use Rattle.lrc_order_meaning.specs.declared.Partition.{Partition}
use Rattle.lrc_order_meaning.specs.Ordered.{HasOrder}
use Rattle.lrc_store.specs.Cells.{CellTree}
use Rattle.lrc_store.specs.Standing.{Standing, IsSound}
use Rattle.lrc_store.specs.Words.{Reads, Gains}
use Rattle.lrc_bodies.specs.Counting.{IsWhole}
use Rattle.lrc_functions.specs.declared.functions.Functions.{Functions}
use Rattle.lrc_session.specs.declared.session.Session.{Session}
use Rattle.lrc_session.specs.declared.fault.EditFault.{EditFault}
use Rattle.lrc_session.specs.Sessions.{grammar, sorts, IsOpen}
use Rattle.lrc_run.specs.declared.reply.Line.{Line}
use Rattle.lrc_run.specs.Lines.{IsLine, AreLines, reply_of, outcome_of}
use Rattle.lrc_run.specs.Values.{HasCountsOf}
use Rattle.lrc_run.specs.Counts.{Counts, counts_of, stops_counts, are_all_counted, HasCounts, Tallies, AreCounted}
use Rattle.lrc_run.specs.Playing.{RunsOut, Holds}

-- the store gained at most rows of some cells
abbrev pub GainsSome : Standing → Standing → Type 0
GainsSome s t = (cells : List CellTree) × Gains s t cells

-- ---- counts

module _ (g : Grammar) (parts : List Partition) (limit : ℕ) where
  -- a reply with values to an attempt at the tree has its counts
  abbrev pub IsCountedReply : List Attempt → Tree → Reply → Counts → Type 0
  IsCountedReply earlier t (values vs) counts = HasCounts g parts limit earlier t counts
  IsCountedReply earlier t bad_path counts = ⊤
  IsCountedReply earlier t wrong_sort counts = ⊤
  IsCountedReply earlier t too_deep counts = ⊤
  IsCountedReply earlier t full counts = ⊤
  IsCountedReply earlier t unopened counts = ⊤
  IsCountedReply earlier t (shown text) counts = ⊤
  IsCountedReply earlier t forgot counts = ⊤

module _ (functions : Functions) (limit : ℕ) where
  -- What is known of a store of its own as long as each attempt was answered with values: what it has is just what these made, and
  -- its memo is whole.
  pub record IsTallied (s : Standing) (attempts : List Attempt) : Type 0 where
    pub sound : IsSound s
    pub whole : IsWhole (grammar functions) (sorts functions) s.memo
    pub tallies : Tallies (grammar functions) (sorts functions) limit s attempts

-- ---- edits

-- the line answers a put or a copy: with the session's values, and the counts of its tree, or with what was refused
abbrev pub IsAnswer : Grammar → Standing → Session → List Tree → Result (Unit {0}) EditFault → Line → Type 0
IsAnswer g s session vs (Ok done) line = IsLine g (values vs) line × HasCountsOf s session line
IsAnswer g s session vs (Err fault) line = IsLine g (reply_of (outcome_of fault)) line

module _ (functions : Functions) (s t : Standing) (limit : ℕ) where
  -- an edit is answered so by the editing rules after these attempts, over a store that is left like this
  pub record Steps (before : Tree) (c : Change) (reply : Reply) (after : Tree) (line : Line) (earlier : List Attempt) : Type 0 where
    pub attempts : List Attempt
    pub step : EditStep (grammar functions) limit (unparsed functions.plan.grammar.prods) (RunsOut functions limit t) earlier before c reply attempts after
    pub holds : Holds functions limit t attempts
    pub counted : IsTallied functions limit s earlier → IsCountedReply (grammar functions) (sorts functions) limit earlier (asked before c) reply (counts_of line)
    pub tallied : IsTallied functions limit s earlier → IsTrue (not (stops_counts reply)) → IsTallied functions limit t attempts

  -- and edits one after another
  pub record Runs (before : Tree) (cs : List Change) (replies : List Reply) (after : Tree) (lines : List Line) (earlier : List Attempt) : Type 0 where
    pub attempts : List Attempt
    pub run : EditRun (grammar functions) limit (unparsed functions.plan.grammar.prods) (RunsOut functions limit t) earlier before cs replies after attempts
    pub holds : Holds functions limit t attempts
    pub counted : IsTallied functions limit s earlier → AreCounted (grammar functions) (sorts functions) limit earlier before cs replies (map counts_of lines)
    pub tallied : IsTallied functions limit s earlier → IsTrue (are_all_counted replies) → IsTallied functions limit t attempts

  -- An edit was made in a session with this tree, and answered with this line.
  pub record IsEdited (before : Tree) (c : Change) (session : Session) (line : Line) : Type 0 where
    pub reply : Reply
    pub after : Tree
    pub own : List Tree
    pub is_open : IsOpen functions t session after own
    pub is_line : IsLine (grammar functions) reply line
    pub steps : HasOrder (grammar functions) functions.plan.parts → (earlier : List Attempt) → Holds functions limit s earlier → Steps before c reply after line earlier

  -- Edits were made in a session with this tree, and their lines were appended.
  pub record AreEdited (before : Tree) (cs : List Change) (session : Session) (earlier_lines lines : List Line) : Type 0 where
    pub replies : List Reply
    pub after : Tree
    pub own : List Tree
    pub is_open : IsOpen functions t session after own
    pub own_lines : List Line
    pub all : lines ≡ earlier_lines ++ own_lines
    pub are_lines : AreLines (grammar functions) replies own_lines
    pub runs : HasOrder (grammar functions) functions.plan.parts → (earlier : List Attempt) → Holds functions limit s earlier → Runs before cs replies after own_lines earlier

module _ (functions : Functions) (s t : Standing) where
  -- A session with this tree and these values was answered the line of the values, and then those of the edits.
  pub record IsPlayed (session after : Session) (before : Tree) (vs : List Tree) (cs : List Change) (earlier_lines lines : List Line) : Type 0 where
    pub middle : Standing
    pub reads : Reads s middle
    pub opening : Line
    pub is_line : IsLine (grammar functions) (values vs) opening
    pub counts : HasCountsOf middle session opening
    pub edited : AreEdited functions middle t session.depth before cs after (earlier_lines ++ opening ∷ []) lines
