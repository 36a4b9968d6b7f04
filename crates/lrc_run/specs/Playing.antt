-- What a session answers over a store that nobody else uses.
use Rattle.std.specs.Prelude.{ℕ, ◌≡◌, IsTrue, List, [], ◌∷◌, Option, Some, None, IfSome, Contains, length, map, ⊤}
use Rattle.lrc_base.specs.declared.job.Script.{Script}
use Rattle.lrc_meaning.specs.Tree.{Tree, tree}
use Rattle.lrc_meaning.specs.Editing.{change, Reply, Attempt, ReplyRun}
use Rattle.lrc_meaning.specs.Text.{unparsed}
use Rattle.lrc_store.specs.Cells.{CellTree, IsWithin}
use Rattle.lrc_store.specs.Standing.{Standing, Stands, IsSound}
use Rattle.lrc_store.specs.declared.cells.Handle.{Handle}
use Rattle.lrc_code.specs.Forms.{tree_cell}
use Rattle.lrc_call_meaning.specs.Spelled.{IsSpelled}
use Rattle.lrc_functions.specs.declared.functions.Functions.{Functions}
use Rattle.lrc_session.specs.Sessions.{grammar, sorts}
use Rattle.lrc_run.specs.Rows.{demands, IsLessThanWanted, WantsMore}
use Rattle.lrc_run.specs.Lines.{AreLines}
use Rattle.lrc_run.specs.Counts.{counts_of, Tallies, IsCounted, are_all_counted}
use Rattle.lrc_run.specs.declared.reply.Out.{Out}

-- nothing was put into the store, and it tells what is in it for good
pub record IsUnused (s : Standing) : Type 0 where
  pub sound : IsSound s
  pub made : s.made ≡ []
  pub drawn : s.drawn ≡ None
  pub seen : s.seen ≡ Some []

-- its memo, which it tells, is empty, and no recall found nothing
pub record IsUncounted (s : Standing) : Type 0 where
  pub memo : s.memo ≡ Some []
  pub missed : s.missed ≡ 0

-- the handle stands for the last tree; none where there is none
abbrev pub IsLast : Standing → Option Tree → Option Handle → Type 0
IsLast s None None = ⊤
IsLast s None (Some handle) = ⊥
IsLast s (Some t) None = ⊥
IsLast s (Some t) (Some handle) = Stands s handle.0 (tree_cell t)

module _ (functions : Functions) (limit : ℕ) where
  -- At an attempt all rows of a store are used, and they are fewer than the cells that are demanded so far.
  pub record RunsOut (s : Standing) (earlier : List Attempt) (t : Tree) : Type 0 where
    pub used : length s.made ≡ s.quota
    pub less : IsLessThanWanted (grammar functions) (sorts functions) limit (length s.made) earlier t
    pub wants : WantsMore (grammar functions) (sorts functions) limit earlier t

  -- What a store has after these attempts: rows of what they demand, and all that those demand that were answered with values.
  pub record Holds (s : Standing) (attempts : List Attempt) : Type 0 where
    pub sound : IsSound s
    pub made : IsWithin s.made (demands (grammar functions) (sorts functions) limit attempts)
    pub seen : (seen : List CellTree) × (s.seen ≡ Some seen) × ((attempt : Attempt) → Contains attempts attempt → IsTrue attempt.answered → IsWithin (demands (grammar functions) (sorts functions) limit (attempt ∷ [])) seen)

  -- A session was played: its lines are those of its replies by the editing rules, where `full` comes only where the rows of the
  -- store have run out, and its last tree is in the store, with names that are spelled. Where the store told its memo and was fresh, the lines have the counts
  -- of bodies and of cells, and the store has those of the whole session, if each attempt was answered with values.
  pub record Plays (before after : Standing) (script : Script) (out : Out) : Type 0 where
    pub replies : List Reply
    pub last : Option Tree
    pub attempts : List Attempt
    pub runs : ReplyRun (grammar functions) limit (unparsed functions.plan.grammar.prods) (RunsOut after) (tree script.tree) (map change script.edits) replies last attempts
    pub holds : Holds after attempts
    pub lines : AreLines (grammar functions) replies out.lines
    pub is_last : IsLast after last out.last
    pub spelled : IfSome last IsSpelled
    pub counted : IsUncounted before → IsCounted (grammar functions) (sorts functions) limit (tree script.tree) (map change script.edits) replies (map counts_of out.lines)
    pub tallies : IsUncounted before → IsTrue (are_all_counted replies) → Tallies (grammar functions) (sorts functions) limit after attempts
