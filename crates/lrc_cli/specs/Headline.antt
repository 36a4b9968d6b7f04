-- What a run is, of one session with counts, of many, and of a generated job: from the bytes of a job to the text of its replies.
use Rattle.std.specs.Prelude.{◌≡◌, ◌≢◌, ℕ, List, [], ◌∷◌, ◌++◌, Option, Ok, codes, decimal}
use Rattle.std.specs.List.{AllByRecursion}
use Rattle.lrc_base.specs.declared.job.Job.{Job}
use Rattle.lrc_meaning.specs.Tree.{Tree}
use Rattle.lrc_meaning.specs.Grammar.{Grammar}
use Rattle.lrc_meaning.specs.Editing.{Reply, full, Attempt, never_full}
use Rattle.lrc_meaning.specs.Text.{line_feed, finals_text, run_text}
use Rattle.lrc_reader.specs.Denotes.{Denotes}
use Rattle.lrc_job.specs.Job.{Session, HasSessions}
use Rattle.lrc_order_meaning.specs.Ordered.{IsOrdered, Partitions, ArePartitions}
use Rattle.lrc_plan.specs.Text.{parts_text, plan_text}
use Rattle.lrc_run.specs.Rows.{RowsRunOut}
use Rattle.lrc_run.specs.Counts.{Counts, IsCounted, counted_lines}
use Rattle.lrc_threads.specs.Runs.{IsRun, AreRuns}
use Rattle.lrc_gen.specs.Generated.{generated}
use Rattle.lrc_words.specs.declared.command.Command.{Command}
use Rattle.lrc_words.specs.declared.command.Verb.{Verb}
use Rattle.lrc_words.specs.declared.command.Verb.TheVariants as verb
use Rattle.lrc_cli.specs.Summary.{summary_text}

-- The bytes are a job that is accepted, of this grammar and with these sessions.
pub record IsAccepted (bytes : List ℕ) (grammar : Grammar) (sessions : List Session) : Type 0 where
  pub job : Job
  pub denotes : Denotes bytes job
  pub accepted : HasSessions job grammar (Ok sessions)

-- The grammar is ordered without given pairs, and these are its partitions.
pub record IsOrderedBy (grammar : Grammar) (parts : Partitions) : Type 0 where
  pub ordered : IsOrdered grammar []
  pub given : parts.given ≡ []
  pub partitions : ArePartitions grammar parts

-- The bytes are an accepted job whose grammar is ordered, and these are its partitions.
pub record HasPartitions (bytes : List ℕ) (grammar : Grammar) (parts : Partitions) : Type 0 where
  pub sessions : List Session
  pub accepted : IsAccepted bytes grammar sessions
  pub ordered : IsOrderedBy grammar parts

-- The text is that of the partitions of the job's grammar.
pub record IsPartsOf (bytes text : List ℕ) : Type 0 where
  pub grammar : Grammar
  pub parts : Partitions
  pub has : HasPartitions bytes grammar parts
  pub prints : text ≡ parts_text grammar parts.sorts

-- The text is that of the partitions, and then of the visit sequences and bindings by them.
pub record IsPlanOf (bytes text : List ℕ) : Type 0 where
  pub grammar : Grammar
  pub parts : Partitions
  pub has : HasPartitions bytes grammar parts
  pub prints : text ≡ parts_text grammar parts.sorts ++ plan_text grammar parts.sorts

-- A run of the sessions of a job, whose trees have at most `depth` nodes on their longest path: each reply is the root's
-- synthesised attributes in the attribution of its session's tree after the edit, or the refusal that the editing rules name.
-- What a session has demanded, by the grammar and its partitions, says when it may be answered `full`.
pub record Run (full_may_come : Grammar → Partitions → List Attempt → Tree → Type 0) (job : Job) (depth : ℕ) : Type 0 where
  pub grammar : Grammar
  pub parts : Partitions
  pub sessions : List Session
  pub accepted : HasSessions job grammar (Ok sessions)
  pub ordered : IsOrderedBy grammar parts
  pub replies : List (List Reply)
  pub lasts : List (Option Tree)
  pub runs : AreRuns grammar depth (full_may_come grammar parts) sessions replies lasts

-- The text is that of a run of the job that the bytes denote: a block of replies for each session, and then the final line of
-- each last tree.
pub record IsRunUnder (full_may_come : Grammar → Partitions → List Attempt → Tree → Type 0) (bytes : List ℕ) (depth : ℕ) (text : List ℕ) : Type 0 where
  pub job : Job
  pub denotes : Denotes bytes job
  pub run : Run full_may_come job depth
  pub prints : text ≡ run_text run.grammar run.replies run.lasts

-- A run of the one session of a job.
pub record SoloRun (full_may_come : Grammar → Partitions → List Attempt → Tree → Type 0) (bytes : List ℕ) (depth : ℕ) : Type 0 where
  pub grammar : Grammar
  pub parts : Partitions
  pub session : Session
  pub accepted : IsAccepted bytes grammar (session ∷ [])
  pub ordered : IsOrderedBy grammar parts
  pub replies : List Reply
  pub last : Option Tree
  pub run : IsRun grammar depth (full_may_come grammar parts) session replies last

-- the block of the one session, with counts up to the first reply behind which none are printed, and then its final line
abbrev pub solo_text : Grammar → List Reply → List Counts → Option Tree → List ℕ
solo_text grammar replies counts last =
    codes "session " ++ (decimal 1 ++ (line_feed ++ (counted_lines grammar 0 replies counts ++ finals_text (last ∷ []) 1 (last ∷ []))))

-- The text is that of a run of the one session with its counts: of the calls that no earlier attempt made, and of the different
-- cells that are demanded so far.
pub record IsSoloUnder (full_may_come : Grammar → Partitions → List Attempt → Tree → Type 0) (bytes : List ℕ) (depth : ℕ) (text : List ℕ) : Type 0 where
  pub run : SoloRun full_may_come bytes depth
  pub counts : List Counts
  pub counted : IsCounted run.grammar run.parts.sorts depth run.session.opening run.session.changes run.replies counts
  pub prints : text ≡ solo_text run.grammar run.replies counts run.last

-- The text is the summary of a run of the generated job of a seed, with so many nodes in its tree and so many sessions.
pub record IsSummaryUnder (full_may_come : Grammar → Partitions → List Attempt → Tree → Type 0) (seed nodes sessions depth : ℕ) (text : List ℕ) : Type 0 where
  pub run : Run full_may_come (generated seed nodes sessions) depth
  pub prints : text ≡ summary_text run.replies

-- a session is answered `full` only once so many rows are fewer than the cells that it has demanded
abbrev pub runs_out : ℕ → ℕ → Grammar → Partitions → List Attempt → Tree → Type 0
runs_out rows depth grammar parts = RowsRunOut grammar parts.sorts depth rows

abbrev pub IsRunOf : List ℕ → ℕ → ℕ → List ℕ → Type 0
IsRunOf bytes rows depth text = IsRunUnder (runs_out rows depth) bytes depth text

abbrev pub IsSoloOf : List ℕ → ℕ → ℕ → List ℕ → Type 0
IsSoloOf bytes rows depth text = IsSoloUnder (runs_out rows depth) bytes depth text

-- no reply is `full`
abbrev pub HasRoom : List Reply → Type 0
HasRoom replies = AllByRecursion (λ reply. reply ≢ full) replies

-- no reply to any session is
abbrev pub HaveRoom : List (List Reply) → Type 0
HaveRoom all = AllByRecursion HasRoom all

-- a run where no reply is `full`, whatever the rows
abbrev pub IsRunWithRoom : List ℕ → ℕ → List ℕ → Type 0
IsRunWithRoom bytes depth text = IsRunUnder (λ grammar parts. never_full) bytes depth text

abbrev pub IsSoloWithRoom : List ℕ → ℕ → List ℕ → Type 0
IsSoloWithRoom bytes depth text = IsSoloUnder (λ grammar parts. never_full) bytes depth text

abbrev pub IsSummaryWithRoom : ℕ → ℕ → ℕ → ℕ → List ℕ → Type 0
IsSummaryWithRoom seed nodes sessions depth text = IsSummaryUnder (λ grammar parts. never_full) seed nodes sessions depth text

abbrev pub IsSummaryOf : Command → List ℕ → Type 0
IsSummaryOf c text = IsSummaryUnder (runs_out c.rows c.depth) c.seed c.nodes c.sessions c.depth text

-- What a command prints for its input, by what is to be done.
abbrev pub Prints : Verb → Command → List ℕ → List ℕ → Type 0
Prints verb.Run c bytes text = IsRunOf bytes c.rows c.depth text
Prints verb.Solo c bytes text = IsSoloOf bytes c.rows c.depth text
Prints verb.Check c bytes text = IsPartsOf bytes text
Prints verb.Plan c bytes text = IsPlanOf bytes text
Prints verb.Gen c bytes text = IsSummaryOf c text

abbrev pub IsOutputOf : Command → List ℕ → List ℕ → Type 0
IsOutputOf command bytes text = Prints command.verb command bytes text
