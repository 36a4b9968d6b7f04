-- The counts of a session over a store of its own: how many bodies ran for an edit, and how many cells the store had then.
--
-- That each call runs once, and equal cells are one, is function caching and hash-consing after Pennings (1994).
use Rattle.std.specs.Prelude.{◌≡◌, ◌↔◌, ℕ, ◌+◌, Bool, true, false, not, cond, List, [], ◌∷◌, ◌++◌, length, Some, Contains, codes, decimal, ⊤}
use Rattle.std.specs.List.{list_all}
use Rattle.lrc_meaning.specs.Tree.{Tree}
use Rattle.lrc_meaning.specs.Grammar.{Grammar}
use Rattle.lrc_meaning.specs.Editing.{Change, has_values, Reply, values, bad_path, wrong_sort, too_deep, full, unopened, shown, forgot, Attempt, tried, asked}
use Rattle.lrc_order_meaning.specs.declared.Partition.{Partition}
use Rattle.lrc_visit_meaning.specs.Values.{root_call}
use Rattle.lrc_store.specs.Cells.{CellTree}
use Rattle.lrc_meaning.specs.Text.{reply_body, reply_lines, line_feed}
use Rattle.lrc_store.specs.Standing.{Standing, HasNoRepeats, HasSize, IsRemembered}
use Rattle.lrc_call_meaning.specs.Forms.{call_form}
use Rattle.lrc_call_meaning.specs.Reached.{HaveSame}
use Rattle.lrc_machine.specs.Counts.{IsCellOf}
use Rattle.lrc_bodies.specs.Counting.{MeetsCall}
use Rattle.lrc_run.specs.Rows.{demands, wanted}
use Rattle.lrc_run.specs.declared.reply.Line.{Line}

-- the number of bodies, and of cells
pub record Counts : Type 0 where
  pub bodies : ℕ
  pub cells : ℕ

abbrev pub counts_of : Line → Counts
counts_of line = record { bodies = line.bodies; cells = line.cells }

module _ (g : Grammar) (parts : List Partition) (limit : ℕ) where
  -- the cell is that of a call that an attempt at the tree makes
  abbrev pub IsCalled : Tree → CellTree → Type 0
  IsCalled t cell = IsCellOf call_form (MeetsCall g parts limit (root_call t)) cell

  -- one of these attempts makes it
  abbrev pub IsCalledBefore : List Attempt → CellTree → Type 0
  IsCalledBefore earlier cell = (attempt : Attempt) × Contains earlier attempt × IsCalled attempt.tree cell

  -- An attempt at the tree makes so many calls that none of the earlier attempts made.
  pub record HasNewCalls (earlier : List Attempt) (t : Tree) (count : ℕ) : Type 0 where
    pub calls : List CellTree
    pub once : HasNoRepeats calls
    pub same : (cell : CellTree) → Contains calls cell ↔ (IsCalled t cell × (¬ IsCalledBefore earlier cell))
    pub number : length calls ≡ count

  -- The counts of an attempt that is answered with values, where all earlier ones were.
  pub record HasCounts (earlier : List Attempt) (t : Tree) (counts : Counts) : Type 0 where
    pub bodies : HasNewCalls earlier t counts.bodies
    pub cells : HasSize (wanted g parts limit earlier t) counts.cells

  -- What a store of its own has, where each attempt was answered with values: it made just the cells that these demand, remembers
  -- just the calls that they make, and missed each of these once.
  pub record Tallies (s : Standing) (attempts : List Attempt) : Type 0 where
    pub made : HaveSame s.made (demands g parts limit attempts)
    pub pairs : List (CellTree × CellTree)
    pub memo : s.memo ≡ Some pairs
    pub remembered : (cell : CellTree) → IsRemembered pairs cell ↔ IsCalledBefore attempts cell
    pub calls : List CellTree
    pub once : HasNoRepeats calls
    pub same : (cell : CellTree) → Contains calls cell ↔ IsCalledBefore attempts cell
    pub missed : length calls ≡ s.missed

  -- Each reply with values before the first `toodeep` or `full` has its counts; those of other replies are of no account.
  abbrev pub AreCounted : List Attempt → Tree → List Change → List Reply → List Counts → Type 0
  AreCounted earlier before [] replies counts = ⊤
  AreCounted earlier before (c ∷ cs) [] counts = ⊤
  AreCounted earlier before (c ∷ cs) (r ∷ rs) [] = ⊥
  AreCounted earlier before (c ∷ cs) (values vs ∷ rs) (n ∷ ns) =
      HasCounts earlier (asked before c) n × AreCounted (earlier ++ tried (asked before c) (values vs) ∷ []) (asked before c) cs rs ns
  AreCounted earlier before (c ∷ cs) (bad_path ∷ rs) (n ∷ ns) = AreCounted earlier before cs rs ns
  AreCounted earlier before (c ∷ cs) (wrong_sort ∷ rs) (n ∷ ns) = AreCounted earlier before cs rs ns
  AreCounted earlier before (c ∷ cs) (too_deep ∷ rs) (n ∷ ns) = ⊤
  AreCounted earlier before (c ∷ cs) (full ∷ rs) (n ∷ ns) = ⊤
  AreCounted earlier before (c ∷ cs) (unopened ∷ rs) (n ∷ ns) = ⊤
  AreCounted earlier before (c ∷ cs) (shown text ∷ rs) (n ∷ ns) = AreCounted earlier before cs rs ns
  AreCounted earlier before (c ∷ cs) (forgot ∷ rs) (n ∷ ns) = AreCounted earlier before cs rs ns

  -- The same of a session, whose first reply is its opening's.
  abbrev pub IsCounted : Tree → List Change → List Reply → List Counts → Type 0
  IsCounted opening changes [] counts = ⊤
  IsCounted opening changes (r ∷ rs) [] = ⊥
  IsCounted opening changes (values vs ∷ rs) (n ∷ ns) = HasCounts [] opening n × AreCounted (tried opening (values vs) ∷ []) opening changes rs ns
  IsCounted opening changes (bad_path ∷ rs) (n ∷ ns) = ⊤
  IsCounted opening changes (wrong_sort ∷ rs) (n ∷ ns) = ⊤
  IsCounted opening changes (too_deep ∷ rs) (n ∷ ns) = ⊤
  IsCounted opening changes (full ∷ rs) (n ∷ ns) = ⊤
  IsCounted opening changes (unopened ∷ rs) (n ∷ ns) = ⊤
  IsCounted opening changes (shown text ∷ rs) (n ∷ ns) = ⊤
  IsCounted opening changes (forgot ∷ rs) (n ∷ ns) = ⊤

-- ---- the printed counts

-- the reply is one behind which no counts are printed any more
abbrev pub stops_counts : Reply → Bool
stops_counts (values vs) = false
stops_counts bad_path = false
stops_counts wrong_sort = false
stops_counts too_deep = true
stops_counts full = true
stops_counts unopened = true
stops_counts (shown text) = false
stops_counts forgot = false

-- no reply is `toodeep`, `full` or `unopened`
abbrev pub are_all_counted : List Reply → Bool
are_all_counted replies = list_all (λ r. not (stops_counts r)) replies

-- ` | bodies=N cells=N`
abbrev pub counts_text : Counts → List ℕ
counts_text n = codes " | bodies=" ++ (decimal n.bodies ++ (codes " cells=" ++ decimal n.cells))

-- the text of a reply without its number, and of its counts, where it has values
abbrev pub counted_body : Grammar → Reply → Counts → List ℕ
counted_body g r n = reply_body g r ++ cond (has_values r) (counts_text n) []

-- the lines of replies, numbered from n on, with counts up to the first reply behind which none are printed
abbrev pub counted_lines : Grammar → ℕ → List Reply → List Counts → List ℕ
counted_lines g n [] counts = []
counted_lines g n (r ∷ rs) [] = reply_lines g n (r ∷ rs)
counted_lines g n (r ∷ rs) (c ∷ cs) =
    cond (stops_counts r) (reply_lines g n (r ∷ rs)) (decimal n ++ (counted_body g r c ++ (line_feed ++ counted_lines g (n + 1) rs cs)))
