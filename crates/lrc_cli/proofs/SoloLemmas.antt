-- The printed counts of a session are fixed by its replies, its tree and its changes, and by the partitions of its grammar.
use Rattle.std.proofs.Common.{◌≡◌, ◌++◌, ℕ, suc, ◌+◌, ◌≤◌, List, [], ◌∷◌, Option, length, ap, refl, arith}
use Rattle.lrc_meaning.specs.Tree.{Tree}
use Rattle.lrc_meaning.specs.Grammar.{Grammar}
use Rattle.lrc_meaning.specs.Editing.{Change, Reply, values, bad_path, wrong_sort, too_deep, full, unopened, shown, forgot, Attempt, tried, asked, EditRun, done, then, ReplyRun, opens, opens_too_deep, opens_full}
use Rattle.lrc_order_meaning.specs.declared.Partition.{Partition}
use Rattle.lrc_store.specs.Cells.{CellTree}
use Rattle.lrc_cell_laws.proofs.SizeLemmas.{no_longer, one_size}
use Rattle.lrc_run.specs.Rows.{wanted}
use Rattle.lrc_run.specs.Counts.{Counts, HasNewCalls, HasCounts, AreCounted, IsCounted, counts_text, counted_lines}

-- there is a change for each reply
run_length : (g : Grammar) (limit : ℕ) (text_of : Tree → List ℕ) (may_come : List Attempt → Tree → Type 0) (earlier all : List Attempt) (before : Tree) (cs : List Change) (rs : List Reply) (last : Tree) →
    EditRun g limit text_of may_come earlier before cs rs last all → length rs ≡ length cs
run_length g limit text_of may_come earlier all before cs rs last (done a t) = refl
run_length g limit text_of may_come earlier all before cs rs last (then a t c r b after rest rs' l m step run) = ap suc (run_length g limit text_of may_come b m after rest rs' l run)

module _ (g : Grammar) (parts : List Partition) (limit : ℕ) where
  fewer : (earlier : List Attempt) (t : Tree) (m n : ℕ) → HasNewCalls g parts limit earlier t m → HasNewCalls g parts limit earlier t n → m ≤ n
  fewer earlier t m n a b =
      let low = no_longer a.calls b.calls a.once (λ c h. (b.same c).1 ((a.same c).0 h)) in
      omega (arith, low, a.number, b.number)

  -- an attempt has one number of new calls, and one of cells
  same_counts : (earlier : List Attempt) (t : Tree) (m n : Counts) → HasCounts g parts limit earlier t m → HasCounts g parts limit earlier t n → counts_text m ≡ counts_text n
  same_counts earlier t m n a b =
      let low = fewer earlier t m.bodies n.bodies a.bodies b.bodies in
      let high = fewer earlier t n.bodies m.bodies b.bodies a.bodies in
      let bodies : m.bodies ≡ n.bodies = omega (arith, low, high) in
      let cells : m.cells ≡ n.cells = one_size (wanted g parts limit earlier t) (wanted g parts limit earlier t) m.cells n.cells (λ c. (λ h. h, λ h. h)) a.cells b.cells in
      cc

  -- the lines of the edits of an open session
  same_edits : (i : ℕ) (earlier : List Attempt) (before : Tree) (cs : List Change) (rs : List Reply) (ms ns : List Counts) → length rs ≡ length cs → AreCounted g parts limit earlier before cs rs ms
      → AreCounted g parts limit earlier before cs rs ns → counted_lines g i rs ms ≡ counted_lines g i rs ns
  same_edits i earlier before cs [] ms ns e a b = refl
  same_edits i earlier before [] (r ∷ rs) ms ns e a b = absurd (cc)
  same_edits i earlier before (c ∷ cs) (r ∷ rs) [] ns e a b = absurd a
  same_edits i earlier before (c ∷ cs) (r ∷ rs) (m ∷ ms) [] e a b = absurd b
  same_edits i earlier before (c ∷ cs) (values vs ∷ rs) (m ∷ ms) (n ∷ ns) e a b =
      let texts = same_counts earlier (asked before c) m n a.0 b.0 in
      let rests = same_edits (i + 1) (earlier ++ tried (asked before c) (values vs) ∷ []) (asked before c) cs rs ms ns (cc) a.1 b.1 in
      simp (texts, rests)
  same_edits i earlier before (c ∷ cs) (bad_path ∷ rs) (m ∷ ms) (n ∷ ns) e a b = let rests = same_edits (i + 1) earlier before cs rs ms ns (cc) a b in simp (rests)
  same_edits i earlier before (c ∷ cs) (wrong_sort ∷ rs) (m ∷ ms) (n ∷ ns) e a b = let rests = same_edits (i + 1) earlier before cs rs ms ns (cc) a b in simp (rests)
  same_edits i earlier before (c ∷ cs) (too_deep ∷ rs) (m ∷ ms) (n ∷ ns) e a b = refl
  same_edits i earlier before (c ∷ cs) (full ∷ rs) (m ∷ ms) (n ∷ ns) e a b = refl
  same_edits i earlier before (c ∷ cs) (unopened ∷ rs) (m ∷ ms) (n ∷ ns) e a b = refl
  same_edits i earlier before (c ∷ cs) (shown text ∷ rs) (m ∷ ms) (n ∷ ns) e a b = let rests = same_edits (i + 1) earlier before cs rs ms ns (cc) a b in simp (rests)
  same_edits i earlier before (c ∷ cs) (forgot ∷ rs) (m ∷ ms) (n ∷ ns) e a b = let rests = same_edits (i + 1) earlier before cs rs ms ns (cc) a b in simp (rests)

  -- and those of a session
  pub same_lines : (text_of : Tree → List ℕ) (may_come : List Attempt → Tree → Type 0) (opening : Tree) (cs : List Change) (rs : List Reply) (last : Option Tree) (all : List Attempt) (ms ns : List Counts) →
      ReplyRun g limit text_of may_come opening cs rs last all → IsCounted g parts limit opening cs rs ms → IsCounted g parts limit opening cs rs ns → counted_lines g 0 rs ms ≡ counted_lines g 0 rs ns
  same_lines text_of may_come opening cs _ _ all [] ns (opens vs rest t m attempt run) a b = absurd a
  same_lines text_of may_come opening cs _ _ all (m ∷ ms) [] (opens vs rest t k attempt run) a b = absurd b
  same_lines text_of may_come opening cs _ _ all (m ∷ ms) (n ∷ ns) (opens vs rest t k attempt run) a b =
      let texts = same_counts [] opening m n a.0 b.0 in
      let rests = same_edits 1 (tried opening (values vs) ∷ []) opening cs rest ms ns (run_length g limit text_of may_come (tried opening (values vs) ∷ []) all opening cs rest t run) a.1 b.1 in
      simp (texts, rests)
  same_lines text_of may_come opening cs _ _ all [] ns (opens_too_deep attempt) a b = absurd a
  same_lines text_of may_come opening cs _ _ all (m ∷ ms) [] (opens_too_deep attempt) a b = absurd b
  same_lines text_of may_come opening cs _ _ all (m ∷ ms) (n ∷ ns) (opens_too_deep attempt) a b = refl
  same_lines text_of may_come opening cs _ _ all [] ns (opens_full attempt) a b = absurd a
  same_lines text_of may_come opening cs _ _ all (m ∷ ms) [] (opens_full attempt) a b = absurd b
  same_lines text_of may_come opening cs _ _ all (m ∷ ms) (n ∷ ns) (opens_full attempt) a b = refl
