-- The rule of the table, over its words and what each pass has learned and owns.
use Rattle.std.specs.Prelude.{ℕ, suc, ◌≡◌, ◌+◌, ◌<◌, ◌≤◌, Bool, true, false, List, [], ◌∷◌, length, replicate, slice_index, refl}
use Rattle.std.specs.Coded.{Coded, code_by, coded_ℕ, coded_bool, coded_list, coded×}
use mathlib.Core.Option.{some}
use lib.ListN.{get_elem?}
use Rattle.atomic_table.specs.Table.{State}
use Rattle.lrc_store.specs.Cells.{CellTree, coded_cell}
use Rattle.lrc_rule.specs.declared.layout.Layout.{Layout}
use Rattle.lrc_rule.specs.Layout.{word_count}
use Rattle.lrc_rule.specs.Rows.{IsTable, Grows, Stands, IsPublished, part}
use Rattle.lrc_rule.specs.Memo.{Relation, Reach, IsMemo, MemoStep, coded_memo_step}

-- What a pass has learned.
--   past         the words as they were at its last step, and for a pass that others joined, at theirs
--   draft        the words of its next row, as far as it stored them
--   notes        the cells that it found absent, each noted at the step that read the empty bucket
--   memo_steps   its steps on memo words, in order
pub record Learned : Type 0 where
  pub past : List (List ℕ)
  pub draft : List ℕ
  pub notes : List CellTree
  pub memo_steps : List MemoStep

-- What a pass owns: a range of rows, of which it published the first, with the cells of these.
pub record Owned : Type 0 where
  pub from : ℕ
  pub quota : ℕ
  pub made : List CellTree

-- A pass as plain data. One that was joined away is not live, and nothing is said of it.
pub record View : Type 0 where
  pub live : Bool
  pub layout : Layout
  pub learned : Learned
  pub owned : Owned

-- the words at the last step
abbrev pub first_of : List (List ℕ) → List ℕ
first_of [] = []
first_of (words ∷ past) = words

abbrev pub now : View → List ℕ
now v = first_of v.learned.past

-- the row that a pass publishes next
abbrev pub next : View → ℕ
next v = v.owned.from + length v.owned.made

-- each of these words has grown to the words
abbrev pub AllGrow : Layout → List (List ℕ) → List ℕ → Type 0
AllGrow l [] words = Unit {0}
AllGrow l (before ∷ past) words = Grows l before words × AllGrow l past words

-- the rows from this one on hold the cells, in order
abbrev pub AreMade : Layout → List ℕ → ℕ → List CellTree → Type 0
AreMade l words row [] = Unit {0}
AreMade l words row (cell ∷ cells) = Stands l words cell (suc row) × AreMade l words (suc row) cells

-- what a pass has learned is true of the words
pub record Knows (l : Layout) (words : List ℕ) (v : View) : Type 0 where
  pub layout : v.layout ≡ l
  pub past : AllGrow l v.learned.past words
  pub room : 0 < length v.learned.draft → length v.owned.made < v.owned.quota
  pub four : length v.learned.draft ≤ 4
  pub draft : (k : ℕ) → k < length v.learned.draft → part l words (next v) k ≡ slice_index v.learned.draft k

-- the rows of a range are there and its first hold what was made
pub record IsRange (l : Layout) (words : List ℕ) (o : Owned) : Type 0 where
  pub within : o.from + o.quota ≤ l.rows
  pub count : length o.made ≤ o.quota
  pub made : AreMade l words o.from o.made

-- the rows of the range are those of this seat, and those that are not made are in no bucket
pub record Owns (l : Layout) (words : List ℕ) (owner : ℕ → ℕ) (seat : ℕ) (o : Owned) : Type 0 where
  pub range : IsRange l words o
  pub own : (row : ℕ) → o.from ≤ row → row < o.from + o.quota → owner row ≡ seat
  pub unmade : (row : ℕ) → o.from + length o.made ≤ row → row < o.from + o.quota → ¬ IsPublished l words row

-- what holds between any two steps: of the words, of the memo words by a meaning that never changes, and of each pass that is live, where each row has one owner
pub record Rule {S : Type 0} (allows : Relation) (reach : Reach) (l : Layout) (s : State S View) : Type 0 where
  pub table : IsTable l s.words
  pub memo : IsMemo allows reach l s.words
  pub owner : ℕ → ℕ
  pub knows : (seat : ℕ) (v : View) → get_elem? s.views seat ≡ some v → v.live ≡ true → Knows l s.words v
  pub owns : (seat : ℕ) (v : View) → get_elem? s.views seat ≡ some v → v.live ≡ true → Owns l s.words owner seat v.owned

-- the pass of a new table, whose words are 0: it owns all rows
abbrev pub opening_view : Layout → View
opening_view l = record { live = true; layout = l; learned = record { past = replicate (word_count l) 0 ∷ []; draft = []; notes = []; memo_steps = [] }; owned = record { from = 0; quota = l.rows; made = [] } }

-- a pass that was joined away
abbrev pub spent : View
spent = record {
  live = false;
  layout = record { buckets = 0; rows = 0; memo = 0 };
  learned = record { past = []; draft = []; notes = []; memo_steps = [] };
  owned = record { from = 0; quota = 0; made = [] };
}

-- a view is stored as the tuple of its parts
abbrev Parts : Type 0
Parts = Bool × ((ℕ × (ℕ × ℕ)) × ((List (List ℕ) × (List ℕ × (List CellTree × List MemoStep))) × (ℕ × (ℕ × List CellTree))))

abbrev pub coded_view : Coded View
coded_view =
    code_by Parts
    (coded× coded_bool (coded× (coded× coded_ℕ (coded× coded_ℕ coded_ℕ)) (coded× (coded× (coded_list (coded_list coded_ℕ)) (coded× (coded_list coded_ℕ) (coded× (coded_list coded_cell) (coded_list coded_memo_step)))) (coded× coded_ℕ (coded× coded_ℕ (coded_list coded_cell))))))
    (λ v. (v.live, ((v.layout.buckets, (v.layout.rows, v.layout.memo)), ((v.learned.past, (v.learned.draft, (v.learned.notes, v.learned.memo_steps))), (v.owned.from, (v.owned.quota, v.owned.made))))))
    (λ p. record {
      live = p.0;
      layout = record { buckets = p.1.0.0; rows = p.1.0.1.0; memo = p.1.0.1.1 };
      learned = record { past = p.1.1.0.0; draft = p.1.1.0.1.0; notes = p.1.1.0.1.1.0; memo_steps = p.1.1.0.1.1.1 };
      owned = record { from = p.1.1.1.0; quota = p.1.1.1.1.0; made = p.1.1.1.1.1 };
    })
    (λ _. refl)
