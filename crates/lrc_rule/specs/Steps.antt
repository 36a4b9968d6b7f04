-- What each step tells the pass that makes it.
use Rattle.std.specs.Prelude.{ℕ, zero, suc, ◌≡◌, ◌+◌, ◌-◌, ◌<◌, true, List, [], ◌∷◌, ◌++◌, take, slice_index}
use Rattle.atomic_table.specs.Table.{Me, Step}
use Rattle.lrc_store.specs.Cells.{CellTree}
use Rattle.lrc_rule.specs.declared.layout.Layout.{Layout}
use Rattle.lrc_rule.specs.declared.layout.Content.{Content}
use Rattle.lrc_rule.specs.Layout.{part_at, memo_at, IsBucket, IsBucketOrPart}
use Rattle.lrc_rule.specs.Rows.{IsTable, Stands, Fits, IsAbsent, depth}
use Rattle.lrc_rule.specs.Memo.{Relation, Reach, IsMemoWord, MemoStep, memo_load, memo_store, memo_clear}
use Rattle.lrc_rule.specs.Views.{View, now, next, AllGrow, IsRange}

-- the pass is live, and knows the words of its last step, which the rule was true of
pub record IsCurrent (v : View) : Type 0 where
  pub live : v.live ≡ true
  pub past : v.learned.past ≡ now v ∷ []
  pub table : IsTable v.layout (now v)
  pub range : IsRange v.layout (now v) v.owned

-- a step leads from the words that the pass knew to those that it knows now, and is none on a memo word
pub record Follows (v w : View) : Type 0 where
  pub layout : w.layout ≡ v.layout
  pub grown : AllGrow v.layout v.learned.past (now w)
  pub current : IsCurrent w
  pub from : w.owned.from ≡ v.owned.from
  pub quota : w.owned.quota ≡ v.owned.quota
  pub memo_steps : w.learned.memo_steps ≡ v.learned.memo_steps

-- a word is loaded
pub record Loads (v w : View) (word value : ℕ) : Type 0 where
  pub follows : Follows v w
  pub found : value ≡ slice_index (now w) word
  pub draft : w.learned.draft ≡ v.learned.draft
  pub made : w.owned.made ≡ v.owned.made

-- a cell that was absent at the step is noted where the word that was found is 0
abbrev pub Notes : View → View → CellTree → ℕ → Type 0
Notes v w cell zero = IsAbsent w.layout (now w) cell × (w.learned.notes ≡ v.learned.notes ++ cell ∷ [])
Notes v w cell (suc found) = w.learned.notes ≡ v.learned.notes

-- a word of the next row is stored behind those that were
pub record Stores (v w : View) (k value : ℕ) : Type 0 where
  pub follows : Follows v w
  pub draft : w.learned.draft ≡ take k v.learned.draft ++ value ∷ []
  pub made : w.owned.made ≡ v.owned.made
  pub notes : w.learned.notes ≡ v.learned.notes

-- the draft is a whole row for the cell
pub record IsDraftOf (l : Layout) (words draft : List ℕ) (cell : CellTree) : Type 0 where
  pub content : Content
  pub fits : Fits l words cell content
  pub whole : draft ≡ content.tag ∷ content.left ∷ content.right ∷ depth cell ∷ []

-- the next row was published, and the cell of its draft is made
pub record IsMade (v w : View) (cell : CellTree) : Type 0 where
  pub stands : Stands w.layout (now w) cell (suc (next v))
  pub made : w.owned.made ≡ v.owned.made ++ cell ∷ []
  pub draft : w.learned.draft ≡ []

-- an empty bucket was exchanged for the next row; where it was not empty any more it is only loaded
abbrev pub Publishes : View → View → ℕ → ℕ → Type 0
Publishes v w word zero = (cell : CellTree) → IsDraftOf v.layout (now v) v.learned.draft cell → IsMade v w cell
Publishes v w word (suc found) = (suc found ≡ slice_index (now w) word) × (w.learned.draft ≡ v.learned.draft) × (w.owned.made ≡ v.owned.made)

pub record Exchanges (v w : View) (word value : ℕ) : Type 0 where
  pub follows : Follows v w
  pub notes : w.learned.notes ≡ v.learned.notes
  pub publishes : Publishes v w word value

-- a step on a memo word is noted
abbrev pub noting : View → MemoStep → View
noting v entry = record v { learned = record v.learned { memo_steps = v.learned.memo_steps ++ entry ∷ [] } }

-- the pass made one step, which is this one on a memo word
pub record Memoes (v w : View) (entry : MemoStep) : Type 0 where
  pub follows : Follows (noting v entry) w
  pub draft : w.learned.draft ≡ v.learned.draft
  pub notes : w.learned.notes ≡ v.learned.notes
  pub made : w.owned.made ≡ v.owned.made

-- the seat holds no more slots than before
abbrev Kept : {S : Type 0} → Me S View → Me S View → Type 0
Kept me me' = me'.1 ≡ me.1

-- a bucket or a part of a row is loaded
abbrev pub loaded : {S : Type 0} → Step S → Me S View → ℕ → Me S View → Type 0
loaded st me found me' = IsBucketOrPart me.0.layout st.word × Kept me me' × Loads me.0 me'.0 st.word found × (me'.0.learned.notes ≡ me.0.learned.notes)

-- a bucket is loaded, where a cell is sought
abbrev pub sought : {S : Type 0} → CellTree → Step S → Me S View → ℕ → Me S View → Type 0
sought cell st me found me' = IsBucket me.0.layout st.word × Kept me me' × Loads me.0 me'.0 st.word found × Notes me.0 me'.0 cell found

abbrev pub stored : {S : Type 0} → Step S → Me S View → ℕ → Me S View → Type 0
stored st me value me' = Kept me me' × ((k : ℕ) → k < 4 → st.word ≡ part_at me.0.layout (next me.0) k → Stores me.0 me'.0 k st.first)

-- a bucket is exchanged for the next row, where it is empty
abbrev pub exchanged : {S : Type 0} → Step S → Me S View → ℕ → Me S View → Type 0
exchanged st me found me' = IsBucket me.0.layout st.word × Kept me me' × Exchanges me.0 me'.0 st.word found

-- a memo word is loaded: it is 0, or a pair that the meaning allows
abbrev pub recalled : {S : Type 0} → Relation → Reach → Step S → Me S View → ℕ → Me S View → Type 0
recalled allows reach st me found me' =
    Kept me me' × IsMemoWord allows reach me'.0.layout (now me'.0) found × ((place : ℕ) → st.word ≡ memo_at me.0.layout place → Memoes me.0 me'.0 (memo_load place found))

-- a pair is stored in a memo word
abbrev pub remembered : {S : Type 0} → Step S → Me S View → ℕ → Me S View → Type 0
remembered st me value me' = Kept me me' × ((place : ℕ) → st.word ≡ memo_at me.0.layout place → Memoes me.0 me'.0 (memo_store place st.first))

-- 0 is stored in a memo word
abbrev pub cleared : {S : Type 0} → Step S → Me S View → ℕ → Me S View → Type 0
cleared st me value me' = Kept me me' × ((place : ℕ) → st.word ≡ memo_at me.0.layout place → Memoes me.0 me'.0 (memo_clear place))

-- the last rows of the range go to a new pass, which knows what this one knows and has made nothing
abbrev pub left_of : ℕ → View → View
left_of amount v = record v { learned = record v.learned { draft = [] }; owned = record v.owned { quota = v.owned.quota - amount } }

abbrev pub right_of : ℕ → View → View
right_of amount v = record v { learned = record v.learned { draft = []; notes = []; memo_steps = [] }; owned = record { from = v.owned.from + (v.owned.quota - amount); quota = amount; made = [] } }

-- what either knows is known
abbrev pub both : View → View → View
both v w = record v { learned = record v.learned { past = v.learned.past ++ w.learned.past } }
