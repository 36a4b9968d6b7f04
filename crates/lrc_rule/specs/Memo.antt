-- Memo words: what they say, and the steps on them.
use Rattle.std.specs.Prelude.{ℕ, suc, ◌≡◌, ◌⊎◌, ◌+◌, ◌*◌, ◌<◌, ◌^◌, List, Contains, slice_index, refl}
use Rattle.std.specs.Coded.{Coded, code_by, coded_ℕ, coded×, coded⊎}
use Rattle.std.proofs.Common.{inl, inr}
use Rattle.lrc_store.specs.Cells.{CellTree}
use Rattle.lrc_rule.specs.declared.layout.Layout.{Layout}
use Rattle.lrc_rule.specs.Layout.{memo_at}
use Rattle.lrc_rule.specs.Rows.{Stands}

-- which pairs of a call and its result may be remembered
abbrev pub Relation : Type 1
Relation = CellTree → CellTree → Type 0

-- the cells that a call and its result reach
abbrev pub Reach : Type 0
Reach = CellTree → CellTree → List CellTree

abbrev pub memo : Layout → List ℕ → ℕ → ℕ
memo l words place = slice_index words (memo_at l place)

-- the word of two handles
abbrev pub pair_word : ℕ → ℕ → ℕ
pair_word call outcome = call * 2 ^ 32 + outcome

-- The word pairs a call with its result, by the handles of published rows. The meaning allows the pair, and each cell of its reach is in a published row.
pub record IsMemoPair (allows : Relation) (reach : Reach) (l : Layout) (words : List ℕ) (word : ℕ) : Type 0 where
  pub call : CellTree
  pub outcome : CellTree
  pub call_row : ℕ
  pub outcome_row : ℕ
  pub word_is : word ≡ pair_word (suc call_row) (suc outcome_row)
  pub call_stands : Stands l words call (suc call_row)
  pub outcome_stands : Stands l words outcome (suc outcome_row)
  pub allowed : allows call outcome
  pub reached : (cell : CellTree) → Contains (reach call outcome) cell → (row : ℕ) × Stands l words cell (suc row)

-- the word is 0, or such a pair
abbrev pub IsMemoWord : Relation → Reach → Layout → List ℕ → ℕ → Type 0
IsMemoWord allows reach l words word = (word ≡ 0) ⊎ IsMemoPair allows reach l words word

-- so is each memo word
abbrev pub IsMemo : Relation → Reach → Layout → List ℕ → Type 0
IsMemo allows reach l words = (place : ℕ) → place < l.memo → IsMemoWord allows reach l words (memo l words place)

-- A step on the memo word at a place: the word was loaded, a pair was stored, or 0 was.
pub data MemoStep : Type 0 where
  memo_load : ℕ → ℕ → MemoStep
  memo_store : ℕ → ℕ → MemoStep
  memo_clear : ℕ → MemoStep

abbrev pub StepParts : Type 0
StepParts = (ℕ × ℕ) ⊎ ((ℕ × ℕ) ⊎ ℕ)

abbrev pub parts_of : MemoStep → StepParts
parts_of (memo_load place word) = inl (place, word)
parts_of (memo_store place word) = inr (inl (place, word))
parts_of (memo_clear place) = inr (inr place)

abbrev pub step_of : StepParts → MemoStep
step_of (inl p) = memo_load p.0 p.1
step_of (inr (inl p)) = memo_store p.0 p.1
step_of (inr (inr place)) = memo_clear place

pub step_of-parts : (s : MemoStep) → step_of (parts_of s) ≡ s
step_of-parts (memo_load place word) = refl
step_of-parts (memo_store place word) = refl
step_of-parts (memo_clear place) = refl

-- a step is stored as its parts
abbrev pub coded_memo_step : Coded MemoStep
coded_memo_step = code_by StepParts (coded⊎ (coded× coded_ℕ coded_ℕ) (coded⊎ (coded× coded_ℕ coded_ℕ) coded_ℕ)) parts_of step_of step_of-parts
