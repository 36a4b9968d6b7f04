-- Memo words, in the words of a store.
use Rattle.std.specs.Prelude.{ℕ, ◌≡◌, ◌⊎◌, ◌<◌, ◌≤◌, ◌^◌}
use Rattle.lrc_store.specs.Cells.{IsWithin}
use Rattle.lrc_store.specs.Standing.{Standing, IsKnown, Told, meant}
use Rattle.lrc_store.specs.Words.{Tells}
use Rattle.lrc_rule.specs.Memo.{Relation, Reach, pair_word}

-- the word pairs a call with its result by known handles; the meaning allows the pair, and what it reaches is in the store for good
pub record IsKnownPair (allows : Relation) (reach : Reach) (s : Standing) (word : ℕ) : Type 0 where
  pub call : ℕ
  pub outcome : ℕ
  pub word_is : word ≡ pair_word call outcome
  pub some : 1 ≤ call
  pub small : outcome < 2 ^ 32
  pub call_known : IsKnown s call
  pub tells : Tells s outcome (meant s outcome)
  pub allowed : allows (meant s call) (meant s outcome)
  pub reached : Told s.seen (IsWithin (reach (meant s call) (meant s outcome)))

-- the word is 0, or such a pair
abbrev pub IsKnownWord : Relation → Reach → Standing → ℕ → Type 0
IsKnownWord allows reach s word = (word ≡ 0) ⊎ IsKnownPair allows reach s word
