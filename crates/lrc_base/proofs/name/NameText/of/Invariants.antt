use Rattle.std.proofs.Common.{◌≡◌, ℕ, ◌<◌, ◌≤◌, List, length, get_or}
use Rattle.lrc_base.proofs.name.NameText.of.Given as goal

-- the bytes so far, and then zeros
pub record IsCopied (bytes padded : List ℕ) (i : ℕ) : Type 0 where
  pub whole : length padded ≡ 64
  pub copied : (k : ℕ) → k < i → get_or padded k 0 ≡ get_or bytes k 0
  pub rest : (k : ℕ) → i ≤ k → k < 64 → get_or padded k 0 ≡ 0

abbrev pub invariant-loop-i : goal.invariant-loop-i
invariant-loop-i l = IsCopied l.bytes l.padded l.i
