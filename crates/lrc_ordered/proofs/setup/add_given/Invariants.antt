use Rattle.std.proofs.Common.{◌≡◌, ℕ, ◌↔◌, ◌⊎◌, length, take, Contains}
use Rattle.lrc_ordered.specs.Tables.{table_at, HasAt}
use Rattle.lrc_ordered.specs.Setup.{IsIn}
use Rattle.lrc_ordered.proofs.setup.add_given.Given as goal

abbrev pub invariant-given : goal.invariant-given
invariant-given l = record {
  number : length l.tables ≡ length l.initial.tables;
  points : (s : ℕ) → (table_at l.tables s).points ≡ (table_at l.initial.tables s).points;
  pairs : (s x y : ℕ) → HasAt l.tables s x y
      ↔ (HasAt l.initial.tables s x y ⊎ (Contains (take l.pair-index l.given) (record { sort = s; first = x; then = y }) × IsIn l.places s));
}
