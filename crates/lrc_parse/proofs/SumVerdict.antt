-- What the example's reading says of whole signs.
use Rattle.std.proofs.Common.{◌≡◌, ℕ, ◌<◌, List, [], ◌∷◌, length, sym, subst, arith}
use Rattle.std.proofs.lemmas.List.{append-nil}
use Rattle.lrc_parse.specs.Reading.{Cause, expected, took, stops}
use Rattle.lrc_parse.specs.declared.sums.Sign.{Sign}
use Rattle.lrc_parse.specs.Sums.{kind_of, IsSum, IsFault, reads_sum, sum_shape, deeper}
use Rattle.lrc_parse.proofs.Whole.{read_whole}
use Rattle.lrc_parse.proofs.Verdict.{stop_place, left_place}
use Rattle.lrc_parse.proofs.SumProofs.{exact_sum, full_sum, deeper_widens}

pub sum_value : (d x : ℕ) (u r : List Sign) → reads_sum d u ≡ took x r → length r ≡ 0 → IsSum d u x
sum_value d x u [] e n = read_whole kind_of sum_shape (IsSum d) (reads_sum d) (exact_sum d) u x e
sum_value d x u (t ∷ r) e n = absurd (omega (arith, n))

pub sum_stop : (d : ℕ) (c : Cause) (u r : List Sign) → reads_sum d u ≡ stops c r → IsFault d c u r
sum_stop d c u r e = stop_place kind_of deeper deeper_widens sum_shape IsSum reads_sum d (full_sum d) c u r e

pub sum_left : (d x : ℕ) (u r : List Sign) → reads_sum d u ≡ took x r → 0 < length r → IsFault d expected u r
sum_left d x u [] e n = absurd (omega (arith, n))
sum_left d x u (t ∷ r) e n =
    let w : _ = left_place kind_of deeper deeper_widens sum_shape IsSum reads_sum d (full_sum d) u r t x e in
    (w.0, w.1, ((d, [], x, subst (λ v. IsSum d v x) (sym (append-nil w.0)) w.2), w.3))

-- what is read, and what the signs are then
pub ruleset sum_verdict = (sum_value, sum_stop, sum_left)
