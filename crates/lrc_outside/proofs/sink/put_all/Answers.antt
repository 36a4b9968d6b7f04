use Rattle.std.proofs.Common.{ℕ, ◌+◌, ◌-◌, ◌≤◌, Option, List, length, take, drop, arith}
use Rattle.std.proofs.Math.Seq.{take-add}
use Rattle.std.proofs.lemmas.List.{take_rest, length-drop}
use Rattle.std.proofs.KnownBytes.{Appends-trans}
use Rattle.std.specs.Io.KnownBytes.{Appends}
use Rattle.lrc_outside.proofs.sink.put_all.Goals as goal

-- the first bytes, and then the first of the rest
Appends-more : (a b c : Option (List ℕ)) (xs : List ℕ) (at n : ℕ) → Appends a b (take at xs)
    → Appends b c (take n (take (length xs - at) (drop at xs))) → Appends a c (take (at + n) xs)
Appends-more a b c xs at n p q = rw take-add (Appends-trans a b c _ _ p (rw take_rest at q))

-- the first of the rest are within the whole
within_rest : (xs : List ℕ) (at n : ℕ) → at ≤ length xs → n ≤ length (take (length xs - at) (drop at xs)) → at + n ≤ length xs
within_rest xs at n p q = let h = rw (take_rest, length-drop) at q in omega arith

pub loop-at-preserved : goal.loop-at-preserved
loop-at-preserved g c = (
  within_rest c.args.bytes.now c.loop-at.at c.in_ok-at.field-0 c.loop-at.invariant.0 c.in_ok-at.ensures.within,
  Appends-more _ _ _ c.args.bytes.now c.loop-at.at c.in_ok-at.field-0 c.loop-at.invariant.1 c.in_ok-at.ensures.appended,
  omega (arith, c.loop-at.invariant.2, c.in_ok-at.ensures.never_falls),
)
