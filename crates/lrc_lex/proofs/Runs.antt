-- The longest run of elements from the front that pass a test.
use Rattle.std.proofs.Common.{inl, inr, ◌≡◌, ℕ, ◌<◌, ◌≤◌, Bool, List, length, take, sym, ap, ◌∙◌, arith, get_or-take, length-take}
use Rattle.std.specs.List.{prefix_len, take_while, AllPass}
use Rattle.std.proofs.lemmas.List.Sums.{prefix_len_passes, prefix_len_stops}
use Rattle.std.proofs.lemmas.List.Folds.{length-prefix_len}
use Rattle.std.proofs.lemmas.Bool.{false≢true, cases_lt}

-- each element of the run passes
pub passes_in_run : (p : ℕ → Bool) (xs : List ℕ) → AllPass p (take_while p xs)
passes_in_run p xs k d h =
    let below : k < prefix_len p xs = omega (arith, length-prefix_len p xs) in
    ap p (get_or-take (prefix_len p xs) xs k d below) ∙ prefix_len_passes p xs k d below

-- and no longer front of the list is all of elements that pass
pub run_is_longest : (p : ℕ → Bool) (xs : List ℕ) (m : ℕ) → prefix_len p xs < m → m ≤ length xs → AllPass p (take m xs) → ⊥
run_is_longest p xs m longer within passes =
    let short : prefix_len p xs < length xs = omega arith in
    let there : prefix_len p xs < length (take m xs) = simp length-take (omega arith) in
    let passed = passes (prefix_len p xs) 0 there in
    false≢true (sym (prefix_len_stops p xs 0 short) ∙ ap p (sym (get_or-take m xs (prefix_len p xs) 0 longer)) ∙ passed)

-- a front of elements that pass, with no longer one, is the run
pub run_is : (p : ℕ → Bool) (xs : List ℕ) (n : ℕ) → n ≤ length xs → AllPass p (take n xs) → (n < prefix_len p xs → AllPass p (take_while p xs) → ⊥) → prefix_len p xs ≡ n
run_is p xs n within passes none =
    elim (cases_lt (prefix_len p xs) n) [
      | inl longer ↦ absurd (run_is_longest p xs n longer within passes)
      | inr at_least ↦ elim (cases_lt n (prefix_len p xs)) [ inl shorter ↦ absurd (none shorter (passes_in_run p xs)) | inr at_most ↦ omega arith ]
    ]
