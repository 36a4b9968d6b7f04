-- The items of a visit, one more at a time.
use Rattle.std.proofs.Common.{◌≡◌, ℕ, zero, suc, ◌+◌, ◌<◌, Bool, true, false, ◌&&◌, ◌==◌, cond, List, [], ◌∷◌, ◌++◌, map, refl, sym, ap, ◌∙◌, append_assoc, append-nil, arith}
use Rattle.std.specs.Prelude.{filter}
use Rattle.std.specs.List.{range_with_len}
use Rattle.std.proofs.lemmas.List.{map-append}
use Rattle.std.proofs.lemmas.List.FromFn.{map-range_with_len_more}
use Rattle.std.proofs.lemmas.List.Elements.{filter-append}
use Rattle.lrc_base.specs.declared.grammar.Attr.{Attr}
use Rattle.lrc_order_meaning.specs.declared.Partition.{Partition}
use Rattle.lrc_plan_meaning.specs.declared.Bound.{Bound}
use Rattle.lrc_plan_meaning.specs.declared.Bound.TheVariants as b
use Rattle.lrc_plan_meaning.specs.Items.{is_of, visit_of}

pub range_more : (start n : ℕ) → range_with_len start (n + 1) ≡ range_with_len start n ++ (start + n) ∷ []
range_more start zero = let e : start + 0 ≡ start = omega arith in ap (λ k. k ∷ []) (sym e)
range_more start (suc n) =
    let e : suc n + 1 ≡ suc (n + 1) = omega arith in
    let at : (start + 1) + n ≡ start + suc n = omega arith in
    ap (range_with_len start) e ∙ ap (λ xs. start ∷ xs) (range_more (start + 1) n) ∙ ap (λ k. start ∷ (range_with_len (start + 1) n ++ k ∷ [])) at

-- items of numbers that pass a test, with one number more
module _ {X : Type 0} (f : ℕ → X) (test : ℕ → Bool) where
  abbrev pub passed : ℕ → List X
  passed n = map f (filter test (range_with_len 0 n))

  one_over : (b : Bool) (k : ℕ) → test k ≡ b → map f (filter test (k ∷ [])) ≡ cond b (f k ∷ []) []
  one_over true k e = rw e refl
  one_over false k e = rw e refl

  pub passed_more : (n : ℕ) (b : Bool) → test n ≡ b → passed (n + 1) ≡ passed n ++ cond b (f n ∷ []) []
  passed_more n b e =
      let at : 0 + n ≡ n = omega arith in
      ap (λ xs. map f (filter test xs)) (range_more 0 n ∙ ap (λ k. range_with_len 0 n ++ k ∷ []) at)
      ∙ ap (map f) (filter-append test (range_with_len 0 n) (n ∷ []))
      ∙ map-append f (filter test (range_with_len 0 n)) (filter test (n ∷ []))
      ∙ ap (λ xs. passed n ++ xs) (one_over b n e)

-- the numbers that pass, with one number more
filter_over : (test : ℕ → Bool) (b : Bool) (k : ℕ) → test k ≡ b → filter test (k ∷ []) ≡ cond b (k ∷ []) []
filter_over test true k e = rw e refl
filter_over test false k e = rw e refl

pub filtered_more : (test : ℕ → Bool) (n : ℕ) (b : Bool) → test n ≡ b → filter test (range_with_len 0 (n + 1)) ≡ filter test (range_with_len 0 n) ++ cond b (n ∷ []) []
filtered_more test n b e =
    let at : 0 + n ≡ n = omega arith in
    ap (filter test) (range_more 0 n ∙ ap (λ k. range_with_len 0 n ++ k ∷ []) at)
    ∙ filter-append test (range_with_len 0 n) (n ∷ [])
    ∙ ap (λ xs. filter test (range_with_len 0 n) ++ xs) (filter_over test b n e)

-- two functions that agree below a number
pub passed_same : {X : Type 0} (f g : ℕ → X) (test : ℕ → Bool) (n : ℕ) → ((o : ℕ) → o < n → f o ≡ g o) → passed f test n ≡ passed g test n
passed_same f g test zero same = refl
passed_same f g test (suc n) same =
    let next : suc n ≡ n + 1 = omega arith in
    let here : cond (test n) (f n ∷ []) [] ≡ cond (test n) (g n ∷ []) [] = ap (λ x. cond (test n) (x ∷ []) []) (same n (omega arith)) in
    ap (passed f test) next
    ∙ passed_more f test n (test n) refl
    ∙ ap (λ xs. xs ++ cond (test n) (f n ∷ []) []) (passed_same f g test n (λ o less. same o (omega arith)))
    ∙ ap (λ xs. passed g test n ++ xs) here
    ∙ sym (passed_more g test n (test n) refl)
    ∙ ap (passed g test) (sym next)

-- the same behind others
module _ {X : Type 0} (f : ℕ → X) (test : ℕ → Bool) (n : ℕ) (items now old : List X) (before : items ≡ old ++ passed f test n) where
  pub passed_on : test n ≡ true → now ≡ items ++ f n ∷ [] → now ≡ old ++ passed f test (n + 1)
  passed_on e is =
      is
      ∙ ap (λ xs. xs ++ f n ∷ []) before
      ∙ append_assoc old (passed f test n) (f n ∷ [])
      ∙ ap (λ xs. old ++ xs) (sym (passed_more f test n true e))

  pub passed_by : test n ≡ false → now ≡ items → now ≡ old ++ passed f test (n + 1)
  passed_by e is =
      is ∙ before ∙ ap (λ xs. old ++ xs) (sym (passed_more f test n false e ∙ append-nil (passed f test n)))

-- items of numbers in a row behind others, with one number more
pub row_more : {X : Type 0} (f : ℕ → X) (old items now : List X) (a n k m : ℕ) → items ≡ old ++ map f (range_with_len a n) → now ≡ items ++ f k ∷ []
    → a + n ≡ k → m ≡ n + 1 → now ≡ old ++ map f (range_with_len a m)
row_more f old items now a n k m before one at next =
    one
    ∙ ap (λ xs. xs ++ f k ∷ []) before
    ∙ append_assoc old (map f (range_with_len a n)) (f k ∷ [])
    ∙ ap (λ xs. old ++ xs) (sym (map-range_with_len_more f a n k at) ∙ ap (λ c. map f (range_with_len a c)) (sym next))

-- the values of a visit among the first n attributes
abbrev pub values_below : List Partition → List Attr → Bool → ℕ → ℕ → ℕ → ℕ → List Bound
values_below parts attrs inherited s start v n =
    passed (λ x. b.Value (start + x)) (λ x. is_of attrs inherited x && (visit_of parts s x == v)) n
