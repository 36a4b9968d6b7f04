-- What writes to words do to the pairs of a table.
use Rattle.std.proofs.Common.{◌≡◌, ◌≢◌, ℕ, zero, suc, ◌+◌, ◌*◌, ◌/◌, ◌%◌, ◌^◌, ◌<◌, ◌≤◌, ◌⊎◌, ◌∙◌, true, List, eqb, eqb-true, eq-eqb, length, get_or, set, inl, inr, arith, sym, refl, ap, get_or-set_same, get_or-set_other, w64}
use Rattle.std.specs.Prelude.{◌↔◌, bit_or, bit_and, replicate}
use Rattle.std.specs.Int.{bit_at}
use Rattle.std.proofs.lemmas.Bool.{cases_eq, cases_lt}
use Rattle.std.proofs.lemmas.Nat.{same_from_place, mul-add-lt, rows}
use Rattle.std.proofs.lemmas.Nat.Bits.{bit_at_or, bit_at-zero, shr_and_one, bit_at-lt, bit_at_set_same, bit_at_set_other}
use Rattle.lrc_graph.specs.Pairs.{Has, HasExactly, With}
use Rattle.lrc_graph.specs.Shown.{bit_of, shown, IsTable}
use Rattle.lrc_graph.proofs.ShownLemmas.{within-shown, has-shown, bit-one}

-- the place of a pair's word is within the table
pub place-within : (points width : ℕ) (words : List ℕ) → IsTable points width words → (a b : ℕ) → a < points → b < points
    → (a * width + b / 64 < length words) × (b / 64 < width)
place-within points width words table a b small fit =
    let wide : points ≤ 64 * width = table.wide in
    let sized : length words ≡ points * width = table.sized in
    let column : b / 64 < width = omega arith in
    let place = mul-add-lt a width (b / 64) points small column in (omega arith, column)

-- a row is within the table
pub row-within : (points width : ℕ) (words : List ℕ) → IsTable points width words → (a : ℕ) → a < points → a * width + width ≤ length words
row-within points width words table a small =
    let sized : length words ≡ points * width = table.sized in grind (arith, rows)

-- two relations of one shape, whose bits are related inside
module _ (points width : ℕ) (old new : List ℕ) (P : ℕ → ℕ → Type 0) where
  pub exactly-shown : ((x y : ℕ) → x < points → y < points → (bit_of new width x y ≡ true) ↔ ((bit_of old width x y ≡ true) ⊎ P x y))
      → ((x y : ℕ) → P x y → (x < points) × (y < points))
      → HasExactly (shown points width new) (λ x y. Has (shown points width old) x y ⊎ P x y)
  exactly-shown bits small x y = (
    λ h.
        let at = within-shown points width new x y h in
        elim ((bits x y at.0 at.1).0 ((has-shown points width new x y at.0 at.1).0 h)) [
          | inl r ↦ inl ((has-shown points width old x y at.0 at.1).1 r)
          | inr p ↦ inr p
        ],
    λ h.
        elim h [
          | inl r ↦
              let at = within-shown points width old x y r in
              (has-shown points width new x y at.0 at.1).1
              ((bits x y at.0 at.1).1 (inl ((has-shown points width old x y at.0 at.1).0 r)))
          | inr p ↦
              let at = small x y p in (has-shown points width new x y at.0 at.1).1 ((bits x y at.0 at.1).1 (inr p))
        ],
  )

-- what the bits are, as tests
bits_tests : (width : ℕ) (old new : List ℕ) (x y : ℕ) (P : Type 0)
    → ((bit_at (get_or new (x * width + y / 64) 0) (y % 64) ≡ 1) ↔ ((bit_at (get_or old (x * width + y / 64) 0) (y % 64) ≡ 1) ⊎ P))
    → (bit_of new width x y ≡ true) ↔ ((bit_of old width x y ≡ true) ⊎ P)
bits_tests width old new x y P bits =
    let first = bit-one old width x y in
    let after = bit-one new width x y in (
      λ h. elim (bits.0 (after.0 h)) [ inl r ↦ inl (first.1 r) | inr p ↦ inr p ],
      λ h. after.1 (bits.1 (elim h [ inl r ↦ inl (first.0 r) | inr p ↦ inr p ])),
    )

-- a set bit of a word is one that was set, or the new one
set_bit : (word b y : ℕ) → b < 64 → (bit_at (bit_or word (1 * 2 ^ b % 2 ^ 64)) y ≡ 1) ↔ ((bit_at word y ≡ 1) ⊎ (y ≡ b))
set_bit word b y fit = (
  λ h.
      elim (cases_eq y b) [
        | inl e ↦ inr e
        | inr ne ↦ inl (sym (bit_at_set_other w64 word b fit y ne) ∙ h)
      ],
  λ h.
      elim (cases_eq y b) [
        | inl e ↦ rw e (bit_at_set_same w64 word b fit)
        | inr ne ↦ elim h [ inl r ↦ bit_at_set_other w64 word b fit y ne ∙ r | inr e ↦ absurd (ne e) ]
      ],
)

-- a bit of two words joined is set where it is in one of them
or_bit : (v w y : ℕ) → (bit_at (bit_or v w) y ≡ 1) ↔ ((bit_at v y ≡ 1) ⊎ (bit_at w y ≡ 1))
or_bit v w y =
    let both = bit_at_or v w y in
    let low = bit_at-lt v y in
    let high = bit_at-lt w y in (
      λ h. elim (cases_eq (bit_at v y) 1) [ inl e ↦ inl e | inr ne ↦ inr (omega arith) ],
      λ h. elim h [ inl e ↦ omega arith | inr e ↦ omega arith ],
    )

module _ (width : ℕ) (words : List ℕ) (a b : ℕ) where
  abbrev place : ℕ
  place = a * width + b / 64

  -- the words once the bit of the pair is set
  abbrev pub with_bit : List ℕ
  with_bit = set words place (bit_or (get_or words place 0) (1 * 2 ^ (b % 64) % 2 ^ 64))

  other-place : (x y : ℕ) → x * width + y / 64 ≢ place → x ≡ a → y ≡ b → ⊥
  other-place x y ne e f = ne (ap (λ k. k * width + y / 64) e ∙ ap (λ k. a * width + k / 64) f)

  -- the bit that is set is the pair's, and no other changes
  with_bit-bit : (x y : ℕ) → y / 64 < width → b / 64 < width → place < length words
      → (bit_at (get_or with_bit (x * width + y / 64) 0) (y % 64) ≡ 1)
      ↔ ((bit_at (get_or words (x * width + y / 64) 0) (y % 64) ≡ 1) ⊎ ((x ≡ a) × (y ≡ b)))
  with_bit-bit x y column own within =
      let set_word : ℕ = bit_or (get_or words place 0) (1 * 2 ^ (b % 64) % 2 ^ 64) in
      elim (cases_eq (x * width + y / 64) place) [
        | inl e ↦
            let same = same_from_place x (y / 64) a (b / 64) width column own e in
            let word : get_or with_bit (x * width + y / 64) 0 ≡ set_word =
            ap (λ k. get_or with_bit k 0) e ∙ get_or-set_same words place set_word 0 within in
            let old : get_or words (x * width + y / 64) 0 ≡ get_or words place 0 = ap (λ k. get_or words k 0) e in
            let bits = set_bit (get_or words place 0) (b % 64) (y % 64) (omega arith) in (
              λ h.
                  elim (bits.0 (ap (λ w. bit_at w (y % 64)) (sym word) ∙ h)) [
                    | inl r ↦ inl (ap (λ w. bit_at w (y % 64)) old ∙ r)
                    | inr f ↦ inr (same.0, let g = same.1 in omega arith)
                  ],
              λ h.
                  ap (λ w. bit_at w (y % 64)) word
                  ∙ bits.1
                  (elim h [ inl r ↦ inl (ap (λ w. bit_at w (y % 64)) (sym old) ∙ r) | inr t ↦ inr (ap (λ k. k % 64) t.1) ]),
            )
        | inr ne ↦
            let word : get_or with_bit (x * width + y / 64) 0 ≡ get_or words (x * width + y / 64) 0 =
            get_or-set_other words place (x * width + y / 64) set_word 0 ne in (
              λ h. inl (ap (λ w. bit_at w (y % 64)) (sym word) ∙ h),
              λ h.
                  elim h [
                    | inl r ↦ ap (λ w. bit_at w (y % 64)) word ∙ r
                    | inr t ↦ absurd (other-place x y ne t.0 t.1)
                  ],
            )
      ]

-- setting a bit adds its pair
pub added : (points width : ℕ) (words : List ℕ) → IsTable points width words → (a b : ℕ) → a < points → b < points
    → HasExactly (shown points width (with_bit width words a b)) (With (Has (shown points width words)) a b)
added points width words table a b small fit =
    let own = place-within points width words table a b small fit in
    exactly-shown points width words (with_bit width words a b) (λ x y. (x ≡ a) × (y ≡ b))
    (λ x y row column.
    let bit = with_bit-bit width words a b x y (place-within points width words table x y row column).1 own.1 own.0 in
    bits_tests width words (with_bit width words a b) x y ((x ≡ a) × (y ≡ b)) bit)
    (λ x y e. let f = e.0 in let g = e.1 in (omega arith, omega arith))

-- the words after a join of rows
pub record Joined (width into from : ℕ) (old new : List ℕ) : Type 0 where
  pub joined : (k : ℕ) → k < width → get_or new (into * width + k) 0 ≡ bit_or (get_or old (into * width + k) 0) (get_or old (from * width + k) 0)
  pub others : (row k : ℕ) → row ≢ into → k < width → get_or new (row * width + k) 0 ≡ get_or old (row * width + k) 0

joined-bit : (width into from : ℕ) (old new : List ℕ) → Joined width into from old new → (x y : ℕ) → y / 64 < width
    → (bit_at (get_or new (x * width + y / 64) 0) (y % 64) ≡ 1)
    ↔ ((bit_at (get_or old (x * width + y / 64) 0) (y % 64) ≡ 1) ⊎ ((x ≡ into) × (bit_at (get_or old (from * width + y / 64) 0) (y % 64) ≡ 1)))
joined-bit width into from old new rows x y column =
    elim (cases_eq x into) [
      | inl e ↦
          let at : get_or new (x * width + y / 64) 0 ≡ bit_or (get_or old (x * width + y / 64) 0) (get_or old (from * width + y / 64) 0) =
          rw e (rows.joined (y / 64) column) in
          let bits = or_bit (get_or old (x * width + y / 64) 0) (get_or old (from * width + y / 64) 0) (y % 64) in (
            λ h. elim (bits.0 (ap (λ w. bit_at w (y % 64)) (sym at) ∙ h)) [ inl r ↦ inl r | inr r ↦ inr (e, r) ],
            λ h. ap (λ w. bit_at w (y % 64)) at ∙ bits.1 (elim h [ inl r ↦ inl r | inr t ↦ inr t.1 ]),
          )
      | inr ne ↦
          let at = rows.others x (y / 64) ne column in (
            λ h. inl (ap (λ w. bit_at w (y % 64)) (sym at) ∙ h),
            λ h. elim h [ inl r ↦ ap (λ w. bit_at w (y % 64)) at ∙ r | inr t ↦ absurd (ne t.0) ],
          )
    ]

-- joining a row into another pairs its point with what the other's is paired with
pub joined-rows : (points width : ℕ) (old new : List ℕ) → IsTable points width old → (into from : ℕ) → into < points → from < points
    → Joined width into from old new
    → HasExactly (shown points width new) (λ x y. Has (shown points width old) x y ⊎ ((x ≡ into) × Has (shown points width old) from y))
joined-rows points width old new table into from small fit rows =
    exactly-shown points width old new (λ x y. (x ≡ into) × Has (shown points width old) from y)
    (λ x y row column.
    let bit = joined-bit width into from old new rows x y (place-within points width old table x y row column).1 in
    let has = has-shown points width old from y fit column in
    let one = bit-one old width from y in
    bits_tests width old new x y ((x ≡ into) × Has (shown points width old) from y) (
      λ h. elim (bit.0 h) [ inl r ↦ inl r | inr t ↦ inr (t.0, has.1 (one.1 t.1)) ],
      λ h. bit.1 (elim h [ inl r ↦ inl r | inr t ↦ inr (t.0, one.0 (has.0 t.1)) ]),
    ))
    (λ x y t. (let e = t.0 in omega arith, (within-shown points width old from y t.1).1))

-- one word more of a join of rows
module _ (width into from : ℕ) (old now : List ℕ) (k : ℕ) (small : k < width) (into_fits : into * width + width ≤ length now)
    (done : (j : ℕ) → j < k → get_or now (into * width + j) 0 ≡ bit_or (get_or old (into * width + j) 0) (get_or old (from * width + j) 0))
    (rest : (row j : ℕ) → j < width → (row ≡ into → k ≤ j) → get_or now (row * width + j) 0 ≡ get_or old (row * width + j) 0) where
  abbrev next : List ℕ
  next = set now (into * width + k) (bit_or (get_or now (into * width + k) 0) (get_or now (from * width + k) 0))

  pub done-more : (j : ℕ) → j < k + 1 → get_or next (into * width + j) 0 ≡ bit_or (get_or old (into * width + j) 0) (get_or old (from * width + j) 0)
  done-more j within =
      let word : ℕ = bit_or (get_or now (into * width + k) 0) (get_or now (from * width + k) 0) in
      elim (cases_lt j k) [
        | inl less ↦
            let ne : into * width + j ≢ into * width + k = omega arith in
            get_or-set_other now (into * width + k) (into * width + j) word 0 ne ∙ done j less
        | inr more ↦
            let e : j ≡ k = omega arith in
            let fits : into * width + k < length now = omega arith in
            rw e
            (get_or-set_same now (into * width + k) word 0 fits
            ∙ rw (rest into k small (λ _. omega arith), rest from k small (λ _. omega arith)))
      ]

  pub rest-more : (row j : ℕ) → j < width → (row ≡ into → k + 1 ≤ j) → get_or next (row * width + j) 0 ≡ get_or old (row * width + j) 0
  rest-more row j within later =
      let word : ℕ = bit_or (get_or now (into * width + k) 0) (get_or now (from * width + k) 0) in
      let ne : row * width + j ≢ into * width + k =
      λ e. let same = same_from_place row j into k width within small e in let after = later same.0 in let f = same.1 in omega arith in
      get_or-set_other now (into * width + k) (row * width + j) word 0 ne
      ∙ rest row j within (λ e. let after = later e in omega arith)

-- the test of a bit tells whether the pair is there
pub has-tested : (points width : ℕ) (words : List ℕ) (a b word : ℕ) → a < points → b < points → word ≡ get_or words (a * width + b / 64) 0
    → (eqb (bit_and (word / 2 ^ (b % 64)) 1) 1 ≡ true) ↔ Has (shown points width words) a b
has-tested points width words a b word small fit read =
    let has = has-shown points width words a b small fit in
    let one = bit-one words width a b in
    let bit : bit_and (word / 2 ^ (b % 64)) 1 ≡ bit_at (get_or words (a * width + b / 64) 0) (b % 64) =
    shr_and_one word (b % 64) ∙ ap (λ w. bit_at w (b % 64)) read in (
      λ h. has.1 (one.1 (sym bit ∙ eqb-true _ 1 h)),
      λ h. eq-eqb _ 1 (bit ∙ one.0 (has.0 h)),
    )

-- each of the zeros is 0, and so is what is past them
zeros : (n k : ℕ) → ◌≡◌ {A = ℕ} (get_or (replicate n 0) k 0) 0
zeros zero k = refl
zeros (suc n) zero = refl
zeros (suc n) (suc k) = zeros n k

bit-none : (words : List ℕ) (k i : ℕ) → get_or words k 0 ≡ 0 → bit_at (get_or words k 0) i ≡ 1 → ⊥
bit-none words k i is_0 one = let none = ap (λ w. bit_at w i) is_0 ∙ bit_at-zero i in omega arith

-- a table of zeros has no pair
pub none-shown : (points width n : ℕ) → (a b : ℕ) → Has (shown points width (replicate n 0)) a b → ⊥
none-shown points width n a b h =
    let at = within-shown points width (replicate n 0) a b h in
    let one = (bit-one (replicate n 0) width a b).0 ((has-shown points width (replicate n 0) a b at.0 at.1).0 h) in
    bit-none (replicate n 0) (a * width + b / 64) (b % 64) (zeros n (a * width + b / 64)) one
