-- Paths, and the passes that close a relation.
use Rattle.std.proofs.Common.{◌≡◌, ℕ, ◌+◌, ◌<◌, ◌⊎◌, ◌∙◌, inl, inr, arith, subst, sym, refl}
use Rattle.std.specs.Prelude.{◌↔◌}
use Rattle.std.proofs.lemmas.Bool.{cases_lt}
use Rattle.lrc_graph.specs.Pairs.{Pairs, Has, HasExactly, With, Path, step, onward, IsTransitive}

-- a path, and a path from its end
pub joined : (R : ℕ → ℕ → Type 0) (a b c : ℕ) → Path R a b → Path R b c → Path R a c
joined R _ _ c (step a b r) q = onward a b c r q
joined R _ _ c (onward a m b r p) q = onward a m c r (joined R m b c p q)

-- the pairs that paths join are closed
pub closed-paths : (R : ℕ → ℕ → Type 0) (now : Pairs) → HasExactly now (Path R) → IsTransitive (Has now)
closed-paths R now exact a b c p q = (exact a c).1 (joined R a b c ((exact a b).0 p) ((exact b c).0 q))

-- a transitive relation that has the pairs of R has those that a path along R joins
pub along : (R S : ℕ → ℕ → Type 0) → ((a b : ℕ) → R a b → S a b) → IsTransitive S → (a b : ℕ) → Path R a b → S a b
along R S has whole _ _ (step a b r) = has a b r
along R S has whole _ _ (onward a m b r p) = whole a m b (has a m r) (along R S has whole m b p)

-- paths stay below n where steps do
pub ends : (R : ℕ → ℕ → Type 0) (n : ℕ) → ((a b : ℕ) → R a b → (a < n) × (b < n)) → (a b : ℕ) → Path R a b → (a < n) × (b < n)
ends R n small a b p = along R (λ x y. (x < n) × (y < n)) small (λ x y z f g. (f.0, g.1)) a b p

-- the pairs of R, and those of two steps of R by k
abbrev pub Shorter : (ℕ → ℕ → Type 0) → ℕ → ℕ → ℕ → Type 0
Shorter R k x y = R x y ⊎ (R x k × R k y)

module _ (R : ℕ → ℕ → Type 0) (k : ℕ) (through : (m a b : ℕ) → m < k → R a m → R m b → R a b) where
  -- two steps by a point below k are one
  below : (m a b : ℕ) → m < k → Shorter R k a m → Shorter R k m b → Shorter R k a b
  below m a b small (inl p) (inl q) = inl (through m a b small p q)
  below m a b small (inl p) (inr q) = inr (through m a k small p q.0, q.1)
  below m a b small (inr p) (inl q) = inr (p.0, through m k b small p.1 q)
  below m a b small (inr p) (inr q) = inr (p.0, q.1)

  to : (a : ℕ) → Shorter R k a k → R a k
  to a (inl p) = p
  to a (inr p) = p.0

  from : (b : ℕ) → Shorter R k k b → R k b
  from b (inl q) = q
  from b (inr q) = q.1

  -- so are two steps by k itself
  pub two_steps : (m a b : ℕ) → m < k + 1 → Shorter R k a m → Shorter R k m b → Shorter R k a b
  two_steps m a b small p q =
      elim (cases_lt m k) [
        | inl less ↦ below m a b less p q
        | inr more ↦
            let e : m ≡ k = omega arith in
            inr (to a (subst (λ i. Shorter R k a i) e p), from b (subst (λ i. Shorter R k i b) e q))
      ]

-- what the passes by the points below k make of a relation
pub record Shortened (old now : Pairs) (k : ℕ) : Type 0 where
  pub points : now.points ≡ old.points
  pub sound : (a b : ℕ) → Has now a b → Path (Has old) a b
  pub keeps : (a b : ℕ) → Has old a b → Has now a b
  pub through : (m a b : ℕ) → m < k → Has now a m → Has now m b → Has now a b

pub Shortened-none : (old : Pairs) → Shortened old old 0
Shortened-none old = record {
  points = refl;
  sound = λ a b r. step a b r;
  keeps = λ a b r. r;
  through = λ m a b small p q. absurd (omega arith);
}

-- one pass more
pub Shortened-more : (old now next : Pairs) (k : ℕ) → Shortened old now k → next.points ≡ now.points
    → HasExactly next (Shorter (Has now) k) → Shortened old next (k + 1)
Shortened-more old now next k h same exact = record {
  points = same ∙ h.points;
  sound = λ a b p.
      elim ((exact a b).0 p) [
        | inl q ↦ h.sound a b q
        | inr q ↦ joined (Has old) a k b (h.sound a k q.0) (h.sound k b q.1)
      ];
  keeps = λ a b p. (exact a b).1 (inl (h.keeps a b p));
  through = λ m a b small p q. (exact a b).1 (two_steps (Has now) k h.through m a b small ((exact a m).0 p) ((exact m b).0 q));
}

-- after the passes by all points the pairs are those that a path joins
pub Shortened-all : (old now : Pairs) (n : ℕ) → ((a b : ℕ) → Has old a b → (a < n) × (b < n)) → Shortened old now n
    → HasExactly now (Path (Has old))
Shortened-all old now n small h x y = (
  h.sound x y,
  along (Has old) (Has now) h.keeps
      (λ a m b p q. h.through m a b (ends (Has old) n small a m (h.sound a m p)).1 p q) x y,
)

-- the pairs of R, and in the rows below n each point of To with each of From
abbrev pub RowsBelow : (ℕ → ℕ → Type 0) → (ℕ → Type 0) → (ℕ → Type 0) → ℕ → ℕ → ℕ → Type 0
RowsBelow R To From n x y = R x y ⊎ ((x < n) × To x × From y)

module _ (R : ℕ → ℕ → Type 0) (To From : ℕ → Type 0) where
  wider : (n x y : ℕ) → RowsBelow R To From n x y → RowsBelow R To From (n + 1) x y
  wider n x y (inl r) = inl r
  wider n x y (inr t) = inr (omega arith, t.1, t.2)

  -- the row of a point of To is done
  pub rows-more : (now next : Pairs) (n : ℕ) (J : ℕ → Type 0) → HasExactly now (RowsBelow R To From n) → To n
      → ((y : ℕ) → J y ↔ From y) → HasExactly next (λ x y. Has now x y ⊎ ((x ≡ n) × J y))
      → HasExactly next (RowsBelow R To From (n + 1))
  rows-more now next n J exact here row new x y = (
    λ p.
        elim ((new x y).0 p) [
          | inl q ↦ wider n x y ((exact x y).0 q)
          | inr q ↦ inr (let e : x ≡ n = q.0 in omega arith, subst To (sym q.0) here, (row y).0 q.1)
        ],
    λ p.
        elim p [
          | inl r ↦ (new x y).1 (inl ((exact x y).1 (inl r)))
          | inr t ↦
              elim (cases_lt x n) [
                | inl less ↦ (new x y).1 (inl ((exact x y).1 (inr (less, t.1, t.2))))
                | inr more ↦ let small = t.0 in let e : x ≡ n = omega arith in (new x y).1 (inr (e, (row y).1 t.2))
              ]
        ],
  )

  -- the row of another point is as it was
  pub rows-same : (now : Pairs) (n : ℕ) → HasExactly now (RowsBelow R To From n) → ¬ To n → HasExactly now (RowsBelow R To From (n + 1))
  rows-same now n exact other x y = (
    λ p. wider n x y ((exact x y).0 p),
    λ p.
        elim p [
          | inl r ↦ (exact x y).1 (inl r)
          | inr t ↦
              elim (cases_lt x n) [
                | inl less ↦ (exact x y).1 (inr (less, t.1, t.2))
                | inr more ↦ let small = t.0 in let e : x ≡ n = omega arith in absurd (other (subst To e t.1))
              ]
        ],
  )

  -- all rows are done
  pub rows-all : (now : Pairs) (n : ℕ) → HasExactly now (RowsBelow R To From n) → ((x : ℕ) → To x → x < n)
      → HasExactly now (λ x y. R x y ⊎ (To x × From y))
  rows-all now n exact small x y = (
    λ p. elim ((exact x y).0 p) [ inl r ↦ inl r | inr t ↦ inr (t.1, t.2) ],
    λ p. elim p [ inl r ↦ (exact x y).1 (inl r) | inr t ↦ (exact x y).1 (inr (small x t.0, t.0, t.1)) ],
  )

-- x is a, or leads to it
abbrev pub Before : (ℕ → ℕ → Type 0) → ℕ → ℕ → Type 0
Before R a x = (x ≡ a) ⊎ R x a

-- such a point is below n where a and all pairs are
pub before-within : (R : ℕ → ℕ → Type 0) (a n : ℕ) → a < n → ((x y : ℕ) → R x y → (x < n) × (y < n)) → (x : ℕ) → Before R a x → x < n
before-within R a n small within x (inl e) = omega arith
before-within R a n small within x (inr r) = (within x a r).0

-- y is b, or b leads to it
abbrev pub After : (ℕ → ℕ → Type 0) → ℕ → ℕ → Type 0
After R b y = (y ≡ b) ⊎ R b y

module _ (R : ℕ → ℕ → Type 0) (a b : ℕ) where
  -- a point that leads to a in the course of the pass did so before it
  pub before-same : (now : Pairs) (n x : ℕ) → HasExactly now (RowsBelow R (Before R a) (After R b) n) → Before (Has now) a x ↔ Before R a x
  before-same now n x exact = (
    λ p. elim p [ inl e ↦ inl e | inr h ↦ elim ((exact x a).0 h) [ inl r ↦ inr r | inr t ↦ t.1 ] ],
    λ p. elim p [ inl e ↦ inl e | inr r ↦ inr ((exact x a).1 (inl r)) ],
  )

  pub after-same : (now : Pairs) (n y : ℕ) → HasExactly now (RowsBelow R (Before R a) (After R b) n) → After (Has now) b y ↔ After R b y
  after-same now n y exact = (
    λ p. elim p [ inl e ↦ inl e | inr h ↦ elim ((exact b y).0 h) [ inl r ↦ inr r | inr t ↦ t.2 ] ],
    λ p. elim p [ inl e ↦ inl e | inr r ↦ inr ((exact b y).1 (inl r)) ],
  )

  -- the row of n is done, once it has the row of b and then b
  pub bridged-more : (now mid next : Pairs) (n : ℕ) → HasExactly now (RowsBelow R (Before R a) (After R b) n) → Before (Has now) a n
      → HasExactly mid (λ x y. Has now x y ⊎ ((x ≡ n) × Has now b y)) → HasExactly next (With (Has mid) n b)
      → HasExactly next (RowsBelow R (Before R a) (After R b) (n + 1))
  bridged-more now mid next n exact here row new =
      rows-more R (Before R a) (After R b) now next n (After (Has now) b) exact ((before-same now n n exact).0 here)
      (λ y. after-same now n y exact)
      (λ x y. (
        λ h.
            elim ((new x y).0 h) [
              | inl m ↦ elim ((row x y).0 m) [ inl r ↦ inl r | inr t ↦ inr (t.0, inr t.1) ]
              | inr e ↦ inr (e.0, inl e.1)
            ],
        λ h.
            elim h [
              | inl r ↦ (new x y).1 (inl ((row x y).1 (inl r)))
              | inr t ↦
                  elim t.1 [
                    | inl e ↦ (new x y).1 (inr (t.0, e))
                    | inr r ↦ (new x y).1 (inl ((row x y).1 (inr (t.0, r))))
                  ]
            ],
      ))

  -- the row of a point that does not lead to a stays as it was
  pub bridged-same : (now : Pairs) (n : ℕ) → HasExactly now (RowsBelow R (Before R a) (After R b) n) → ¬ Before (Has now) a n
      → HasExactly now (RowsBelow R (Before R a) (After R b) (n + 1))
  bridged-same now n exact other =
      rows-same R (Before R a) (After R b) now n exact (λ t. other ((before-same now n n exact).1 t))

  away : (y : ℕ) → After R b y → Path (With R a b) a y
  away y (inl e) = step a y (inr (refl, e))
  away y (inr r) = onward a b y (inr (refl, refl)) (step b y (inl r))

  round : (x y : ℕ) → Before R a x → Path (With R a b) a y → Path (With R a b) x y
  round x y (inl e) p = subst (λ z. Path (With R a b) z y) (sym e) p
  round x y (inr r) p = onward x a y (inl r) p

-- the pairs of R, and each point before a with each point after b
abbrev pub Bridged : (ℕ → ℕ → Type 0) → ℕ → ℕ → ℕ → ℕ → Type 0
Bridged R a b x y = R x y ⊎ (Before R a x × After R b y)

module _ (R : ℕ → ℕ → Type 0) (a b : ℕ) (whole : IsTransitive R) where
  before : (x y : ℕ) → R x y → Before R a y → Before R a x
  before x y r (inl e) = inr (subst (λ z. R x z) e r)
  before x y r (inr q) = inr (whole x y a r q)

  after : (y z : ℕ) → After R b y → R y z → After R b z
  after y z (inl e) r = inr (subst (λ x. R x z) e r)
  after y z (inr q) r = inr (whole b y z q r)

  bridged-transitive : (x y z : ℕ) → Bridged R a b x y → Bridged R a b y z → Bridged R a b x z
  bridged-transitive x y z (inl p) (inl q) = inl (whole x y z p q)
  bridged-transitive x y z (inl p) (inr q) = inr (before x y p q.0, q.1)
  bridged-transitive x y z (inr p) (inl q) = inr (p.0, after y z p.1 q)
  bridged-transitive x y z (inr p) (inr q) = inr (p.0, q.1)

  bridged-with : (x y : ℕ) → With R a b x y → Bridged R a b x y
  bridged-with x y (inl r) = inl r
  bridged-with x y (inr e) = inr (inl e.0, inl e.1)

  bridged-sound : (x y : ℕ) → Bridged R a b x y → Path (With R a b) x y
  bridged-sound x y (inl r) = step x y (inl r)
  bridged-sound x y (inr t) = round R a b x y t.0 (away R a b y t.1)

  -- the bridged pairs are those that a path joins once a and b are paired
  pub bridged-paths : (now : Pairs) → HasExactly now (Bridged R a b) → HasExactly now (Path (With R a b))
  bridged-paths now exact x y = (
    λ p. bridged-sound x y ((exact x y).0 p),
    λ p. (exact x y).1 (along (With R a b) (Bridged R a b) bridged-with bridged-transitive x y p),
  )

  with-old : R a b → (x y : ℕ) → With R a b x y → R x y
  with-old r x y (inl p) = p
  with-old r x y (inr e) = subst (λ z. R z y) (sym e.0) (subst (λ z. R a z) (sym e.1) r)

  -- a pair that is there already adds no path
  pub old-paths : R a b → (x y : ℕ) → R x y ↔ Path (With R a b) x y
  old-paths r x y = (λ p. step x y (inl p), λ p. along (With R a b) R (with-old r) whole x y p)
