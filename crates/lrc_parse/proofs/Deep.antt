-- Bodies within one another: exact with a place for each stop at each depth.
use Rattle.std.proofs.Common.{◌≡◌, ℕ, zero, suc, ◌≤◌, Bool, true, false, List, [], ◌∷◌, ◌++◌, refl, sym, ap, ◌∙◌, subst, arith, max}
use Rattle.lrc_parse.specs.Kinds.{starts}
use Rattle.lrc_parse.specs.Language.{Lang, Nothing, Nested}
use Rattle.lrc_parse.specs.Reading.{Cause, expected, nested, limit, Reading, took, stops, read_nothing, read_nested}
use Rattle.lrc_parse.specs.Exact.{Shape, Exact}
use Rattle.lrc_parse.specs.Faults.{through, Widening, Begins, Grows, Stays, Tame, Rich, Taken, Ended, Placed, Full, Deeper}
use Rattle.lrc_parse.proofs.Sets.{true_not_false}
use Rattle.lrc_parse.proofs.Steps.{read_nothing_first, read_nothing_other}
use Rattle.lrc_parse.proofs.Back.{stops_not_took}
use Rattle.lrc_parse.proofs.Parts.{exact_nothing}
use Rattle.lrc_parse.proofs.Loops.{exact_nested}
use Rattle.lrc_parse.proofs.Grow.{Sub}
use Rattle.lrc_parse.proofs.TameRich.{tame_nothing, rich_as}
use Rattle.lrc_parse.proofs.Places.{starts_next, stays_wide, ended_same, ended_first, placed_as}

-- wider limits and a greater depth are wider
pub deeper_wide : {I : Type 0} (le : I → I → Type 0) → Widening le → Widening (Deeper le)
deeper_wide le wide = record {
  same = λ i. (wide.same i.0, omega arith);
  upper = λ i j. let k : _ = wide.upper i.0 j.0 in ((k.0, max i.1 j.1), (k.1, omega arith), (k.2, omega arith));
}

module _ {T A : Type 0} where
  -- what stands within the outermost of so many bodies
  abbrev pub inner : (Lang T A → Lang T A) → ℕ → Lang T A
  inner body zero = Nothing
  inner body (suc n) = Nested body n

  inner_to : (body : Lang T A → Lang T A) (n : ℕ) → Sub (body (inner body n)) (Nested body n)
  inner_to body zero u x m = m
  inner_to body (suc n) u x m = m

module _ {T A : Type 0} (kind : T → ℕ) where
  abbrev pub read_inner : ((List T → Reading T A) → List T → Reading T A) → List ℕ → ℕ → List T → Reading T A
  read_inner body first zero u = read_nothing kind first nested u
  read_inner body first (suc n) u = read_nested kind body first n u

  inner_same : (body : (List T → Reading T A) → List T → Reading T A) (first : List ℕ) (n : ℕ) (u : List T) →
      read_nested kind body first n u ≡ body (read_inner body first n) u
  unfolding read_nested
  inner_same body first zero u = refl
  inner_same body first (suc n) u = refl

module _ {I T A : Type 0} (kind : T → ℕ) (le : I → I → Type 0) (wide : Widening le) (s : Shape)
    (body : I → Lang T A → Lang T A) (read : I → (List T → Reading T A) → List T → Reading T A)
    (filled : s.empty ≡ false)
    (exact : (i : I) (L : Lang T A) (a : List T → Reading T A) → Exact kind s L a → Exact kind s (body i L) (read i a))
    (grow : (i j : I) → le i j → (L M : Lang T A) → Sub L M → Sub (body i L) (body j M))
    (base : (i : I) × (u : List T) × (x : A) × body i Nothing u x)
    (tame : (i : I) (a : List T → Reading T A) → Tame kind s a → Tame kind s (read i a))
    (rich : (N : I × ℕ → Lang T A) → Grows (Deeper le) N → Begins N [] → Rich kind s (λ j. body j.0 (N j)))
    (placed : (N : I × ℕ → Lang T A) (a : I × ℕ → List T → Reading T A) (j : I × ℕ) → Full kind (Deeper le) s N a j →
    Placed (Deeper le) (λ k. body k.0 (N k)) (λ k. read k.0 (a k)) j) where
  -- the languages and readings at each depth, and within the outermost body
  abbrev deep : I × ℕ → Lang T A
  deep j = Nested (body j.0) j.1

  abbrev deep_reads : I × ℕ → List T → Reading T A
  deep_reads j = read_nested kind (read j.0) s.first j.1

  abbrev within : I × ℕ → Lang T A
  within j = inner (body j.0) j.1

  abbrev within_reads : I × ℕ → List T → Reading T A
  within_reads j = read_inner kind (read j.0) s.first j.1

  nested_grow : (m n : ℕ) (i j : I) → le i j → m ≤ n → Sub (Nested (body i) m) (Nested (body j) n)
  nested_grow zero zero i j l h = grow i j l Nothing Nothing (λ u x e. e)
  nested_grow zero (suc n) i j l h = grow i j l Nothing (Nested (body j) n) (λ u x e. absurd e)
  nested_grow (suc m) zero i j l h = absurd (omega (arith, h))
  nested_grow (suc m) (suc n) i j l h = grow i j l (Nested (body i) m) (Nested (body j) n) (nested_grow m n i j l (omega (arith, h)))

  inner_grow : (m n : ℕ) (i j : I) → le i j → m ≤ n → Sub (inner (body i) m) (inner (body j) n)
  inner_grow zero n i j l h = λ u x e. absurd e
  inner_grow (suc m) zero i j l h = absurd (omega (arith, h))
  inner_grow (suc m) (suc n) i j l h = nested_grow m n i j l (omega (arith, h))

  within_grows : Grows (Deeper le) within
  within_grows i j l = inner_grow i.1 j.1 i.0 j.0 l.0 l.1

  within_some : Begins within []
  within_some = ((base.0, suc zero), base.1, base.2, base.3)

  deep_tame : (i : I) (n : ℕ) → Tame kind s (read_nested kind (read i) s.first n)
  unfolding read_nested
  deep_tame i zero = tame i (read_nothing kind s.first nested) (tame_nothing kind s nested filled)
  deep_tame i (suc n) = tame i (read_nested kind (read i) s.first n) (deep_tame i n)

  inner_tame : (i : I) (n : ℕ) → Tame kind s (read_inner kind (read i) s.first n)
  inner_tame i zero = tame_nothing kind s nested filled
  inner_tame i (suc n) = deep_tame i n

  inner_exact : (i : I) (n : ℕ) → Exact kind s (inner (body i) n) (read_inner kind (read i) s.first n)
  inner_exact i zero = exact_nothing kind s nested
  inner_exact i (suc n) = exact_nested kind s (body i) (read i) (exact i) n

  deep_rich : Rich kind s deep
  deep_rich = rich_as kind s (λ j. body j.0 (within j)) deep (rich within within_grows within_some) (λ j. inner_to (body j.0) j.1)

  -- a sentence at some depth stands within a body one deeper
  one_deeper : (p : List T) → Begins deep p → Begins within p
  one_deeper p b = ((b.0.0, suc b.0.1), b.1, b.2, b.3)

  within_rich : Rich kind s within
  within_rich = record {
    some = within_some;
    nothing = λ n. absurd (true_not_false _ n filled);
    opens = λ t h. one_deeper (t ∷ []) (deep_rich.opens t h);
  }

  -- nothing may stand within the innermost body
  none_placed : (i : I) → Placed (Deeper le) within within_reads (i, zero)
  none_placed i = record {
    takes = λ u x r h. absurd (never (starts kind s.first u) u x r refl h);
    ends = λ c u r h. ends (starts kind s.first u) c u r refl h;
  }
    where
      never : (z : Bool) (u : List T) (x : A) (r : List T) → starts kind s.first u ≡ z → read_nothing kind s.first nested u ≡ took x r → ⊥
      never true u x r st h = stops_not_took nested x u r (sym (read_nothing_first kind s.first nested u st) ∙ h)
      never false u x r st h = stops_not_took expected x u r (sym (read_nothing_other kind s.first nested u st) ∙ h)

      passed : (u : List T) → starts kind s.first u ≡ true → Ended (Deeper le) within within_reads (i, zero) nested u u
      passed [] st = absurd (true_not_false false st refl)
      passed (t ∷ q) st = (
        [],
        refl,
        within_rich.opens t st,
        (λ j w l m. subst (λ k. within_reads k w ≡ stops nested w) l (read_nothing_first kind s.first nested w (starts_next kind s.first (t ∷ q) w m ∙ st))),
        (t, q, refl),
      )

      ends : (z : Bool) (c : Cause) (u r : List T) → starts kind s.first u ≡ z → within_reads (i, zero) u ≡ stops c r →
          Ended (Deeper le) within within_reads (i, zero) c u r
      ends true c u r st h = ended_same kind (Deeper le) (deeper_wide le wide) within within_reads (i, zero) u nested c u r
          (sym (read_nothing_first kind s.first nested u st) ∙ h) (passed u st)
      ends false c u r st h = ended_same kind (Deeper le) (deeper_wide le wide) within within_reads (i, zero) u expected c u r
          (sym (read_nothing_other kind s.first nested u st) ∙ h)
          (ended_first kind (Deeper le) (deeper_wide le wide) within within_reads (i, zero) u within_some
          (λ j w l m. (inner_tame j.0 j.1).misses filled w (starts_next kind s.first u w m ∙ st)))

  -- what stays within limits and a depth stays one deeper
  stays_deeper : (c : Cause) (i j : I) (m n : ℕ) → Stays (Deeper le) c (i, suc m) (j, suc n) → Stays (Deeper le) c (i, m) (j, n)
  stays_deeper expected i j m n h = (h.0, let b : suc m ≤ suc n = h.1 in omega (arith, b))
  stays_deeper nested i j m n h = ap (λ k. (k.0, below k.1)) h
    where
      below : ℕ → ℕ
      below zero = zero
      below (suc n) = n
  stays_deeper (limit d) i j m n h = ap (λ k. (k.0, below k.1)) h
    where
      below : ℕ → ℕ
      below zero = zero
      below (suc n) = n

  -- a place at some depth is one within a body one deeper
  shift : (i : I) (n : ℕ) → Placed (Deeper le) deep deep_reads (i, n) → Placed (Deeper le) within within_reads (i, suc n)
  shift i n e = record { takes = takes; ends = ends }
    where
      again : (k : ℕ) (j : I) (o : Reading T A) (v : List T) → suc n ≤ k → ((m : ℕ) → k ≡ suc m → deep_reads (j, m) v ≡ o) → within_reads (j, k) v ≡ o
      again zero j o v h f = absurd (omega (arith, h))
      again (suc m) j o v h f = f m refl

      takes : (u : List T) (x : A) (r : List T) → deep_reads (i, n) u ≡ took x r → Taken (Deeper le) within within_reads (i, suc n) u x r
      takes u x r h =
          let v : Taken (Deeper le) deep deep_reads (i, n) u x r = e.takes u x r h in (
            v.0,
            v.1,
            v.2,
            λ j w l m. again j.1 j.0 (took x w) (v.0 ++ w) l.1
                (λ d g. v.3 (j.0, d) w (l.0, (let b : suc n ≤ j.1 = l.1 in let c : j.1 ≡ suc d = g in omega (arith, b, c))) m),
          )

      ends : (c : Cause) (u r : List T) → deep_reads (i, n) u ≡ stops c r → Ended (Deeper le) within within_reads (i, suc n) c u r
      ends c u r h =
          let v : Ended (Deeper le) deep deep_reads (i, n) c u r = e.ends c u r h in (
            v.0,
            v.1,
            one_deeper (v.0 ++ through c r) v.2,
            (λ j w l m. again j.1 j.0 (stops c w) (v.0 ++ w) ((stays_wide kind (Deeper le) (deeper_wide le wide) c (i, suc n) j l).1)
                (λ d g. v.3 (j.0, d) w (stays_deeper c i j.0 n d (subst (λ k. Stays (Deeper le) c (i, suc n) (j.0, k)) g l)) m)),
            v.4,
          )

  full_inside : (i : I) (n : ℕ) → Placed (Deeper le) within within_reads (i, n) → Full kind (Deeper le) s within within_reads (i, n)
  full_inside i n e = record {
    exact = λ j. inner_exact j.0 j.1;
    grows = within_grows;
    tame = λ j. inner_tame j.0 j.1;
    rich = within_rich;
    placed = e;
  }

  deep_placed : (i : I) (n : ℕ) → Placed (Deeper le) within within_reads (i, n) → Placed (Deeper le) deep deep_reads (i, n)
  deep_placed i n e =
      placed_as kind (Deeper le) (deeper_wide le wide) (λ j. body j.0 (within j)) deep (λ j. read j.0 (within_reads j)) deep_reads (i, n)
      (placed within within_reads (i, n) (full_inside i n e)) (λ j. inner_to (body j.0) j.1) (λ j. inner_same kind (read j.0) s.first j.1)

  within_placed : (i : I) (n : ℕ) → Placed (Deeper le) within within_reads (i, n)
  within_placed i zero = none_placed i
  within_placed i (suc n) = shift i n (deep_placed i n (within_placed i n))

  pub full_nested : (j : I × ℕ) → Full kind (Deeper le) s (λ k. Nested (body k.0) k.1) (λ k. read_nested kind (read k.0) s.first k.1) j
  full_nested j = record {
    exact = λ k. exact_nested kind s (body k.0) (read k.0) (exact k.0) k.1;
    grows = λ i k l. nested_grow i.1 k.1 i.0 k.0 l.0 l.1;
    tame = λ k. deep_tame k.0 k.1;
    rich = deep_rich;
    placed = deep_placed j.0 j.1 (within_placed j.0 j.1);
  }

-- limits that are chosen by others: wider ones among these are wider, and none is out of their reach
module _ {I J T A : Type 0} (kind : T → ℕ) (le : I → I → Type 0) (at : J → J → Type 0) (wide : Widening le) (chosen : J → I)
    (keeps : (i j : J) → at i j → le (chosen i) (chosen j)) (reach : (i : I) → (j : J) × le i (chosen j)) where
  -- the same readings by the limits that were chosen
  pub full_chosen : (s : Shape) (L : I → Lang T A) (a : I → List T → Reading T A) (j : J) → Full kind le s L a (chosen j) →
      Full kind at s (λ k. L (chosen k)) (λ k. a (chosen k)) j
  full_chosen s L a j e = record {
    exact = λ k. e.exact (chosen k);
    grows = λ i k l. e.grows (chosen i) (chosen k) (keeps i k l);
    tame = λ k. e.tame (chosen k);
    rich = record {
      some = reached [] e.rich.some;
      nothing = λ n. let w : (i : I) × (x : A) × L i [] x = e.rich.nothing n in let k : _ = reach w.0 in (k.0, w.1, e.grows _ _ k.1 _ _ w.2);
      opens = λ t h. reached (t ∷ []) (e.rich.opens t h);
    };
    placed = record { takes = takes; ends = ends };
  }
    where
      reached : (p : List T) → Begins L p → Begins (λ k. L (chosen k)) p
      reached p b = let k : _ = reach b.0 in (k.0, b.1, b.2, e.grows _ _ k.1 _ _ b.3)

      stays : (c : Cause) (i k : J) → Stays at c i k → Stays le c (chosen i) (chosen k)
      stays expected i k h = keeps i k h
      stays nested i k h = ap chosen h
      stays (limit n) i k h = ap chosen h

      takes : (u : List T) (x : A) (r : List T) → a (chosen j) u ≡ took x r → Taken at (λ k. L (chosen k)) (λ k. a (chosen k)) j u x r
      takes u x r h =
          let v : Taken le L a (chosen j) u x r = e.placed.takes u x r h in
          (v.0, v.1, v.2, λ k w l m. v.3 (chosen k) w (keeps j k l) m)

      ends : (c : Cause) (u r : List T) → a (chosen j) u ≡ stops c r → Ended at (λ k. L (chosen k)) (λ k. a (chosen k)) j c u r
      ends c u r h =
          let v : Ended le L a (chosen j) c u r = e.placed.ends c u r h in
          (v.0, v.1, reached (v.0 ++ through c r) v.2, (λ k w l m. v.3 (chosen k) w (stays c j k l) m), v.4)
