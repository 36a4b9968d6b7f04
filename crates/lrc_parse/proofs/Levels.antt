-- Bodies within one another up to a number of levels: exact with a place for each stop, from the body alone.
use Rattle.std.proofs.Common.{◌≡◌, ℕ, zero, suc, ◌≤◌, Bool, true, false, List, [], ◌∷◌, ◌++◌, refl, sym, ap, ◌∙◌, subst, arith}
use Rattle.lrc_parse.specs.Kinds.{starts}
use Rattle.lrc_parse.specs.Limited.{Limited, Beyond, Levels}
use Rattle.lrc_parse.specs.Language.{Lang}
use Rattle.lrc_parse.specs.Reading.{Cause, expected, nested, limit, Reading, took, stops, read_nothing, read_levels}
use Rattle.lrc_parse.specs.Exact.{Shape, Exact}
use Rattle.lrc_parse.specs.Faults.{through, Widening, Begins, Grows, Stays, Tame, Rich, Taken, Ended, Placed, Deeper}
use Rattle.lrc_parse.proofs.Sets.{true_not_false}
use Rattle.lrc_parse.proofs.Steps.{read_nothing_first, read_nothing_other}
use Rattle.lrc_parse.proofs.Back.{stops_not_took}
use Rattle.lrc_parse.proofs.Parts.{exact_nothing}
use Rattle.lrc_parse.proofs.Grow.{Sub}
use Rattle.lrc_parse.proofs.TameRich.{tame_nothing}
use Rattle.lrc_parse.proofs.Places.{starts_next, stays_wide, ended_same, ended_first}
use Rattle.lrc_parse.proofs.Passed.{Passed, passed_beyond}
use Rattle.lrc_parse.proofs.Deep.{deeper_wide, full_chosen}
use Rattle.lrc_parse.proofs.Staged.{Staged, staged, whole}

unset : false ≡ true → ⊥
unset h = true_not_false false h refl

module _ {I T Q A : Type 0} (kind : T → ℕ) (le : I → I → Type 0) (wide : Widening le) (s : Shape) (filled : s.empty ≡ false)
    (body : I → (Q → Limited T A) → Q → Limited T A) (read : I → (Q → List T → Reading T A) → Q → List T → Reading T A)
    (base : (q : Q) → (i : I) × (u : List T) × (x : A) × (body i (λ _. Beyond kind s.first nested) q).derives u x)
    (full : (o p : Bool) (N : I × ℕ → Q → Limited T A) (a : I × ℕ → Q → List T → Reading T A) (j : I × ℕ) →
    ((q : Q) → Staged kind (Deeper le) o false p s (λ k. N k q) (λ k. a k q) j) →
    (q : Q) → Staged kind (Deeper le) o true p s (λ k. body k.0 (N k) q) (λ k. read k.0 (a k) q) j) where
  -- the languages and readings at each number of levels
  abbrev at_level : Q → I × ℕ → Limited T A
  at_level q j = Levels kind s.first (body j.0) j.1 q

  abbrev derives_level : Q → I × ℕ → Lang T A
  derives_level q j = (at_level q j).derives

  abbrev reads_level : Q → I × ℕ → List T → Reading T A
  reads_level q j = read_levels kind (read j.0) s.first j.1 q

  -- a body whose parts have so many levels
  abbrev deep : Q → I × ℕ → Limited T A
  deep q j = body j.0 (Levels kind s.first (body j.0) j.1) q

  abbrev derives_deep : Q → I × ℕ → Lang T A
  derives_deep q j = (deep q j).derives

  abbrev reads_deep : Q → I × ℕ → List T → Reading T A
  reads_deep q j = read j.0 (read_levels kind (read j.0) s.first j.1) q

  -- at a number of levels that is the same within all limits
  core : (n : ℕ) (j : I × ℕ) (q : Q) → Staged kind (Deeper le) false false false s (λ k. Levels kind s.first (body k.0) n q) (λ k. read_levels kind (read k.0) s.first n q) j
  unfolding Levels read_levels
  core zero j q = record {
    exact = λ k. exact_nothing kind s nested;
    passed = λ k. passed_beyond kind s nested;
    grows = λ i k l u x m. m;
    tame = λ k. tame_nothing kind s nested filled;
    begins = λ h. absurd (unset h);
    rich_there = λ h. absurd (unset h);
    placed = λ h. absurd (unset h);
  }
  core (suc n) j q =
      let e : _ = full false false (λ k. Levels kind s.first (body k.0) n) (λ k. read_levels kind (read k.0) s.first n) j (λ r. core n j r) q in record {
        exact = e.exact;
        passed = e.passed;
        grows = e.grows;
        tame = e.tame;
        begins = λ h. absurd (unset h);
        rich_there = λ h. absurd (unset h);
        placed = λ h. absurd (unset h);
      }

  -- one of two, by whether there is a level
  abbrev first_or : ℕ → Limited T A → Limited T A → Limited T A
  first_or zero L M = L
  first_or (suc d) L M = M

  abbrev read_or : ℕ → (List T → Reading T A) → (List T → Reading T A) → List T → Reading T A
  read_or zero a b = a
  read_or (suc d) a b = b

  module _ (i j : I) (m n : ℕ) (sub : (q : Q) → Sub (Levels kind s.first (body i) m q).derives (Levels kind s.first (body j) n q).derives) where
    -- two of the languages, with the one in the other
    abbrev two : I × ℕ → Q → Limited T A
    two k q = first_or k.1 (Levels kind s.first (body i) m q) (Levels kind s.first (body j) n q)

    abbrev reads_two : I × ℕ → Q → List T → Reading T A
    reads_two k q = read_or k.1 (read_levels kind (read i) s.first m q) (read_levels kind (read j) s.first n q)

    two_exact : (q : Q) (d : ℕ) → Exact kind s (first_or d (Levels kind s.first (body i) m q) (Levels kind s.first (body j) n q)).derives (read_or d (read_levels kind (read i) s.first m q) (read_levels kind (read j) s.first n q))
    two_exact q zero = (core m (i, m) q).exact (i, m)
    two_exact q (suc d) = (core n (j, n) q).exact (j, n)

    two_passed : (q : Q) (d : ℕ) → Passed kind s (first_or d (Levels kind s.first (body i) m q) (Levels kind s.first (body j) n q)) (read_or d (read_levels kind (read i) s.first m q) (read_levels kind (read j) s.first n q))
    two_passed q zero = (core m (i, m) q).passed (i, m)
    two_passed q (suc d) = (core n (j, n) q).passed (j, n)

    two_tame : (q : Q) (d : ℕ) → Tame kind s (read_or d (read_levels kind (read i) s.first m q) (read_levels kind (read j) s.first n q))
    two_tame q zero = (core m (i, m) q).tame (i, m)
    two_tame q (suc d) = (core n (j, n) q).tame (j, n)

    two_grows : (q : Q) (d f : ℕ) → d ≤ f → Sub (first_or d (Levels kind s.first (body i) m q) (Levels kind s.first (body j) n q)).derives (first_or f (Levels kind s.first (body i) m q) (Levels kind s.first (body j) n q)).derives
    two_grows q zero zero h u x e = e
    two_grows q zero (suc f) h u x e = sub q u x e
    two_grows q (suc d) zero h u x e = absurd (omega (arith, h))
    two_grows q (suc d) (suc f) h u x e = e

    two_staged : (k : I × ℕ) (q : Q) → Staged kind (Deeper le) false false false s (λ d. two d q) (λ d. reads_two d q) k
    two_staged k q = record {
      exact = λ d. two_exact q d.1;
      passed = λ d. two_passed q d.1;
      grows = λ d f l. two_grows q d.1 f.1 l.1;
      tame = λ d. two_tame q d.1;
      begins = λ h. absurd (unset h);
      rich_there = λ h. absurd (unset h);
      placed = λ h. absurd (unset h);
    }

    body_grow : le i j → (q : Q) → Sub (body i (Levels kind s.first (body i) m) q).derives (body j (Levels kind s.first (body j) n) q).derives
    body_grow l q = (full false false two reads_two (i, zero) (two_staged (i, zero)) q).grows (i, zero) (j, suc zero) (l, omega arith)

  levels_grow : (m n : ℕ) (i j : I) → le i j → m ≤ n → (q : Q) → Sub (Levels kind s.first (body i) m q).derives (Levels kind s.first (body j) n q).derives
  unfolding Levels
  levels_grow zero n i j l h q u x e = absurd e
  levels_grow (suc m) zero i j l h q u x e = absurd (omega (arith, h))
  levels_grow (suc m) (suc n) i j l h q u x e = body_grow i j m n (λ r. levels_grow m n i j l (omega (arith, h)) r) l q u x e

  level_exact : (q : Q) (j : I × ℕ) → Exact kind s (derives_level q j) (reads_level q j)
  level_exact q j = (core j.1 j q).exact j

  level_passed : (q : Q) (j : I × ℕ) → Passed kind s (at_level q j) (reads_level q j)
  level_passed q j = (core j.1 j q).passed j

  level_tame : (q : Q) (j : I × ℕ) → Tame kind s (reads_level q j)
  level_tame q j = (core j.1 j q).tame j

  level_grows : (q : Q) → Grows (Deeper le) (derives_level q)
  level_grows q i j l = levels_grow i.1 j.1 i.0 j.0 l.0 l.1 q

  level_some : (q : Q) → Begins (derives_level q) []
  unfolding Levels
  level_some q = let b : _ = base q in ((b.0, suc zero), b.1, b.2, b.3)

  -- all but the places
  placeless : (j : I × ℕ) (q : Q) → Staged kind (Deeper le) true false false s (at_level q) (reads_level q) j
  placeless j q = record {
    exact = level_exact q;
    passed = level_passed q;
    grows = level_grows q;
    tame = level_tame q;
    begins = λ _. level_some q;
    rich_there = λ _ h. absurd (unset h);
    placed = λ _ h. absurd (unset h);
  }

  -- a sentence at some level is one a level deeper
  one_deeper : (q : Q) (p : List T) → Begins (derives_deep q) p → Begins (derives_level q) p
  unfolding Levels
  one_deeper q p b = ((b.0.0, suc b.0.1), b.1, b.2, b.3)

  level_rich : (j : I × ℕ) (q : Q) → Rich kind s (derives_level q)
  level_rich j q = record {
    some = level_some q;
    nothing = λ n. absurd (true_not_false _ n filled);
    opens = λ t h. one_deeper q (t ∷ []) (((full true false (λ k r. at_level r k) (λ k r. reads_level r k) j (λ r. placeless j r) q).rich_there refl refl).opens t h);
  }

  -- nothing may stand within the innermost body
  none_placed : (i : I) (q : Q) → Placed (Deeper le) (derives_level q) (reads_level q) (i, zero)
  unfolding read_levels
  none_placed i q = record {
    takes = λ u x r h. absurd (none (starts kind s.first u) u x r refl h);
    ends = λ c u r h. ends (starts kind s.first u) c u r refl h;
  }
    where
      none : (z : Bool) (u : List T) (x : A) (r : List T) → starts kind s.first u ≡ z → read_nothing kind s.first nested u ≡ took x r → ⊥
      none true u x r st h = stops_not_took nested x u r (sym (read_nothing_first kind s.first nested u st) ∙ h)
      none false u x r st h = stops_not_took expected x u r (sym (read_nothing_other kind s.first nested u st) ∙ h)

      passed : (u : List T) → starts kind s.first u ≡ true → Ended (Deeper le) (derives_level q) (reads_level q) (i, zero) nested u u
      passed [] st = absurd (true_not_false false st refl)
      passed (t ∷ v) st = (
        [],
        refl,
        (level_rich (i, zero) q).opens t st,
        (λ j w l m. subst (λ k. reads_level q k w ≡ stops nested w) l (read_nothing_first kind s.first nested w (starts_next kind s.first (t ∷ v) w m ∙ st))),
        (t, v, refl),
      )

      ends : (z : Bool) (c : Cause) (u r : List T) → starts kind s.first u ≡ z → reads_level q (i, zero) u ≡ stops c r →
          Ended (Deeper le) (derives_level q) (reads_level q) (i, zero) c u r
      ends true c u r st h = ended_same kind (Deeper le) (deeper_wide le wide) (derives_level q) (reads_level q) (i, zero) u nested c u r
          (sym (read_nothing_first kind s.first nested u st) ∙ h) (passed u st)
      ends false c u r st h = ended_same kind (Deeper le) (deeper_wide le wide) (derives_level q) (reads_level q) (i, zero) u expected c u r
          (sym (read_nothing_other kind s.first nested u st) ∙ h)
          (ended_first kind (Deeper le) (deeper_wide le wide) (derives_level q) (reads_level q) (i, zero) u (level_some q)
          (λ j w l m. (level_tame q j).misses filled w (starts_next kind s.first u w m ∙ st)))

  -- what stays within limits and levels stays one deeper
  stays_deeper : (c : Cause) (i j : I) (m n : ℕ) → Stays (Deeper le) c (i, suc m) (j, suc n) → Stays (Deeper le) c (i, m) (j, n)
  stays_deeper expected i j m n h = (h.0, let b : suc m ≤ suc n = h.1 in omega (arith, b))
  stays_deeper nested i j m n h = ap (λ k. (k.0, below k.1)) h
    where
      below : ℕ → ℕ
      below zero = zero
      below (suc n) = n
  stays_deeper (limit d) i j m n h = ap (λ k. (k.0, below k.1)) h
    where
      below : ℕ → ℕ
      below zero = zero
      below (suc n) = n

  -- a place within a body is one a level deeper
  shift : (i : I) (n : ℕ) (q : Q) → Placed (Deeper le) (derives_deep q) (reads_deep q) (i, n) → Placed (Deeper le) (derives_level q) (reads_level q) (i, suc n)
  unfolding Levels read_levels
  shift i n q e = record { takes = takes; ends = ends }
    where
      again : (k : ℕ) (j : I) (o : Reading T A) (v : List T) → suc n ≤ k → ((m : ℕ) → k ≡ suc m → reads_deep q (j, m) v ≡ o) → reads_level q (j, k) v ≡ o
      again zero j o v h f = absurd (omega (arith, h))
      again (suc m) j o v h f = f m refl

      takes : (u : List T) (x : A) (r : List T) → reads_deep q (i, n) u ≡ took x r → Taken (Deeper le) (derives_level q) (reads_level q) (i, suc n) u x r
      takes u x r h =
          let v : Taken (Deeper le) (derives_deep q) (reads_deep q) (i, n) u x r = e.takes u x r h in (
            v.0,
            v.1,
            v.2,
            λ j w l m. again j.1 j.0 (took x w) (v.0 ++ w) l.1
                (λ d g. v.3 (j.0, d) w (l.0, (let b : suc n ≤ j.1 = l.1 in let c : j.1 ≡ suc d = g in omega (arith, b, c))) m),
          )

      ends : (c : Cause) (u r : List T) → reads_deep q (i, n) u ≡ stops c r → Ended (Deeper le) (derives_level q) (reads_level q) (i, suc n) c u r
      ends c u r h =
          let v : Ended (Deeper le) (derives_deep q) (reads_deep q) (i, n) c u r = e.ends c u r h in (
            v.0,
            v.1,
            one_deeper q (v.0 ++ through c r) v.2,
            (λ j w l m. again j.1 j.0 (stops c w) (v.0 ++ w) ((stays_wide kind (Deeper le) (deeper_wide le wide) c (i, suc n) j l).1)
                (λ d g. v.3 (j.0, d) w (stays_deeper c i j.0 n d (subst (λ k. Stays (Deeper le) c (i, suc n) (j.0, k)) g l)) m)),
            v.4,
          )

  -- with the places at these limits and levels
  placed_there : (j : I × ℕ) → ((q : Q) → Placed (Deeper le) (derives_level q) (reads_level q) j) → (q : Q) → Staged kind (Deeper le) true true true s (at_level q) (reads_level q) j
  placed_there j e q = record {
    exact = level_exact q;
    passed = level_passed q;
    grows = level_grows q;
    tame = level_tame q;
    begins = λ _. level_some q;
    rich_there = λ _ _. level_rich j q;
    placed = λ _ _. e q;
  }

  without_rich : (j : I × ℕ) (q : Q) → Placed (Deeper le) (derives_level q) (reads_level q) j → Staged kind (Deeper le) true false true s (at_level q) (reads_level q) j
  without_rich j q e = record {
    exact = level_exact q;
    passed = level_passed q;
    grows = level_grows q;
    tame = level_tame q;
    begins = λ _. level_some q;
    rich_there = λ _ h. absurd (unset h);
    placed = λ _ _. e;
  }

  level_placed : (i : I) (n : ℕ) (q : Q) → Placed (Deeper le) (derives_level q) (reads_level q) (i, n)
  level_placed i zero q = none_placed i q
  level_placed i (suc n) q =
      shift i n q ((full true true (λ k r. at_level r k) (λ k r. reads_level r k) (i, n) (λ r. without_rich (i, n) r (level_placed i n r)) q).placed refl refl)

  -- at each limits and number of levels, all stages
  pub staged_levels : (j : I × ℕ) (q : Q) → Staged kind (Deeper le) true true true s (λ k. Levels kind s.first (body k.0) k.1 q) (λ k. read_levels kind (read k.0) s.first k.1 q) j
  staged_levels j q = placed_there j (λ r. level_placed j.0 j.1 r) q

-- limits that are chosen by others: wider ones among these are wider, and none is out of their reach
module _ {I J T A : Type 0} (kind : T → ℕ) (le : I → I → Type 0) (at : J → J → Type 0) (chosen : J → I)
    (keeps : (i j : J) → at i j → le (chosen i) (chosen j)) (reach : (i : I) → (j : J) × le i (chosen j)) (wide : Widening le) where
  pub staged_chosen : (s : Shape) (L : I → Limited T A) (a : I → List T → Reading T A) (j : J) → Staged kind le true true true s L a (chosen j) →
      Staged kind at true true true s (λ k. L (chosen k)) (λ k. a (chosen k)) j
  staged_chosen s L a j e =
      staged kind at true true true s (λ k. L (chosen k)) (λ k. a (chosen k)) j (λ k. e.passed (chosen k))
      (full_chosen kind le at wide chosen keeps reach s (λ i. (L i).derives) a j (whole kind le s L a (chosen j) e))
