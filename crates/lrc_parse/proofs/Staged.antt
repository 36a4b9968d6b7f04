-- Exact readings with a place for each stop, shown in stages, so that what stands within itself can be.
use Rattle.std.proofs.Common.{◌≡◌, ℕ, ◌<◌, ◌≤◌, ltb, Bool, true, false, cond, Option, Some, None, List, [], ◌∷◌, length, refl, arith, inl, inr}
use Rattle.std.proofs.lemmas.Bool.{lt-ltb, ltb-true}
use Rattle.lrc_parse.specs.Kinds.{has, disjoint, covered}
use Rattle.lrc_parse.specs.Limited.{Limited, Empty, One, Of, Given, Either, Optional, Within, Loop, Many, Most, Fixed, Skip, Separated, SeparatedMost}
use Rattle.lrc_parse.specs.Reading.{Cause, expected, Reading, read_empty, read_one, read_of, read_given, read_fixed, read_skip, read_either, read_optional, read_within, read_loop, read_many, read_most, read_separated, read_separated_most}
use Rattle.lrc_parse.specs.Exact.{Shape, Exact, shape_one, shape_empty, shape_then, shape_either, shape_skip, shape_many}
use Rattle.lrc_parse.specs.Faults.{Widening, Begins, Grows, Tame, Rich, Placed, Full, Limit}
use Rattle.lrc_parse.proofs.Sets.{true_not_false, clear_covered}
use Rattle.lrc_parse.proofs.Same.{pushed, skip_to, skip_same, many_to, many_from, many_same, most_to, most_from, most_same, separated_to, separated_from, separated_same, separated_most_to, separated_most_from, separated_most_same}
use Rattle.lrc_parse.proofs.Parts.{exact_skip, exact_as, exact_empty, exact_of, exact_given, exact_either, exact_within, disjoint_nil}
use Rattle.lrc_parse.proofs.Loops.{exact_loop}
use Rattle.lrc_parse.proofs.Grow.{sub_skip, sub_of, sub_given, sub_either}
use Rattle.lrc_parse.proofs.TameRich.{tame_as, tame_empty, tame_of, tame_skip, tame_given, tame_either, tame_within, tame_loop, rich_as, rich_empty, rich_of, rich_skip, rich_given, rich_either, rich_within, rich_loop, some_of, some_given, some_left}
use Rattle.lrc_parse.proofs.Places.{placed_as, placed_empty, placed_of, placed_given, placed_either, placed_within}
use Rattle.lrc_parse.proofs.LoopPlaces.{loop_grows, placed_loop}
use Rattle.lrc_parse.proofs.Passed.{Passed, passed_as, passed_empty, passed_one, passed_of, passed_fixed, passed_skip, passed_given, passed_either, passed_within, passed_loop, many_passes, passes_many, most_passes, passes_most, separated_passes, passes_separated, separated_most_passes, passes_separated_most}
use Rattle.lrc_parse.proofs.Full.{full_one, full_fixed}

module _ {I T : Type 0} (kind : T → ℕ) (le : I → I → Type 0) where
  -- Exact within each limits, and each stop at a limit is where the next token would pass it. Where `some` is set, there is a sentence;
  -- where `rich` is set too, one begins with each token that may be the first; and where `places` is set with `some`, each stop
  -- within the limits `i` has its place.
  pub record Staged {A : Type 0} (some rich places : Bool) (s : Shape) (L : I → Limited T A) (read : I → List T → Reading T A) (i : I) : Type 0 where
    pub exact : (j : I) → Exact kind s (L j).derives (read j)
    pub passed : (j : I) → Passed kind s (L j) (read j)
    pub grows : Grows le (λ j. (L j).derives)
    pub tame : (j : I) → Tame kind s (read j)
    pub begins : some ≡ true → Begins (λ j. (L j).derives) []
    pub rich_there : some ≡ true → rich ≡ true → Rich kind s (λ j. (L j).derives)
    pub placed : some ≡ true → places ≡ true → Placed le (λ j. (L j).derives) read i

  -- all stages
  pub whole : {A : Type 0} (s : Shape) (L : I → Limited T A) (read : I → List T → Reading T A) (i : I) → Staged true true true s L read i →
      Full kind le s (λ j. (L j).derives) read i
  whole s L read i e = record { exact = e.exact; grows = e.grows; tame = e.tame; rich = e.rich_there refl refl; placed = e.placed refl refl }

  -- what reaches no limit
  pub staged : {A : Type 0} (o r p : Bool) (s : Shape) (L : I → Limited T A) (read : I → List T → Reading T A) (i : I) → ((j : I) → Passed kind s (L j) (read j)) →
      Full kind le s (λ j. (L j).derives) read i → Staged o r p s L read i
  staged o r p s L read i h e = record {
    exact = e.exact;
    passed = h;
    grows = e.grows;
    tame = e.tame;
    begins = λ _. e.rich.some;
    rich_there = λ _ _. e.rich;
    placed = λ _ _. e.placed;
  }

  -- any stages of all
  pub stages : {A : Type 0} (o r p : Bool) (s : Shape) (L : I → Limited T A) (read : I → List T → Reading T A) (i : I) → Staged true true true s L read i → Staged o r p s L read i
  stages o r p s L read i e = staged o r p s L read i e.passed (whole s L read i e)

  -- the same with less of the second stage
  pub poorer : {A : Type 0} (o r p : Bool) (s : Shape) (L : I → Limited T A) (read : I → List T → Reading T A) (i : I) → Staged o true p s L read i → Staged o r p s L read i
  poorer o r p s L read i e = record {
    exact = e.exact;
    passed = e.passed;
    grows = e.grows;
    tame = e.tame;
    begins = e.begins;
    rich_there = λ h _. e.rich_there h refl;
    placed = e.placed;
  }

  -- more kinds may go on with a sentence
  pub staged_more : {A : Type 0} (o r p : Bool) (ks : List ℕ) (s : Shape) (L : I → Limited T A) (read : I → List T → Reading T A) (i : I) → covered s.more ks ≡ true →
      Staged o r p s L read i → Staged o r p (record { first = s.first; empty = s.empty; more = ks }) L read i
  staged_more o r p ks s L read i c e = record {
    exact = λ j. record {
      sound = (e.exact j).sound;
      complete = λ q u x m h. (e.exact j).complete q u x m (clear_covered kind s.more ks u c h);
      first = (e.exact j).first;
      empty = (e.exact j).empty;
    };
    passed = λ j. record { reached = (e.passed j).reached; meets = (e.passed j).meets; opens = (e.passed j).opens };
    grows = e.grows;
    tame = λ j. record { misses = (e.tame j).misses; passes = (e.tame j).passes };
    begins = e.begins;
    rich_there = λ h g. let w : Rich kind s (λ j. (L j).derives) = e.rich_there h g in record { some = w.some; nothing = w.nothing; opens = w.opens };
    placed = e.placed;
  }

  pub unrich : {A : Type 0} (o r p : Bool) (s : Shape) (L : I → Limited T A) (read : I → List T → Reading T A) (i : I) → Staged o r p s L read i → Staged o false p s L read i
  unrich o r p s L read i e = record {
    exact = e.exact;
    passed = e.passed;
    grows = e.grows;
    tame = e.tame;
    begins = e.begins;
    rich_there = λ _ g. absurd (true_not_false false g refl);
    placed = e.placed;
  }

module _ {I T : Type 0} (kind : T → ℕ) (le : I → I → Type 0) (wide : Widening le) where
  pub staged_as : {A : Type 0} (o r p : Bool) (s : Shape) (L M : I → Limited T A) (a b : I → List T → Reading T A) (i : I) → Staged kind le o r p s L a i →
      ((j : I) (u : List T) (x : A) → (L j).derives u x → (M j).derives u x) → ((j : I) (u : List T) (x : A) → (M j).derives u x → (L j).derives u x) →
      ((j : I) (c : Cause) (u : List T) (t : T) → (L j).passes c u t → (M j).passes c u t) → ((j : I) (c : Cause) (u : List T) (t : T) → (M j).passes c u t → (L j).passes c u t) →
      ((j : I) (u : List T) → b j u ≡ a j u) → Staged kind le o r p s M b i
  staged_as o r p s L M a b i e to from over back same = record {
    exact = λ j. exact_as kind s (L j).derives (M j).derives (a j) (b j) (e.exact j) (to j) (from j) (same j);
    passed = λ j. passed_as kind s (L j) (M j) (a j) (b j) (e.passed j) (over j) (back j) (same j);
    grows = λ j k l u x m. to k u x (e.grows j k l u x (from j u x m));
    tame = λ j. tame_as kind s (a j) (b j) (e.tame j) (same j);
    begins = λ h. let w : Begins (λ j. (L j).derives) [] = e.begins h in (w.0, w.1, w.2, to _ _ _ w.3);
    rich_there = λ h g. rich_as kind s (λ j. (L j).derives) (λ j. (M j).derives) (e.rich_there h g) to;
    placed = λ h g. placed_as kind le wide (λ j. (L j).derives) (λ j. (M j).derives) a b i (e.placed h g) to same;
  }

  pub staged_empty : {A : Type 0} (o r p : Bool) (a : A) (i : I) → Staged kind le o r p shape_empty (λ _. Empty a) (λ _. read_empty a) i
  staged_empty o r p a i = record {
    exact = λ j. exact_empty kind a;
    passed = λ j. passed_empty kind a;
    grows = λ j k l u x m. m;
    tame = λ j. tame_empty kind a;
    begins = λ _. (i, [], a, (refl, refl));
    rich_there = λ _ _. rich_empty kind a i;
    placed = λ _ _. placed_empty kind le wide a i;
  }

  -- each token of the kinds has a value, and there is one
  pub staged_one : {A : Type 0} (o r p : Bool) (ks : List ℕ) (value : T → Option A) → ((t : T) (x : A) → value t ≡ Some x → has ks (kind t) ≡ true) →
      ((t : T) → has ks (kind t) ≡ true → (x : A) × (value t ≡ Some x)) → (t : T) → has ks (kind t) ≡ true →
      (i : I) → Staged kind le o r p (shape_one ks) (λ _. One value) (λ _. read_one value) i
  staged_one o r p ks value among has_value t h i =
      staged kind le o r p (shape_one ks) (λ _. One value) (λ _. read_one value) i (λ j. passed_one kind ks value) (full_one kind le wide ks value among has_value t h i)

  pub staged_fixed : (o r p : Bool) (k : ℕ) (t : T) → kind t ≡ k → (i : I) → Staged kind le o r p (shape_one (k ∷ [])) (λ _. Fixed kind k) (λ _. read_fixed kind k) i
  staged_fixed o r p k t e i =
      staged kind le o r p (shape_one (k ∷ [])) (λ _. Fixed kind k) (λ _. read_fixed kind k) i (λ j. passed_fixed kind k) (full_fixed kind le wide k t e i)

  pub staged_of : {A B : Type 0} (o r p : Bool) (f : A → B) (s : Shape) (L : I → Limited T A) (a : I → List T → Reading T A) (i : I) → Staged kind le o r p s L a i →
      Staged kind le o r p s (λ j. Of f (L j)) (λ j. read_of f (a j)) i
  staged_of o r p f s L a i e = record {
    exact = λ j. exact_of kind f s (L j).derives (a j) (e.exact j);
    passed = λ j. passed_of kind f s (L j) (a j) (e.passed j);
    grows = λ j k l. sub_of f (L j).derives (L k).derives (e.grows j k l);
    tame = λ j. tame_of kind f s (a j) (e.tame j);
    begins = λ h. some_of kind f (λ j. (L j).derives) (e.begins h);
    rich_there = λ h g. rich_of kind f s (λ j. (L j).derives) (e.rich_there h g);
    placed = λ h g. placed_of kind le wide f (λ j. (L j).derives) a i (e.placed h g);
  }

  pub staged_given : {A B : Type 0} (o r p : Bool) (s t : Shape) (L : I → Limited T A) (M : A → I → Limited T B) (a : I → List T → Reading T A) (b : A → I → List T → Reading T B) →
      disjoint s.more t.first ≡ true → (i : I) → Staged kind le o r p s L a i → ((x : A) → Staged kind le o (cond s.empty r false) p t (M x) (b x) i) →
      Staged kind le o r p (shape_then s t) (λ j. Given (L j) (λ x. M x j)) (λ j. read_given (a j) (λ x. b x j)) i
  staged_given {A} o r p s t L M a b d i e f = record {
    exact = λ j. exact_given kind s t (L j).derives (λ x. (M x j).derives) (a j) (λ x. b x j) d (e.exact j) (λ x. (f x).exact j);
    passed = λ j. passed_given kind s t (L j) (λ x. M x j) (a j) (λ x. b x j) d (e.exact j) (e.passed j) (λ x. (f x).passed j);
    grows = λ j k l. sub_given (L j).derives (L k).derives (λ x. (M x j).derives) (λ x. (M x k).derives) (e.grows j k l) (λ x. (f x).grows j k l);
    tame = λ j. tame_given kind s t (a j) (λ x. b x j) (e.tame j) (λ x. (f x).tame j);
    begins = λ h. some_given kind le wide (λ j. (L j).derives) (λ x j. (M x j).derives) e.grows (λ x. (f x).grows) (e.begins h) (λ x. (f x).begins h);
    rich_there = λ h g. rich_given kind le wide s t (λ j. (L j).derives) (λ x j. (M x j).derives) e.grows (λ x. (f x).grows) (e.rich_there h g) (λ x. (f x).begins h)
        (λ n x. (f x).rich_there h (behind s.empty r n g));
    placed = λ h g. placed_given kind le wide (λ j. (L j).derives) (λ x j. (M x j).derives) a b e.grows (λ x. (f x).grows) (λ x. (f x).begins h) i (e.placed h g) (λ x. (f x).placed h g);
  }
    where
      behind : (z w : Bool) → z ≡ true → w ≡ true → cond z w false ≡ true
      behind true w n g = g
      behind false w n g = absurd (true_not_false false n refl)

  pub staged_either : {A : Type 0} (o r p : Bool) (s t : Shape) (L M : I → Limited T A) (a b : I → List T → Reading T A) → disjoint s.first t.first ≡ true → s.empty ≡ false →
      (i : I) → Staged kind le o r p s L a i → Staged kind le o r p t M b i → Staged kind le o r p (shape_either s t) (λ j. Either (L j) (M j)) (λ j. read_either kind s.first (a j) (b j)) i
  staged_either o r p s t L M a b d n i e f = record {
    exact = λ j. exact_either kind s t (L j).derives (M j).derives (a j) (b j) d n (e.exact j) (f.exact j);
    passed = λ j. passed_either kind s t (L j) (M j) (a j) (b j) d (e.passed j) (f.passed j);
    grows = λ j k l. sub_either (L j).derives (L k).derives (M j).derives (M k).derives (e.grows j k l) (f.grows j k l);
    tame = λ j. tame_either kind s t (a j) (b j) (f.tame j);
    begins = λ h. some_left kind (λ j. (L j).derives) (λ j. (M j).derives) (e.begins h);
    rich_there = λ h g. rich_either kind s t (λ j. (L j).derives) (λ j. (M j).derives) (e.rich_there h g) (f.rich_there h g);
    placed = λ h g. placed_either kind le wide s.first (λ j. (L j).derives) (λ j. (M j).derives) a b i (e.placed h g) (f.placed h g);
  }

  -- there is room within limits that are wide enough
  pub staged_within : {A : Type 0} (o r p : Bool) (room : I → Bool) (s : Shape) (c : Cause) (L : I → Limited T A) (a : I → List T → Reading T A) → (c ≡ expected → ⊥) →
      ((i j : I) → le i j → room i ≡ true → room j ≡ true) → (i : I) × (room i ≡ true) → s.empty ≡ false → (i : I) → Staged kind le o true p s L a i →
      Staged kind le o r p s (λ j. Within kind (room j) s.first c (L j)) (λ j. read_within kind (room j) s.first c (a j)) i
  staged_within {A} o r p room s c L a n keeps enough z i e = record {
    exact = λ j. exact_within kind (room j) s c (L j).derives (a j) (e.exact j);
    passed = λ j. passed_within kind (room j) s c (L j) (a j) (e.passed j);
    grows = λ j k l u x m. (keeps j k l m.0, e.grows j k l u x m.1);
    tame = λ j. tame_within kind (room j) s c (a j) z (e.tame j);
    begins = λ h. (roomy h).some;
    rich_there = λ h g. roomy h;
    placed = λ h g. placed_within kind le wide room s c (λ j. (L j).derives) a n keeps enough z e.grows e.tame (e.rich_there h refl) i (e.placed h g);
  }
    where
      roomy : o ≡ true → Rich kind s (λ j. (Within kind (room j) s.first c (L j)).derives)
      roomy h = rich_within kind le wide room s (λ j. (L j).derives) keeps enough z e.grows (e.rich_there h refl)

  pub staged_loop : {S : Type 0} (o r p : Bool) (s : Shape) (step : S → I → Limited T S) (read : S → I → List T → Reading T S) → s.empty ≡ false → disjoint s.more s.first ≡ true →
      (i : I) → ((z : S) → Staged kind le o r p s (step z) (read z) i) → (z : S) →
      Staged kind le o r p (shape_many s) (λ j. Loop (λ x. step x j) z) (λ j. read_loop kind s.first (λ x. read x j) z) i
  staged_loop o r p s step read n d i e z = record {
    exact = λ j. exact_loop kind s (λ x. (step x j).derives) (λ x. read x j) n d (λ x. (e x).exact j) z;
    passed = λ j. passed_loop kind s (λ x. step x j) (λ x. read x j) n d (λ x. (e x).exact j) (λ x. (e x).passed j) z;
    grows = loop_grows kind le wide (λ x j. (step x j).derives) (λ x. (e x).grows) z;
    tame = λ j. tame_loop kind s (λ x. read x j) z;
    begins = λ h. (i, [], z, (0, (refl, refl)));
    rich_there = λ h g. rich_loop kind s (λ x j. (step x j).derives) (λ x. (e x).rich_there h g) z;
    placed = λ h g. placed_loop kind le wide s.first (λ x j. (step x j).derives) read (λ x j y m. true_not_false _ (((e x).exact j).empty y m) n) (λ x. (e x).grows) i (λ x. (e x).placed h g) z;
  }

  pub staged_optional : {A : Type 0} (o r p : Bool) (s : Shape) (L : I → Limited T A) (a : I → List T → Reading T A) → s.empty ≡ false → (i : I) → Staged kind le o r p s L a i →
      Staged kind le o r p (shape_either s shape_empty) (λ j. Optional (L j)) (λ j. read_optional kind s.first (a j)) i
  unfolding read_optional
  staged_optional o r p s L a n i e =
      staged_as o r p (shape_either s shape_empty) (λ j. Either (Of Some (L j)) (Empty None)) (λ j. Optional (L j)) (λ j. read_either kind s.first (read_of Some (a j)) (read_empty None))
      (λ j. read_optional kind s.first (a j)) i
      (staged_either o r p s shape_empty (λ j. Of Some (L j)) (λ _. Empty None) (λ j. read_of Some (a j)) (λ _. read_empty None) (disjoint_nil kind s.first) n i
      (staged_of o r p Some s L a i e) (staged_empty o r p None i))
      (λ j u x m. m) (λ j u x m. m) (λ j c u t m. elim m [ inl h ↦ h | inr h ↦ absurd h ]) (λ j c u t m. inl m) (λ j u. refl)

  pub staged_skip : {A : Type 0} (o r p : Bool) (k : ℕ) (t : T) → kind t ≡ k → (s : Shape) (L : I → Limited T A) (a : I → List T → Reading T A) (i : I) →
      Staged kind le o false p s L a i → Staged kind le o r p (shape_skip k s) (λ j. Skip kind k (L j)) (λ j. read_skip kind k (a j)) i
  staged_skip {A} o r p k t w s L a i e = record {
    exact = λ j. exact_skip kind k s (L j).derives (a j) (e.exact j);
    passed = λ j. passed_skip kind k s (L j) (a j) (e.exact j) (e.passed j);
    grows = λ j l g. sub_skip kind k (L j).derives (L l).derives (e.grows j l g);
    tame = λ j. tame_skip kind k s (a j);
    begins = λ h. (there h).some;
    rich_there = λ h g. there h;
    placed = λ h g. placed_as kind le wide (λ j. (Given (Fixed kind k) (λ _. L j)).derives) (λ j. (Skip kind k (L j)).derives) (λ j. read_given (read_fixed kind k) (λ _. a j))
        (λ j. read_skip kind k (a j)) i
        (placed_given kind le wide (λ _. (Fixed kind k).derives) (λ _ j. (L j).derives) (λ _. read_fixed kind k) (λ _. a) one.grows (λ _. e.grows) (λ _. e.begins h) i one.placed (λ _. e.placed h g))
        (λ j. skip_to kind k (L j).derives) (λ j. skip_same kind k (a j));
  }
    where
      one : Full kind le (shape_one (k ∷ [])) (λ _. (Fixed kind k).derives) (λ _. read_fixed kind k) i
      one = full_fixed kind le wide k t w i

      there : o ≡ true → Rich kind (shape_skip k s) (λ j. (Skip kind k (L j)).derives)
      there h = rich_skip kind k s (λ j. (L j).derives) t w (e.begins h)

  pub staged_many : {A : Type 0} (o r p : Bool) (s : Shape) (L : I → Limited T A) (a : I → List T → Reading T A) → s.empty ≡ false → disjoint s.more s.first ≡ true →
      (i : I) → Staged kind le o r p s L a i → Staged kind le o r p (shape_many s) (λ j. Many (L j)) (λ j. read_many kind s.first (a j) []) i
  staged_many o r p s L a n d i e =
      staged_as o r p (shape_many s) (λ j. Loop (λ ys. Of (pushed ys) (L j)) []) (λ j. Many (L j)) (λ j. read_loop kind s.first (λ ys. read_of (pushed ys) (a j)) [])
      (λ j. read_many kind s.first (a j) []) i
      (staged_loop o r p s (λ ys j. Of (pushed ys) (L j)) (λ ys j. read_of (pushed ys) (a j)) n d i (λ ys. staged_of o r p (pushed ys) s L a i e) [])
      (λ j. many_to (L j).derives) (λ j. many_from (L j).derives) (λ j. many_passes kind (L j)) (λ j. passes_many kind (L j)) (λ j. many_same kind s.first (a j))

  pub staged_separated : {A : Type 0} (o r p : Bool) (k : ℕ) (t : T) → kind t ≡ k → (s : Shape) (L : I → Limited T A) (a : I → List T → Reading T A) →
      disjoint s.more (k ∷ []) ≡ true → (i : I) → Staged kind le o r p s L a i →
      Staged kind le o r p (shape_then s (shape_many (shape_skip k s))) (λ j. Separated kind k (L j)) (λ j. read_separated kind k (a j)) i
  staged_separated {A} o r p k t w s L a d i e =
      staged_as o r p (shape_then s (shape_many (shape_skip k s))) (λ j. Given (L j) (λ x. Loop (λ ys. Skip kind k (Of (pushed ys) (L j))) (x ∷ []))) (λ j. Separated kind k (L j))
      (λ j. read_given (a j) (λ x. read_loop kind (k ∷ []) (λ ys. read_skip kind k (read_of (pushed ys) (a j))) (x ∷ []))) (λ j. read_separated kind k (a j)) i
      (staged_given o r p s (shape_many (shape_skip k s)) L (λ x j. Loop (λ ys. Skip kind k (Of (pushed ys) (L j))) (x ∷ [])) a
      (λ x j. read_loop kind (k ∷ []) (λ ys. read_skip kind k (read_of (pushed ys) (a j))) (x ∷ [])) d i e
      (λ x. staged_loop o (cond s.empty r false) p (shape_skip k s) (λ ys j. Skip kind k (Of (pushed ys) (L j))) (λ ys j. read_skip kind k (read_of (pushed ys) (a j))) refl d i
      (λ ys. staged_skip o (cond s.empty r false) p k t w s (λ j. Of (pushed ys) (L j)) (λ j. read_of (pushed ys) (a j)) i (staged_of o false p (pushed ys) s L a i (unrich kind le o r p s L a i e))) (x ∷ [])))
      (λ j. separated_to kind k (L j).derives) (λ j. separated_from kind k (L j).derives) (λ j. separated_passes kind k (L j)) (λ j. passes_separated kind k (L j)) (λ j. separated_same kind k (a j))

  -- there is room for one item more where a limit is wide enough
  pub room_keeps : (n : I → ℕ) → Limit le n → (m : ℕ) (i j : I) → le i j → ltb m (n i) ≡ true → ltb m (n j) ≡ true
  room_keeps n lim m i j l h =
      let a : m < n i = ltb-true m (n i) h in
      let b : n i ≤ n j = lim.keeps i j l in lt-ltb m (n j) (omega (arith, a, b))

  pub room_somewhere : (n : I → ℕ) → Limit le n → (m : ℕ) → (i : I) × (ltb m (n i) ≡ true)
  room_somewhere n lim m = let w : (i : I) × (m < n i) = lim.any m in (w.0, lt-ltb m (n w.0) w.1)

  staged_push : {A : Type 0} (o r p : Bool) (n : I → ℕ) → Limit le n → (s : Shape) (c : Cause) → (c ≡ expected → ⊥) → (L : I → Limited T A) (a : I → List T → Reading T A) → s.empty ≡ false →
      (i : I) → Staged kind le o true p s L a i → (ys : List A) →
      Staged kind le o r p s (λ j. Within kind (ltb (length ys) (n j)) s.first c (Of (pushed ys) (L j))) (λ j. read_within kind (ltb (length ys) (n j)) s.first c (read_of (pushed ys) (a j))) i
  staged_push o r p n lim s c ne L a z i e ys =
      staged_within o r p (λ j. ltb (length ys) (n j)) s c (λ j. Of (pushed ys) (L j)) (λ j. read_of (pushed ys) (a j)) ne (room_keeps n lim (length ys)) (room_somewhere n lim (length ys)) z i
      (staged_of o true p (pushed ys) s L a i e)

  pub staged_most : {A : Type 0} (o r p : Bool) (n : I → ℕ) → Limit le n → (s : Shape) (c : Cause) → (c ≡ expected → ⊥) → (L : I → Limited T A) (a : I → List T → Reading T A) →
      s.empty ≡ false → disjoint s.more s.first ≡ true → (i : I) → Staged kind le o true p s L a i →
      Staged kind le o r p (shape_many s) (λ j. Most kind (n j) s.first c (L j)) (λ j. read_most kind (n j) s.first c (a j) []) i
  staged_most o r p n lim s c ne L a z d i e =
      staged_as o r p (shape_many s) (λ j. Loop (λ ys. Within kind (ltb (length ys) (n j)) s.first c (Of (pushed ys) (L j))) []) (λ j. Most kind (n j) s.first c (L j))
      (λ j. read_loop kind s.first (λ ys. read_within kind (ltb (length ys) (n j)) s.first c (read_of (pushed ys) (a j))) []) (λ j. read_most kind (n j) s.first c (a j) []) i
      (staged_loop o r p s (λ ys j. Within kind (ltb (length ys) (n j)) s.first c (Of (pushed ys) (L j))) (λ ys j. read_within kind (ltb (length ys) (n j)) s.first c (read_of (pushed ys) (a j))) z d i
      (staged_push o r p n lim s c ne L a z i e) [])
      (λ j. most_to (n j) (L j).derives) (λ j. most_from (n j) (L j).derives) (λ j. most_passes kind (n j) s.first c (L j)) (λ j. passes_most kind (n j) s.first c (L j)) (λ j. most_same kind (n j) s.first c (a j))

  pub staged_separated_most : {A : Type 0} (o r p : Bool) (k : ℕ) (t : T) → kind t ≡ k → (n : I → ℕ) → Limit le n → ((i : I) → 1 ≤ n i) → (s : Shape) (c : Cause) → (c ≡ expected → ⊥) →
      (L : I → Limited T A) (a : I → List T → Reading T A) → s.empty ≡ false → disjoint s.more (k ∷ []) ≡ true → (i : I) → Staged kind le o true p s L a i →
      Staged kind le o r p (shape_then s (shape_many (shape_skip k s))) (λ j. SeparatedMost kind k (n j) s.first c (L j)) (λ j. read_separated_most kind k (n j) s.first c (a j)) i
  staged_separated_most {A} o r p k t w n lim one s c ne L a z d i e =
      staged_as o r p (shape_then s (shape_many (shape_skip k s)))
      (λ j. Given (L j) (λ x. Loop (λ ys. Skip kind k (Within kind (ltb (length ys) (n j)) s.first c (Of (pushed ys) (L j)))) (x ∷ []))) (λ j. SeparatedMost kind k (n j) s.first c (L j))
      (λ j. read_given (a j) (λ x. read_loop kind (k ∷ []) (λ ys. read_skip kind k (read_within kind (ltb (length ys) (n j)) s.first c (read_of (pushed ys) (a j)))) (x ∷ [])))
      (λ j. read_separated_most kind k (n j) s.first c (a j)) i
      (staged_given o r p s (shape_many (shape_skip k s)) L (λ x j. Loop (λ ys. Skip kind k (Within kind (ltb (length ys) (n j)) s.first c (Of (pushed ys) (L j)))) (x ∷ [])) a
      (λ x j. read_loop kind (k ∷ []) (λ ys. read_skip kind k (read_within kind (ltb (length ys) (n j)) s.first c (read_of (pushed ys) (a j)))) (x ∷ [])) d i (poorer kind le o r p s L a i e)
      (λ x. staged_loop o (cond s.empty r false) p (shape_skip k s) (λ ys j. Skip kind k (Within kind (ltb (length ys) (n j)) s.first c (Of (pushed ys) (L j))))
      (λ ys j. read_skip kind k (read_within kind (ltb (length ys) (n j)) s.first c (read_of (pushed ys) (a j)))) refl d i
      (λ ys. staged_skip o (cond s.empty r false) p k t w s (λ j. Within kind (ltb (length ys) (n j)) s.first c (Of (pushed ys) (L j))) (λ j. read_within kind (ltb (length ys) (n j)) s.first c (read_of (pushed ys) (a j))) i
      (staged_push o false p n lim s c ne L a z i e ys)) (x ∷ [])))
      (λ j. separated_most_to kind k (n j) (L j).derives (one j)) (λ j. separated_most_from kind k (n j) (L j).derives) (λ j. separated_most_passes kind k (n j) s.first c (L j) (one j)) (λ j. passes_separated_most kind k (n j) s.first c (L j))
      (λ j. separated_most_same kind k (n j) s.first c (a j))
