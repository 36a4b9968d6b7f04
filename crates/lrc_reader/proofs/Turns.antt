-- The turns of a loop, where the step first goes past a mark.
use Rattle.std.proofs.Common.{◌≡◌, ℕ, ◌==◌, ◌<◌, Bool, true, false, cond, ltb, List, [], ◌∷◌, ◌++◌, length, refl, ◌∙◌}
use Rattle.lrc_parse.specs.Kinds.{starts}
use Rattle.lrc_parse.specs.Reading.{Reading, Cause, expected, took, stops, on_took, read_of, read_fixed, read_skip, read_within, read_loop, read_push, read_push_most, read_others, read_others_most, read_separated, read_separated_most}
use Rattle.lrc_parse.proofs.Loops.{read_loop_stops, read_loop_more}
use Rattle.lrc_reader.specs.declared.lexeme.Lexeme.{Lexeme}
use Rattle.lrc_reader.specs.Lexeme.{kind}

-- one turn more
pub loop_turn : {S : Type 0} (first : List ℕ) (step : S → List Lexeme → Reading Lexeme S) (s z : S) (u r : List Lexeme) →
    starts kind first u ≡ true → step s u ≡ took z r → length r < length u → read_loop kind first step s u ≡ read_loop kind first step z r
loop_turn first step s z u r e f l = read_loop_more kind first step s z u r e f l

pub loop_stops : {S : Type 0} (first : List ℕ) (step : S → List Lexeme → Reading Lexeme S) (s : S) (c : Cause) (u r : List Lexeme) →
    starts kind first u ≡ true → step s u ≡ stops c r → read_loop kind first step s u ≡ stops c r
loop_stops first step s c u r e f = read_loop_stops kind first step s u r c e f

-- a mark is passed as it is read alone
pub past_fixed : {A : Type 0} (k : ℕ) (a : List Lexeme → Reading Lexeme A) (u : List Lexeme) →
    read_skip kind k a u ≡ on_took (read_fixed kind k u) (λ (_ : Unit {0}) (r : List Lexeme). a r)
unfolding read_fixed read_skip
past_fixed k a [] = refl
past_fixed {A} k a (t ∷ u) = by_test (kind t == k)
  where
    by_test : (b : Bool) → cond b (a u) (stops expected (t ∷ u)) ≡ on_took (cond b (took tt u) (stops expected (t ∷ u))) (λ (_ : Unit {0}) (r : List Lexeme). a r)
    by_test true = refl
    by_test false = refl

module _ {A : Type 0} (k : ℕ) (item : List Lexeme → Reading Lexeme A) where
  -- one item more behind `xs`
  abbrev pub push : List A → List Lexeme → Reading Lexeme (List A)
  push xs u = on_took (item u) (λ x r. took (xs ++ x ∷ []) r)

  -- items behind `xs`, each behind a mark
  abbrev another : List A → List Lexeme → Reading Lexeme (List A)
  another xs u = on_took (read_fixed kind k u) (λ (_ : Unit {0}) (r : List Lexeme). push xs r)

  pub others_turn : (xs zs : List A) (u r : List Lexeme) →
      starts kind (k ∷ []) u ≡ true → another xs u ≡ took zs r → length r < length u → read_others kind k item xs u ≡ read_others kind k item zs r
  unfolding read_others read_push read_of
  others_turn xs zs u r e f l = loop_turn (k ∷ []) _ xs zs u r e (past_fixed k (push xs) u ∙ f) l

  pub others_stops : (xs : List A) (c : Cause) (u r : List Lexeme) →
      starts kind (k ∷ []) u ≡ true → another xs u ≡ stops c r → read_others kind k item xs u ≡ stops c r
  unfolding read_others read_push read_of
  others_stops xs c u r e f = loop_stops (k ∷ []) (λ ys. read_skip kind k (push ys)) xs c u r e (past_fixed k (push xs) u ∙ f)

  -- the first item, and then those behind it
  pub separated_is : (u : List Lexeme) → read_separated kind k item u ≡ on_took (push [] u) (read_others kind k item)
  unfolding read_separated
  separated_is u = by_first (item u)
    where
      by_first : (o : Reading Lexeme A) → on_took o (λ x r. read_others kind k item (x ∷ []) r) ≡ on_took (on_took o (λ x r. took ([] ++ x ∷ []) r)) (read_others kind k item)
      by_first (took x r) = refl
      by_first (stops c r) = refl

  module _ (n : ℕ) (first : List ℕ) (cause : Cause) where
    abbrev another_most : List A → List Lexeme → Reading Lexeme (List A)
    another_most xs u = on_took (read_fixed kind k u) (λ (_ : Unit {0}) (r : List Lexeme). read_within kind (ltb (length xs) n) first cause (push xs) r)

    pub others_most_turn : (xs zs : List A) (u r : List Lexeme) →
        starts kind (k ∷ []) u ≡ true → another_most xs u ≡ took zs r → length r < length u →
        read_others_most kind k n first cause item xs u ≡ read_others_most kind k n first cause item zs r
    unfolding read_others_most read_push_most read_push read_of
    others_most_turn xs zs u r e f l = loop_turn (k ∷ []) _ xs zs u r e (past_fixed k _ u ∙ f) l

    pub others_most_stops : (xs : List A) (c : Cause) (u r : List Lexeme) →
        starts kind (k ∷ []) u ≡ true → another_most xs u ≡ stops c r → read_others_most kind k n first cause item xs u ≡ stops c r
    unfolding read_others_most read_push_most read_push read_of
    others_most_stops xs c u r e f =
        loop_stops (k ∷ []) (λ ys. read_skip kind k (read_within kind (ltb (length ys) n) first cause (push ys))) xs c u r e
        (past_fixed k (read_within kind (ltb (length xs) n) first cause (push xs)) u ∙ f)

    pub separated_most_is : (u : List Lexeme) → read_separated_most kind k n first cause item u ≡ on_took (push [] u) (read_others_most kind k n first cause item)
    unfolding read_separated_most
    separated_most_is u = by_first (item u)
      where
        by_first : (o : Reading Lexeme A) → on_took o (λ x r. read_others_most kind k n first cause item (x ∷ []) r) ≡ on_took (on_took o (λ x r. took ([] ++ x ∷ []) r)) (read_others_most kind k n first cause item)
        by_first (took x r) = refl
        by_first (stops c r) = refl
