-- The readings of lists and chains are exact: each is a loop that pushes or joins one item a turn.
use Rattle.std.proofs.Common.{◌≡◌, ℕ, ◌+◌, ◌≤◌, ltb, true, false, List, [], ◌∷◌, length, refl}
use Rattle.lrc_parse.specs.Kinds.{disjoint}
use Rattle.lrc_parse.specs.Language.{Lang, Of, Within, Many, Most, Chain, Folded, Loop, Separated}
use Rattle.lrc_parse.specs.Reading.{Cause, Reading, read_of, read_within, read_skip, read_loop, read_many, read_most, read_separated, read_separated_most, read_folded_most, read_chain}
use Rattle.lrc_parse.specs.Exact.{Shape, Exact, shape_then, shape_many, shape_skip}
use Rattle.lrc_parse.proofs.Parts.{exact_as, exact_of, exact_given, exact_skip, exact_within}
use Rattle.lrc_parse.proofs.Loops.{exact_loop}
use Rattle.lrc_parse.proofs.Same.{pushed, push_step, other_step, other_most, join_step, many_to, many_from, many_same, most_to, most_from, most_same, chain_parts, chain_to, chain_from, chain_same, separated_parts, separated_to, separated_from, separated_same, separated_most_parts, separated_most_to, separated_most_from, separated_most_same, folded_parts, folded_most_to, folded_most_from, folded_most_same}

module _ {T : Type 0} (kind : T → ℕ) where
  -- turns that join an item each
  pub exact_joins : {A X : Type 0} (f : A → X → A) (s : Shape) (M : Lang T X) (a : List T → Reading T X) →
      s.empty ≡ false → disjoint s.more s.first ≡ true → Exact kind s M a →
      (x : A) → Exact kind (shape_many s) (Loop (λ y. Of (f y) M) x) (read_loop kind s.first (λ y. read_of (f y) a) x)
  exact_joins f s M a n d e x =
      exact_loop kind s (λ y. Of (f y) M) (λ y. read_of (f y) a) n d (λ y. exact_of kind (f y) s M a e) x

  pub exact_many : {A : Type 0} (s : Shape) (L : Lang T A) (a : List T → Reading T A) →
      s.empty ≡ false → disjoint s.more s.first ≡ true → Exact kind s L a →
      Exact kind (shape_many s) (Many L) (read_many kind s.first a [])
  exact_many s L a n d e =
      exact_as kind (shape_many s) (Loop (λ ys. Of (pushed ys) L) []) (Many L) _ (read_many kind s.first a [])
      (exact_joins pushed s L a n d e []) (many_to L) (many_from L) (many_same kind s.first a)

  exact_push : {A : Type 0} (n : ℕ) (s : Shape) (c : Cause) (L : Lang T A) (a : List T → Reading T A) → Exact kind s L a →
      (ys : List A) → Exact kind s (push_step n L ys) (read_within kind (ltb (length ys) n) s.first c (read_of (pushed ys) a))
  exact_push n s c L a e ys = exact_within kind (ltb (length ys) n) s c (Of (pushed ys) L) (read_of (pushed ys) a) (exact_of kind (pushed ys) s L a e)

  pub exact_most : {A : Type 0} (n : ℕ) (s : Shape) (c : Cause) (L : Lang T A) (a : List T → Reading T A) →
      s.empty ≡ false → disjoint s.more s.first ≡ true → Exact kind s L a →
      Exact kind (shape_many s) (Most n (Many L)) (read_most kind n s.first c a [])
  exact_most n s c L a z d e =
      exact_as kind (shape_many s) (Loop (push_step n L) []) (Most n (Many L)) _ (read_most kind n s.first c a [])
      (exact_loop kind s (push_step n L) (λ ys. read_within kind (ltb (length ys) n) s.first c (read_of (pushed ys) a)) z d (exact_push n s c L a e) [])
      (most_to n L) (most_from n L) (most_same kind n s.first c a)

  pub exact_chain : {A X : Type 0} (f : A → X → A) (s t : Shape) (L : Lang T A) (M : Lang T X) (a : List T → Reading T A) (b : List T → Reading T X) →
      t.empty ≡ false → disjoint t.more t.first ≡ true → disjoint s.more t.first ≡ true → Exact kind s L a → Exact kind t M b →
      Exact kind (shape_then s (shape_many t)) (Chain f L M) (read_chain kind f a t.first b)
  exact_chain f s t L M a b z d h e g =
      exact_as kind (shape_then s (shape_many t)) (chain_parts f L M) (Chain f L M) _ (read_chain kind f a t.first b)
      (exact_given kind s (shape_many t) L (λ x. Loop (λ y. Of (f y) M) x) a (λ x. read_loop kind t.first (λ y. read_of (f y) b) x) h e (exact_joins f t M b z d g))
      (chain_to f L M) (chain_from f L M) (chain_same kind f a t.first b)

  pub exact_separated : {A : Type 0} (k : ℕ) (s : Shape) (L : Lang T A) (a : List T → Reading T A) →
      disjoint s.more (k ∷ []) ≡ true → Exact kind s L a →
      Exact kind (shape_then s (shape_many (shape_skip k s))) (Separated kind k L) (read_separated kind k a)
  exact_separated k s L a d e =
      exact_as kind (shape_then s (shape_many (shape_skip k s))) (separated_parts kind k L) (Separated kind k L) _ (read_separated kind k a)
      (exact_given kind s (shape_many (shape_skip k s)) L (λ x. Loop (other_step kind k L) (x ∷ [])) a
      (λ x. read_loop kind (k ∷ []) (λ ys. read_skip kind k (read_of (pushed ys) a)) (x ∷ [])) d e
      (λ x. exact_loop kind (shape_skip k s) (other_step kind k L) (λ ys. read_skip kind k (read_of (pushed ys) a)) refl d
      (λ ys. exact_skip kind k s (Of (pushed ys) L) (read_of (pushed ys) a) (exact_of kind (pushed ys) s L a e)) (x ∷ [])))
      (separated_to kind k L) (separated_from kind k L) (separated_same kind k a)

  pub exact_separated_most : {A : Type 0} (k n : ℕ) (s : Shape) (c : Cause) (L : Lang T A) (a : List T → Reading T A) →
      1 ≤ n → disjoint s.more (k ∷ []) ≡ true → Exact kind s L a →
      Exact kind (shape_then s (shape_many (shape_skip k s))) (Most n (Separated kind k L)) (read_separated_most kind k n s.first c a)
  exact_separated_most k n s c L a one d e =
      exact_as kind (shape_then s (shape_many (shape_skip k s))) (separated_most_parts kind k n L) (Most n (Separated kind k L)) _ (read_separated_most kind k n s.first c a)
      (exact_given kind s (shape_many (shape_skip k s)) L (λ x. Loop (other_most kind k n L) (x ∷ [])) a
      (λ x. read_loop kind (k ∷ []) (λ ys. read_skip kind k (read_within kind (ltb (length ys) n) s.first c (read_of (pushed ys) a))) (x ∷ [])) d e
      (λ x. exact_loop kind (shape_skip k s) (other_most kind k n L) (λ ys. read_skip kind k (read_within kind (ltb (length ys) n) s.first c (read_of (pushed ys) a))) refl d
      (λ ys. exact_skip kind k s (push_step n L ys) (read_within kind (ltb (length ys) n) s.first c (read_of (pushed ys) a)) (exact_push n s c L a e ys)) (x ∷ [])))
      (separated_most_to kind k n L one) (separated_most_from kind k n L) (separated_most_same kind k n s.first c a)

  pub exact_folded_most : {A : Type 0} (k n : ℕ) (s : Shape) (c : Cause) (f : A → A → A) (L : Lang T A) (a : List T → Reading T A) →
      1 ≤ n → disjoint s.more (k ∷ []) ≡ true → Exact kind s L a →
      Exact kind (shape_then s (shape_many (shape_skip k s))) (Folded f (Most n (Separated kind k L))) (read_folded_most kind k n s.first c f a)
  exact_folded_most {A} k n s c f L a one d e =
      exact_as kind (shape_then s (shape_many (shape_skip k s))) (folded_parts kind k n f L) (Folded f (Most n (Separated kind k L))) _ (read_folded_most kind k n s.first c f a)
      (exact_given kind s (shape_many (shape_skip k s)) L (λ x. Of (λ (z : A × ℕ). z.0) (Loop (join_step kind k n f L) (x, 1))) a
      (λ x. read_of (λ (z : A × ℕ). z.0) (read_loop kind (k ∷ []) reads (x, 1))) d e
      (λ x. exact_of kind (λ (z : A × ℕ). z.0) (shape_many (shape_skip k s)) (Loop (join_step kind k n f L) (x, 1)) _
      (exact_loop kind (shape_skip k s) (join_step kind k n f L) reads refl d each (x, 1))))
      (folded_most_to kind k n f L one) (folded_most_from kind k n f L) (folded_most_same kind k n s.first c f a)
    where
      reads : A × ℕ → List T → Reading T (A × ℕ)
      reads z = read_skip kind k (read_within kind (ltb z.1 n) s.first c (read_of (λ y. (f z.0 y, z.1 + 1)) a))

      each : (z : A × ℕ) → Exact kind (shape_skip k s) (join_step kind k n f L z) (reads z)
      each z = exact_skip kind k s (Within (ltb z.1 n) (Of (λ y. (f z.0 y, z.1 + 1)) L)) (read_within kind (ltb z.1 n) s.first c (read_of (λ y. (f z.0 y, z.1 + 1)) a))
          (exact_within kind (ltb z.1 n) s c (Of (λ y. (f z.0 y, z.1 + 1)) L) (read_of (λ y. (f z.0 y, z.1 + 1)) a) (exact_of kind (λ y. (f z.0 y, z.1 + 1)) s L a e))
