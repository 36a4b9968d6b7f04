-- The steps of the readings of lists and chains: one item more, the end, and a stop.
use Rattle.std.proofs.Common.{◌≡◌, ℕ, suc, ◌+◌, ◌<◌, ◌≤◌, true, false, cond, List, [], ◌∷◌, ◌++◌, length, sym, ap, ◌∙◌}
use Rattle.std.proofs.lemmas.Bool.{lt-ltb, le-ltb, eq-eqb, ne_eqb}
use Rattle.lrc_parse.specs.Kinds.{starts}
use Rattle.lrc_parse.specs.Reading.{Cause, expected, Reading, took, stops, on_took, read_of, read_skip, read_push, read_many, read_push_most, read_most, read_others, read_separated, read_others_most, read_separated_most, read_joined, read_chain, read_join_most, read_joined_most, read_folded_most}
use Rattle.lrc_parse.proofs.Steps.{read_of_took, read_of_stops, read_skip_took, read_within_room, read_within_passed, read_within_other}
use Rattle.lrc_parse.proofs.Loops.{read_loop_end, read_loop_stops, read_loop_more}

module _ {T : Type 0} (kind : T → ℕ) where
  -- a token of the kind begins, and one of another kind does not
  pub starts_here : (k : ℕ) (t : T) (r : List T) → kind t ≡ k → starts kind (k ∷ []) (t ∷ r) ≡ true
  starts_here k t r e = ap (λ b. cond b true false) (eq-eqb k (kind t) (sym e))

  pub starts_other : (k : ℕ) (t : T) (r : List T) → (kind t ≡ k → ⊥) → starts kind (k ∷ []) (t ∷ r) ≡ false
  starts_other k t r n = ap (λ b. cond b true false) (ne_eqb k (kind t) (λ e. n (sym e)))

  pub read_many_end : {A : Type 0} (first : List ℕ) (item : List T → Reading T A) (xs : List A) (u : List T) →
      starts kind first u ≡ false → read_many kind first item xs u ≡ took xs u
  unfolding read_many
  read_many_end first item xs u e = read_loop_end kind first (read_push item) xs u e

  pub read_many_stops : {A : Type 0} (first : List ℕ) (item : List T → Reading T A) (xs : List A) (u r : List T) (c : Cause) →
      starts kind first u ≡ true → item u ≡ stops c r → read_many kind first item xs u ≡ stops c r
  unfolding read_many read_push
  read_many_stops first item xs u r c e f = read_loop_stops kind first (read_push item) xs u r c e (read_of_stops _ item u r c f)

  pub read_many_more : {A : Type 0} (first : List ℕ) (item : List T → Reading T A) (xs : List A) (u r : List T) (x : A) →
      starts kind first u ≡ true → item u ≡ took x r → length r < length u →
      read_many kind first item xs u ≡ read_many kind first item (xs ++ x ∷ []) r
  unfolding read_many read_push
  read_many_more first item xs u r x e f l =
      read_loop_more kind first (read_push item) xs (xs ++ x ∷ []) u r e (read_of_took _ item u r x f) l

  push_took : {A : Type 0} (n : ℕ) (first : List ℕ) (cause : Cause) (item : List T → Reading T A) (xs : List A) (u r : List T) (x : A) →
      length xs < n → item u ≡ took x r → read_push_most kind n first cause item xs u ≡ took (xs ++ x ∷ []) r
  unfolding read_push_most read_push
  push_took n first cause item xs u r x l e =
      read_within_room kind _ first cause _ u (lt-ltb (length xs) n l) ∙ read_of_took _ item u r x e

  push_stops : {A : Type 0} (n : ℕ) (first : List ℕ) (cause : Cause) (item : List T → Reading T A) (xs : List A) (u r : List T) (c : Cause) →
      length xs < n → item u ≡ stops c r → read_push_most kind n first cause item xs u ≡ stops c r
  unfolding read_push_most read_push
  push_stops n first cause item xs u r c l e =
      read_within_room kind _ first cause _ u (lt-ltb (length xs) n l) ∙ read_of_stops _ item u r c e

  push_passed : {A : Type 0} (n : ℕ) (first : List ℕ) (cause : Cause) (item : List T → Reading T A) (xs : List A) (u : List T) →
      n ≤ length xs → starts kind first u ≡ true → read_push_most kind n first cause item xs u ≡ stops cause u
  unfolding read_push_most
  push_passed n first cause item xs u l e = read_within_passed kind _ first cause _ u (le-ltb (length xs) n l) e

  push_other : {A : Type 0} (n : ℕ) (first : List ℕ) (cause : Cause) (item : List T → Reading T A) (xs : List A) (u : List T) →
      n ≤ length xs → starts kind first u ≡ false → read_push_most kind n first cause item xs u ≡ stops expected u
  unfolding read_push_most
  push_other n first cause item xs u l e = read_within_other kind _ first cause _ u (le-ltb (length xs) n l) e

  pub read_most_end : {A : Type 0} (n : ℕ) (first : List ℕ) (cause : Cause) (item : List T → Reading T A) (xs : List A) (u : List T) →
      starts kind first u ≡ false → read_most kind n first cause item xs u ≡ took xs u
  unfolding read_most
  read_most_end n first cause item xs u e = read_loop_end kind first _ xs u e

  pub read_most_stops : {A : Type 0} (n : ℕ) (first : List ℕ) (cause : Cause) (item : List T → Reading T A) (xs : List A) (u r : List T) (c : Cause) →
      starts kind first u ≡ true → length xs < n → item u ≡ stops c r → read_most kind n first cause item xs u ≡ stops c r
  unfolding read_most
  read_most_stops n first cause item xs u r c e l f =
      read_loop_stops kind first (read_push_most kind n first cause item) xs u r c e (push_stops n first cause item xs u r c l f)

  pub read_most_passed : {A : Type 0} (n : ℕ) (first : List ℕ) (cause : Cause) (item : List T → Reading T A) (xs : List A) (u : List T) →
      starts kind first u ≡ true → n ≤ length xs → read_most kind n first cause item xs u ≡ stops cause u
  unfolding read_most
  read_most_passed n first cause item xs u e l =
      read_loop_stops kind first (read_push_most kind n first cause item) xs u u cause e (push_passed n first cause item xs u l e)

  pub read_most_more : {A : Type 0} (n : ℕ) (first : List ℕ) (cause : Cause) (item : List T → Reading T A) (xs : List A) (u r : List T) (x : A) →
      starts kind first u ≡ true → length xs < n → item u ≡ took x r → length r < length u →
      read_most kind n first cause item xs u ≡ read_most kind n first cause item (xs ++ x ∷ []) r
  unfolding read_most
  read_most_more n first cause item xs u r x e l f h =
      read_loop_more kind first (read_push_most kind n first cause item) xs (xs ++ x ∷ []) u r e (push_took n first cause item xs u r x l f) h

  pub read_others_end : {A : Type 0} (k : ℕ) (item : List T → Reading T A) (xs : List A) (u : List T) →
      starts kind (k ∷ []) u ≡ false → read_others kind k item xs u ≡ took xs u
  unfolding read_others
  read_others_end k item xs u e = read_loop_end kind (k ∷ []) _ xs u e

  pub read_others_stops : {A : Type 0} (k : ℕ) (item : List T → Reading T A) (xs : List A) (t : T) (u r : List T) (c : Cause) →
      kind t ≡ k → item u ≡ stops c r → read_others kind k item xs (t ∷ u) ≡ stops c r
  unfolding read_others read_push
  read_others_stops k item xs t u r c e f =
      read_loop_stops kind (k ∷ []) (λ ys. read_skip kind k (read_push item ys)) xs (t ∷ u) r c (starts_here k t u e)
      (read_skip_took kind k (read_push item xs) t u e ∙ read_of_stops _ item u r c f)

  pub read_others_more : {A : Type 0} (k : ℕ) (item : List T → Reading T A) (xs : List A) (t : T) (u r : List T) (x : A) →
      kind t ≡ k → item u ≡ took x r → length r < suc (length u) →
      read_others kind k item xs (t ∷ u) ≡ read_others kind k item (xs ++ x ∷ []) r
  unfolding read_others read_push
  read_others_more k item xs t u r x e f l =
      read_loop_more kind (k ∷ []) (λ ys. read_skip kind k (read_push item ys)) xs (xs ++ x ∷ []) (t ∷ u) r (starts_here k t u e)
      (read_skip_took kind k (read_push item xs) t u e ∙ read_of_took _ item u r x f) l

  pub read_separated_stops : {A : Type 0} (k : ℕ) (item : List T → Reading T A) (u r : List T) (c : Cause) →
      item u ≡ stops c r → read_separated kind k item u ≡ stops c r
  unfolding read_separated
  read_separated_stops k item u r c e = ap (λ o. on_took o (λ x m. read_others kind k item (x ∷ []) m)) e

  pub read_separated_more : {A : Type 0} (k : ℕ) (item : List T → Reading T A) (u r : List T) (x : A) →
      item u ≡ took x r → read_separated kind k item u ≡ read_others kind k item (x ∷ []) r
  unfolding read_separated
  read_separated_more k item u r x e = ap (λ o. on_took o (λ y m. read_others kind k item (y ∷ []) m)) e

  pub read_others_most_end : {A : Type 0} (k n : ℕ) (first : List ℕ) (cause : Cause) (item : List T → Reading T A) (xs : List A) (u : List T) →
      starts kind (k ∷ []) u ≡ false → read_others_most kind k n first cause item xs u ≡ took xs u
  unfolding read_others_most
  read_others_most_end k n first cause item xs u e = read_loop_end kind (k ∷ []) _ xs u e

  others_most_stops : {A : Type 0} (k n : ℕ) (first : List ℕ) (cause : Cause) (item : List T → Reading T A) (xs : List A) (t : T) (u r : List T) (c : Cause) →
      kind t ≡ k → read_push_most kind n first cause item xs u ≡ stops c r → read_others_most kind k n first cause item xs (t ∷ u) ≡ stops c r
  unfolding read_others_most
  others_most_stops k n first cause item xs t u r c e f =
      read_loop_stops kind (k ∷ []) (λ ys. read_skip kind k (read_push_most kind n first cause item ys)) xs (t ∷ u) r c (starts_here k t u e)
      (read_skip_took kind k (read_push_most kind n first cause item xs) t u e ∙ f)

  pub read_others_most_stops : {A : Type 0} (k n : ℕ) (first : List ℕ) (cause : Cause) (item : List T → Reading T A) (xs : List A) (t : T) (u r : List T) (c : Cause) →
      kind t ≡ k → length xs < n → item u ≡ stops c r → read_others_most kind k n first cause item xs (t ∷ u) ≡ stops c r
  read_others_most_stops k n first cause item xs t u r c e l f = others_most_stops k n first cause item xs t u r c e (push_stops n first cause item xs u r c l f)

  pub read_others_most_passed : {A : Type 0} (k n : ℕ) (first : List ℕ) (cause : Cause) (item : List T → Reading T A) (xs : List A) (t : T) (u : List T) →
      kind t ≡ k → n ≤ length xs → starts kind first u ≡ true → read_others_most kind k n first cause item xs (t ∷ u) ≡ stops cause u
  read_others_most_passed k n first cause item xs t u e l f = others_most_stops k n first cause item xs t u u cause e (push_passed n first cause item xs u l f)

  pub read_others_most_other : {A : Type 0} (k n : ℕ) (first : List ℕ) (cause : Cause) (item : List T → Reading T A) (xs : List A) (t : T) (u : List T) →
      kind t ≡ k → n ≤ length xs → starts kind first u ≡ false → read_others_most kind k n first cause item xs (t ∷ u) ≡ stops expected u
  read_others_most_other k n first cause item xs t u e l f = others_most_stops k n first cause item xs t u u expected e (push_other n first cause item xs u l f)

  pub read_others_most_more : {A : Type 0} (k n : ℕ) (first : List ℕ) (cause : Cause) (item : List T → Reading T A) (xs : List A) (t : T) (u r : List T) (x : A) →
      kind t ≡ k → length xs < n → item u ≡ took x r → length r < suc (length u) →
      read_others_most kind k n first cause item xs (t ∷ u) ≡ read_others_most kind k n first cause item (xs ++ x ∷ []) r
  unfolding read_others_most
  read_others_most_more k n first cause item xs t u r x e l f h =
      read_loop_more kind (k ∷ []) (λ ys. read_skip kind k (read_push_most kind n first cause item ys)) xs (xs ++ x ∷ []) (t ∷ u) r (starts_here k t u e)
      (read_skip_took kind k (read_push_most kind n first cause item xs) t u e ∙ push_took n first cause item xs u r x l f) h

  pub read_separated_most_stops : {A : Type 0} (k n : ℕ) (first : List ℕ) (cause : Cause) (item : List T → Reading T A) (u r : List T) (c : Cause) →
      item u ≡ stops c r → read_separated_most kind k n first cause item u ≡ stops c r
  unfolding read_separated_most
  read_separated_most_stops k n first cause item u r c e = ap (λ o. on_took o (λ x m. read_others_most kind k n first cause item (x ∷ []) m)) e

  pub read_separated_most_more : {A : Type 0} (k n : ℕ) (first : List ℕ) (cause : Cause) (item : List T → Reading T A) (u r : List T) (x : A) →
      item u ≡ took x r → read_separated_most kind k n first cause item u ≡ read_others_most kind k n first cause item (x ∷ []) r
  unfolding read_separated_most
  read_separated_most_more k n first cause item u r x e = ap (λ o. on_took o (λ y m. read_others_most kind k n first cause item (y ∷ []) m)) e

  pub read_joined_end : {A X : Type 0} (f : A → X → A) (first : List ℕ) (item : List T → Reading T X) (x : A) (u : List T) →
      starts kind first u ≡ false → read_joined kind f first item x u ≡ took x u
  unfolding read_joined
  read_joined_end f first item x u e = read_loop_end kind first _ x u e

  pub read_joined_stops : {A X : Type 0} (f : A → X → A) (first : List ℕ) (item : List T → Reading T X) (x : A) (u r : List T) (c : Cause) →
      starts kind first u ≡ true → item u ≡ stops c r → read_joined kind f first item x u ≡ stops c r
  unfolding read_joined
  read_joined_stops f first item x u r c e g = read_loop_stops kind first (λ y. read_of (f y) item) x u r c e (read_of_stops (f x) item u r c g)

  pub read_joined_more : {A X : Type 0} (f : A → X → A) (first : List ℕ) (item : List T → Reading T X) (x : A) (u r : List T) (y : X) →
      starts kind first u ≡ true → item u ≡ took y r → length r < length u →
      read_joined kind f first item x u ≡ read_joined kind f first item (f x y) r
  unfolding read_joined
  read_joined_more f first item x u r y e g l = read_loop_more kind first (λ z. read_of (f z) item) x (f x y) u r e (read_of_took (f x) item u r y g) l

  pub read_chain_stops : {A X : Type 0} (f : A → X → A) (a : List T → Reading T A) (first : List ℕ) (item : List T → Reading T X) (u r : List T) (c : Cause) →
      a u ≡ stops c r → read_chain kind f a first item u ≡ stops c r
  unfolding read_chain
  read_chain_stops f a first item u r c e = ap (λ o. on_took o (λ x m. read_joined kind f first item x m)) e

  pub read_chain_more : {A X : Type 0} (f : A → X → A) (a : List T → Reading T A) (first : List ℕ) (item : List T → Reading T X) (u r : List T) (x : A) →
      a u ≡ took x r → read_chain kind f a first item u ≡ read_joined kind f first item x r
  unfolding read_chain
  read_chain_more f a first item u r x e = ap (λ o. on_took o (λ y m. read_joined kind f first item y m)) e

  join_took : {A : Type 0} (n : ℕ) (first : List ℕ) (cause : Cause) (f : A → A → A) (item : List T → Reading T A) (count : ℕ) (x : A) (u r : List T) (y : A) →
      count < n → item u ≡ took y r → read_join_most kind n first cause f item (x, count) u ≡ took (f x y, count + 1) r
  unfolding read_join_most
  join_took n first cause f item count x u r y l e =
      read_within_room kind _ first cause _ u (lt-ltb count n l) ∙ read_of_took _ item u r y e

  joined_most_stops : {A : Type 0} (k n : ℕ) (first : List ℕ) (cause : Cause) (f : A → A → A) (item : List T → Reading T A) (count : ℕ) (x : A) (t : T) (u r : List T) (c : Cause) →
      kind t ≡ k → read_join_most kind n first cause f item (x, count) u ≡ stops c r →
      read_joined_most kind k n first cause f item count x (t ∷ u) ≡ stops c r
  unfolding read_joined_most
  joined_most_stops k n first cause f item count x t u r c e g =
      read_of_stops _ _ (t ∷ u) r c (read_loop_stops kind (k ∷ []) (λ z. read_skip kind k (read_join_most kind n first cause f item z)) (x, count) (t ∷ u) r c (starts_here k t u e)
      (read_skip_took kind k (read_join_most kind n first cause f item (x, count)) t u e ∙ g))

  pub read_joined_most_end : {A : Type 0} (k n : ℕ) (first : List ℕ) (cause : Cause) (f : A → A → A) (item : List T → Reading T A) (count : ℕ) (x : A) (u : List T) →
      starts kind (k ∷ []) u ≡ false → read_joined_most kind k n first cause f item count x u ≡ took x u
  unfolding read_joined_most
  read_joined_most_end k n first cause f item count x u e = read_of_took _ _ u u (x, count) (read_loop_end kind (k ∷ []) _ (x, count) u e)

  pub read_joined_most_stops : {A : Type 0} (k n : ℕ) (first : List ℕ) (cause : Cause) (f : A → A → A) (item : List T → Reading T A) (count : ℕ) (x : A) (t : T) (u r : List T) (c : Cause) →
      kind t ≡ k → count < n → item u ≡ stops c r → read_joined_most kind k n first cause f item count x (t ∷ u) ≡ stops c r
  unfolding read_join_most
  read_joined_most_stops k n first cause f item count x t u r c e l g =
      joined_most_stops k n first cause f item count x t u r c e (read_within_room kind _ first cause _ u (lt-ltb count n l) ∙ read_of_stops _ item u r c g)

  pub read_joined_most_passed : {A : Type 0} (k n : ℕ) (first : List ℕ) (cause : Cause) (f : A → A → A) (item : List T → Reading T A) (count : ℕ) (x : A) (t : T) (u : List T) →
      kind t ≡ k → n ≤ count → starts kind first u ≡ true → read_joined_most kind k n first cause f item count x (t ∷ u) ≡ stops cause u
  unfolding read_join_most
  read_joined_most_passed k n first cause f item count x t u e l g =
      joined_most_stops k n first cause f item count x t u u cause e (read_within_passed kind _ first cause _ u (le-ltb count n l) g)

  pub read_joined_most_other : {A : Type 0} (k n : ℕ) (first : List ℕ) (cause : Cause) (f : A → A → A) (item : List T → Reading T A) (count : ℕ) (x : A) (t : T) (u : List T) →
      kind t ≡ k → n ≤ count → starts kind first u ≡ false → read_joined_most kind k n first cause f item count x (t ∷ u) ≡ stops expected u
  unfolding read_join_most
  read_joined_most_other k n first cause f item count x t u e l g =
      joined_most_stops k n first cause f item count x t u u expected e (read_within_other kind _ first cause _ u (le-ltb count n l) g)

  pub read_joined_most_more : {A : Type 0} (k n : ℕ) (first : List ℕ) (cause : Cause) (f : A → A → A) (item : List T → Reading T A) (count : ℕ) (x : A) (t : T) (u r : List T) (y : A) →
      kind t ≡ k → count < n → item u ≡ took y r → length r < suc (length u) →
      read_joined_most kind k n first cause f item count x (t ∷ u) ≡ read_joined_most kind k n first cause f item (count + 1) (f x y) r
  unfolding read_joined_most read_of
  read_joined_most_more k n first cause f item count x t u r y e l g h =
      ap (λ o. on_took o (λ z m. took z.0 m)) (read_loop_more kind (k ∷ []) (λ z. read_skip kind k (read_join_most kind n first cause f item z)) (x, count) (f x y, count + 1) (t ∷ u) r (starts_here k t u e)
      (read_skip_took kind k (read_join_most kind n first cause f item (x, count)) t u e ∙ join_took n first cause f item count x u r y l g) h)

  pub read_folded_most_stops : {A : Type 0} (k n : ℕ) (first : List ℕ) (cause : Cause) (f : A → A → A) (item : List T → Reading T A) (u r : List T) (c : Cause) →
      item u ≡ stops c r → read_folded_most kind k n first cause f item u ≡ stops c r
  unfolding read_folded_most
  read_folded_most_stops k n first cause f item u r c e = ap (λ o. on_took o (λ x m. read_joined_most kind k n first cause f item 1 x m)) e

  pub read_folded_most_more : {A : Type 0} (k n : ℕ) (first : List ℕ) (cause : Cause) (f : A → A → A) (item : List T → Reading T A) (u r : List T) (x : A) →
      item u ≡ took x r → read_folded_most kind k n first cause f item u ≡ read_joined_most kind k n first cause f item 1 x r
  unfolding read_folded_most
  read_folded_most_more k n first cause f item u r x e = ap (λ o. on_took o (λ y m. read_joined_most kind k n first cause f item 1 y m)) e

-- the steps of loops, lists and chains
pub ruleset list_steps = (read_loop_end, read_loop_stops, read_loop_more, starts_here, starts_other, read_many_end, read_many_stops, read_many_more, read_most_end, read_most_stops, read_most_passed, read_most_more, read_others_end, read_others_stops, read_others_more, read_separated_stops, read_separated_more, read_others_most_end, read_others_most_stops, read_others_most_passed, read_others_most_other, read_others_most_more, read_separated_most_stops, read_separated_most_more, read_joined_end, read_joined_stops, read_joined_more, read_chain_stops, read_chain_more, read_joined_most_end, read_joined_most_stops, read_joined_most_passed, read_joined_most_other, read_joined_most_more, read_folded_most_stops, read_folded_most_more)
