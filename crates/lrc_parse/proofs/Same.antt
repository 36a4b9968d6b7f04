-- The combinators that are made of others: the same sentences, and the same readings.
use Rattle.std.proofs.Common.{◌≡◌, ℕ, zero, suc, ◌+◌, ◌<◌, ◌≤◌, eqb, ltb, Bool, true, false, cond, Option, Some, None, List, [], ◌∷◌, ◌++◌, length, refl, sym, ap, ◌∙◌, subst, append_assoc, length-append, arith}
use Rattle.std.proofs.lemmas.List.{append-nil}
use Rattle.std.proofs.lemmas.Bool.{lt-ltb, ltb-true, eqb-true, eq-eqb}
use Rattle.lrc_parse.specs.Language.{Lang, One, Of, Then, Given, Within, Many, Most, fold_left, Chain, Folded, Turns, Loop, Fixed, Skip, Ends, Separated}
use Rattle.lrc_parse.specs.Reading.{Cause, expected, Reading, took, stops, on_took, token_value, past_token, read_one, read_of, read_then, read_given, read_fixed, read_within, read_skip, read_ends, read_loop, read_push, read_many, read_push_most, read_most, read_others, read_separated, read_others_most, read_separated_most, read_join_most, read_joined_most, read_folded_most, read_joined, read_chain}

-- `xs` with one item more
abbrev pub pushed : {A : Type 0} → List A → A → List A
pushed xs x = xs ++ x ∷ []

fold_pushed : {A : Type 0} (xs ys : List A) → fold_left pushed xs ys ≡ xs ++ ys
fold_pushed xs [] = sym (append-nil xs)
fold_pushed xs (y ∷ ys) = fold_pushed (xs ++ y ∷ []) ys ∙ append_assoc xs (y ∷ []) ys

length_pushed : {A : Type 0} (xs : List A) (y : A) → length (xs ++ y ∷ []) ≡ suc (length xs)
length_pushed xs y = let f : length (xs ++ y ∷ []) ≡ length xs + length (y ∷ []) = length-append xs (y ∷ []) in omega (arith, f)

module _ {T : Type 0} where
  -- one and then the other, by the pair of both
  abbrev pub then_parts : {A B : Type 0} → Lang T A → Lang T B → Lang T (A × B)
  then_parts L M = Given L (λ x. Of (λ y. (x, y)) M)

  pub then_to : {A B : Type 0} (L : Lang T A) (M : Lang T B) (u : List T) (z : A × B) → then_parts L M u z → Then L M u z
  then_to L M u z m = subst (λ v. Then L M u v) (sym m.5.2) (m.0, m.1, m.3, m.4, m.5.1)

  pub then_from : {A B : Type 0} (L : Lang T A) (M : Lang T B) (u : List T) (z : A × B) → Then L M u z → then_parts L M u z
  then_from L M u z m = (m.0, m.1, z.0, m.2, m.3, (z.1, m.4, refl))

  pub then_same : {A B : Type 0} (a : List T → Reading T A) (b : List T → Reading T B) (u : List T) →
      read_then a b u ≡ read_given a (λ x. read_of (λ y. (x, y)) b) u
  unfolding read_then read_given read_of
  then_same a b u = refl

  -- turns that join an item each stand for the fold of the items
  pub turns_fold : {A X : Type 0} (f : A → X → A) (M : Lang T X) (k : ℕ) (x : A) (u : List T) (y : A) →
      Turns (λ z. Of (f z) M) k x u y → (ys : List X) × Many M u ys × (y ≡ fold_left f x ys)
  turns_fold f M zero x u y m = ([], m.0, m.1)
  turns_fold {A} {X} f M (suc k) x u y m =
      let w : (ys : List X) × Many M m.1 ys × (y ≡ fold_left f m.2 ys) = turns_fold f M k m.2 m.1 y m.5 in
      (m.4.0 ∷ w.0, (m.0, m.1, m.3, m.4.1, w.1), w.2 ∙ ap (λ z. fold_left f z w.0) m.4.2)

  pub fold_turns : {A X : Type 0} (f : A → X → A) (M : Lang T X) (x : A) (ys : List X) (u : List T) →
      Many M u ys → Turns (λ z. Of (f z) M) (length ys) x u (fold_left f x ys)
  fold_turns f M x [] u m = (m, refl)
  fold_turns f M x (y ∷ ys) u m = (m.0, m.1, f x y, m.2, (y, m.3, refl), fold_turns f M (f x y) ys m.1 m.4)

  pub many_to : {A : Type 0} (L : Lang T A) (u : List T) (zs : List A) → Loop (λ ys. Of (pushed ys) L) [] u zs → Many L u zs
  many_to {A} L u zs m =
      let w : (ys : List A) × Many L u ys × (zs ≡ fold_left pushed [] ys) = turns_fold pushed L m.0 [] u zs m.1 in
      subst (λ v. Many L u v) (sym (w.2 ∙ fold_pushed [] w.0)) w.1

  pub many_from : {A : Type 0} (L : Lang T A) (u : List T) (zs : List A) → Many L u zs → Loop (λ ys. Of (pushed ys) L) [] u zs
  many_from L u zs m =
      (length zs, subst (λ v. Turns (λ ys. Of (pushed ys) L) (length zs) [] u v) (fold_pushed [] zs) (fold_turns pushed L [] zs u m))

  -- one item more, where there is room
  abbrev pub push_step : {A : Type 0} → ℕ → Lang T A → List A → Lang T (List A)
  push_step n L ys = Within (ltb (length ys) n) (Of (pushed ys) L)

  turns_most : {A : Type 0} (n : ℕ) (L : Lang T A) (k : ℕ) (xs : List A) (u : List T) (zs : List A) →
      Turns (push_step n L) k xs u zs → length xs ≤ n →
      (ys : List A) × Many L u ys × (zs ≡ fold_left pushed xs ys) × (length zs ≤ n)
  turns_most n L zero xs u zs m h = ([], m.0, m.1, subst (λ v. length v ≤ n) (sym m.1) h)
  turns_most {A} n L (suc k) xs u zs m h =
      let lt : length xs < n = ltb-true (length xs) n m.4.0 in
      let e : length (xs ++ m.4.1.0 ∷ []) ≡ suc (length xs) = length_pushed xs m.4.1.0 in
      let f : length m.2 ≡ length (xs ++ m.4.1.0 ∷ []) = ap length m.4.1.2 in
      let w : (ys : List A) × Many L m.1 ys × (zs ≡ fold_left pushed m.2 ys) × (length zs ≤ n) = turns_most n L k m.2 m.1 zs m.5 (omega (arith, lt, e, f)) in
      (m.4.1.0 ∷ w.0, (m.0, m.1, m.3, m.4.1.1, w.1), ◌∙◌ {b = fold_left pushed m.2 w.0} w.2 (ap (λ z. fold_left pushed z w.0) m.4.1.2), w.3)

  most_turns : {A : Type 0} (n : ℕ) (L : Lang T A) (xs ys : List A) (u : List T) → Many L u ys → length xs + length ys ≤ n →
      Turns (push_step n L) (length ys) xs u (fold_left pushed xs ys)
  most_turns n L xs [] u m h = (m, refl)
  most_turns n L xs (y ∷ ys) u m h =
      let e : length (xs ++ y ∷ []) ≡ suc (length xs) = length_pushed xs y in
      (m.0, m.1, xs ++ y ∷ [], m.2, (lt-ltb (length xs) n (omega (arith, h)), (y, m.3, refl)), most_turns n L (xs ++ y ∷ []) ys m.1 m.4 (omega (arith, h, e)))

  pub most_to : {A : Type 0} (n : ℕ) (L : Lang T A) (u : List T) (zs : List A) → Loop (push_step n L) [] u zs → Most n (Many L) u zs
  most_to {A} n L u zs m =
      let w : (ys : List A) × Many L u ys × (zs ≡ fold_left pushed [] ys) × (length zs ≤ n) = turns_most n L m.0 [] u zs m.1 (omega arith) in
      (subst (λ v. Many L u v) (sym (w.2 ∙ fold_pushed [] w.0)) w.1, w.3)

  pub most_from : {A : Type 0} (n : ℕ) (L : Lang T A) (u : List T) (zs : List A) → Most n (Many L) u zs → Loop (push_step n L) [] u zs
  most_from n L u zs m =
      let h : length zs ≤ n = m.1 in
      (length zs, subst (λ v. Turns (push_step n L) (length zs) [] u v) (fold_pushed [] zs) (most_turns n L [] zs u m.0 (omega (arith, h))))

  -- a first value, and then turns that join an item each
  abbrev pub chain_parts : {A X : Type 0} → (A → X → A) → Lang T A → Lang T X → Lang T A
  chain_parts f L M = Given L (λ x. Loop (λ y. Of (f y) M) x)

  pub chain_to : {A X : Type 0} (f : A → X → A) (L : Lang T A) (M : Lang T X) (u : List T) (y : A) → chain_parts f L M u y → Chain f L M u y
  chain_to {A} {X} f L M u y m =
      let w : (xs : List X) × Many M m.1 xs × (y ≡ fold_left f m.2 xs) = turns_fold f M m.5.0 m.2 m.1 y m.5.1 in
      (m.0, m.1, m.2, w.0, m.3, m.4, w.1, w.2)

  pub chain_from : {A X : Type 0} (f : A → X → A) (L : Lang T A) (M : Lang T X) (u : List T) (y : A) → Chain f L M u y → chain_parts f L M u y
  chain_from f L M u y m =
      (m.0, m.1, m.2, m.4, m.5, (length m.3, subst (λ v. Turns (λ z. Of (f z) M) (length m.3) m.2 m.1 v) (sym m.7) (fold_turns f M m.2 m.3 m.1 m.6)))

module _ {T : Type 0} (kind : T → ℕ) where
  -- a token of the kind has the empty value
  abbrev pub kind_value : ℕ → T → Option (Unit {0})
  kind_value k t = cond (eqb (kind t) k) (Some tt) None

  pub fixed_to : (k : ℕ) (u : List T) (x : Unit {0}) → One (kind_value k) u x → Fixed kind k u x
  fixed_to k u x m = (m.0, m.1, go (eqb (kind m.0) k) refl m.2)
    where
      go : (b : Bool) → eqb (kind m.0) k ≡ b → cond b (Some tt) None ≡ Some x → kind m.0 ≡ k
      go true e f = eqb-true (kind m.0) k e
      go false e f = cc

  pub fixed_from : (k : ℕ) (u : List T) (x : Unit {0}) → Fixed kind k u x → One (kind_value k) u x
  fixed_from k u x m = (m.0, m.1, ap (λ b. cond b (Some tt) None) (eq-eqb (kind m.0) k m.2))

  pub fixed_same : (k : ℕ) (u : List T) → read_fixed kind k u ≡ read_one (kind_value k) u
  unfolding read_fixed read_one
  fixed_same k [] = refl
  fixed_same k (t ∷ r) = go (eqb (kind t) k)
    where
      go : (b : Bool) → cond b (let o : Unit {0} = tt in took o r) (stops expected (t ∷ r)) ≡ token_value (cond b (Some tt) None) t r
      go true = refl
      go false = refl

  pub skip_to : {A : Type 0} (k : ℕ) (L : Lang T A) (u : List T) (x : A) → Given (Fixed kind k) (λ _. L) u x → Skip kind k L u x
  skip_to k L u x m = (m.4.0, m.1, m.3 ∙ ap (λ p. p ++ m.1) m.4.1, m.4.2, m.5)

  pub skip_same : {A : Type 0} (k : ℕ) (a : List T → Reading T A) (u : List T) → read_skip kind k a u ≡ read_given (read_fixed kind k) (λ _. a) u
  unfolding read_skip read_given read_fixed
  skip_same k a [] = refl
  skip_same {A} k a (t ∷ r) = go (eqb (kind t) k)
    where
      go : (b : Bool) → cond b (a r) (stops expected (t ∷ r)) ≡ on_took (cond b (let o : Unit {0} = tt in took o r) (stops expected (t ∷ r))) (λ _. a)
      go true = refl
      go false = refl

  -- a value, and then a token of the kind
  abbrev pub ends_parts : {A : Type 0} → Lang T A → ℕ → Lang T A
  ends_parts L k = Given L (λ x. Of (λ _. x) (Fixed kind k))

  pub ends_to : {A : Type 0} (L : Lang T A) (k : ℕ) (u : List T) (z : A) → ends_parts L k u z → Ends kind L k u z
  ends_to L k u z m = (m.0, m.5.1.0, m.3 ∙ ap (λ w. m.0 ++ w) m.5.1.1, subst (λ v. L m.0 v) (sym m.5.2) m.4, m.5.1.2)

  pub ends_from : {A : Type 0} (L : Lang T A) (k : ℕ) (u : List T) (z : A) → Ends kind L k u z → ends_parts L k u z
  ends_from L k u z m = (m.0, m.1 ∷ [], z, m.2, m.3, (tt, (m.1, refl, m.4), refl))

  ends_behind : {A : Type 0} (k : ℕ) (x : A) (r : List T) → past_token kind k (λ s. took x s) r ≡ read_of (λ _. x) (read_fixed kind k) r
  unfolding read_of read_fixed
  ends_behind k x [] = refl
  ends_behind k x (t ∷ r) = go (eqb (kind t) k)
    where
      go : (b : Bool) → cond b (took x r) (stops expected (t ∷ r)) ≡ on_took (cond b (let o : Unit {0} = tt in took o r) (stops expected (t ∷ r))) (λ _ m. took x m)
      go true = refl
      go false = refl

  ends_under : {A : Type 0} (k : ℕ) (o : Reading T A) → on_took o (λ x r. past_token kind k (λ s. took x s) r) ≡ on_took o (λ x. read_of (λ _. x) (read_fixed kind k))
  ends_under k (took x r) = ends_behind k x r
  ends_under k (stops c r) = refl

  pub ends_same : {A : Type 0} (a : List T → Reading T A) (k : ℕ) (u : List T) → read_ends kind a k u ≡ read_given a (λ x. read_of (λ _. x) (read_fixed kind k)) u
  unfolding read_ends read_given
  ends_same a k u = ends_under k (a u)

  pub many_same : {A : Type 0} (first : List ℕ) (a : List T → Reading T A) (u : List T) →
      read_many kind first a [] u ≡ read_loop kind first (λ ys. read_of (pushed ys) a) [] u
  unfolding read_many read_push
  many_same first a u = refl

  pub most_same : {A : Type 0} (n : ℕ) (first : List ℕ) (c : Cause) (a : List T → Reading T A) (u : List T) →
      read_most kind n first c a [] u ≡ read_loop kind first (λ ys. read_within kind (ltb (length ys) n) first c (read_of (pushed ys) a)) [] u
  unfolding read_most read_push_most read_push
  most_same n first c a u = refl

  pub chain_same : {A X : Type 0} (f : A → X → A) (a : List T → Reading T A) (first : List ℕ) (b : List T → Reading T X) (u : List T) →
      read_chain kind f a first b u ≡ read_given a (λ x. read_loop kind first (λ y. read_of (f y) b) x) u
  unfolding read_chain read_given read_joined
  chain_same f a first b u = refl

  -- a separator, and one item more
  abbrev pub other_step : {A : Type 0} → ℕ → Lang T A → List A → Lang T (List A)
  other_step k L ys = Skip kind k (Of (pushed ys) L)

  abbrev pub separated_parts : {A : Type 0} → ℕ → Lang T A → Lang T (List A)
  separated_parts k L = Given L (λ x. Loop (other_step k L) (x ∷ []))

  others_out : {A : Type 0} (k : ℕ) (L : Lang T A) (j : ℕ) (xs : List A) (u : List T) (zs : List A) → Turns (other_step k L) j xs u zs →
      (ys : List A) × Many (Skip kind k L) u ys × (zs ≡ fold_left pushed xs ys)
  others_out k L zero xs u zs m = ([], m.0, m.1)
  others_out {A} k L (suc j) xs u zs m =
      let w : (ys : List A) × Many (Skip kind k L) m.1 ys × (zs ≡ fold_left pushed m.2 ys) = others_out k L j m.2 m.1 zs m.5 in
      (m.4.4.0 ∷ w.0, (m.0, m.1, m.3, (m.4.0, m.4.1, m.4.2, m.4.3, m.4.4.1), w.1), w.2 ∙ ap (λ z. fold_left pushed z w.0) m.4.4.2)

  others_back : {A : Type 0} (k : ℕ) (L : Lang T A) (xs ys : List A) (u : List T) → Many (Skip kind k L) u ys →
      Turns (other_step k L) (length ys) xs u (fold_left pushed xs ys)
  others_back k L xs [] u m = (m, refl)
  others_back k L xs (y ∷ ys) u m =
      (m.0, m.1, pushed xs y, m.2, (m.3.0, m.3.1, m.3.2, m.3.3, (y, m.3.4, refl)), others_back k L (pushed xs y) ys m.1 m.4)

  pub separated_to : {A : Type 0} (k : ℕ) (L : Lang T A) (u : List T) (zs : List A) → separated_parts k L u zs → Separated kind k L u zs
  separated_to {A} k L u zs m =
      let w : (ys : List A) × Many (Skip kind k L) m.1 ys × (zs ≡ fold_left pushed (m.2 ∷ []) ys) = others_out k L m.5.0 (m.2 ∷ []) m.1 zs m.5.1 in
      subst (λ v. Separated kind k L u v) (sym (w.2 ∙ fold_pushed (m.2 ∷ []) w.0)) (m.0, m.1, m.3, m.4, w.1)

  pub separated_from : {A : Type 0} (k : ℕ) (L : Lang T A) (u : List T) (zs : List A) → Separated kind k L u zs → separated_parts k L u zs
  separated_from k L u [] m = absurd m
  separated_from k L u (x ∷ xs) m =
      (m.0, m.1, x, m.2, m.3, (length xs, subst (λ v. Turns (other_step k L) (length xs) (x ∷ []) m.1 v) (fold_pushed (x ∷ []) xs) (others_back k L (x ∷ []) xs m.1 m.4)))

  pub separated_same : {A : Type 0} (k : ℕ) (a : List T → Reading T A) (u : List T) →
      read_separated kind k a u ≡ read_given a (λ x. read_loop kind (k ∷ []) (λ ys. read_skip kind k (read_of (pushed ys) a)) (x ∷ [])) u
  unfolding read_separated read_given read_others read_push
  separated_same k a u = refl

  -- a separator, and one item more where there is room
  abbrev pub other_most : {A : Type 0} → ℕ → ℕ → Lang T A → List A → Lang T (List A)
  other_most k n L ys = Skip kind k (push_step n L ys)

  abbrev pub separated_most_parts : {A : Type 0} → ℕ → ℕ → Lang T A → Lang T (List A)
  separated_most_parts k n L = Given L (λ x. Loop (other_most k n L) (x ∷ []))

  others_most_out : {A : Type 0} (k n : ℕ) (L : Lang T A) (j : ℕ) (xs : List A) (u : List T) (zs : List A) → Turns (other_most k n L) j xs u zs → length xs ≤ n →
      (ys : List A) × Many (Skip kind k L) u ys × (zs ≡ fold_left pushed xs ys) × (length zs ≤ n)
  others_most_out k n L zero xs u zs m h = ([], m.0, m.1, subst (λ v. length v ≤ n) (sym m.1) h)
  others_most_out {A} k n L (suc j) xs u zs m h =
      let lt : length xs < n = ltb-true (length xs) n m.4.4.0 in
      let e : length (xs ++ m.4.4.1.0 ∷ []) ≡ suc (length xs) = length_pushed xs m.4.4.1.0 in
      let f : length m.2 ≡ length (xs ++ m.4.4.1.0 ∷ []) = ap length m.4.4.1.2 in
      let w : (ys : List A) × Many (Skip kind k L) m.1 ys × (zs ≡ fold_left pushed m.2 ys) × (length zs ≤ n) = others_most_out k n L j m.2 m.1 zs m.5 (omega (arith, lt, e, f)) in
      (m.4.4.1.0 ∷ w.0, (m.0, m.1, m.3, (m.4.0, m.4.1, m.4.2, m.4.3, m.4.4.1.1), w.1), ◌∙◌ {b = fold_left pushed m.2 w.0} w.2 (ap (λ z. fold_left pushed z w.0) m.4.4.1.2), w.3)

  others_most_back : {A : Type 0} (k n : ℕ) (L : Lang T A) (xs ys : List A) (u : List T) → Many (Skip kind k L) u ys → length xs + length ys ≤ n →
      Turns (other_most k n L) (length ys) xs u (fold_left pushed xs ys)
  others_most_back k n L xs [] u m h = (m, refl)
  others_most_back k n L xs (y ∷ ys) u m h =
      let e : length (xs ++ y ∷ []) ≡ suc (length xs) = length_pushed xs y in
      (m.0, m.1, pushed xs y, m.2, (m.3.0, m.3.1, m.3.2, m.3.3, (lt-ltb (length xs) n (omega (arith, h)), (y, m.3.4, refl))), others_most_back k n L (pushed xs y) ys m.1 m.4 (omega (arith, h, e)))

  pub separated_most_to : {A : Type 0} (k n : ℕ) (L : Lang T A) → 1 ≤ n → (u : List T) (zs : List A) → separated_most_parts k n L u zs → Most n (Separated kind k L) u zs
  separated_most_to {A} k n L one u zs m =
      let w : (ys : List A) × Many (Skip kind k L) m.1 ys × (zs ≡ fold_left pushed (m.2 ∷ []) ys) × (length zs ≤ n) = others_most_out k n L m.5.0 (m.2 ∷ []) m.1 zs m.5.1 (omega (arith, one)) in
      (subst (λ v. Separated kind k L u v) (sym (w.2 ∙ fold_pushed (m.2 ∷ []) w.0)) (m.0, m.1, m.3, m.4, w.1), w.3)

  pub separated_most_from : {A : Type 0} (k n : ℕ) (L : Lang T A) (u : List T) (zs : List A) → Most n (Separated kind k L) u zs → separated_most_parts k n L u zs
  separated_most_from k n L u [] m = absurd m.0
  separated_most_from k n L u (x ∷ xs) m =
      let h : length (x ∷ xs) ≤ n = m.1 in
      (m.0.0, m.0.1, x, m.0.2, m.0.3, (length xs, subst (λ v. Turns (other_most k n L) (length xs) (x ∷ []) m.0.1 v) (fold_pushed (x ∷ []) xs) (others_most_back k n L (x ∷ []) xs m.0.1 m.0.4 (omega (arith, h)))))

  pub separated_most_same : {A : Type 0} (k n : ℕ) (first : List ℕ) (c : Cause) (a : List T → Reading T A) (u : List T) →
      read_separated_most kind k n first c a u ≡
      read_given a (λ x. read_loop kind (k ∷ []) (λ ys. read_skip kind k (read_within kind (ltb (length ys) n) first c (read_of (pushed ys) a))) (x ∷ [])) u
  unfolding read_separated_most read_given read_others_most read_push_most read_push
  separated_most_same k n first c a u = refl

  -- a separator, and one item joined to the value so far where there is room
  abbrev pub join_step : {A : Type 0} → ℕ → ℕ → (A → A → A) → Lang T A → A × ℕ → Lang T (A × ℕ)
  join_step k n f L z = Skip kind k (Within (ltb z.1 n) (Of (λ y. (f z.0 y, z.1 + 1)) L))

  abbrev pub folded_parts : {A : Type 0} → ℕ → ℕ → (A → A → A) → Lang T A → Lang T A
  folded_parts {A} k n f L = Given L (λ x. Of (λ (z : A × ℕ). z.0) (Loop (join_step k n f L) (x, 1)))

  join_out : {A : Type 0} (k n : ℕ) (f : A → A → A) (L : Lang T A) (j : ℕ) (x : A) (c : ℕ) (u : List T) (z : A × ℕ) →
      Turns (join_step k n f L) j (x, c) u z → c ≤ n →
      (ys : List A) × Many (Skip kind k L) u ys × (z.0 ≡ fold_left f x ys) × (c + length ys ≤ n)
  join_out k n f L zero x c u z m h = ([], m.0, ap (λ w. w.0) m.1, omega (arith, h))
  join_out {A} k n f L (suc j) x c u z m h =
      let lt : c < n = ltb-true c n m.4.4.0 in
      let t : Turns (join_step k n f L) j (f x m.4.4.1.0, c + 1) m.1 z = subst (λ w. Turns (join_step k n f L) j w m.1 z) m.4.4.1.2 m.5 in
      let w : (ys : List A) × Many (Skip kind k L) m.1 ys × (z.0 ≡ fold_left f (f x m.4.4.1.0) ys) × (c + 1 + length ys ≤ n) = join_out k n f L j (f x m.4.4.1.0) (c + 1) m.1 z t (omega (arith, lt)) in
      let b : c + 1 + length w.0 ≤ n = w.3 in
      (m.4.4.1.0 ∷ w.0, (m.0, m.1, m.3, (m.4.0, m.4.1, m.4.2, m.4.3, m.4.4.1.1), w.1), w.2, omega (arith, b))

  join_back : {A : Type 0} (k n : ℕ) (f : A → A → A) (L : Lang T A) (x : A) (c : ℕ) (ys : List A) (u : List T) →
      Many (Skip kind k L) u ys → c + length ys ≤ n →
      (d : ℕ) × Turns (join_step k n f L) (length ys) (x, c) u (fold_left f x ys, d)
  join_back k n f L x c [] u m h = (c, (m, refl))
  join_back {A} k n f L x c (y ∷ ys) u m h =
      let w : (d : ℕ) × Turns (join_step k n f L) (length ys) (f x y, c + 1) m.1 (fold_left f (f x y) ys, d) = join_back k n f L (f x y) (c + 1) ys m.1 m.4 (omega (arith, h)) in
      (w.0, (m.0, m.1, (f x y, c + 1), m.2, (m.3.0, m.3.1, m.3.2, m.3.3, (lt-ltb c n (omega (arith, h)), (y, m.3.4, refl))), w.1))

  pub folded_most_to : {A : Type 0} (k n : ℕ) (f : A → A → A) (L : Lang T A) → 1 ≤ n → (u : List T) (y : A) → folded_parts k n f L u y → Folded f (Most n (Separated kind k L)) u y
  folded_most_to {A} k n f L one u y m =
      let w : (ys : List A) × Many (Skip kind k L) m.1 ys × (m.5.0.0 ≡ fold_left f m.2 ys) × (1 + length ys ≤ n) = join_out k n f L m.5.1.0 m.2 1 m.1 m.5.0 m.5.1.1 one in
      let b : 1 + length w.0 ≤ n = w.3 in
      (m.2, w.0, ((m.0, m.1, m.3, m.4, w.1), omega (arith, b)), m.5.2 ∙ w.2)

  pub folded_most_from : {A : Type 0} (k n : ℕ) (f : A → A → A) (L : Lang T A) (u : List T) (y : A) → Folded f (Most n (Separated kind k L)) u y → folded_parts k n f L u y
  folded_most_from {A} k n f L u y m =
      let b : length (m.0 ∷ m.1) ≤ n = m.2.1 in
      let w : (d : ℕ) × Turns (join_step k n f L) (length m.1) (m.0, 1) m.2.0.1 (fold_left f m.0 m.1, d) = join_back k n f L m.0 1 m.1 m.2.0.1 m.2.0.4 (omega (arith, b)) in
      (m.2.0.0, m.2.0.1, m.0, m.2.0.2, m.2.0.3, ((fold_left f m.0 m.1, w.0), (length m.1, w.1), m.3))

  pub folded_most_same : {A : Type 0} (k n : ℕ) (first : List ℕ) (c : Cause) (f : A → A → A) (a : List T → Reading T A) (u : List T) →
      read_folded_most kind k n first c f a u ≡
      read_given a (λ x. read_of (λ (z : A × ℕ). z.0) (read_loop kind (k ∷ []) (λ z. read_skip kind k (read_within kind (ltb z.1 n) first c (read_of (λ y. (f z.0 y, z.1 + 1)) a))) (x, 1))) u
  unfolding read_folded_most read_given read_joined_most read_join_most read_of
  folded_most_same k n first c f a u = refl
