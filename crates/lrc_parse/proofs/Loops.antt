-- The loop: its steps, and that its reading is exact where each turn's is.
use Rattle.std.proofs.Common.{◌≡◌, ℕ, zero, suc, ◌+◌, ◌<◌, ◌≤◌, ltb, Bool, true, false, cond, List, [], ◌∷◌, ◌++◌, length, refl, sym, ap, ◌∙◌, ◌⊎◌, inl, inr, append_assoc, length-append, arith}
use Rattle.std.proofs.lemmas.Bool.{lt-ltb, ltb-true}
use Rattle.lrc_parse.specs.Kinds.{has, disjoint, starts}
use Rattle.lrc_parse.specs.Language.{Lang, Turns, Loop, Nested, Nothing}
use Rattle.lrc_parse.specs.Reading.{Cause, nested, Reading, took, stops, on_took, read_turns, read_loop, read_nothing, read_nested}
use Rattle.lrc_parse.specs.Exact.{Shape, Exact, shape_many}
use Rattle.lrc_parse.proofs.Sets.{true_not_false, apart, clear_left, clear_right}
use Rattle.lrc_parse.proofs.Back.{same_value, same_rest, on_took_back, cond_cases}
use Rattle.lrc_parse.proofs.Parts.{same_head, not_nil, two_parts, exact_as, exact_nothing}

cond_same : {X : Type 0} (b : Bool) (x y z : X) → (b ≡ true → x ≡ y) → cond b x z ≡ cond b y z
cond_same true x y z h = h refl
cond_same false x y z h = refl

module _ {T : Type 0} where
  on_took_same : {A B : Type 0} (o : Reading T A) (f g : A → List T → Reading T B) →
      ((x : A) (r : List T) → f x r ≡ g x r) → on_took o f ≡ on_took o g
  on_took_same (took x r) f g h = h x r
  on_took_same (stops c r) f g h = refl

module _ {T : Type 0} (kind : T → ℕ) {S : Type 0} (first : List ℕ) (step : S → List T → Reading T S) where
  -- what follows a turn
  abbrev after_turn : ℕ → List T → S → List T → Reading T S
  after_turn n u z r = cond (ltb (length r) (length u)) (read_turns kind first step n z r) (took z r)

  -- any number of turns that is at least the number of tokens gives the same
  turns_same : (n m : ℕ) (s : S) (u : List T) → length u ≤ n → length u ≤ m → read_turns kind first step n s u ≡ read_turns kind first step m s u
  unfolding read_turns
  turns_same zero zero s u i j = refl
  turns_same zero (suc m) s [] i j = refl
  turns_same zero (suc m) s (t ∷ u) i j = absurd (omega (arith, i))
  turns_same (suc n) zero s [] i j = refl
  turns_same (suc n) zero s (t ∷ u) i j = absurd (omega (arith, j))
  turns_same (suc n) (suc m) s u i j =
      cond_same (starts kind first u) _ _ _ (λ _. on_took_same (step s u) _ _ (λ z r.
      cond_same (ltb (length r) (length u)) _ _ _ (λ l.
      let k : length r < length u = ltb-true (length r) (length u) l in
      turns_same n m z r (omega (arith, k, i)) (omega (arith, k, j)))))

  pub read_loop_end : (s : S) (u : List T) → starts kind first u ≡ false → read_loop kind first step s u ≡ took s u
  unfolding read_loop read_turns
  read_loop_end s [] e = refl
  read_loop_end s (t ∷ u) e = ap (λ b. cond b (on_took (step s (t ∷ u)) (after_turn (length u) (t ∷ u))) (took s (t ∷ u))) e

  pub read_loop_stops : (s : S) (u r : List T) (c : Cause) → starts kind first u ≡ true → step s u ≡ stops c r →
      read_loop kind first step s u ≡ stops c r
  unfolding read_loop read_turns
  read_loop_stops s [] r c e f = absurd (true_not_false false e refl)
  read_loop_stops s (t ∷ u) r c e f =
      ap (λ b. cond b (on_took (step s (t ∷ u)) (after_turn (length u) (t ∷ u))) (took s (t ∷ u))) e ∙ ap (λ o. on_took o (after_turn (length u) (t ∷ u))) f

  pub read_loop_more : (s z : S) (u r : List T) → starts kind first u ≡ true → step s u ≡ took z r → length r < length u →
      read_loop kind first step s u ≡ read_loop kind first step z r
  unfolding read_loop read_turns
  read_loop_more s z [] r e f l = absurd (true_not_false false e refl)
  read_loop_more s z (t ∷ u) r e f l =
      ap (λ b. cond b (on_took (step s (t ∷ u)) (after_turn (length u) (t ∷ u))) (took s (t ∷ u))) e ∙ ap (λ o. on_took o (after_turn (length u) (t ∷ u))) f ∙
      ap (λ b. cond b (read_turns kind first step (length u) z r) (took z r)) (lt-ltb (length r) (suc (length u)) l) ∙
      turns_same (length u) (length r) z r (omega (arith, l)) (omega arith)

module _ {T : Type 0} (kind : T → ℕ) {S : Type 0} (s : Shape) (step : S → Lang T S) (read : S → List T → Reading T S) where
  pub exact_loop : s.empty ≡ false → disjoint s.more s.first ≡ true → ((z : S) → Exact kind s (step z) (read z)) →
      (z : S) → Exact kind (shape_many s) (Loop step z) (read_loop kind s.first read z)
  unfolding read_loop read_turns
  exact_loop n d e z = record { sound = sound; complete = complete; first = first; empty = λ x m. refl }
    where
      a_turn : (x w y : S) (u p q m r : List T) (k : ℕ) → u ≡ p ++ m → step x p w → m ≡ q ++ r → Turns step k w q y →
          (o : List T) × (u ≡ o ++ r) × Loop step x o y
      a_turn x w y u p q m r k i l j t = (p ++ q, two_parts u p m q r i j, (suc k, (p, q, w, refl, l, t)))

      sound_turns : (k : ℕ) (x : S) (u : List T) (y : S) (r : List T) → read_turns kind s.first read k x u ≡ took y r →
          (p : List T) × (u ≡ p ++ r) × Loop step x p y
      sound_turns zero x u y r h = ([], same_rest x y u r h, (zero, (refl, sym (same_value x y u r h))))
      sound_turns (suc k) x u y r h = go (cond_cases (starts kind s.first u) _ _ y r h) (sound_turns k)
        where
          on : (w : S) (m p : List T) → u ≡ p ++ m → step x p w →
              ((ltb (length m) (length u) ≡ true) × (read_turns kind s.first read k w m ≡ took y r)) ⊎ ((ltb (length m) (length u) ≡ false) × (took w m ≡ took y r)) →
              ((x : S) (u : List T) (y : S) (r : List T) → read_turns kind s.first read k x u ≡ took y r → (p : List T) × (u ≡ p ++ r) × Loop step x p y) →
              (p : List T) × (u ≡ p ++ r) × Loop step x p y
          on w m p i l (inl g) ih = let v : _ = ih w m y r g.1 in a_turn x w y u p v.0 m r v.2.0 i l v.1 v.2.1
          on w m p i l (inr g) ih = a_turn x w y u p [] m r zero i l (same_rest w y m r g.1) (refl, sym (same_value w y m r g.1))

          go : ((starts kind s.first u ≡ true) × (on_took (read x u) (λ z r. cond (ltb (length r) (length u)) (read_turns kind s.first read k z r) (took z r)) ≡ took y r)) ⊎ ((starts kind s.first u ≡ false) × (took x u ≡ took y r)) →
              ((x : S) (u : List T) (y : S) (r : List T) → read_turns kind s.first read k x u ≡ took y r → (p : List T) × (u ≡ p ++ r) × Loop step x p y) →
              (p : List T) × (u ≡ p ++ r) × Loop step x p y
          go (inl g) ih =
              let w : _ = on_took_back (read x u) (λ z r. cond (ltb (length r) (length u)) (read_turns kind s.first read k z r) (took z r)) y r g.1 in
              let v : _ = (e x).sound u w.0 w.1 w.2 in
              on w.0 w.1 v.0 v.1 v.2 (cond_cases (ltb (length w.1) (length u)) (read_turns kind s.first read k w.0 w.1) (took w.0 w.1) y r w.3) ih
          go (inr g) ih = ([], same_rest x y u r g.1, (zero, (refl, sym (same_value x y u r g.1))))

      sound : (u : List T) (y : S) (r : List T) → read_loop kind s.first read z u ≡ took y r → (p : List T) × (u ≡ p ++ r) × Loop step z p y
      sound u y r h = sound_turns (length u) z u y r h

      head_of : (x w : S) (t : T) (p o q : List T) → t ∷ p ≡ o ++ q → step x o w → has s.first (kind t) ≡ true
      head_of x w t p [] q i l = absurd (true_not_false _ ((e x).empty w l) n)
      head_of x w t p (h ∷ o) q i l = ap (λ v. has s.first (kind v)) (same_head t h p (o ++ q) i) ∙ (e x).first h o w l

      first_turns : (k : ℕ) (x : S) (t : T) (p : List T) (y : S) → Turns step k x (t ∷ p) y → has s.first (kind t) ≡ true
      first_turns zero x t p y m = absurd (not_nil t p (sym m.0))
      first_turns (suc k) x t p y m = head_of x m.2 t p m.0 m.1 m.3 m.4

      first : (t : T) (p : List T) (y : S) → Loop step z (t ∷ p) y → has s.first (kind t) ≡ true
      first t p y m = first_turns m.0 z t p y m.1

      clear_turns : (k : ℕ) (x : S) (q r : List T) (y : S) → Turns step k x q y → starts kind (s.first ++ s.more) r ≡ false → starts kind s.more (q ++ r) ≡ false
      clear_turns k x [] r y m c = clear_right kind s.first s.more r c
      clear_turns k x (h ∷ q) r y m c = apart s.more s.first (kind h) d (first_turns k x h q y m)

      starts_turn : (x w : S) (p m : List T) → step x p w → starts kind s.first (p ++ m) ≡ true
      starts_turn x w [] m l = absurd (true_not_false _ ((e x).empty w l) n)
      starts_turn x w (h ∷ p) m l = (e x).first h p w l

      shorter_turn : (x w : S) (p m : List T) → step x p w → length m < length (p ++ m)
      shorter_turn x w [] m l = absurd (true_not_false _ ((e x).empty w l) n)
      shorter_turn x w (h ∷ p) m l = let f : length (p ++ m) ≡ length p + length m = length-append p m in omega (arith, f)

      complete_turns : (k : ℕ) (x : S) (p r : List T) (y : S) → Turns step k x p y → starts kind (s.first ++ s.more) r ≡ false → read_loop kind s.first read x (p ++ r) ≡ took y r
      complete_turns zero x p r y m c =
          ap (λ q. read_loop kind s.first read x (q ++ r)) m.0 ∙ read_loop_end kind s.first read x r (clear_left kind s.first s.more r c) ∙ ap (λ v. took v r) (sym m.1)
      complete_turns (suc k) x p r y m c =
          ap (λ q. read_loop kind s.first read x (q ++ r)) m.3 ∙ ap (read_loop kind s.first read x) (append_assoc m.0 m.1 r) ∙
          read_loop_more kind s.first read x m.2 (m.0 ++ (m.1 ++ r)) (m.1 ++ r) (starts_turn x m.2 m.0 (m.1 ++ r) m.4)
          ((e x).complete m.0 (m.1 ++ r) m.2 m.4 (clear_turns k m.2 m.1 r y m.5 c)) (shorter_turn x m.2 m.0 (m.1 ++ r) m.4) ∙
          complete_turns k m.2 m.1 r y m.5 c

      complete : (p r : List T) (y : S) → Loop step z p y → starts kind (s.first ++ s.more) r ≡ false → read_loop kind s.first read z (p ++ r) ≡ took y r
      complete p r y m c = complete_turns m.0 z p r y m.1 c

module _ {T : Type 0} (kind : T → ℕ) where
  pub exact_nested : {A : Type 0} (s : Shape) (body : Lang T A → Lang T A) (read : (List T → Reading T A) → List T → Reading T A) →
      ((L : Lang T A) (a : List T → Reading T A) → Exact kind s L a → Exact kind s (body L) (read a)) →
      (depth : ℕ) → Exact kind s (Nested body depth) (read_nested kind read s.first depth)
  unfolding read_nested
  exact_nested s body read e zero =
      exact_as kind s (body Nothing) (Nested body zero) (read (read_nothing kind s.first nested)) (read_nested kind read s.first zero)
      (e Nothing (read_nothing kind s.first nested) (exact_nothing kind s nested)) (λ u x m. m) (λ u x m. m) (λ u. refl)
  exact_nested s body read e (suc depth) =
      exact_as kind s (body (Nested body depth)) (Nested body (suc depth)) (read (read_nested kind read s.first depth)) (read_nested kind read s.first (suc depth))
      (e (Nested body depth) (read_nested kind read s.first depth) (exact_nested s body read e depth)) (λ u x m. m) (λ u x m. m) (λ u. refl)
