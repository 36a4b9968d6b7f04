-- Each combinator's reading has a place for each stop where its parts' readings have.
use Rattle.std.proofs.Common.{◌≡◌, ℕ, Bool, true, false, Option, Some, None, List, [], ◌∷◌, ◌++◌, refl, sym, ap, ◌∙◌, subst, ◌⊎◌, inl, inr, append_assoc}
use Rattle.lrc_parse.specs.Kinds.{starts}
use Rattle.lrc_parse.specs.Language.{Lang, Empty, One, Of, Given, Either, Within}
use Rattle.lrc_parse.specs.Reading.{Cause, expected, nested, limit, Reading, took, stops, on_took, token_value, read_empty, read_one, read_of, read_given, read_either, read_within}
use Rattle.lrc_parse.specs.Exact.{Shape}
use Rattle.lrc_parse.specs.Faults.{next, through, Stands, Widening, Begins, Grows, Stays, Tame, Rich, Taken, Ended, Placed}
use Rattle.lrc_parse.proofs.Sets.{true_not_false}
use Rattle.lrc_parse.proofs.Steps.{read_one_took, read_either_first, read_either_second, read_within_room, read_within_passed, read_within_other}
use Rattle.lrc_parse.proofs.Back.{same_value, same_rest, stops_not_took, on_took_back, token_value_back}
use Rattle.lrc_parse.proofs.Parts.{two_parts}

module _ {T : Type 0} where
  pub same_cause : {A : Type 0} (c d : Cause) (r s : List T) → ◌≡◌ {A = Reading T A} (stops c r) (stops d s) → c ≡ d
  same_cause c d r s e = cc

  pub same_left : {A : Type 0} (c d : Cause) (r s : List T) → ◌≡◌ {A = Reading T A} (stops c r) (stops d s) → r ≡ s
  same_left c d r s e = cc

  -- the same next token behind the same tokens
  pub next_behind : (p r w : List T) → next w ≡ next r → next (p ++ w) ≡ next (p ++ r)
  next_behind [] r w e = e
  next_behind (t ∷ p) r w e = refl

  next_end : (w : List T) → next w ≡ None → w ≡ []
  next_end [] e = refl
  next_end (t ∷ w) e = absurd (not_none e)
    where
      not_none : Some t ≡ None → ⊥
      not_none e = cc

  next_token : (w : List T) (t : T) → next w ≡ Some t → (q : List T) × (w ≡ t ∷ q)
  next_token [] t e = absurd (not_some e)
    where
      not_some : None ≡ Some t → ⊥
      not_some e = cc
  next_token (s ∷ w) t e = (w, ap (λ v. v ∷ w) (same e))
    where
      same : Some s ≡ Some t → s ≡ t
      same e = cc

  pub on_took_stops : {A B : Type 0} (o : Reading T A) (f : A → List T → Reading T B) (c : Cause) (r : List T) →
      on_took o f ≡ stops c r → (o ≡ stops c r) ⊎ ((x : A) × (m : List T) × (o ≡ took x m) × (f x m ≡ stops c r))
  on_took_stops (took x m) f c r e = inr (x, m, refl, e)
  on_took_stops (stops d m) f c r e = inl (ap (λ a. stops a m) (same_cause d c m r e) ∙ ap (stops c) (same_left d c m r e))

module _ {T : Type 0} (kind : T → ℕ) where
  pub starts_next : (ks : List ℕ) (u w : List T) → next w ≡ next u → starts kind ks w ≡ starts kind ks u
  starts_next ks [] w e = ap (starts kind ks) (next_end w e)
  starts_next ks (t ∷ u) w e = let v : (q : List T) × (w ≡ t ∷ q) = next_token w t e in ap (starts kind ks) v.1

module _ {I T : Type 0} (kind : T → ℕ) (le : I → I → Type 0) (wide : Widening le) where
  -- where a stop stays there are limits as wide
  pub stays_wide : (c : Cause) (i j : I) → Stays le c i j → le i j
  stays_wide expected i j h = h
  stays_wide nested i j h = subst (le i) h (wide.same i)
  stays_wide (limit n) i j h = subst (le i) h (wide.same i)

  pub placed_as : {A : Type 0} (L M : I → Lang T A) (a b : I → List T → Reading T A) (i : I) → Placed le L a i →
      ((i : I) (u : List T) (x : A) → L i u x → M i u x) → ((i : I) (u : List T) → b i u ≡ a i u) → Placed le M b i
  placed_as L M a b i e to same = record {
    takes = λ u x r h. let w : _ = e.takes u x r (sym (same i u) ∙ h) in (w.0, w.1, to _ _ _ w.2, λ j v l n. same j _ ∙ w.3 j v l n);
    ends = λ c u r h. let w : _ = e.ends c u r (sym (same i u) ∙ h) in
        (w.0, w.1, (w.2.0, w.2.1, w.2.2, to _ _ _ w.2.3), (λ j v l n. same j _ ∙ w.3 j v l n), w.4);
  }

  pub placed_empty : {A : Type 0} (a : A) (i : I) → Placed le (λ _. Empty a) (λ _. read_empty {T = T} a) i
  unfolding read_empty
  placed_empty a i = record {
    takes = λ u x r h. ([], same_rest _ _ _ _ h, (refl, sym (same_value _ _ _ _ h)), (λ j w l n. ap (λ y. took y w) (same_value _ _ _ _ h)));
    ends = λ c u r h. absurd (stops_not_took c a r u (sym h));
  }

  -- an end for one cause at some tokens is that for the same cause at the same tokens
  pub ended_same : {A : Type 0} (L : I → Lang T A) (read : I → List T → Reading T A) (i : I) (u : List T) (c d : Cause) (r s : List T) →
      ◌≡◌ {A = Reading T A} (stops c r) (stops d s) → Ended le L read i c u r → Ended le L read i d u s
  ended_same L read i u c d r s h e =
      subst (λ v. Ended le L read i d u v) (same_left c d r s h) (subst (λ b. Ended le L read i b u r) (same_cause c d r s h) e)

  -- another token is expected where the reading begins
  pub ended_first : {A : Type 0} (L : I → Lang T A) (read : I → List T → Reading T A) (i : I) (u : List T) →
      Begins L [] → ((j : I) (w : List T) → le i j → next w ≡ next u → read j w ≡ stops expected w) → Ended le L read i expected u u
  ended_first L read i u b f = ([], refl, b, f, tt)

  pub placed_one : {A : Type 0} (value : T → Option A) → Begins {I = I} (λ _. One value) [] → (i : I) → Placed le (λ _. One value) (λ _. read_one value) i
  unfolding read_one
  placed_one {A} value some i = record { takes = takes; ends = ends }
    where
      takes : (u : List T) (x : A) (r : List T) → read_one value u ≡ took x r → Taken le (λ _. One value) (λ _. read_one value) i u x r
      takes [] x r h = absurd (stops_not_took expected x [] r h)
      takes (t ∷ m) x r h =
          let v : _ = token_value_back (value t) t m x r h in
          (t ∷ [], ap (λ n. t ∷ n) v.1, (t, refl, v.0), λ j w l n. read_one_took value t w x v.0)

      stay : (u w : List T) → read_one value u ≡ stops expected u → next w ≡ next u → read_one value w ≡ stops expected w
      stay [] w h n = ap (read_one value) (next_end w n) ∙ h ∙ ap (stops expected) (sym (next_end w n))
      stay (t ∷ m) w h n = let v : (q : List T) × (w ≡ t ∷ q) = next_token w t n in
          ap (read_one value) v.1 ∙ other (value t) t m v.0 h ∙ ap (stops expected) (sym v.1)
        where
          other : (o : Option A) (t : T) (m q : List T) → token_value o t m ≡ stops expected (t ∷ m) → token_value o t q ≡ stops expected (t ∷ q)
          other None t m q h = refl
          other (Some x) t m q h = absurd (stops_not_took expected x (t ∷ m) m (sym h))

      here : (o : Option A) (t : T) (m : List T) (c : Cause) (r : List T) → token_value o t m ≡ stops c r → (stops c r ≡ token_value o t m) × (token_value o t m ≡ stops expected (t ∷ m))
      here None t m c r h = (sym h, refl)
      here (Some x) t m c r h = absurd (stops_not_took c x r m (sym h))

      ends : (c : Cause) (u r : List T) → read_one value u ≡ stops c r → Ended le (λ _. One value) (λ _. read_one value) i c u r
      ends c [] r h = ended_same (λ _. One value) (λ _. read_one value) i [] expected c [] r h (ended_first (λ _. One value) (λ _. read_one value) i [] some (λ j w l n. stay [] w refl n))
      ends c (t ∷ m) r h =
          let v : _ = here (value t) t m c r h in
          ended_same (λ _. One value) (λ _. read_one value) i (t ∷ m) expected c (t ∷ m) r (sym v.1 ∙ h) (ended_first (λ _. One value) (λ _. read_one value) i (t ∷ m) some (λ j w l n. stay (t ∷ m) w v.1 n))

  pub placed_given : {A B : Type 0} (L : I → Lang T A) (M : A → I → Lang T B) (a : I → List T → Reading T A) (b : A → I → List T → Reading T B) →
      Grows le L → ((x : A) → Grows le (M x)) → ((x : A) → Begins (M x) []) → (i : I) → Placed le L a i → ((x : A) → Placed le (M x) (b x) i) →
      Placed le (λ j. Given (L j) (λ x. M x j)) (λ j. read_given (a j) (λ x. b x j)) i
  unfolding read_given
  placed_given {A} {B} L M a b gl gm some i e f = record { takes = takes; ends = ends }
    where
      again : (j : I) (o : Reading T B) (p q w : List T) (x : A) → a j (p ++ (q ++ w)) ≡ took x (q ++ w) → b x j (q ++ w) ≡ o →
          on_took (a j ((p ++ q) ++ w)) (λ y. b y j) ≡ o
      again j o p q w x h g =
          ap (λ v. on_took (a j v) (λ y. b y j)) (append_assoc p q w) ∙ ap (λ v. on_took v (λ y. b y j)) h ∙ g

      takes : (u : List T) (y : B) (r : List T) → read_given (a i) (λ x. b x i) u ≡ took y r → Taken le (λ j. Given (L j) (λ x. M x j)) (λ j. read_given (a j) (λ x. b x j)) i u y r
      takes u y r h =
          let w : _ = on_took_back (a i u) (λ x. b x i) y r h in
          let v : Taken le L a i u w.0 w.1 = e.takes u w.0 w.1 w.2 in
          let o : Taken le (M w.0) (b w.0) i w.1 y r = (f w.0).takes w.1 y r w.3 in (
            v.0 ++ o.0,
            two_parts u v.0 w.1 o.0 r v.1 o.1,
            (v.0, o.0, w.0, refl, v.2, o.2),
            λ j q l n. again j _ v.0 o.0 q w.0 (v.3 j (o.0 ++ q) l (next_behind o.0 r q n ∙ ap next (sym o.1))) (o.3 j q l n),
          )

      begins_first : (p : List T) → Begins L p → Begins (λ j. Given (L j) (λ x. M x j)) p
      begins_first p s =
          let t : Begins (M s.2) [] = some s.2 in
          let k : _ = wide.upper s.0 t.0 in
          (k.0, s.1 ++ t.1, t.2, (p ++ s.1, t.1, s.2, sym (append_assoc p s.1 t.1), gl _ _ k.1 _ _ s.3, gm s.2 _ _ k.2 _ _ t.3))

      begins_second : (p q z : List T) (x : A) → L i p x → Begins (M x) (q ++ z) → Begins (λ j. Given (L j) (λ x. M x j)) ((p ++ q) ++ z)
      begins_second p q z x l s =
          let k : _ = wide.upper i s.0 in
          (k.0, s.1, s.2, (p, (q ++ z) ++ s.1, x, ap (λ v. v ++ s.1) (append_assoc p q z) ∙ append_assoc p (q ++ z) s.1, gl _ _ k.1 _ _ l, gm x _ _ k.2 _ _ s.3))

      ends_of : (c : Cause) (u r : List T) → (a i u ≡ stops c r) ⊎ ((x : A) × (m : List T) × (a i u ≡ took x m) × (b x i m ≡ stops c r)) →
          Ended le (λ j. Given (L j) (λ x. M x j)) (λ j. read_given (a j) (λ x. b x j)) i c u r
      ends_of c u r (inl h) =
          let v : Ended le L a i c u r = e.ends c u r h in
          (v.0, v.1, begins_first (v.0 ++ through c r) v.2, (λ j q l n. ap (λ o. on_took o (λ y. b y j)) (v.3 j q l n)), v.4)
      ends_of c u r (inr h) =
          let v : Taken le L a i u h.0 h.1 = e.takes u h.0 h.1 h.2 in
          let o : Ended le (M h.0) (b h.0) i c h.1 r = (f h.0).ends c h.1 r h.3 in (
            v.0 ++ o.0,
            two_parts u v.0 h.1 o.0 r v.1 o.1,
            begins_second v.0 o.0 (through c r) h.0 v.2 o.2,
            (λ j q l n. again j _ v.0 o.0 q h.0 (v.3 j (o.0 ++ q) (stays_wide c i j l) (next_behind o.0 r q n ∙ ap next (sym o.1))) (o.3 j q l n)),
            o.4,
          )

      ends : (c : Cause) (u r : List T) → read_given (a i) (λ x. b x i) u ≡ stops c r → Ended le (λ j. Given (L j) (λ x. M x j)) (λ j. read_given (a j) (λ x. b x j)) i c u r
      ends c u r h = ends_of c u r (on_took_stops (a i u) (λ x. b x i) c r h)

  pub placed_of : {A B : Type 0} (g : A → B) (L : I → Lang T A) (a : I → List T → Reading T A) (i : I) → Placed le L a i →
      Placed le (λ j. Of g (L j)) (λ j. read_of g (a j)) i
  unfolding read_of
  placed_of {A} {B} g L a i e = record { takes = takes; ends = ends }
    where
      takes : (u : List T) (y : B) (r : List T) → read_of g (a i) u ≡ took y r → Taken le (λ j. Of g (L j)) (λ j. read_of g (a j)) i u y r
      takes u y r h =
          let w : _ = on_took_back (a i u) (λ x m. took (g x) m) y r h in
          let v : Taken le L a i u w.0 w.1 = e.takes u w.0 w.1 w.2 in
          let s : w.1 ≡ r = same_rest _ _ _ _ w.3 in
          let x : g w.0 ≡ y = same_value _ _ _ _ w.3 in (
            v.0,
            v.1 ∙ ap (λ m. v.0 ++ m) s,
            (w.0, v.2, sym x),
            λ j q l n. ap (λ o. on_took o (λ x m. took (g x) m)) (v.3 j q l (n ∙ ap next (sym s))) ∙ ap (λ z. took z q) x,
          )

      ends_of : (c : Cause) (u r : List T) → (a i u ≡ stops c r) ⊎ ((x : A) × (m : List T) × (a i u ≡ took x m) × (took (g x) m ≡ stops c r)) →
          Ended le (λ j. Of g (L j)) (λ j. read_of g (a j)) i c u r
      ends_of c u r (inl h) =
          let v : Ended le L a i c u r = e.ends c u r h in
          (v.0, v.1, (v.2.0, v.2.1, g v.2.2, (v.2.2, v.2.3, refl)), (λ j q l n. ap (λ o. on_took o (λ x m. took (g x) m)) (v.3 j q l n)), v.4)
      ends_of c u r (inr h) = absurd (stops_not_took c (g h.0) r h.1 (sym h.3))

      ends : (c : Cause) (u r : List T) → read_of g (a i) u ≡ stops c r → Ended le (λ j. Of g (L j)) (λ j. read_of g (a j)) i c u r
      ends c u r h = ends_of c u r (on_took_stops (a i u) (λ x m. took (g x) m) c r h)

  pub placed_either : {A : Type 0} (first : List ℕ) (L M : I → Lang T A) (a b : I → List T → Reading T A) (i : I) → Placed le L a i → Placed le M b i →
      Placed le (λ j. Either (L j) (M j)) (λ j. read_either kind first (a j) (b j)) i
  placed_either {A} first L M a b i e f = record { takes = takes; ends = ends }
    where
      one : (j : I) (p w r : List T) (z : Bool) → next w ≡ next r → starts kind first (p ++ r) ≡ z → starts kind first (p ++ w) ≡ z
      one j p w r z n h = starts_next kind first (p ++ r) (p ++ w) (next_behind p r w n) ∙ h

      takes_of : (z : Bool) (u : List T) (x : A) (r : List T) → starts kind first u ≡ z → read_either kind first (a i) (b i) u ≡ took x r → Taken le (λ j. Either (L j) (M j)) (λ j. read_either kind first (a j) (b j)) i u x r
      takes_of true u x r g h =
          let v : Taken le L a i u x r = e.takes u x r (sym (read_either_first kind first (a i) (b i) u g) ∙ h) in
          (v.0, v.1, inl v.2, λ j w l n. read_either_first kind first (a j) (b j) (v.0 ++ w) (one j v.0 w r true n (ap (starts kind first) (sym v.1) ∙ g)) ∙ v.3 j w l n)
      takes_of false u x r g h =
          let v : Taken le M b i u x r = f.takes u x r (sym (read_either_second kind first (a i) (b i) u g) ∙ h) in
          (v.0, v.1, inr v.2, λ j w l n. read_either_second kind first (a j) (b j) (v.0 ++ w) (one j v.0 w r false n (ap (starts kind first) (sym v.1) ∙ g)) ∙ v.3 j w l n)

      takes : (u : List T) (x : A) (r : List T) → read_either kind first (a i) (b i) u ≡ took x r → Taken le (λ j. Either (L j) (M j)) (λ j. read_either kind first (a j) (b j)) i u x r
      takes u x r h = takes_of (starts kind first u) u x r refl h

      ends_of : (z : Bool) (c : Cause) (u r : List T) → starts kind first u ≡ z → read_either kind first (a i) (b i) u ≡ stops c r → Ended le (λ j. Either (L j) (M j)) (λ j. read_either kind first (a j) (b j)) i c u r
      ends_of true c u r g h =
          let v : Ended le L a i c u r = e.ends c u r (sym (read_either_first kind first (a i) (b i) u g) ∙ h) in
          (v.0, v.1, (v.2.0, v.2.1, v.2.2, inl v.2.3), (λ j w l n. read_either_first kind first (a j) (b j) (v.0 ++ w) (one j v.0 w r true n (ap (starts kind first) (sym v.1) ∙ g)) ∙ v.3 j w l n), v.4)
      ends_of false c u r g h =
          let v : Ended le M b i c u r = f.ends c u r (sym (read_either_second kind first (a i) (b i) u g) ∙ h) in
          (v.0, v.1, (v.2.0, v.2.1, v.2.2, inr v.2.3), (λ j w l n. read_either_second kind first (a j) (b j) (v.0 ++ w) (one j v.0 w r false n (ap (starts kind first) (sym v.1) ∙ g)) ∙ v.3 j w l n), v.4)

      ends : (c : Cause) (u r : List T) → read_either kind first (a i) (b i) u ≡ stops c r → Ended le (λ j. Either (L j) (M j)) (λ j. read_either kind first (a j) (b j)) i c u r
      ends c u r h = ends_of (starts kind first u) c u r refl h

  -- a limit's cause at a token
  at_token : (c : Cause) (t : T) (q : List T) → (c ≡ expected → ⊥) → (through c (t ∷ q) ≡ t ∷ []) × Stands c (t ∷ q) × ((i j : I) → Stays le c i j → i ≡ j)
  at_token expected t q n = absurd (n refl)
  at_token nested t q n = (refl, (t, q, refl), λ i j h. h)
  at_token (limit m) t q n = (refl, (t, q, refl), λ i j h. h)

  pub placed_within : {A : Type 0} (room : I → Bool) (s : Shape) (cause : Cause) (L : I → Lang T A) (a : I → List T → Reading T A) →
      (cause ≡ expected → ⊥) → ((i j : I) → le i j → room i ≡ true → room j ≡ true) → (i : I) × (room i ≡ true) →
      s.empty ≡ false → Grows le L → ((i : I) → Tame kind s (a i)) → Rich kind s L → (i : I) → Placed le L a i →
      Placed le (λ j. Within (room j) (L j)) (λ j. read_within kind (room j) s.first cause (a j)) i
  placed_within {A} room s cause L a n keeps enough ne gl tame rich i e = go (room i) refl
    where
      roomy : (p : List T) → Begins L p → Begins (λ j. Within (room j) (L j)) p
      roomy p b = let k : _ = wide.upper enough.0 b.0 in (k.0, b.1, b.2, (keeps _ _ k.1 enough.1, gl _ _ k.2 _ _ b.3))

      go : (z : Bool) → room i ≡ z → Placed le (λ j. Within (room j) (L j)) (λ j. read_within kind (room j) s.first cause (a j)) i
      go true g = record {
        takes = λ u x r h. let v : Taken le L a i u x r = e.takes u x r (sym (read_within_room kind (room i) s.first cause (a i) u g) ∙ h) in
            (v.0, v.1, (g, v.2), λ j w l m. read_within_room kind (room j) s.first cause (a j) (v.0 ++ w) (keeps i j l g) ∙ v.3 j w l m);
        ends = λ c u r h. let v : Ended le L a i c u r = e.ends c u r (sym (read_within_room kind (room i) s.first cause (a i) u g) ∙ h) in
            (v.0, v.1, roomy (v.0 ++ through c r) v.2, (λ j w l m. read_within_room kind (room j) s.first cause (a j) (v.0 ++ w) (keeps i j (stays_wide c i j l) g) ∙ v.3 j w l m), v.4);
      }
      go false g = record {
        takes = λ u x r h. absurd (never (starts kind s.first u) u x r refl h);
        ends = λ c u r h. ends (starts kind s.first u) c u r refl h;
      }
        where
          never : (z : Bool) (u : List T) (x : A) (r : List T) → starts kind s.first u ≡ z → read_within kind (room i) s.first cause (a i) u ≡ took x r → ⊥
          never true u x r st h = stops_not_took cause x u r (sym (read_within_passed kind (room i) s.first cause (a i) u g st) ∙ h)
          never false u x r st h = stops_not_took expected x u r (sym (read_within_other kind (room i) s.first cause (a i) u g st) ∙ h)

          passed : (u : List T) → starts kind s.first u ≡ true → Ended le (λ j. Within (room j) (L j)) (λ j. read_within kind (room j) s.first cause (a j)) i cause u u
          passed [] st = absurd (true_not_false false st refl)
          passed (t ∷ q) st =
              let v : _ = at_token cause t q n in (
                [],
                refl,
                subst (Begins (λ j. Within (room j) (L j))) (sym v.0) (roomy (t ∷ []) (rich.opens t st)),
                (λ j w l m. subst (λ k. read_within kind (room k) s.first cause (a k) w ≡ stops cause w) (v.2 i j l)
                    (read_within_passed kind (room i) s.first cause (a i) w g (starts_next kind s.first (t ∷ q) w m ∙ st))),
                v.1,
              )

          other : (j : I) (w : List T) (z : Bool) → room j ≡ z → starts kind s.first w ≡ false → read_within kind (room j) s.first cause (a j) w ≡ stops expected w
          other j w true o st = read_within_room kind (room j) s.first cause (a j) w o ∙ (tame j).misses ne w st
          other j w false o st = read_within_other kind (room j) s.first cause (a j) w o st

          ends : (z : Bool) (c : Cause) (u r : List T) → starts kind s.first u ≡ z → read_within kind (room i) s.first cause (a i) u ≡ stops c r →
              Ended le (λ j. Within (room j) (L j)) (λ j. read_within kind (room j) s.first cause (a j)) i c u r
          ends true c u r st h = ended_same (λ j. Within (room j) (L j)) (λ j. read_within kind (room j) s.first cause (a j)) i u cause c u r
              (sym (read_within_passed kind (room i) s.first cause (a i) u g st) ∙ h) (passed u st)
          ends false c u r st h = ended_same (λ j. Within (room j) (L j)) (λ j. read_within kind (room j) s.first cause (a j)) i u expected c u r
              (sym (read_within_other kind (room i) s.first cause (a i) u g st) ∙ h)
              (ended_first (λ j. Within (room j) (L j)) (λ j. read_within kind (room j) s.first cause (a j)) i u (roomy [] rich.some)
              (λ j w l m. other j w (room j) refl (starts_next kind s.first u w m ∙ st)))
