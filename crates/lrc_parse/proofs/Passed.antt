-- A reading stops at a limit just where the next token would pass it.
use Rattle.std.proofs.Common.{◌≡◌, ℕ, zero, suc, ◌+◌, ◌<◌, ◌≤◌, eqb, ltb, Bool, true, false, cond, Option, Some, None, List, [], ◌∷◌, ◌++◌, length, refl, sym, ap, ◌∙◌, subst, ◌⊎◌, inl, inr, append_assoc, length-append, arith}
use Rattle.std.proofs.lemmas.Bool.{eqb-true}
use Rattle.lrc_parse.specs.Kinds.{disjoint, starts}
use Rattle.lrc_parse.specs.Language as plain
use Rattle.lrc_parse.specs.Limited.{Limited, Beyond, Empty, One, Of, Given, Either, Within, Loop, Many, Most, Fixed, Skip, Separated, SeparatedMost}
use Rattle.lrc_parse.specs.Reading.{Cause, expected, Reading, took, stops, on_took, token_value, read_empty, read_one, read_of, read_given, read_fixed, read_skip, read_either, read_nothing, read_within, read_turns, read_loop}
use Rattle.lrc_parse.specs.Exact.{Shape, Exact, shape_one, shape_empty, shape_then, shape_either, shape_skip, shape_many}
use Rattle.lrc_parse.proofs.Sets.{true_not_false, has_left, has_right, apart}
use Rattle.lrc_parse.proofs.Steps.{read_of_stops, read_given_took, read_given_stops, read_skip_took, read_either_first, read_either_second, read_nothing_first}
use Rattle.lrc_parse.proofs.Back.{stops_not_took}
use Rattle.lrc_parse.proofs.Parts.{two_parts, first_there, first_behind}
use Rattle.lrc_parse.proofs.Places.{same_cause, same_left, on_took_stops}
use Rattle.lrc_parse.proofs.Loops.{read_loop_stops, read_loop_more}
use Rattle.lrc_parse.proofs.LoopPlaces.{cond_cases_stops}
use Rattle.lrc_parse.proofs.ListSteps.{starts_here}
use Rattle.lrc_parse.proofs.Same.{pushed, many_to, many_from, most_to, most_from, separated_to, separated_from, separated_most_to, separated_most_from}

module _ {T A : Type 0} (kind : T → ℕ) where
  pub record Passed (s : Shape) (L : Limited T A) (read : List T → Reading T A) : Type 0 where
    -- where the reading stops at a limit, the next token would pass it
    pub reached : (c : Cause) (u r : List T) → (c ≡ expected → ⊥) → read u ≡ stops c r → (p : List T) × (t : T) × (q : List T) × (u ≡ p ++ r) × (r ≡ t ∷ q) × L.passes c p t
    -- the reading stops there
    pub meets : (c : Cause) (p : List T) (t : T) (q : List T) → L.passes c p t → read (p ++ t ∷ q) ≡ stops c (t ∷ q)
    -- what comes up to there begins with a first kind
    pub opens : (c : Cause) (p : List T) (t : T) (q : List T) → L.passes c p t → starts kind s.first (p ++ t ∷ q) ≡ true

-- a place of a stop, with other tokens passed
abbrev Place : {T : Type 0} → (Cause → List T → T → Type 0) → Cause → List T → List T → Type 0
Place {T} passes c u r = (p : List T) × (t : T) × (q : List T) × (u ≡ p ++ r) × (r ≡ t ∷ q) × passes c p t

module _ {T : Type 0} (kind : T → ℕ) where
  pub passed_as : {A : Type 0} (s : Shape) (L M : Limited T A) (a b : List T → Reading T A) → Passed kind s L a →
      ((c : Cause) (u : List T) (t : T) → L.passes c u t → M.passes c u t) → ((c : Cause) (u : List T) (t : T) → M.passes c u t → L.passes c u t) → ((u : List T) → b u ≡ a u) →
      Passed kind s M b
  passed_as s L M a b e to from same = record {
    reached = λ c u r n h. let w : _ = e.reached c u r n (sym (same u) ∙ h) in (w.0, w.1, w.2, w.3, w.4, to c w.0 w.1 w.5);
    meets = λ c p t q h. same (p ++ t ∷ q) ∙ e.meets c p t q (from c p t h);
    opens = λ c p t q h. e.opens c p t q (from c p t h);
  }

  pub passed_empty : {A : Type 0} (a : A) → Passed kind shape_empty (Empty a) (read_empty a)
  unfolding read_empty
  passed_empty a = record {
    reached = λ c u r n h. absurd (stops_not_took c a r u (sym h));
    meets = λ c p t q h. absurd h;
    opens = λ c p t q h. absurd h;
  }

  pub passed_one : {A : Type 0} (ks : List ℕ) (value : T → Option A) → Passed kind (shape_one ks) (One value) (read_one value)
  unfolding read_one
  passed_one {A} ks value = record { reached = λ c u r n h. absurd (go c r n u h); meets = λ c p t q h. absurd h; opens = λ c p t q h. absurd h }
    where
      by_value : (c : Cause) (r : List T) → (c ≡ expected → ⊥) → (o : Option A) (t : T) (m : List T) → token_value o t m ≡ stops c r → ⊥
      by_value c r n (Some x) t m h = stops_not_took c x r m (sym h)
      by_value c r n None t m h = n (sym (same_cause expected c (t ∷ m) r h))

      go : (c : Cause) (r : List T) → (c ≡ expected → ⊥) → (u : List T) → read_one value u ≡ stops c r → ⊥
      go c r n [] h = n (sym (same_cause expected c [] r h))
      go c r n (t ∷ m) h = by_value c r n (value t) t m h

  pub passed_fixed : (k : ℕ) → Passed kind (shape_one (k ∷ [])) (Fixed kind k) (read_fixed kind k)
  unfolding read_fixed
  passed_fixed k = record { reached = λ c u r n h. absurd (go c r n u h); meets = λ c p t q h. absurd h; opens = λ c p t q h. absurd h }
    where
      by_kind : (c : Cause) (r : List T) → (c ≡ expected → ⊥) → (b : Bool) (t : T) (m : List T) → cond b (let o : Unit {0} = tt in took o m) (stops expected (t ∷ m)) ≡ stops c r → ⊥
      by_kind c r n true t m h = stops_not_took c tt r m (sym h)
      by_kind c r n false t m h = n (sym (same_cause expected c (t ∷ m) r h))

      go : (c : Cause) (r : List T) → (c ≡ expected → ⊥) → (u : List T) → read_fixed kind k u ≡ stops c r → ⊥
      go c r n [] h = n (sym (same_cause expected c [] r h))
      go c r n (t ∷ m) h = by_kind c r n (eqb (kind t) k) t m h

  pub passed_of : {A B : Type 0} (f : A → B) (s : Shape) (L : Limited T A) (a : List T → Reading T A) → Passed kind s L a → Passed kind s (Of f L) (read_of f a)
  unfolding read_of
  passed_of {A} f s L a e = record {
    reached = λ c u r n h. go c u r n (on_took_stops (a u) (λ x m. took (f x) m) c r h);
    meets = λ c p t q h. read_of_stops f a (p ++ t ∷ q) (t ∷ q) c (e.meets c p t q h);
    opens = e.opens;
  }
    where
      go : (c : Cause) (u r : List T) → (c ≡ expected → ⊥) → (a u ≡ stops c r) ⊎ ((x : A) × (m : List T) × (a u ≡ took x m) × (took (f x) m ≡ stops c r)) → Place L.passes c u r
      go c u r n (inl h) = e.reached c u r n h
      go c u r n (inr h) = absurd (stops_not_took c (f h.0) r h.1 (sym h.3))

  -- and so no kind of a set without first kinds
  head_apart : (js ks : List ℕ) (p : List T) (t : T) (q : List T) → disjoint js ks ≡ true → starts kind ks (p ++ t ∷ q) ≡ true → starts kind js (p ++ t ∷ q) ≡ false
  head_apart js ks [] t q d h = apart js ks (kind t) d h
  head_apart js ks (v ∷ p) t q d h = apart js ks (kind v) d h

  pub passed_given : {A B : Type 0} (s t : Shape) (L : Limited T A) (M : A → Limited T B) (a : List T → Reading T A) (b : A → List T → Reading T B) → disjoint s.more t.first ≡ true →
      Exact kind s L.derives a → Passed kind s L a → ((x : A) → Passed kind t (M x) (b x)) → Passed kind (shape_then s t) (Given L M) (read_given a b)
  unfolding read_given
  passed_given {A} s t L M a b d e f g = record { reached = λ c u r n h. go c u r n (on_took_stops (a u) b c r h); meets = meets; opens = opens }
    where
      go : (c : Cause) (u r : List T) → (c ≡ expected → ⊥) → (a u ≡ stops c r) ⊎ ((x : A) × (m : List T) × (a u ≡ took x m) × (b x m ≡ stops c r)) → Place (Given L M).passes c u r
      go c u r n (inl h) = let w : _ = f.reached c u r n h in (w.0, w.1, w.2, w.3, w.4, inl w.5)
      go c u r n (inr h) =
          let v : (p : List T) × (u ≡ p ++ h.1) × L.derives p h.0 = e.sound u h.0 h.1 h.2 in
          let w : _ = (g h.0).reached c h.1 r n h.3 in
          (v.0 ++ w.0, w.1, w.2, two_parts u v.0 h.1 w.0 r v.1 w.3, w.4, inr (v.0, w.0, h.0, refl, v.2, w.5))

      meets : (c : Cause) (p : List T) (v : T) (q : List T) → (Given L M).passes c p v → read_given a b (p ++ v ∷ q) ≡ stops c (v ∷ q)
      meets c p v q (inl h) = read_given_stops a b (p ++ v ∷ q) (v ∷ q) c (f.meets c p v q h)
      meets c p v q (inr h) =
          ap (λ o. read_given a b (o ++ v ∷ q)) h.3 ∙ ap (read_given a b) (append_assoc h.0 h.1 (v ∷ q)) ∙
          read_given_took a b (h.0 ++ (h.1 ++ v ∷ q)) (h.1 ++ v ∷ q) h.2
          (e.complete h.0 (h.1 ++ v ∷ q) h.2 h.4 (head_apart s.more t.first h.1 v q d ((g h.2).opens c h.1 v q h.5))) ∙
          (g h.2).meets c h.1 v q h.5

      ahead : (z : Bool) (js ks : List ℕ) (p : List T) (v : T) (q : List T) → starts kind js (p ++ v ∷ q) ≡ true → starts kind (cond z (js ++ ks) js) (p ++ v ∷ q) ≡ true
      ahead z js ks [] v q h = first_there kind z js ks (kind v) h
      ahead z js ks (o ∷ p) v q h = first_there kind z js ks (kind o) h

      behind : (z : Bool) (js ks : List ℕ) (p : List T) (v : T) (q : List T) → z ≡ true → starts kind ks (p ++ v ∷ q) ≡ true → starts kind (cond z (js ++ ks) js) (p ++ v ∷ q) ≡ true
      behind z js ks [] v q i h = first_behind kind z js ks (kind v) i h
      behind z js ks (o ∷ p) v q i h = first_behind kind z js ks (kind o) i h

      after : (c : Cause) (p o : List T) (x : A) (v : T) (q : List T) → L.derives p x → (M x).passes c o v → starts kind (shape_then s t).first ((p ++ o) ++ v ∷ q) ≡ true
      after c [] o x v q l h = behind s.empty s.first t.first o v q (e.empty x l) ((g x).opens c o v q h)
      after c (i ∷ p) o x v q l h = first_there kind s.empty s.first t.first (kind i) (e.first i p x l)

      opens : (c : Cause) (p : List T) (v : T) (q : List T) → (Given L M).passes c p v → starts kind (shape_then s t).first (p ++ v ∷ q) ≡ true
      opens c p v q (inl h) = ahead s.empty s.first t.first p v q (f.opens c p v q h)
      opens c p v q (inr h) = subst (λ o. starts kind (shape_then s t).first (o ++ v ∷ q) ≡ true) (sym h.3) (after c h.0 h.1 h.2 v q h.4 h.5)

  pub passed_either : {A : Type 0} (s t : Shape) (L M : Limited T A) (a b : List T → Reading T A) → disjoint s.first t.first ≡ true → Passed kind s L a → Passed kind t M b →
      Passed kind (shape_either s t) (Either L M) (read_either kind s.first a b)
  unfolding read_either
  passed_either s t L M a b d e f = record { reached = λ c u r n h. go c u r n (cond_cases_stops (starts kind s.first u) (a u) (b u) c r h); meets = meets; opens = opens }
    where
      go : (c : Cause) (u r : List T) → (c ≡ expected → ⊥) → ((starts kind s.first u ≡ true) × (a u ≡ stops c r)) ⊎ ((starts kind s.first u ≡ false) × (b u ≡ stops c r)) → Place (Either L M).passes c u r
      go c u r n (inl h) = let w : _ = e.reached c u r n h.1 in (w.0, w.1, w.2, w.3, w.4, inl w.5)
      go c u r n (inr h) = let w : _ = f.reached c u r n h.1 in (w.0, w.1, w.2, w.3, w.4, inr w.5)

      meets : (c : Cause) (p : List T) (v : T) (q : List T) → (Either L M).passes c p v → read_either kind s.first a b (p ++ v ∷ q) ≡ stops c (v ∷ q)
      meets c p v q (inl h) = read_either_first kind s.first a b (p ++ v ∷ q) (e.opens c p v q h) ∙ e.meets c p v q h
      meets c p v q (inr h) = read_either_second kind s.first a b (p ++ v ∷ q) (head_apart s.first t.first p v q d (f.opens c p v q h)) ∙ f.meets c p v q h

      left : (p : List T) (v : T) (q : List T) → starts kind s.first (p ++ v ∷ q) ≡ true → starts kind (s.first ++ t.first) (p ++ v ∷ q) ≡ true
      left [] v q h = has_left s.first t.first (kind v) h
      left (o ∷ p) v q h = has_left s.first t.first (kind o) h

      right : (p : List T) (v : T) (q : List T) → starts kind t.first (p ++ v ∷ q) ≡ true → starts kind (s.first ++ t.first) (p ++ v ∷ q) ≡ true
      right [] v q h = has_right s.first t.first (kind v) h
      right (o ∷ p) v q h = has_right s.first t.first (kind o) h

      opens : (c : Cause) (p : List T) (v : T) (q : List T) → (Either L M).passes c p v → starts kind (s.first ++ t.first) (p ++ v ∷ q) ≡ true
      opens c p v q (inl h) = left p v q (e.opens c p v q h)
      opens c p v q (inr h) = right p v q (f.opens c p v q h)

  pub passed_beyond : {A : Type 0} (s : Shape) (cause : Cause) → Passed kind s (Beyond kind {A = A} s.first cause) (read_nothing kind s.first cause)
  unfolding read_nothing
  passed_beyond {A} s cause = record { reached = λ c u r n h. go c u r n (starts kind s.first u) refl h; meets = meets; opens = opens }
    where
      head : (c : Cause) (u r : List T) → starts kind s.first u ≡ true → ◌≡◌ {A = Reading T A} (stops cause u) (stops c r) → Place (Beyond kind {A = A} s.first cause).passes c u r
      head c [] r st h = absurd (true_not_false false st refl)
      head c (t ∷ q) r st h = ([], t, q, same_left cause c (t ∷ q) r h, sym (same_left cause c (t ∷ q) r h), (sym (same_cause cause c (t ∷ q) r h), refl, st))

      go : (c : Cause) (u r : List T) → (c ≡ expected → ⊥) → (b : Bool) → starts kind s.first u ≡ b → ◌≡◌ {A = Reading T A} (cond b (stops cause u) (stops expected u)) (stops c r) →
          Place (Beyond kind {A = A} s.first cause).passes c u r
      go c u r n true st h = head c u r st h
      go c u r n false st h = absurd (n (sym (same_cause expected c u r h)))

      meets : (c : Cause) (p : List T) (t : T) (q : List T) → (Beyond kind {A = A} s.first cause).passes c p t → read_nothing kind {A = A} s.first cause (p ++ t ∷ q) ≡ stops c (t ∷ q)
      meets c p t q h =
          ap (λ o. read_nothing kind {A = A} s.first cause (o ++ t ∷ q)) h.1 ∙ read_nothing_first kind {A = A} s.first cause (t ∷ q) h.2 ∙ ap (λ d. stops d (t ∷ q)) (sym h.0)

      opens : (c : Cause) (p : List T) (t : T) (q : List T) → (Beyond kind {A = A} s.first cause).passes c p t → starts kind s.first (p ++ t ∷ q) ≡ true
      opens c p t q h = ap (λ o. starts kind s.first (o ++ t ∷ q)) h.1 ∙ h.2

  pub passed_within : {A : Type 0} (room : Bool) (s : Shape) (cause : Cause) (L : Limited T A) (a : List T → Reading T A) → Passed kind s L a →
      Passed kind s (Within kind room s.first cause L) (read_within kind room s.first cause a)
  unfolding read_within
  passed_within {A} true s cause L a e = record {
    reached = λ c u r n h. let w : _ = e.reached c u r n h in (w.0, w.1, w.2, w.3, w.4, inl (refl, w.5));
    meets = λ c p t q h. e.meets c p t q (inside c p t h);
    opens = λ c p t q h. e.opens c p t q (inside c p t h);
  }
    where
      inside : (c : Cause) (p : List T) (t : T) → (Within kind true s.first cause L).passes c p t → L.passes c p t
      inside c p t (inl h) = h.1
      inside c p t (inr h) = absurd (true_not_false true refl h.0)
  passed_within {A} false s cause L a e = record {
    reached = λ c u r n h. let w : _ = beyond.reached c u r n h in (w.0, w.1, w.2, w.3, w.4, inr (refl, w.5));
    meets = λ c p t q h. beyond.meets c p t q (outside c p t h);
    opens = λ c p t q h. beyond.opens c p t q (outside c p t h);
  }
    where
      beyond : Passed kind s (Beyond kind {A = A} s.first cause) (read_nothing kind s.first cause)
      beyond = passed_beyond s cause

      outside : (c : Cause) (p : List T) (t : T) → (Within kind false s.first cause L).passes c p t → (Beyond kind {A = A} s.first cause).passes c p t
      outside c p t (inl h) = absurd (true_not_false false h.0 refl)
      outside c p t (inr h) = h.1

  pub passed_skip : {A : Type 0} (k : ℕ) (s : Shape) (L : Limited T A) (a : List T → Reading T A) → Exact kind s L.derives a → Passed kind s L a → Passed kind (shape_skip k s) (Skip kind k L) (read_skip kind k a)
  unfolding read_skip
  passed_skip {A} k s L a e f = record { reached = λ c u r n h. go c r n u h; meets = meets; opens = opens }
    where
      by_kind : (c : Cause) (r : List T) → (c ≡ expected → ⊥) → (t : T) (m : List T) (b : Bool) → eqb (kind t) k ≡ b → cond b (a m) (stops expected (t ∷ m)) ≡ stops c r → Place (Skip kind k L).passes c (t ∷ m) r
      by_kind c r n t m true i h = let w : _ = f.reached c m r n h in (t ∷ w.0, w.1, w.2, ap (λ o. t ∷ o) w.3, w.4, (t, w.0, refl, eqb-true (kind t) k i, w.5))
      by_kind c r n t m false i h = absurd (n (sym (same_cause expected c (t ∷ m) r h)))

      go : (c : Cause) (r : List T) → (c ≡ expected → ⊥) → (u : List T) → read_skip kind k a u ≡ stops c r → Place (Skip kind k L).passes c u r
      go c r n [] h = absurd (n (sym (same_cause expected c [] r h)))
      go c r n (t ∷ m) h = by_kind c r n t m (eqb (kind t) k) refl h

      meets : (c : Cause) (p : List T) (t : T) (q : List T) → (Skip kind k L).passes c p t → read_skip kind k a (p ++ t ∷ q) ≡ stops c (t ∷ q)
      meets c p t q h = ap (λ o. read_skip kind k a (o ++ t ∷ q)) h.2 ∙ read_skip_took kind k a h.0 (h.1 ++ t ∷ q) h.3 ∙ f.meets c h.1 t q h.4

      opens : (c : Cause) (p : List T) (t : T) (q : List T) → (Skip kind k L).passes c p t → starts kind (k ∷ []) (p ++ t ∷ q) ≡ true
      opens c p t q h = ap (λ o. starts kind (k ∷ []) (o ++ t ∷ q)) h.2 ∙ starts_here kind k h.0 (h.1 ++ t ∷ q) h.3

module _ {T S : Type 0} (kind : T → ℕ) (s : Shape) (step : S → Limited T S) (read : S → List T → Reading T S) (filled : s.empty ≡ false) (d : disjoint s.more s.first ≡ true)
    (e : (z : S) → Exact kind s (step z).derives (read z)) (f : (z : S) → Passed kind s (step z) (read z)) where
  -- the limit is passed from this state
  abbrev Here : Cause → List T → S → List T → Type 0
  Here c r x u = Place (Loop step x).passes c u r

  on : (c : Cause) (r : List T) (x w : S) (u p m : List T) → u ≡ p ++ m → (step x).derives p w → Here c r w m → Here c r x u
  on c r x w u p m i l v = (
    p ++ v.0,
    v.1,
    v.2,
    two_parts u p m v.0 r i v.3,
    v.4,
    (p ++ v.5.0, v.5.1, v.5.2, ap (λ o. p ++ o) v.5.3 ∙ sym (append_assoc p v.5.0 v.5.1), (suc v.5.4.0, (p, v.5.0, w, refl, l, v.5.4.1)), v.5.5),
  )

  -- what follows a turn that leaves `m`
  abbrev after : ℕ → List T → S → List T → Reading T S
  after k u w m = cond (ltb (length m) (length u)) (read_turns kind s.first read k w m) (took w m)

  behind : (c : Cause) (r : List T) (k : ℕ) (x : S) (u : List T) → ((w : S) (m : List T) → read_turns kind s.first read k w m ≡ stops c r → Here c r w m) → (w : S) (m : List T) → read x u ≡ took w m →
      ((ltb (length m) (length u) ≡ true) × (read_turns kind s.first read k w m ≡ stops c r)) ⊎ ((ltb (length m) (length u) ≡ false) × (took w m ≡ stops c r)) → Here c r x u
  behind c r k x u ih w m i (inl g) = let v : _ = (e x).sound u w m i in on c r x w u v.0 m v.1 v.2 (ih w m g.1)
  behind c r k x u ih w m i (inr g) = absurd (stops_not_took c w r m (sym g.1))

  later : (c : Cause) (r : List T) → (c ≡ expected → ⊥) → (k : ℕ) (x : S) (u : List T) → ((w : S) (m : List T) → read_turns kind s.first read k w m ≡ stops c r → Here c r w m) →
      (read x u ≡ stops c r) ⊎ ((w : S) × (m : List T) × (read x u ≡ took w m) × (after k u w m ≡ stops c r)) → Here c r x u
  later c r n k x u ih (inl g) = let v : _ = (f x).reached c u r n g in (v.0, v.1, v.2, v.3, v.4, ([], v.0, x, refl, (zero, (refl, refl)), v.5))
  later c r n k x u ih (inr g) = behind c r k x u ih g.0 g.1 g.2 (cond_cases_stops (ltb (length g.1) (length u)) (read_turns kind s.first read k g.0 g.1) (took g.0 g.1) c r g.3)

  a_turn : (c : Cause) (r : List T) → (c ≡ expected → ⊥) → (k : ℕ) (x : S) (u : List T) → ((w : S) (m : List T) → read_turns kind s.first read k w m ≡ stops c r → Here c r w m) →
      ((starts kind s.first u ≡ true) × (on_took (read x u) (after k u) ≡ stops c r)) ⊎ ((starts kind s.first u ≡ false) × (took x u ≡ stops c r)) → Here c r x u
  a_turn c r n k x u ih (inl g) = later c r n k x u ih (on_took_stops (read x u) (after k u) c r g.1)
  a_turn c r n k x u ih (inr g) = absurd (stops_not_took c x r u (sym g.1))

  turns : (c : Cause) (r : List T) → (c ≡ expected → ⊥) → (k : ℕ) (x : S) (u : List T) → read_turns kind s.first read k x u ≡ stops c r → Here c r x u
  unfolding read_turns
  turns c r n zero x u h = absurd (stops_not_took c x r u (sym h))
  turns c r n (suc k) x u h = a_turn c r n k x u (λ w m. turns c r n k w m) (cond_cases_stops (starts kind s.first u) (on_took (read x u) (after k u)) (took x u) c r h)

  starts_turn : (x w : S) (p m : List T) → (step x).derives p w → starts kind s.first (p ++ m) ≡ true
  starts_turn x w [] m l = absurd (true_not_false _ ((e x).empty w l) filled)
  starts_turn x w (h ∷ p) m l = (e x).first h p w l

  shorter_turn : (x w : S) (p m : List T) → (step x).derives p w → length m < length (p ++ m)
  shorter_turn x w [] m l = absurd (true_not_false _ ((e x).empty w l) filled)
  shorter_turn x w (h ∷ p) m l = let g : length (p ++ m) ≡ length p + length m = length-append p m in omega (arith, g)

  -- what comes up to the limit begins with a first kind
  opens_turns : (k : ℕ) (x z : S) (p o : List T) (c : Cause) (t : T) (q : List T) → plain.Turns (λ y. (step y).derives) k x p z → (step z).passes c o t → starts kind s.first ((p ++ o) ++ t ∷ q) ≡ true
  opens_turns zero x z p o c t q m h =
      ap (λ v. starts kind s.first ((v ++ o) ++ t ∷ q)) m.0 ∙ (f z).opens c o t q h
  opens_turns (suc k) x z p o c t q m h =
      ap (λ v. starts kind s.first ((v ++ o) ++ t ∷ q)) m.3 ∙ ap (starts kind s.first) (append_assoc (m.0 ++ m.1) o (t ∷ q) ∙ append_assoc m.0 m.1 (o ++ t ∷ q)) ∙
      starts_turn x m.2 m.0 (m.1 ++ (o ++ t ∷ q)) m.4

  -- a kind that begins a turn doesn't go on with one
  clear_turn : (u : List T) → starts kind s.first u ≡ true → starts kind s.more u ≡ false
  clear_turn [] h = refl
  clear_turn (t ∷ u) h = apart s.more s.first (kind t) d h

  meets_turns : (k : ℕ) (x z : S) (p o : List T) (c : Cause) (t : T) (q : List T) → plain.Turns (λ y. (step y).derives) k x p z → (step z).passes c o t → read_loop kind s.first read x ((p ++ o) ++ t ∷ q) ≡ stops c (t ∷ q)
  meets_turns zero x z p o c t q m h =
      ap (λ v. read_loop kind s.first read x ((v ++ o) ++ t ∷ q)) m.0 ∙ ap (λ y. read_loop kind s.first read y (o ++ t ∷ q)) (sym m.1) ∙
      read_loop_stops kind s.first read z (o ++ t ∷ q) (t ∷ q) c ((f z).opens c o t q h) ((f z).meets c o t q h)
  meets_turns (suc k) x z p o c t q m h =
      let rest : List T = (m.1 ++ o) ++ t ∷ q in
      let same : (p ++ o) ++ t ∷ q ≡ m.0 ++ rest =
      ap (λ v. (v ++ o) ++ t ∷ q) m.3 ∙ append_assoc (m.0 ++ m.1) o (t ∷ q) ∙ append_assoc m.0 m.1 (o ++ t ∷ q) ∙ ap (λ v. m.0 ++ v) (sym (append_assoc m.1 o (t ∷ q))) in
      ap (read_loop kind s.first read x) same ∙
      read_loop_more kind s.first read x m.2 (m.0 ++ rest) rest (starts_turn x m.2 m.0 rest m.4)
      ((e x).complete m.0 rest m.2 m.4 (clear_turn rest (opens_turns k m.2 z m.1 o c t q m.5 h))) (shorter_turn x m.2 m.0 rest m.4) ∙
      meets_turns k m.2 z m.1 o c t q m.5 h

  pub passed_loop : (z : S) → Passed kind (shape_many s) (Loop step z) (read_loop kind s.first read z)
  unfolding read_loop
  passed_loop z = record {
    reached = λ c u r n h. turns c r n (length u) z u h;
    meets = λ c p t q h. ap (λ v. read_loop kind s.first read z (v ++ t ∷ q)) h.3 ∙ meets_turns h.4.0 z h.2 h.0 h.1 c t q h.4.1 h.5;
    opens = λ c p t q h. ap (λ v. starts kind s.first (v ++ t ∷ q)) h.3 ∙ opens_turns h.4.0 z h.2 h.0 h.1 c t q h.4.1 h.5;
  }

-- ---- the lists that are loops

module _ {T : Type 0} (kind : T → ℕ) where
  pub many_passes : {A : Type 0} (L : Limited T A) (c : Cause) (u : List T) (t : T) → (Loop (λ ys. Of (pushed ys) L) []).passes c u t → (Many L).passes c u t
  many_passes L c u t h = (h.0, h.1, h.2, h.3, many_to L.derives h.0 h.2 h.4, h.5)

  pub passes_many : {A : Type 0} (L : Limited T A) (c : Cause) (u : List T) (t : T) → (Many L).passes c u t → (Loop (λ ys. Of (pushed ys) L) []).passes c u t
  passes_many L c u t h = (h.0, h.1, h.2, h.3, many_from L.derives h.0 h.2 h.4, h.5)

  pub most_passes : {A : Type 0} (n : ℕ) (first : List ℕ) (cause : Cause) (L : Limited T A) (c : Cause) (u : List T) (t : T) →
      (Loop (λ ys. Within kind (ltb (length ys) n) first cause (Of (pushed ys) L)) []).passes c u t → (Most kind n first cause L).passes c u t
  most_passes n first cause L c u t h = (h.0, h.1, h.2, h.3, most_to n L.derives h.0 h.2 h.4, h.5)

  pub passes_most : {A : Type 0} (n : ℕ) (first : List ℕ) (cause : Cause) (L : Limited T A) (c : Cause) (u : List T) (t : T) →
      (Most kind n first cause L).passes c u t → (Loop (λ ys. Within kind (ltb (length ys) n) first cause (Of (pushed ys) L)) []).passes c u t
  passes_most n first cause L c u t h = (h.0, h.1, h.2, h.3, most_from n L.derives h.0 h.2 h.4, h.5)

  joined : (u p q r m v : List T) (t : T) → u ≡ p ++ q → q ≡ r ++ m → m ≡ t ∷ v → u ≡ (p ++ r) ++ t ∷ v
  joined u p q r m v t e f g = two_parts u p q r (t ∷ v) e (f ∙ ap (λ o. r ++ o) g)

  pub separated_passes : {A : Type 0} (k : ℕ) (L : Limited T A) (c : Cause) (u : List T) (t : T) →
      (Given L (λ x. Loop (λ ys. Skip kind k (Of (pushed ys) L)) (x ∷ []))).passes c u t → (Separated kind k L).passes c u t
  separated_passes k L c u t (inl h) = inl h
  separated_passes k L c u t (inr h) =
      let l : _ = h.5 in
      let s : _ = l.5 in
      inr (h.0 ++ l.0, s.0, s.1, l.2, joined u h.0 h.1 l.0 l.1 s.1 s.0 h.3 l.3 s.2, s.3, separated_to kind k L.derives (h.0 ++ l.0) l.2 (h.0, l.0, h.2, refl, h.4, l.4), s.4)

  pub passes_separated : {A : Type 0} (k : ℕ) (L : Limited T A) (c : Cause) (u : List T) (t : T) →
      (Separated kind k L).passes c u t → (Given L (λ x. Loop (λ ys. Skip kind k (Of (pushed ys) L)) (x ∷ []))).passes c u t
  passes_separated k L c u t (inl h) = inl h
  passes_separated k L c u t (inr h) =
      let m : _ = separated_from kind k L.derives h.0 h.3 h.6 in
      inr (m.0, m.1 ++ h.1 ∷ h.2, m.2, h.4 ∙ ap (λ v. v ++ h.1 ∷ h.2) m.3 ∙ append_assoc m.0 m.1 (h.1 ∷ h.2), m.4, (m.1, h.1 ∷ h.2, h.3, refl, m.5, (h.1, h.2, refl, h.5, h.7)))

  pub separated_most_passes : {A : Type 0} (k n : ℕ) (first : List ℕ) (cause : Cause) (L : Limited T A) → 1 ≤ n → (c : Cause) (u : List T) (t : T) →
      (Given L (λ x. Loop (λ ys. Skip kind k (Within kind (ltb (length ys) n) first cause (Of (pushed ys) L))) (x ∷ []))).passes c u t → (SeparatedMost kind k n first cause L).passes c u t
  separated_most_passes k n first cause L one c u t (inl h) = inl h
  separated_most_passes k n first cause L one c u t (inr h) =
      let l : _ = h.5 in
      let s : _ = l.5 in
      inr (h.0 ++ l.0, s.0, s.1, l.2, joined u h.0 h.1 l.0 l.1 s.1 s.0 h.3 l.3 s.2, s.3, separated_most_to kind k n L.derives one (h.0 ++ l.0) l.2 (h.0, l.0, h.2, refl, h.4, l.4), s.4)

  pub passes_separated_most : {A : Type 0} (k n : ℕ) (first : List ℕ) (cause : Cause) (L : Limited T A) (c : Cause) (u : List T) (t : T) →
      (SeparatedMost kind k n first cause L).passes c u t → (Given L (λ x. Loop (λ ys. Skip kind k (Within kind (ltb (length ys) n) first cause (Of (pushed ys) L))) (x ∷ []))).passes c u t
  passes_separated_most k n first cause L c u t (inl h) = inl h
  passes_separated_most k n first cause L c u t (inr h) =
      let m : _ = separated_most_from kind k n L.derives h.0 h.3 h.6 in
      inr (m.0, m.1 ++ h.1 ∷ h.2, m.2, h.4 ∙ ap (λ v. v ++ h.1 ∷ h.2) m.3 ∙ append_assoc m.0 m.1 (h.1 ∷ h.2), m.4, (m.1, h.1 ∷ h.2, h.3, refl, m.5, (h.1, h.2, refl, h.5, h.7)))
