-- Each combinator's reading before a token that begins no sentence, and that a sentence begins with each token that may be the first.
use Rattle.std.proofs.Common.{◌≡◌, ℕ, zero, suc, eqb, Bool, true, false, cond, Option, Some, None, List, [], ◌∷◌, ◌++◌, refl, sym, ap, ◌∙◌, subst, ◌⊎◌, inl, inr}
use Rattle.std.proofs.lemmas.List.{append-nil}
use Rattle.std.proofs.lemmas.Bool.{eq-eqb, eqb-true}
use Rattle.lrc_parse.specs.Kinds.{has, starts}
use Rattle.lrc_parse.specs.Language.{Lang, Empty, One, Of, Given, Either, Within, Chain, Loop, Fixed, Skip, Ends}
use Rattle.lrc_parse.specs.Reading.{Cause, expected, Reading, took, stops, read_empty, read_one, read_of, read_given, read_fixed, read_skip, read_either, read_nothing, read_within, read_loop, read_chain}
use Rattle.lrc_parse.specs.Exact.{Shape, shape_one, shape_empty, shape_then, shape_either, shape_skip, shape_many}
use Rattle.lrc_parse.specs.Faults.{Widening, Begins, Grows, Tame, Rich}
use Rattle.lrc_parse.proofs.Sets.{true_not_false, has_cases, clear_left, clear_right}
use Rattle.lrc_parse.proofs.Steps.{read_one_end, read_one_stops, read_skip_end, read_skip_stops, read_of_took, read_of_stops, read_given_took, read_given_stops, read_either_second, read_nothing_other, read_within_room, read_within_other}
use Rattle.lrc_parse.proofs.Loops.{read_loop_end}
use Rattle.lrc_parse.proofs.Same.{fixed_same, chain_same, fixed_to, kind_value}

head_of_one : {T : Type 0} (t s : T) → t ∷ [] ≡ s ∷ [] → t ≡ s
head_of_one t s e = cc

-- the first kinds of what has no empty sentence
plain_first : (s : Shape) (ks : List ℕ) (k : ℕ) → s.empty ≡ false → has (cond s.empty (s.first ++ ks) s.first) k ≡ true → has s.first k ≡ true
plain_first s ks k n h = subst (λ z. has (cond z (s.first ++ ks) s.first) k ≡ true) n h

not_empty : (s : Shape) (z : Bool) → s.empty ≡ false → cond s.empty z false ≡ true → ⊥
not_empty s z n h = true_not_false false (subst (λ b. cond b z false ≡ true) n h) refl

module _ {T : Type 0} (kind : T → ℕ) where
  pub tame_as : {A : Type 0} (s : Shape) (a b : List T → Reading T A) → Tame kind s a → ((u : List T) → b u ≡ a u) → Tame kind s b
  tame_as s a b e same = record {
    misses = λ n u h. same u ∙ e.misses n u h;
    passes = λ n u h. let w : _ = e.passes n u h in (w.0, same u ∙ w.1);
  }

  pub tame_empty : {A : Type 0} (a : A) → Tame kind shape_empty (read_empty {T = T} a)
  unfolding read_empty
  tame_empty a = record { misses = λ n. absurd (true_not_false true refl n); passes = λ n u h. (a, refl) }

  pub tame_one : {A : Type 0} (ks : List ℕ) (value : T → Option A) → ((t : T) (x : A) → value t ≡ Some x → has ks (kind t) ≡ true) →
      Tame kind (shape_one ks) (read_one value)
  tame_one {A} ks value among = record { misses = λ n. misses; passes = λ n. absurd (true_not_false false n refl) }
    where
      lacks : (o : Option A) (t : T) (r : List T) → value t ≡ o → has ks (kind t) ≡ false → read_one value (t ∷ r) ≡ stops expected (t ∷ r)
      lacks None t r e h = read_one_stops value t r e
      lacks (Some x) t r e h = absurd (true_not_false _ (among t x e) h)

      misses : (u : List T) → starts kind ks u ≡ false → read_one value u ≡ stops expected u
      misses [] h = read_one_end value
      misses (t ∷ r) h = lacks (value t) t r refl h

  pub tame_of : {A B : Type 0} (f : A → B) (s : Shape) (a : List T → Reading T A) → Tame kind s a → Tame kind s (read_of f a)
  tame_of f s a e = record {
    misses = λ n u h. read_of_stops f a u u expected (e.misses n u h);
    passes = λ n u h. let w : _ = e.passes n u h in (f w.0, read_of_took f a u u w.0 w.1);
  }

  clear_first : (z : Bool) (js ks : List ℕ) (u : List T) → starts kind (cond z (js ++ ks) js) u ≡ false → starts kind js u ≡ false
  clear_first true js ks u h = clear_left kind js ks u h
  clear_first false js ks u h = h

  pub tame_given : {A B : Type 0} (s t : Shape) (a : List T → Reading T A) (b : A → List T → Reading T B) → Tame kind s a → ((x : A) → Tame kind t (b x)) →
      Tame kind (shape_then s t) (read_given a b)
  tame_given {A} {B} s t a b e f = record { misses = misses s.empty refl; passes = passes s.empty refl }
    where
      misses : (z : Bool) → s.empty ≡ z → cond s.empty t.empty false ≡ false → (u : List T) →
          starts kind (cond s.empty (s.first ++ t.first) s.first) u ≡ false → read_given a b u ≡ stops expected u
      misses true g n u h =
          let k : starts kind (s.first ++ t.first) u ≡ false = subst (λ z. starts kind (cond z (s.first ++ t.first) s.first) u ≡ false) g h in
          let w : (x : A) × (a u ≡ took x u) = e.passes g u (clear_left kind s.first t.first u k) in
          read_given_took a b u u w.0 w.1 ∙
          (f w.0).misses (subst (λ z. cond z t.empty false ≡ false) g n) u (clear_right kind s.first t.first u k)
      misses false g n u h = read_given_stops a b u u expected (e.misses g u (clear_first s.empty s.first t.first u h))

      passes : (z : Bool) → s.empty ≡ z → cond s.empty t.empty false ≡ true → (u : List T) →
          starts kind (cond s.empty (s.first ++ t.first) s.first) u ≡ false → (y : B) × (read_given a b u ≡ took y u)
      passes true g n u h =
          let k : starts kind (s.first ++ t.first) u ≡ false = subst (λ z. starts kind (cond z (s.first ++ t.first) s.first) u ≡ false) g h in
          let w : (x : A) × (a u ≡ took x u) = e.passes g u (clear_left kind s.first t.first u k) in
          let v : (y : B) × (b w.0 u ≡ took y u) = (f w.0).passes (subst (λ z. cond z t.empty false ≡ true) g n) u (clear_right kind s.first t.first u k) in
          (v.0, read_given_took a b u u w.0 w.1 ∙ v.1)
      passes false g n u h = absurd (true_not_false false (subst (λ z. cond z t.empty false ≡ true) g n) refl)

  pub tame_either : {A : Type 0} (s t : Shape) (a b : List T → Reading T A) → Tame kind t b → Tame kind (shape_either s t) (read_either kind s.first a b)
  tame_either s t a b f = record {
    misses = λ n u h. read_either_second kind s.first a b u (clear_left kind s.first t.first u h) ∙ f.misses n u (clear_right kind s.first t.first u h);
    passes = λ n u h. let w : _ = f.passes n u (clear_right kind s.first t.first u h) in
        (w.0, read_either_second kind s.first a b u (clear_left kind s.first t.first u h) ∙ w.1);
  }

  pub tame_within : {A : Type 0} (room : Bool) (s : Shape) (c : Cause) (a : List T → Reading T A) → s.empty ≡ false → Tame kind s a →
      Tame kind s (read_within kind room s.first c a)
  tame_within room s c a z e = record {
    misses = λ n u h. go room refl u h;
    passes = λ n. absurd (true_not_false _ n z);
  }
    where
      go : (b : Bool) → room ≡ b → (u : List T) → starts kind s.first u ≡ false → read_within kind room s.first c a u ≡ stops expected u
      go true g u h = read_within_room kind room s.first c a u g ∙ e.misses z u h
      go false g u h = read_within_other kind room s.first c a u g h

  pub tame_nothing : {A : Type 0} (s : Shape) (c : Cause) → s.empty ≡ false → Tame {A = A} kind s (read_nothing kind s.first c)
  tame_nothing s c z = record { misses = λ n u h. read_nothing_other kind s.first c u h; passes = λ n. absurd (true_not_false _ n z) }

  pub tame_loop : {S : Type 0} (s : Shape) (read : S → List T → Reading T S) (z : S) → Tame kind (shape_many s) (read_loop kind s.first read z)
  tame_loop s read z = record {
    misses = λ n. absurd (true_not_false true refl n);
    passes = λ n u h. (z, read_loop_end kind s.first read z u h);
  }

  -- a token of the kind is among the kind alone
  kind_among : (k : ℕ) (t : T) → kind t ≡ k → has (k ∷ []) (kind t) ≡ true
  kind_among k t e = ap (λ b. cond b true false) (eq-eqb k (kind t) (sym e))

  among_kind : (k : ℕ) (t : T) → has (k ∷ []) (kind t) ≡ true → kind t ≡ k
  among_kind k t h = go (eqb k (kind t)) refl h
    where
      go : (b : Bool) → eqb k (kind t) ≡ b → cond b true false ≡ true → kind t ≡ k
      go true e g = sym (eqb-true k (kind t) e)
      go false e g = absurd (true_not_false false g refl)

  pub tame_fixed : (k : ℕ) → Tame kind (shape_one (k ∷ [])) (read_fixed kind k)
  tame_fixed k = tame_as (shape_one (k ∷ [])) (read_one (kind_value kind k)) (read_fixed kind k) (tame_one (k ∷ []) (kind_value kind k) among) (fixed_same kind k)
    where
      among : (t : T) (x : Unit {0}) → kind_value kind k t ≡ Some x → has (k ∷ []) (kind t) ≡ true
      among t x h =
          let w : Fixed kind k (t ∷ []) x = fixed_to kind k (t ∷ []) x (t, refl, h) in
          kind_among k t (ap kind (head_of_one t w.0 w.1) ∙ w.2)

  pub tame_skip : {A : Type 0} (k : ℕ) (s : Shape) (a : List T → Reading T A) → Tame kind (shape_skip k s) (read_skip kind k a)
  tame_skip {A} k s a = record { misses = λ n u h. go u h; passes = λ n. absurd (true_not_false false n refl) }
    where
      go : (u : List T) → starts kind (k ∷ []) u ≡ false → read_skip kind k a u ≡ stops expected u
      go [] h = read_skip_end kind k a
      go (t ∷ r) h = read_skip_stops kind k a t r (λ e. true_not_false _ (kind_among k t e) h)

  pub tame_chain : {A X : Type 0} (f : A → X → A) (s t : Shape) (a : List T → Reading T A) (b : List T → Reading T X) → Tame kind s a →
      Tame kind (shape_then s (shape_many t)) (read_chain kind f a t.first b)
  tame_chain f s t a b e =
      tame_as (shape_then s (shape_many t)) _ (read_chain kind f a t.first b)
      (tame_given s (shape_many t) a (λ x. read_loop kind t.first (λ y. read_of (f y) b) x) e (λ x. tame_loop t (λ y. read_of (f y) b) x)) (chain_same kind f a t.first b)

module _ {I T : Type 0} (kind : T → ℕ) where
  pub rich_as : {A : Type 0} (s : Shape) (L M : I → Lang T A) → Rich kind s L → ((i : I) (u : List T) (x : A) → L i u x → M i u x) → Rich kind s M
  rich_as s L M e to = record {
    some = (e.some.0, e.some.1, e.some.2, to _ _ _ e.some.3);
    nothing = λ n. let w : _ = e.nothing n in (w.0, w.1, to _ _ _ w.2);
    opens = λ t h. let w : _ = e.opens t h in (w.0, w.1, w.2, to _ _ _ w.3);
  }

  pub rich_empty : {A : Type 0} (a : A) → I → Rich {I = I} kind shape_empty (λ _. Empty a)
  rich_empty a i = record {
    some = (i, [], a, (refl, refl));
    nothing = λ n. (i, a, (refl, refl));
    opens = λ t h. absurd (true_not_false false h refl);
  }

  pub rich_one : {A : Type 0} (ks : List ℕ) (value : T → Option A) → I → ((t : T) → has ks (kind t) ≡ true → (x : A) × (value t ≡ Some x)) →
      (t : T) → has ks (kind t) ≡ true → Rich {I = I} kind (shape_one ks) (λ _. One value)
  rich_one {A} ks value i has_value t h = record {
    some = (let w : _ = opens t h in (i, w.0, w.1, w.2));
    nothing = λ n. absurd (true_not_false false n refl);
    opens = λ s g. let w : (x : A) × (value s ≡ Some x) = has_value s g in (i, [], w.0, (s, refl, w.1));
  }
    where
      opens : (s : T) → has ks (kind s) ≡ true → (q : List T) × (x : A) × One value q x
      opens s g = let w : (x : A) × (value s ≡ Some x) = has_value s g in (s ∷ [], w.0, (s, refl, w.1))

  pub rich_of : {A B : Type 0} (f : A → B) (s : Shape) (L : I → Lang T A) → Rich kind s L → Rich kind s (λ j. Of f (L j))
  rich_of f s L e = record {
    some = (e.some.0, e.some.1, f e.some.2, (e.some.2, e.some.3, refl));
    nothing = λ n. let w : _ = e.nothing n in (w.0, f w.1, (w.1, w.2, refl));
    opens = λ t h. let w : _ = e.opens t h in (w.0, w.1, f w.2, (w.2, w.3, refl));
  }

  pub rich_fixed : (k : ℕ) → I → (t : T) → kind t ≡ k → Rich {I = I} kind (shape_one (k ∷ [])) (λ _. Fixed kind k)
  rich_fixed k i t e = record {
    some = (i, t ∷ [], tt, (t, refl, e));
    nothing = λ n. absurd (true_not_false false n refl);
    opens = λ s h. (i, [], tt, (s, refl, among_kind kind k s h));
  }

  pub rich_skip : {A : Type 0} (k : ℕ) (s : Shape) (L : I → Lang T A) (t : T) → kind t ≡ k → Begins L [] → Rich kind (shape_skip k s) (λ j. Skip kind k (L j))
  rich_skip k s L t e b = record {
    some = (b.0, t ∷ b.1, b.2, (t, b.1, refl, e, b.3));
    nothing = λ n. absurd (true_not_false false n refl);
    opens = λ v h. (b.0, b.1, b.2, (v, b.1, refl, among_kind kind k v h, b.3));
  }

  pub rich_either : {A : Type 0} (s t : Shape) (L M : I → Lang T A) → Rich kind s L → Rich kind t M → Rich kind (shape_either s t) (λ j. Either (L j) (M j))
  rich_either {A} s t L M e f = record {
    some = (e.some.0, e.some.1, e.some.2, inl e.some.3);
    nothing = λ n. let w : _ = f.nothing n in (w.0, w.1, inr w.2);
    opens = λ v h. go v (has_cases s.first t.first (kind v) h);
  }
    where
      go : (v : T) → (has s.first (kind v) ≡ true) ⊎ (has t.first (kind v) ≡ true) → Begins (λ j. Either (L j) (M j)) (v ∷ [])
      go v (inl h) = let w : Begins L (v ∷ []) = e.opens v h in (w.0, w.1, w.2, inl w.3)
      go v (inr h) = let w : Begins M (v ∷ []) = f.opens v h in (w.0, w.1, w.2, inr w.3)

  pub rich_loop : {S : Type 0} (s : Shape) (step : S → I → Lang T S) → ((z : S) → Rich kind s (step z)) → (z : S) →
      Rich kind (shape_many s) (λ j. Loop (λ x. step x j) z)
  rich_loop s step e z = record {
    some = ((e z).some.0, [], z, (zero, (refl, refl)));
    nothing = λ n. ((e z).some.0, z, (zero, (refl, refl)));
    opens = λ t h. let w : _ = (e z).opens t h in
        (w.0, w.1, w.2, (suc zero, (t ∷ w.1, [], w.2, sym (append-nil (t ∷ w.1)), w.3, (refl, refl))));
  }

  pub rich_chain : {A X : Type 0} (f : A → X → A) (s t : Shape) (L : I → Lang T A) (M : I → Lang T X) → s.empty ≡ false → Rich kind s L →
      Rich kind (shape_then s (shape_many t)) (λ j. Chain f (L j) (M j))
  rich_chain {A} {X} f s t L M n e = record {
    some = (e.some.0, e.some.1, e.some.2, alone e.some.0 e.some.1 e.some.2 e.some.3);
    nothing = λ h. absurd (not_empty s true n h);
    opens = λ v h. let w : _ = e.opens v (plain_first s t.first (kind v) n h) in (w.0, w.1, w.2, alone w.0 (v ∷ w.1) w.2 w.3);
  }
    where
      alone : (i : I) (u : List T) (x : A) → L i u x → Chain f (L i) (M i) u x
      alone i u x m = (u, [], x, [], sym (append-nil u), m, refl, refl)

  -- a sentence of the parts is one of the whole
  pub some_of : {A B : Type 0} (f : A → B) (L : I → Lang T A) → Begins L [] → Begins (λ j. Of f (L j)) []
  some_of f L b = (b.0, b.1, f b.2, (b.2, b.3, refl))

  pub some_ends : {A : Type 0} (L : I → Lang T A) (k : ℕ) (t : T) → kind t ≡ k → Begins L [] → Begins (λ j. Ends kind (L j) k) []
  some_ends L k t e b = (b.0, b.1 ++ t ∷ [], b.2, (b.1, t, refl, b.3, e))

  pub some_left : {A : Type 0} (L M : I → Lang T A) → Begins L [] → Begins (λ j. Either (L j) (M j)) []
  some_left L M b = (b.0, b.1, b.2, inl b.3)

module _ {I T : Type 0} (kind : T → ℕ) (le : I → I → Type 0) (wide : Widening le) where
  pub some_given : {A B : Type 0} (L : I → Lang T A) (M : A → I → Lang T B) → Grows le L → ((x : A) → Grows le (M x)) →
      Begins L [] → ((x : A) → Begins (M x) []) → Begins (λ j. Given (L j) (λ x. M x j)) []
  some_given L M gl gm b d =
      let c : Begins (M b.2) [] = d b.2 in
      let k : _ = wide.upper b.0 c.0 in
      (k.0, b.1 ++ c.1, c.2, (b.1, c.1, b.2, refl, gl _ _ k.1 _ _ b.3, gm b.2 _ _ k.2 _ _ c.3))

  pub rich_given : {A B : Type 0} (s t : Shape) (L : I → Lang T A) (M : A → I → Lang T B) → Grows le L → ((x : A) → Grows le (M x)) → Rich kind s L →
      ((x : A) → Begins (M x) []) → (s.empty ≡ true → (x : A) → Rich kind t (M x)) → Rich kind (shape_then s t) (λ j. Given (L j) (λ x. M x j))
  rich_given {A} {B} s t L M gl gm e some f = record {
    some = some_given L M gl gm e.some some;
    nothing = λ n. nothing (s.empty) refl n;
    opens = λ v h. opens s.empty refl v h;
  }
    where
      nothing : (z : Bool) → s.empty ≡ z → cond s.empty t.empty false ≡ true → (i : I) × (y : B) × Given (L i) (λ x. M x i) [] y
      nothing true g n =
          let w : (i : I) × (x : A) × L i [] x = e.nothing g in
          let v : (i : I) × (y : B) × M w.1 i [] y = (f g w.1).nothing (subst (λ z. cond z t.empty false ≡ true) g n) in
          let k : _ = wide.upper w.0 v.0 in
          (k.0, v.1, ([], [], w.1, refl, gl _ _ k.1 _ _ w.2, gm w.1 _ _ k.2 _ _ v.2))
      nothing false g n = absurd (true_not_false false (subst (λ z. cond z t.empty false ≡ true) g n) refl)

      opens_first : (v : T) → has s.first (kind v) ≡ true → Begins (λ j. Given (L j) (λ x. M x j)) (v ∷ [])
      opens_first v h =
          let w : Begins L (v ∷ []) = e.opens v h in
          let c : Begins (M w.2) [] = some w.2 in
          let k : _ = wide.upper w.0 c.0 in
          (k.0, w.1 ++ c.1, c.2, (v ∷ w.1, c.1, w.2, refl, gl _ _ k.1 _ _ w.3, gm w.2 _ _ k.2 _ _ c.3))

      opens_second : s.empty ≡ true → (v : T) → has t.first (kind v) ≡ true → Begins (λ j. Given (L j) (λ x. M x j)) (v ∷ [])
      opens_second g v h =
          let w : (i : I) × (x : A) × L i [] x = e.nothing g in
          let c : Begins (M w.1) (v ∷ []) = (f g w.1).opens v h in
          let k : _ = wide.upper w.0 c.0 in
          (k.0, c.1, c.2, ([], v ∷ c.1, w.1, refl, gl _ _ k.1 _ _ w.2, gm w.1 _ _ k.2 _ _ c.3))

      cases : s.empty ≡ true → (v : T) → (has s.first (kind v) ≡ true) ⊎ (has t.first (kind v) ≡ true) → Begins (λ j. Given (L j) (λ x. M x j)) (v ∷ [])
      cases g v (inl h) = opens_first v h
      cases g v (inr h) = opens_second g v h

      opens : (z : Bool) → s.empty ≡ z → (v : T) → has (cond s.empty (s.first ++ t.first) s.first) (kind v) ≡ true → Begins (λ j. Given (L j) (λ x. M x j)) (v ∷ [])
      opens true g v h = cases g v (has_cases s.first t.first (kind v) (subst (λ z. has (cond z (s.first ++ t.first) s.first) (kind v) ≡ true) g h))
      opens false g v h = opens_first v (subst (λ z. has (cond z (s.first ++ t.first) s.first) (kind v) ≡ true) g h)

  pub rich_within : {A : Type 0} (room : I → Bool) (s : Shape) (L : I → Lang T A) → ((i j : I) → le i j → room i ≡ true → room j ≡ true) →
      (i : I) × (room i ≡ true) → s.empty ≡ false → Grows le L → Rich kind s L → Rich kind s (λ j. Within (room j) (L j))
  rich_within {A} room s L keeps enough n gl e = record {
    some = roomy [] e.some;
    nothing = λ h. absurd (true_not_false _ h n);
    opens = λ t h. roomy (t ∷ []) (e.opens t h);
  }
    where
      roomy : (p : List T) → Begins L p → Begins (λ j. Within (room j) (L j)) p
      roomy p b = let k : _ = wide.upper enough.0 b.0 in (k.0, b.1, b.2, (keeps _ _ k.1 enough.1, gl _ _ k.2 _ _ b.3))
