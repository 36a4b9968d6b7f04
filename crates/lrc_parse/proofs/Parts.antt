-- Each combinator's reading is exact where its parts' readings are.
use Rattle.std.proofs.Common.{◌≡◌, ℕ, Bool, true, false, cond, Option, Some, None, List, [], ◌∷◌, ◌++◌, refl, sym, ap, ◌∙◌, subst, inl, inr, append_assoc}
use Rattle.std.proofs.lemmas.Bool.{eq-eqb}
use Rattle.lrc_parse.specs.Kinds.{has, disjoint, starts}
use Rattle.lrc_parse.specs.Language.{Lang, Nothing, Empty, One, Of, Then, Given, Either, Optional, Within, Fixed, Skip, Ends}
use Rattle.lrc_parse.specs.Reading.{Cause, expected, Reading, took, stops, read_empty, read_one, read_of, read_then, read_given, read_fixed, read_skip, read_ends, read_either, read_optional, read_nothing, read_within}
use Rattle.lrc_parse.specs.Exact.{Shape, Exact, shape_one, shape_empty, shape_then, shape_either, shape_skip, shape_ends}
use Rattle.lrc_parse.proofs.Sets.{true_not_false, has_left, has_right, apart, clear_left, clear_right}
use Rattle.lrc_parse.proofs.Steps.{read_one_took, read_of_took, read_given_took, read_fixed_took, read_skip_took, read_either_first, read_either_second, read_within_room}
use Rattle.lrc_parse.proofs.Same.{then_parts, then_to, then_from, then_same, ends_parts, ends_to, ends_from, ends_same}
use Rattle.lrc_parse.proofs.Back.{same_value, same_rest, stops_not_took, on_took_back, token_value_back, cond_back, cond_cases, past_token_back}

-- one token at the head of a list that has just one
only_head : {T : Type 0} (t s : T) (p : List T) → t ∷ p ≡ s ∷ [] → t ≡ s
only_head t s p e = cc

pub same_head : {T : Type 0} (t s : T) (p q : List T) → t ∷ p ≡ s ∷ q → t ≡ s
same_head t s p q e = cc

pub not_nil : {T : Type 0} (t : T) (p : List T) → [] ≡ t ∷ p → ⊥
not_nil t p e = cc

-- the tokens in front of the rest, taken in two parts
pub two_parts : {T : Type 0} (u p m q r : List T) → u ≡ p ++ m → m ≡ q ++ r → u ≡ (p ++ q) ++ r
two_parts u p m q r e f = e ∙ ap (λ w. p ++ w) f ∙ sym (append_assoc p q r)

module _ {T : Type 0} (kind : T → ℕ) where
  -- an exact reading of another language with the same sentences
  pub exact_as : {A : Type 0} (s : Shape) (L M : Lang T A) (a b : List T → Reading T A) → Exact kind s L a →
      ((u : List T) (x : A) → L u x → M u x) → ((u : List T) (x : A) → M u x → L u x) → ((u : List T) → b u ≡ a u) →
      Exact kind s M b
  exact_as s L M a b e to from same = record {
    sound = λ u x r h. let w : _ = e.sound u x r (sym (same u) ∙ h) in (w.0, w.1, to _ _ w.2);
    complete = λ p r x m c. same (p ++ r) ∙ e.complete p r x (from p x m) c;
    first = λ t p x m. e.first t p x (from _ _ m);
    empty = λ x m. e.empty x (from _ _ m);
  }

  pub exact_empty : {A : Type 0} (a : A) → Exact kind shape_empty (Empty a) (read_empty a)
  unfolding read_empty
  exact_empty a = record {
    sound = λ u x r h. ([], same_rest a x u r h, (refl, sym (same_value a x u r h)));
    complete = λ p r x m c. let e : p ≡ [] = m.0 in let f : x ≡ a = m.1 in ap (λ q. took a (q ++ r)) e ∙ ap (λ y. took y r) (sym f);
    first = λ t p x m. absurd (not_nil t p (sym m.0));
    empty = λ x m. refl;
  }

  pub exact_one : {A : Type 0} (ks : List ℕ) (value : T → Option A) →
      ((t : T) (x : A) → value t ≡ Some x → has ks (kind t) ≡ true) → Exact kind (shape_one ks) (One value) (read_one value)
  unfolding read_one
  exact_one {A} ks value among = record { sound = sound; complete = complete; first = first; empty = λ x m. absurd (not_nil m.0 [] m.1) }
    where
      sound : (u : List T) (x : A) (r : List T) → read_one value u ≡ took x r → (p : List T) × (u ≡ p ++ r) × One value p x
      sound [] x r h = absurd (stops_not_took expected x [] r h)
      sound (t ∷ m) x r h =
          let w : _ = token_value_back (value t) t m x r h in (t ∷ [], ap (λ n. t ∷ n) w.1, (t, refl, w.0))

      complete : (p r : List T) (x : A) → One value p x → starts kind [] r ≡ false → read_one value (p ++ r) ≡ took x r
      complete p r x m c = ap (λ q. read_one value (q ++ r)) m.1 ∙ read_one_took value m.0 r x m.2

      first : (t : T) (p : List T) (x : A) → One value (t ∷ p) x → has ks (kind t) ≡ true
      first t p x m = ap (λ s. has ks (kind s)) (only_head t m.0 p m.1) ∙ among m.0 x m.2

  pub exact_of : {A B : Type 0} (f : A → B) (s : Shape) (L : Lang T A) (a : List T → Reading T A) → Exact kind s L a →
      Exact kind s (Of f L) (read_of f a)
  unfolding read_of
  exact_of {A} {B} f s L a e = record {
    sound = sound;
    complete = λ p r y m c. read_of_took f a (p ++ r) r m.0 (e.complete p r m.0 m.1 c) ∙ ap (λ z. took z r) (sym m.2);
    first = λ t p y m. e.first t p m.0 m.1;
    empty = λ y m. e.empty m.0 m.1;
  }
    where
      sound : (u : List T) (y : B) (r : List T) → read_of f a u ≡ took y r → (p : List T) × (u ≡ p ++ r) × Of f L p y
      sound u y r h =
          let w : _ = on_took_back (a u) (λ x m. took (f x) m) y r h in
          let v : _ = e.sound u w.0 w.1 w.2 in
          (v.0, v.1 ∙ ap (λ m. v.0 ++ m) (same_rest _ _ _ _ w.3), (w.0, v.2, sym (same_value _ _ _ _ w.3)))

  pub exact_fixed : (k : ℕ) → Exact kind (shape_one (k ∷ [])) (Fixed kind k) (read_fixed kind k)
  unfolding read_fixed
  exact_fixed k = record { sound = sound; complete = complete; first = first; empty = λ x m. absurd (not_nil m.0 [] m.1) }
    where
      sound : (u : List T) (x : Unit {0}) (r : List T) → read_fixed kind k u ≡ took x r → (p : List T) × (u ≡ p ++ r) × Fixed kind k p x
      sound u x r h =
          let w : _ = past_token_back kind k (λ s. took tt s) u x r h in
          (w.0 ∷ [], w.2 ∙ ap (λ m. w.0 ∷ m) (same_rest _ _ _ _ w.4), (w.0, refl, w.3))

      complete : (p r : List T) (x : Unit {0}) → Fixed kind k p x → starts kind [] r ≡ false → read_fixed kind k (p ++ r) ≡ took x r
      complete p r x m c = ap (λ q. read_fixed kind k (q ++ r)) m.1 ∙ read_fixed_took kind k m.0 r m.2

      first : (t : T) (p : List T) (x : Unit {0}) → Fixed kind k (t ∷ p) x → has (k ∷ []) (kind t) ≡ true
      first t p x m = ap (λ b. cond b true false) (eq-eqb k (kind t) (sym m.2 ∙ ap kind (sym (only_head t m.0 p m.1))))

  pub exact_skip : {A : Type 0} (k : ℕ) (s : Shape) (L : Lang T A) (a : List T → Reading T A) → Exact kind s L a →
      Exact kind (shape_skip k s) (Skip kind k L) (read_skip kind k a)
  unfolding read_skip
  exact_skip {A} k s L a e = record { sound = sound; complete = complete; first = first; empty = λ x m. absurd (not_nil m.0 m.1 m.2) }
    where
      sound : (u : List T) (x : A) (r : List T) → read_skip kind k a u ≡ took x r → (p : List T) × (u ≡ p ++ r) × Skip kind k L p x
      sound u x r h =
          let w : _ = past_token_back kind k a u x r h in
          let v : _ = e.sound w.1 x r w.4 in
          (w.0 ∷ v.0, w.2 ∙ ap (λ m. w.0 ∷ m) v.1, (w.0, v.0, refl, w.3, v.2))

      complete : (p r : List T) (x : A) → Skip kind k L p x → starts kind s.more r ≡ false → read_skip kind k a (p ++ r) ≡ took x r
      complete p r x m c =
          ap (λ q. read_skip kind k a (q ++ r)) m.2 ∙ read_skip_took kind k a m.0 (m.1 ++ r) m.3 ∙ e.complete m.1 r x m.4 c

      first : (t : T) (p : List T) (x : A) → Skip kind k L (t ∷ p) x → has (k ∷ []) (kind t) ≡ true
      first t p x m = ap (λ b. cond b true false) (eq-eqb k (kind t) (sym m.3 ∙ ap kind (sym (same_head t m.0 p m.1 m.2))))

  -- a token of the second part's first kinds does not go on with the first part
  clear_between : {B : Type 0} (s t : Shape) (M : Lang T B) (b : List T → Reading T B) → Exact kind t M b →
      disjoint s.more t.first ≡ true → (q r : List T) (y : B) → M q y → starts kind (cond t.empty (t.more ++ s.more) t.more) r ≡ false →
      starts kind s.more (q ++ r) ≡ false
  clear_between s t M b e d [] r y m c =
      clear_right kind t.more s.more r (subst (λ z. starts kind (cond z (t.more ++ s.more) t.more) r ≡ false) (e.empty y m) c)
  clear_between s t M b e d (h ∷ q) r y m c = apart s.more t.first (kind h) d (e.first h q y m)

  clear_after : (z : Bool) (js ks : List ℕ) (r : List T) → starts kind (cond z (js ++ ks) js) r ≡ false → starts kind js r ≡ false
  clear_after true js ks r c = clear_left kind js ks r c
  clear_after false js ks r c = c

  pub first_there : (z : Bool) (js ks : List ℕ) (k : ℕ) → has js k ≡ true → has (cond z (js ++ ks) js) k ≡ true
  first_there true js ks k h = has_left js ks k h
  first_there false js ks k h = h

  pub first_behind : (z : Bool) (js ks : List ℕ) (k : ℕ) → z ≡ true → has ks k ≡ true → has (cond z (js ++ ks) js) k ≡ true
  first_behind true js ks k e h = has_right js ks k h
  first_behind false js ks k e h = absurd (true_not_false _ e refl)

  both_empty : (y z : Bool) → y ≡ true → z ≡ true → cond y z false ≡ true
  both_empty true z e f = f
  both_empty false z e f = absurd (true_not_false _ e refl)

  pub exact_given : {A B : Type 0} (s t : Shape) (L : Lang T A) (M : A → Lang T B) (a : List T → Reading T A) (b : A → List T → Reading T B) →
      disjoint s.more t.first ≡ true → Exact kind s L a → ((x : A) → Exact kind t (M x) (b x)) →
      Exact kind (shape_then s t) (Given L M) (read_given a b)
  unfolding read_given
  exact_given {A} {B} s t L M a b d e f = record { sound = sound; complete = complete; first = first; empty = empty }
    where
      sound : (u : List T) (y : B) (r : List T) → read_given a b u ≡ took y r → (p : List T) × (u ≡ p ++ r) × Given L M p y
      sound u y r h =
          let w : _ = on_took_back (a u) b y r h in
          let v : _ = e.sound u w.0 w.1 w.2 in
          let o : _ = (f w.0).sound w.1 y r w.3 in
          (v.0 ++ o.0, two_parts u v.0 w.1 o.0 r v.1 o.1, (v.0, o.0, w.0, refl, v.2, o.2))

      complete : (p r : List T) (y : B) → Given L M p y → starts kind (shape_then s t).more r ≡ false → read_given a b (p ++ r) ≡ took y r
      complete p r y m c =
          ap (λ q. read_given a b (q ++ r)) m.3 ∙ ap (read_given a b) (append_assoc m.0 m.1 r) ∙
          read_given_took a b (m.0 ++ (m.1 ++ r)) (m.1 ++ r) m.2
          (e.complete m.0 (m.1 ++ r) m.2 m.4 (clear_between s t (M m.2) (b m.2) (f m.2) d m.1 r y m.5 c)) ∙
          (f m.2).complete m.1 r y m.5 (clear_after t.empty t.more s.more r c)

      first_of : (t' : T) (p p1 q : List T) (x : A) (y : B) → t' ∷ p ≡ p1 ++ q → L p1 x → M x q y → has (shape_then s t).first (kind t') ≡ true
      first_of t' p [] q x y i l m =
          first_behind s.empty s.first t.first (kind t') (e.empty x l) ((f x).first t' p y (subst (λ w. M x w y) (sym i) m))
      first_of t' p (h ∷ p1) q x y i l m =
          first_there s.empty s.first t.first (kind t')
          (ap (λ w. has s.first (kind w)) (same_head t' h p (p1 ++ q) i) ∙ e.first h p1 x l)

      first : (t' : T) (p : List T) (y : B) → Given L M (t' ∷ p) y → has (shape_then s t).first (kind t') ≡ true
      first t' p y m = first_of t' p m.0 m.1 m.2 y m.3 m.4 m.5

      empty_of : (p1 q : List T) (x : A) (y : B) → [] ≡ p1 ++ q → L p1 x → M x q y → (shape_then s t).empty ≡ true
      empty_of [] q x y i l m = both_empty s.empty t.empty (e.empty x l) ((f x).empty y (subst (λ w. M x w y) (sym i) m))
      empty_of (h ∷ p1) q x y i l m = absurd (not_nil h (p1 ++ q) i)

      empty : (y : B) → Given L M [] y → (shape_then s t).empty ≡ true
      empty y m = empty_of m.0 m.1 m.2 y m.3 m.4 m.5

  pub exact_then : {A B : Type 0} (s t : Shape) (L : Lang T A) (M : Lang T B) (a : List T → Reading T A) (b : List T → Reading T B) →
      disjoint s.more t.first ≡ true → Exact kind s L a → Exact kind t M b → Exact kind (shape_then s t) (Then L M) (read_then a b)
  exact_then s t L M a b d e f =
      exact_as (shape_then s t) (then_parts L M) (Then L M) _ (read_then a b)
      (exact_given s t L (λ x. Of (λ y. (x, y)) M) a (λ x. read_of (λ y. (x, y)) b) d e (λ x. exact_of (λ y. (x, y)) t M b f))
      (then_to L M) (then_from L M) (then_same a b)

  pub exact_ends : {A : Type 0} (s : Shape) (L : Lang T A) (a : List T → Reading T A) (k : ℕ) →
      disjoint s.more (k ∷ []) ≡ true → Exact kind s L a → Exact kind (shape_ends s k) (Ends kind L k) (read_ends kind a k)
  exact_ends s L a k d e =
      exact_as (shape_ends s k) (ends_parts kind L k) (Ends kind L k) _ (read_ends kind a k)
      (exact_given s (shape_one (k ∷ [])) L (λ x. Of (λ _. x) (Fixed kind k)) a (λ x. read_of (λ _. x) (read_fixed kind k)) d e
      (λ x. exact_of (λ _. x) (shape_one (k ∷ [])) (Fixed kind k) (read_fixed kind k) (exact_fixed k)))
      (ends_to kind L k) (ends_from kind L k) (ends_same kind a k)

  pub exact_either : {A : Type 0} (s t : Shape) (L M : Lang T A) (a b : List T → Reading T A) →
      disjoint s.first t.first ≡ true → s.empty ≡ false → Exact kind s L a → Exact kind t M b →
      Exact kind (shape_either s t) (Either L M) (read_either kind s.first a b)
  unfolding read_either
  exact_either {A} s t L M a b d n e f = record { sound = sound; complete = complete; first = first; empty = empty }
    where
      sound : (u : List T) (x : A) (r : List T) → read_either kind s.first a b u ≡ took x r → (p : List T) × (u ≡ p ++ r) × Either L M p x
      sound u x r h = elim (cond_cases (starts kind s.first u) (a u) (b u) x r h) [
        | inl w ↦ (let v : _ = e.sound u x r w.1 in (v.0, v.1, inl v.2))
        | inr w ↦ (let v : _ = f.sound u x r w.1 in (v.0, v.1, inr v.2))
      ]

      clear_one : (z : Bool) (r : List T) → starts kind (cond z (s.more ++ (t.more ++ s.first)) (s.more ++ t.more)) r ≡ false → starts kind s.more r ≡ false
      clear_one true r c = clear_left kind s.more _ r c
      clear_one false r c = clear_left kind s.more _ r c

      clear_two : (z : Bool) (r : List T) → starts kind (cond z (s.more ++ (t.more ++ s.first)) (s.more ++ t.more)) r ≡ false → starts kind t.more r ≡ false
      clear_two true r c = clear_left kind t.more s.first r (clear_right kind s.more _ r c)
      clear_two false r c = clear_right kind s.more _ r c

      clear_three : (z : Bool) (r : List T) → z ≡ true → starts kind (cond z (s.more ++ (t.more ++ s.first)) (s.more ++ t.more)) r ≡ false → starts kind s.first r ≡ false
      clear_three true r g c = clear_right kind t.more s.first r (clear_right kind s.more _ r c)
      clear_three false r g c = absurd (true_not_false _ g refl)

      at_first : (p r : List T) (x : A) → L p x → starts kind s.first (p ++ r) ≡ true
      at_first [] r x l = absurd (true_not_false _ (e.empty x l) n)
      at_first (h ∷ p) r x l = e.first h p x l

      at_second : (p r : List T) (x : A) → M p x → starts kind (shape_either s t).more r ≡ false → starts kind s.first (p ++ r) ≡ false
      at_second [] r x m c = clear_three t.empty r (f.empty x m) c
      at_second (h ∷ p) r x m c = apart s.first t.first (kind h) d (f.first h p x m)

      complete : (p r : List T) (x : A) → Either L M p x → starts kind (shape_either s t).more r ≡ false → read_either kind s.first a b (p ++ r) ≡ took x r
      complete p r x (inl l) c = read_either_first kind s.first a b (p ++ r) (at_first p r x l) ∙ e.complete p r x l (clear_one t.empty r c)
      complete p r x (inr m) c = read_either_second kind s.first a b (p ++ r) (at_second p r x m c) ∙ f.complete p r x m (clear_two t.empty r c)

      first : (h : T) (p : List T) (x : A) → Either L M (h ∷ p) x → has (s.first ++ t.first) (kind h) ≡ true
      first h p x (inl l) = has_left s.first t.first (kind h) (e.first h p x l)
      first h p x (inr m) = has_right s.first t.first (kind h) (f.first h p x m)

      empty : (x : A) → Either L M [] x → t.empty ≡ true
      empty x (inl l) = absurd (true_not_false _ (e.empty x l) n)
      empty x (inr m) = f.empty x m

  pub disjoint_nil : (js : List ℕ) → disjoint js [] ≡ true
  disjoint_nil [] = refl
  disjoint_nil (j ∷ js) = disjoint_nil js

  pub exact_optional : {A : Type 0} (s : Shape) (L : Lang T A) (a : List T → Reading T A) → s.empty ≡ false → Exact kind s L a →
      Exact kind (shape_either s shape_empty) (Optional L) (read_optional kind s.first a)
  unfolding read_optional
  exact_optional {A} s L a n e =
      exact_as (shape_either s shape_empty) (Optional L) (Optional L) (read_either kind s.first (read_of Some a) (read_empty None)) (read_optional kind s.first a)
      (exact_either s shape_empty (Of Some L) (Empty None) (read_of Some a) (read_empty None) (disjoint_nil s.first) n (exact_of Some s L a e) (exact_empty None))
      (λ u x m. m) (λ u x m. m) same
    where
      same : (u : List T) → read_optional kind s.first a u ≡ read_either kind s.first (read_of Some a) (read_empty None) u
      same u = refl

  pub exact_nothing : {A : Type 0} (s : Shape) (c : Cause) → Exact kind s (Nothing {A = A}) (read_nothing kind s.first c)
  unfolding read_nothing
  exact_nothing {A} s c = record { sound = sound; complete = λ p r x m h. absurd m; first = λ t p x m. absurd m; empty = λ x m. absurd m }
    where
      sound : (u : List T) (x : A) (r : List T) → read_nothing kind s.first c u ≡ took x r → (p : List T) × (u ≡ p ++ r) × Nothing {A = A} p x
      sound u x r h =
          let w : _ = cond_back (starts kind s.first u) (stops c u) expected u x r h in absurd (stops_not_took c x u r w.1)

  pub exact_within : {A : Type 0} (room : Bool) (s : Shape) (c : Cause) (L : Lang T A) (a : List T → Reading T A) → Exact kind s L a →
      Exact kind s (Within room L) (read_within kind room s.first c a)
  unfolding read_within
  exact_within {A} true s c L a e =
      exact_as s L (Within true L) a (read_within kind true s.first c a) e (λ u x m. (refl, m)) (λ u x m. m.1) (λ u. read_within_room kind true s.first c a u refl)
  exact_within {A} false s c L a e =
      exact_as s Nothing (Within false L) (read_nothing kind s.first c) (read_within kind false s.first c a) (exact_nothing s c)
      (λ u x m. absurd m) (λ u x m. true_not_false _ refl (sym m.0)) same
    where
      same : (u : List T) → read_within kind false s.first c a u ≡ read_nothing kind s.first c u
      same u = refl
