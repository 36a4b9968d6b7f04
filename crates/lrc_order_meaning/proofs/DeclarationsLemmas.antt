-- The order of the declarations grammar: declarations before the environment, and that before what is bad.
use Rattle.std.proofs.Common.{◌≡◌, ℕ, zero, suc, pred, ◌+◌, ◌*◌, ◌<◌, [], ◌∷◌, All, Contains, ◌⊎◌, inl, inr, lt_trans, not-suc-le-zero, arith, refl, sym, ap, subst, length, lit<, lit≤}
use Rattle.std.specs.Prelude.{codes, None, false, pos}
use Rattle.std.proofs.lemmas.Bool.{cases_lt, cases_eq}
use Rattle.std.proofs.lemmas.List.Elements.{All-from_recursion, All-contains}
use Rattle.lrc_base.specs.declared.grammar.Kind.TheVariants as k
use Rattle.lrc_base.specs.declared.grammar.Production.{Production}
use Rattle.lrc_base.specs.declared.expr.Expr.TheVariants as e
use Rattle.lrc_base.specs.declared.expr.Op.TheVariants as o
use Rattle.lrc_meaning.specs.Grammar.{attrs_of_sort}
use Rattle.lrc_meaning.specs.Examples.{declarations, production, kid, equals}
use Rattle.lrc_meaning.proofs.ExpressionLemmas.{expression_equations}
use Rattle.lrc_order_meaning.specs.declared.Need.{Need}
use Rattle.lrc_order_meaning.specs.declared.Place.{Place}
use Rattle.lrc_order_meaning.specs.Needs.{need, needs_of, places_of}
use Rattle.lrc_order_meaning.specs.Induced.{by_need, Induced, is_joined}
use Rattle.lrc_order_meaning.specs.Sets.{HasTurn, InGreatest, Placed, InSet, IsVisits}
use Rattle.lrc_order_meaning.proofs.LeastLemmas.{KeepsRules, induced_least}
use Rattle.lrc_order_meaning.proofs.SetLemmas.{placed-later}

abbrev top : Production
top = production (codes "Top") 0 (kid (codes "b") (k.Sort 1) ∷ []) [] (equals 2 (e.Occ 1) ∷ equals 0 (e.Occ 3) ∷ [])

abbrev none : Production
none = production (codes "None") 1 [] [] (equals 0 (e.Int (pos 0)) ∷ equals 2 (e.Int (pos 0)) ∷ [])

abbrev decl : Production
decl = production (codes "Decl") 1 (kid (codes "n") k.Int ∷ kid (codes "rest") (k.Sort 1) ∷ [])
    (record { name = codes "mine"; attached = false; kind = k.Int } ∷ [])
    (equals 6 (e.Op o.Mul (e.Leaf 0) (e.Int (pos 10)))
    ∷ equals 0 (e.Op o.Add (e.Occ 6) (e.Occ 3))
    ∷ equals 4 (e.Occ 1)
    ∷ equals 2 (e.If (e.Op o.Equal (e.Occ 1) (e.Occ 6)) (e.Occ 5) (e.Op o.Add (e.Occ 5) (e.Int (pos 1))))
    ∷ [])

top_needs : needs_of declarations.sorts top ≡ need 1 2 ∷ need 3 0 ∷ []
top_needs = simp expression_equations refl

none_needs : needs_of declarations.sorts none ≡ []
none_needs = simp expression_equations refl

decl_needs : needs_of declarations.sorts decl ≡ need 6 0 ∷ need 3 0 ∷ need 1 4 ∷ need 1 2 ∷ need 6 2 ∷ need 5 2 ∷ need 5 2 ∷ []
decl_needs = simp expression_equations refl

-- an order of a production's occurrences in which all dependencies lead upwards
abbrev top_rank : ℕ → ℕ
top_rank zero = 3
top_rank (suc x) = x

abbrev decl_rank : ℕ → ℕ
decl_rank zero = 2
decl_rank (suc zero) = 3
decl_rank (suc (suc zero)) = 6
decl_rank (suc (suc (suc zero))) = 1
decl_rank (suc (suc (suc (suc zero)))) = 4
decl_rank (suc (suc (suc (suc (suc zero))))) = 5
decl_rank (suc (suc (suc (suc (suc (suc x)))))) = 0

record Rises (p : Production) (x y : ℕ) : Type 0 where
  top_rises : p ≡ top → top_rank x < top_rank y
  none_rises : p ≡ none → x < y
  decl_rises : p ≡ decl → decl_rank x < decl_rank y

-- attributes of the items in order of declaration
record Later (s a b : ℕ) : Type 0 where
  of_items : s ≡ 1
  less : a < b
  within : b < 3

needs_rise : (p : Production) (x y : ℕ) → Contains (needs_of declarations.sorts p) (need x y) → Rises p x y
needs_rise p x y n = record {
  top_rises = λ is.
      All-contains (λ (m : Need). top_rank m.first < top_rank m.then) (need 1 2 ∷ need 3 0 ∷ []) (need x y)
      (All-from_recursion (λ (m : Need). top_rank m.first < top_rank m.then) (need 1 2 ∷ need 3 0 ∷ []) (lit< tt, (lit< tt, tt)))
      (subst (λ needs. Contains needs (need x y)) top_needs (subst (λ q. Contains (needs_of declarations.sorts q) (need x y)) is n));
  none_rises = λ is.
      All-contains (λ (m : Need). m.first < m.then) [] (need x y) (All-from_recursion (λ (m : Need). m.first < m.then) [] tt)
      (subst (λ needs. Contains needs (need x y)) none_needs (subst (λ q. Contains (needs_of declarations.sorts q) (need x y)) is n));
  decl_rises = λ is.
      All-contains (λ (m : Need). decl_rank m.first < decl_rank m.then) (need 6 0 ∷ need 3 0 ∷ need 1 4 ∷ need 1 2 ∷ need 6 2 ∷ need 5 2 ∷ need 5 2 ∷ []) (need x y)
      (All-from_recursion (λ (m : Need). decl_rank m.first < decl_rank m.then) (need 6 0 ∷ need 3 0 ∷ need 1 4 ∷ need 1 2 ∷ need 6 2 ∷ need 5 2 ∷ need 5 2 ∷ []) (lit< tt, (lit< tt, (lit< tt, (lit< tt, (lit< tt, (lit< tt, (lit< tt, tt))))))))
      (subst (λ needs. Contains needs (need x y)) decl_needs (subst (λ q. Contains (needs_of declarations.sorts q) (need x y)) is n));
}

below_3 : (P : ℕ → ℕ → Type 0) → P 0 1 → P 0 2 → P 1 2 → (a b : ℕ) → a < b → b < 3 → P a b
below_3 P one two other zero zero less within = absurd (omega arith)
below_3 P one two other zero (suc zero) less within = one
below_3 P one two other zero (suc (suc zero)) less within = two
below_3 P one two other zero (suc (suc (suc b))) less within = absurd (omega arith)
below_3 P one two other (suc zero) zero less within = absurd (omega arith)
below_3 P one two other (suc zero) (suc zero) less within = absurd (omega arith)
below_3 P one two other (suc zero) (suc (suc zero)) less within = other
below_3 P one two other (suc zero) (suc (suc (suc b))) less within = absurd (omega arith)
below_3 P one two other (suc (suc a)) b less within = absurd (omega arith)

-- at a place of the items the attributes rise in order of declaration
abbrev RisesAt : (ℕ → ℕ) → Place → Type 0
RisesAt rank place = (a b : ℕ) → Later place.sort a b → rank (place.start + a) < rank (place.start + b)

-- and only so
abbrev TellsAt : (ℕ → ℕ) → Place → Type 0
TellsAt rank place = (a b : ℕ) → a < length (attrs_of_sort declarations.sorts place.sort) → b < length (attrs_of_sort declarations.sorts place.sort)
    → rank (place.start + a) < rank (place.start + b) → Later place.sort a b

module _ (rank : ℕ → ℕ) (place : Place) where
  rises_at : place.sort ≡ 1 → rank (place.start + 0) < rank (place.start + 1) → rank (place.start + 0) < rank (place.start + 2)
      → rank (place.start + 1) < rank (place.start + 2) → RisesAt rank place
  rises_at of_items one two other a b h =
      below_3 (λ x y. rank (place.start + x) < rank (place.start + y)) one two other a b h.less h.within

  tells_at : place.sort ≡ 1 → RisesAt rank place → TellsAt rank place
  tells_at of_items rises a b a_in b_in up =
      let three : length (attrs_of_sort declarations.sorts place.sort) ≡ 3 = ap (λ s. length (attrs_of_sort declarations.sorts s)) of_items in
      elim (cases_lt a b) [
        | inl less ↦ record { of_items = of_items; less = less; within = omega arith }
        | inr le ↦
            elim (cases_eq a b) [
              | inl e ↦ let same : rank (place.start + a) ≡ rank (place.start + b) = ap (λ x. rank (place.start + x)) e in absurd (omega arith)
              | inr ne ↦
                  let down : rank (place.start + b) < rank (place.start + a) =
                  rises b a (record { of_items = of_items; less = omega arith; within = omega arith }) in
                  absurd (omega arith)
            ]
      ]

  -- a sort with one attribute has no pair
  other_rises : place.sort ≡ 0 → RisesAt rank place
  other_rises of_prog a b h = let e = h.of_items in absurd (omega arith)

  other_tells : place.sort ≡ 0 → TellsAt rank place
  other_tells of_prog a b a_in b_in up =
      let one : length (attrs_of_sort declarations.sorts place.sort) ≡ 1 = ap (λ s. length (attrs_of_sort declarations.sorts s)) of_prog in
      let e : a ≡ b = omega arith in
      let same : rank (place.start + a) ≡ rank (place.start + b) = ap (λ x. rank (place.start + x)) e in absurd (omega arith)

  both_at : place.sort ≡ 1 → rank (place.start + 0) < rank (place.start + 1) → rank (place.start + 0) < rank (place.start + 2)
      → rank (place.start + 1) < rank (place.start + 2) → RisesAt rank place × TellsAt rank place
  both_at of_items one two other =
      (rises_at of_items one two other, tells_at of_items (rises_at of_items one two other))

abbrev BothAt : (ℕ → ℕ) → Place → Type 0
BothAt rank place = RisesAt rank place × TellsAt rank place

abbrev prog_at : Place
prog_at = record { sort = 0; start = 0; tree = None }

abbrev items_at : ℕ → Place
items_at start = record { sort = 1; start = start; tree = None }

prog_both : (rank : ℕ → ℕ) → BothAt rank prog_at
prog_both rank = (other_rises rank prog_at refl, other_tells rank prog_at refl)

top_places : All (BothAt top_rank) (places_of declarations.sorts top)
top_places =
    All-from_recursion (BothAt top_rank) (places_of declarations.sorts top)
    (prog_both top_rank, (both_at top_rank (items_at 1) refl (lit< tt) (lit< tt) (lit< tt), tt))

none_places : All (BothAt (λ x. x)) (places_of declarations.sorts none)
none_places =
    All-from_recursion (BothAt (λ x. x)) (places_of declarations.sorts none) (both_at (λ x. x) (items_at 0) refl (lit< tt) (lit< tt) (lit< tt), tt)

decl_places : All (BothAt decl_rank) (places_of declarations.sorts decl)
decl_places =
    All-from_recursion (BothAt decl_rank) (places_of declarations.sorts decl)
    (both_at decl_rank (items_at 0) refl (lit< tt) (lit< tt) (lit< tt), (both_at decl_rank (items_at 3) refl (lit< tt) (lit< tt) (lit< tt), tt))

module _ (p : Production) (place : Place) (at : Contains (places_of declarations.sorts p) place) where
  at_top : p ≡ top → BothAt top_rank place
  at_top is = All-contains (BothAt top_rank) (places_of declarations.sorts top) place top_places (subst (λ q. Contains (places_of declarations.sorts q) place) is at)

  at_none : p ≡ none → BothAt (λ x. x) place
  at_none is = All-contains (BothAt (λ x. x)) (places_of declarations.sorts none) place none_places (subst (λ q. Contains (places_of declarations.sorts q) place) is at)

  at_decl : p ≡ decl → BothAt decl_rank place
  at_decl is = All-contains (BothAt decl_rank) (places_of declarations.sorts decl) place decl_places (subst (λ q. Contains (places_of declarations.sorts q) place) is at)

  places_rise : (a b : ℕ) → Later place.sort a b → Rises p (place.start + a) (place.start + b)
  places_rise a b h = record {
    top_rises = λ is. (at_top is).0 a b h;
    none_rises = λ is. (at_none is).0 a b h;
    decl_rises = λ is. (at_decl is).0 a b h;
  }

abbrev IsOne : Production → Type 0
IsOne p = (p ≡ top) ⊎ ((p ≡ none) ⊎ (p ≡ decl))

each_is_one : All IsOne declarations.prods
each_is_one = All-from_recursion IsOne declarations.prods (inl refl, (inr (inl refl), (inr (inr refl), tt)))

paths_tell : (p : Production) (place : Place) (a b : ℕ) → IsOne p → Contains (places_of declarations.sorts p) place
    → a < length (attrs_of_sort declarations.sorts place.sort) → b < length (attrs_of_sort declarations.sorts place.sort)
    → Rises p (place.start + a) (place.start + b) → Later place.sort a b
paths_tell p place a b one at a_in b_in up =
    elim one [
      | inl is ↦ (at_top p place at is).1 a b a_in b_in (up.top_rises is)
      | inr (inl is) ↦ (at_none p place at is).1 a b a_in b_in (up.none_rises is)
      | inr (inr is) ↦ (at_decl p place at is).1 a b a_in b_in (up.decl_rises is)
    ]

rules : KeepsRules declarations [] Rises Later
rules = record {
  needs = needs_rise;
  sorts = λ p place a b at h. places_rise p place at a b h;
  paths = λ p x y z one other. record {
    top_rises = λ is. lt_trans (one.top_rises is) (other.top_rises is);
    none_rises = λ is. lt_trans (one.none_rises is) (other.none_rises is);
    decl_rises = λ is. lt_trans (one.decl_rises is) (other.decl_rises is);
  };
  given_pairs = λ p s a b there stands pair. absurd (not-suc-le-zero pair.1);
  joined = λ p place s a b there at of_sort a_in b_in up.
      subst (λ t. Later t a b) of_sort
      (paths_tell p place a b (All-contains IsOne declarations.prods p each_is_one there) at (rw of_sort a_in) (rw of_sort b_in) up);
}

-- a dependency of the items' attributes leads to a later one
later_only : (a b : ℕ) → Induced declarations [] 1 a b → Later 1 a b
later_only a b h = induced_least declarations [] Rises Later rules 1 a b h

-- the environment of the items is their declarations
pub decls_before_env : Induced declarations [] 1 0 1
decls_before_env =
    is_joined top (record { sort = 1; start = 1; tree = None }) 1 0 1 (0, lit< tt, refl) (1, lit< tt, refl) refl (lit< tt) (lit< tt)
    (by_need top 1 2 (subst (λ needs. Contains needs (need 1 2)) (sym top_needs) (0, lit< tt, refl)))

single : (x y : ℕ) → Contains (x ∷ []) y → x ≡ y
single x y m = All-contains (λ z. x ≡ z) (x ∷ []) y (All-from_recursion (λ z. x ≡ z) (x ∷ []) (refl, tt)) m

-- an attribute whose later ones are placed is placed in the next set of its direction
next_alone : (k a : ℕ) → HasTurn declarations 1 (suc k) a → ((b : ℕ) → Later 1 a b → Placed declarations [] 1 k b) → Placed declarations [] 1 (suc k) a
next_alone k a turn rest = inr (record {
  set = a ∷ [];
  can_stand = record {
    turn = All-from_recursion (HasTurn declarations 1 (suc k)) (a ∷ []) (turn, tt);
    closed = λ x b m h. inl (rest b (later_only a b (subst (λ y. Induced declarations [] 1 y b) (sym (single a x m)) h)));
  };
  member = (0, lit< tt, refl);
})

bad_in_1 : Placed declarations [] 1 1 2
bad_in_1 = next_alone 0 2 (record { attr = _; is_there = refl; direction = refl }) (λ b h. let l = h.less in let w = h.within in absurd (omega arith))

env_in_2 : Placed declarations [] 1 2 1
env_in_2 =
    next_alone 1 1 (record { attr = _; is_there = refl; direction = refl })
    (λ b h. let l = h.less in let w = h.within in let e : 2 ≡ b = omega arith in subst (λ x. Placed declarations [] 1 1 x) e bad_in_1)

decls_in_3 : Placed declarations [] 1 3 0
decls_in_3 =
    next_alone 2 0 (record { attr = _; is_there = refl; direction = refl })
    (λ b h. below_3 (λ x y. x ≡ 0 → Placed declarations [] 1 2 y) (λ e. env_in_2) (λ e. inl bad_in_1) (λ e. inl bad_in_1) 0 b h.less h.within refl)

-- a member of the greatest set is of its direction
of_turn : (k a : ℕ) → InGreatest declarations [] 1 k (Placed declarations [] 1 (pred k)) a → HasTurn declarations 1 k a
of_turn k a h = All-contains (HasTurn declarations 1 k) h.set a h.can_stand.turn h.member

env_not_in_1 : Placed declarations [] 1 1 1 → ⊥
env_not_in_1 h =
    elim h [
      | inl none ↦ none
      | inr found ↦ let turn = of_turn 1 1 found in let there = turn.is_there in let direction = turn.direction in absurd (cc)
    ]

-- declarations wait for the environment, which is of the other direction
decls_not_in_1 : Placed declarations [] 1 1 0 → ⊥
decls_not_in_1 h =
    elim h [
      | inl none ↦ none
      | inr found ↦
          elim (found.can_stand.closed 0 1 found.member decls_before_env) [
            | inl none ↦ none
            | inr member ↦
                let turn = All-contains (HasTurn declarations 1 1) found.set 1 found.can_stand.turn member in
                let there = turn.is_there in let direction = turn.direction in absurd (cc)
          ]
    ]

decls_not_in_2 : Placed declarations [] 1 2 0 → ⊥
decls_not_in_2 h =
    elim h [
      | inl earlier ↦ decls_not_in_1 earlier
      | inr found ↦ let turn = of_turn 2 0 found in let there = turn.is_there in let direction = turn.direction in absurd (cc)
    ]

pub bad_is_in_1 : InSet declarations [] 1 1 2
bad_is_in_1 = (bad_in_1, λ n less h. let e : n ≡ 0 = omega arith in subst (λ m. Placed declarations [] 1 m 2) e h)

pub env_is_in_2 : InSet declarations [] 1 2 1
env_is_in_2 = (env_in_2, λ n less h. env_not_in_1 (placed-later declarations [] 1 n 1 1 (omega arith) h))

pub decls_are_in_3 : InSet declarations [] 1 3 0
decls_are_in_3 = (decls_in_3, λ n less h. decls_not_in_2 (placed-later declarations [] 1 n 2 0 (omega arith) h))

all_in_4 : (a : ℕ) → a < 3 → Placed declarations [] 1 4 a
all_in_4 zero h = inl decls_in_3
all_in_4 (suc zero) h = inl (inl env_in_2)
all_in_4 (suc (suc zero)) h = inl (inl (inl bad_in_1))
all_in_4 (suc (suc (suc a))) h = absurd (omega arith)

pub two_visits : IsVisits declarations [] 1 2
two_visits = (
  record { some = lit≤ tt; all = all_in_4 },
  λ n less enough. decls_not_in_2 (placed-later declarations [] 1 (2 * n) 2 0 (omega arith) (enough.all 0 (lit< tt))),
)
