-- The crossing grammar has an induced cycle, through the first attribute of X in its first context.
use Rattle.std.proofs.Common.{◌≡◌, ℕ, ◌+◌, ◌<◌, [], ◌∷◌, All, Contains, ◌⊎◌, inl, inr, not-suc-le-zero, arith, refl, sym, subst, length, lit<}
use Rattle.std.specs.Prelude.{codes, pos, None}
use Rattle.std.proofs.lemmas.Bool.{cases_lt}
use Rattle.std.proofs.lemmas.List.Elements.{All-from_recursion, All-contains, All-nil}
use Rattle.lrc_base.specs.declared.grammar.Kind.TheVariants as k
use Rattle.lrc_base.specs.declared.grammar.Production.{Production}
use Rattle.lrc_base.specs.declared.expr.Expr.TheVariants as e
use Rattle.lrc_meaning.specs.Grammar.{attrs_of_sort}
use Rattle.lrc_meaning.specs.Examples.{production, kid, equals}
use Rattle.lrc_meaning.proofs.ExpressionLemmas.{expression_equations}
use Rattle.lrc_order_meaning.specs.declared.Need.{Need}
use Rattle.lrc_order_meaning.specs.declared.Place.{Place}
use Rattle.lrc_order_meaning.specs.Needs.{need, needs_of, places_of}
use Rattle.lrc_order_meaning.specs.Induced.{Leads, by_need, by_sort, onward, Induced, is_joined}
use Rattle.lrc_order_meaning.specs.Ordered.{IsInducedCycle, IsAcyclic}
use Rattle.lrc_order_meaning.specs.Examples.{crossing}
use Rattle.lrc_order_meaning.proofs.LeastLemmas.{KeepsRules, leads_least}

abbrev first : Production
first = production (codes "A") 0 (kid (codes "x") (k.Sort 1) ∷ []) [] (equals 1 (e.Occ 4) ∷ equals 2 (e.Int (pos 0)) ∷ equals 0 (e.Occ 3) ∷ [])

abbrev second : Production
second = production (codes "B") 0 (kid (codes "x") (k.Sort 1) ∷ []) [] (equals 2 (e.Occ 3) ∷ equals 1 (e.Int (pos 0)) ∷ equals 0 (e.Occ 4) ∷ [])

abbrev last : Production
last = production (codes "L") 1 [] [] (equals 2 (e.Occ 0) ∷ equals 3 (e.Occ 1) ∷ [])

first_needs : needs_of crossing.sorts first ≡ need 4 1 ∷ need 3 0 ∷ []
first_needs = simp expression_equations refl

second_needs : needs_of crossing.sorts second ≡ need 3 2 ∷ need 4 0 ∷ []
second_needs = simp expression_equations refl

last_needs : needs_of crossing.sorts last ≡ need 0 2 ∷ need 1 3 ∷ []
last_needs = simp expression_equations refl

abbrev x_at : ℕ → Place
x_at start = record { sort = 1; start = start; tree = None }

-- through L
i1_before_s1 : Induced crossing [] 1 0 2
i1_before_s1 =
    is_joined last (x_at 0) 1 0 2 (2, lit< tt, refl) (0, lit< tt, refl) refl (lit< tt) (lit< tt)
    (by_need last 0 2 (subst (λ needs. Contains needs (need 0 2)) (sym last_needs) (0, lit< tt, refl)))

i2_before_s2 : Induced crossing [] 1 1 3
i2_before_s2 =
    is_joined last (x_at 0) 1 1 3 (2, lit< tt, refl) (0, lit< tt, refl) refl (lit< tt) (lit< tt)
    (by_need last 1 3 (subst (λ needs. Contains needs (need 1 3)) (sym last_needs) (1, lit< tt, refl)))

-- through B
s1_before_i2 : Induced crossing [] 1 2 1
s1_before_i2 =
    is_joined second (x_at 1) 1 2 1 (1, lit< tt, refl) (1, lit< tt, refl) refl (lit< tt) (lit< tt)
    (by_need second 3 2 (subst (λ needs. Contains needs (need 3 2)) (sym second_needs) (0, lit< tt, refl)))

by_x : (a b : ℕ) → Induced crossing [] 1 a b → Leads crossing [] first (1 + a) (1 + b)
by_x a b h = by_sort first (x_at 1) a b (1 + a) (1 + b) (1, lit< tt, refl) h refl refl

round : Leads crossing [] first 1 1
round =
    onward first 1 3 1 (by_x 0 2 i1_before_s1)
    (onward first 3 2 1 (by_x 2 1 s1_before_i2)
    (onward first 2 4 1 (by_x 1 3 i2_before_s2)
    (by_need first 4 1 (subst (λ needs. Contains needs (need 4 1)) (sym first_needs) (0, lit< tt, refl)))))

-- the value of R is needed for nothing
record Above (p : Production) (x y : ℕ) : Type 0 where
  in_first : p ≡ first → 0 < x
  in_second : p ≡ second → 0 < x

record AtX (s a b : ℕ) : Type 0 where
  of_x : 0 < s

-- at a place of X each attribute is above, and R has one attribute, which is not
record IsAbove (place : Place) : Type 0 where
  above : (a : ℕ) → 0 < place.sort → 0 < place.start + a
  not_above : (a : ℕ) → place.sort ≡ 0 → a < length (attrs_of_sort crossing.sorts place.sort) → 0 < place.start + a → ⊥

r_is_above : IsAbove (record { sort = 0; start = 0; tree = None })
r_is_above = record {
  above = λ a h. absurd (omega arith);
  not_above = λ a e small h. absurd (omega arith);
}

x_is_above : IsAbove (x_at 1)
x_is_above = record { above = λ a h. omega arith; not_above = λ a e small h. absurd (omega arith) }

first_places : All IsAbove (places_of crossing.sorts first)
first_places = All-from_recursion IsAbove (places_of crossing.sorts first) (r_is_above, (x_is_above, tt))

second_places : All IsAbove (places_of crossing.sorts second)
second_places = All-from_recursion IsAbove (places_of crossing.sorts second) (r_is_above, (x_is_above, tt))

last_places : All (λ (place : Place). 0 < place.sort) (places_of crossing.sorts last)
last_places = All-from_recursion (λ (place : Place). 0 < place.sort) (places_of crossing.sorts last) (lit< tt, tt)

module _ (p : Production) (place : Place) (at : Contains (places_of crossing.sorts p) place) where
  at_first : p ≡ first → IsAbove place
  at_first is =
      All-contains IsAbove (places_of crossing.sorts first) place first_places (subst (λ q. Contains (places_of crossing.sorts q) place) is at)

  at_second : p ≡ second → IsAbove place
  at_second is =
      All-contains IsAbove (places_of crossing.sorts second) place second_places (subst (λ q. Contains (places_of crossing.sorts q) place) is at)

  at_last : p ≡ last → 0 < place.sort
  at_last is =
      All-contains (λ (q : Place). 0 < q.sort) (places_of crossing.sorts last) place last_places (subst (λ q. Contains (places_of crossing.sorts q) place) is at)

needs_above : (p : Production) (x y : ℕ) → Contains (needs_of crossing.sorts p) (need x y) → Above p x y
needs_above p x y n = record {
  in_first = λ is.
      All-contains (λ (m : Need). 0 < m.first) (need 4 1 ∷ need 3 0 ∷ []) (need x y)
      (All-from_recursion (λ (m : Need). 0 < m.first) (need 4 1 ∷ need 3 0 ∷ []) (lit< tt, (lit< tt, tt)))
      (subst (λ needs. Contains needs (need x y)) first_needs (subst (λ q. Contains (needs_of crossing.sorts q) (need x y)) is n));
  in_second = λ is.
      All-contains (λ (m : Need). 0 < m.first) (need 3 2 ∷ need 4 0 ∷ []) (need x y)
      (All-from_recursion (λ (m : Need). 0 < m.first) (need 3 2 ∷ need 4 0 ∷ []) (lit< tt, (lit< tt, tt)))
      (subst (λ needs. Contains needs (need x y)) second_needs (subst (λ q. Contains (needs_of crossing.sorts q) (need x y)) is n));
}

abbrev IsOne : Production → Type 0
IsOne p = (p ≡ first) ⊎ ((p ≡ second) ⊎ (p ≡ last))

each_is_one : All IsOne crossing.prods
each_is_one = All-from_recursion IsOne crossing.prods (inl refl, (inr (inl refl), (inr (inr refl), tt)))

joined_at_x : (p : Production) (place : Place) (a b : ℕ) → IsOne p → Contains (places_of crossing.sorts p) place
    → a < length (attrs_of_sort crossing.sorts place.sort) → Above p (place.start + a) (place.start + b) → 0 < place.sort
joined_at_x p place a b one at a_in above =
    elim (cases_lt 0 place.sort) [
      | inl h ↦ h
      | inr le ↦
          let none : place.sort ≡ 0 = omega arith in
          elim one [
            | inl is ↦ absurd ((at_first p place at is).not_above a none a_in (above.in_first is))
            | inr (inl is) ↦ absurd ((at_second p place at is).not_above a none a_in (above.in_second is))
            | inr (inr is) ↦ at_last p place at is
          ]
    ]

rules : KeepsRules crossing [] Above AtX
rules = record {
  needs = needs_above;
  sorts = λ p place a b at h. record {
    in_first = λ is. (at_first p place at is).above a h.of_x;
    in_second = λ is. (at_second p place at is).above a h.of_x;
  };
  paths = λ p x y z one other. record { in_first = one.in_first; in_second = one.in_second };
  given_pairs = λ p s a b there stands pair. absurd (not-suc-le-zero pair.1);
  joined = λ p place s a b there at of_sort a_in b_in above. record {
    of_x = subst (λ t. 0 < t) of_sort
        (joined_at_x p place a b (All-contains IsOne crossing.prods p each_is_one there) at (rw of_sort a_in) above);
  };
}

pub is_crossing : IsInducedCycle crossing [] 0 1
is_crossing = record {
  production = first;
  is_there = refl;
  none_earlier = All-nil (λ p. IsAcyclic (Leads crossing [] p));
  least = (
    round,
    λ n less h.
        let e : n ≡ 0 = omega arith in
        let above = (leads_least crossing [] Above AtX rules first n n h).in_first refl in
        absurd (omega arith),
  );
}
