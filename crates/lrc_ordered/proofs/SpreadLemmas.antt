-- Passes that close tables again, one after another.
use Rattle.std.proofs.Common.{◌≡◌, ℕ, ◌+◌, ◌<◌, List, [], length, take, get_or, ◌⊎◌, ◌↔◌, inl, inr, sym, refl, ◌∙◌, subst, arith, not-suc-le-zero}
use Rattle.std.proofs.lemmas.Bool.{cases_eq}
use Rattle.lrc_graph.specs.Pairs.{Pairs, Has, HasExactly, With, Path, step, IsTransitive}
use Rattle.lrc_graph.proofs.PairsLemmas.{joined, along}
use Rattle.lrc_order_meaning.specs.declared.Place.{Place}
use Rattle.lrc_ordered.specs.Tables.{table_at, Closed, HandedAt, HandedAmong}
use Rattle.lrc_ordered.proofs.GatherLemmas.{contains_more}

pub path_map : (R S : ℕ → ℕ → Type 0) → ((x y : ℕ) → R x y → S x y) → (x y : ℕ) → Path R x y → Path S x y
path_map R S f x y p = along R (Path S) (λ a b r. step a b (f a b r)) (joined S) x y p

-- a path of paths is a path
pub path_flat : (R S : ℕ → ℕ → Type 0) → ((x y : ℕ) → R x y → Path S x y) → (x y : ℕ) → Path R x y → Path S x y
path_flat R S f x y p = along R (Path S) f (joined S) x y p

pub closed_none : (r : Pairs) (E : ℕ → ℕ → Type 0) → IsTransitive (Has r) → ((x y : ℕ) → ¬ E x y) → Closed r r E
closed_none r E whole none = record {
  points = refl;
  exact = λ x y. (
    λ h. step x y (inl h),
    along (λ a b. Has r a b ⊎ E a b) (Has r) (λ a b h. elim h [ inl p ↦ p | inr e ↦ absurd (none a b e) ]) whole x y,
  );
  closed = whole;
}

pub closed_change : (old new : Pairs) (E F : ℕ → ℕ → Type 0) → Closed old new E → ((x y : ℕ) → E x y ↔ F x y) → Closed old new F
closed_change old new E F c same = record {
  points = c.points;
  exact = λ x y. (
    λ h. path_map (λ a b. Has old a b ⊎ E a b) (λ a b. Has old a b ⊎ F a b) (λ a b p. elim p [ inl q ↦ inl q | inr q ↦ inr ((same a b).0 q) ]) x y ((c.exact x y).0 h),
    λ h. (c.exact x y).1 (path_map (λ a b. Has old a b ⊎ F a b) (λ a b. Has old a b ⊎ E a b) (λ a b p. elim p [ inl q ↦ inl q | inr q ↦ inr ((same a b).1 q) ]) x y h),
  );
  closed = c.closed;
}

pub closed_one : (old new : Pairs) (a b : ℕ) (E : ℕ → ℕ → Type 0) → new.points ≡ old.points → HasExactly new (Path (With (Has old) a b)) → IsTransitive (Has new)
    → ((x y : ℕ) → ((x ≡ a) × (y ≡ b)) ↔ E x y) → Closed old new E
closed_one old new a b E points exact whole same =
    closed_change old new (λ x y. (x ≡ a) × (y ≡ b)) E (record { points = points; exact = exact; closed = whole }) same

pub closed_then : (old now new : Pairs) (E G F : ℕ → ℕ → Type 0) → Closed old now E → Closed now new G
    → ((x y : ℕ) → F x y ↔ (E x y ⊎ G x y)) → Closed old new F
closed_then old now new E G F one other all = record {
  points = other.points ∙ one.points;
  exact = λ x y. (
    λ h.
        path_flat (λ a b. Has now a b ⊎ G a b) (λ a b. Has old a b ⊎ F a b)
        (λ a b p.
        elim p [
          | inl q ↦
              path_map (λ a b. Has old a b ⊎ E a b) (λ a b. Has old a b ⊎ F a b)
              (λ c d r. elim r [ inl s ↦ inl s | inr s ↦ inr ((all c d).1 (inl s)) ]) a b ((one.exact a b).0 q)
          | inr q ↦ step a b (inr ((all a b).1 (inr q)))
        ]) x y ((other.exact x y).0 h),
    along (λ a b. Has old a b ⊎ F a b) (Has new)
        (λ a b p.
        (other.exact a b).1
        (step a b
        (elim p [
          | inl q ↦ inl ((one.exact a b).1 (step a b (inl q)))
          | inr q ↦ elim ((all a b).0 q) [ inl e ↦ inl ((one.exact a b).1 (step a b (inr e))) | inr g ↦ inr g ]
        ]))) other.closed x y,
  );
  closed = other.closed;
}

-- one attribute more of a row
abbrev pub HandedBelow : Pairs → ℕ → ℕ → ℕ → ℕ → ℕ → Type 0
HandedBelow sort start first n x y = (then : ℕ) × (then < n) × (x ≡ start + first) × (y ≡ start + then) × Has sort first then

pub handed_more : (sort : Pairs) (start first n x y : ℕ)
    → HandedBelow sort start first (n + 1) x y ↔ (HandedBelow sort start first n x y ⊎ ((x ≡ start + first) × (y ≡ start + n) × Has sort first n))
handed_more sort start first n x y = (
  λ h.
      elim (cases_eq h.0 n) [
        | inl e ↦ inr (h.2, subst (λ k. y ≡ start + k) e h.3, subst (λ k. Has sort first k) e h.4)
        | inr ne ↦ let less = h.1 in inl (h.0, omega arith, h.2, h.3, h.4)
      ],
  λ h.
      elim h [
        | inl p ↦ let less = p.1 in (p.0, omega arith, p.2, p.3, p.4)
        | inr p ↦ (n, omega arith, p.0, p.1, p.2)
      ],
)

-- one row more
abbrev pub RowsBelow : Pairs → ℕ → ℕ → ℕ → ℕ → Type 0
RowsBelow sort start n x y = (h : HandedAt sort start x y) × (h.first < n)

pub rows_more : (sort : Pairs) (start n m x y : ℕ) → ((a b : ℕ) → Has sort a b → b < m)
    → RowsBelow sort start (n + 1) x y ↔ (RowsBelow sort start n x y ⊎ HandedBelow sort start n m x y)
rows_more sort start n m x y small = (
  λ h.
      let w = h.0 in
      elim (cases_eq w.first n) [
        | inl e ↦
            inr (w.then, small w.first w.then w.pair, subst (λ k. x ≡ start + k) e w.x_is, w.y_is, subst (λ k. Has sort k w.then) e w.pair)
        | inr ne ↦ let less = h.1 in inl (w, omega arith)
      ],
  λ h.
      elim h [
        | inl p ↦ let less = p.1 in (p.0, omega arith)
        | inr p ↦ (record { first = n; then = p.0; pair = p.4; x_is = p.2; y_is = p.3 }, omega arith)
      ],
)

-- one place more
pub handed_among_more : (sorts : List Pairs) (places : List Place) (i : ℕ) (place : Place) → i < length places → place ≡ get_or places i place
    → (x y : ℕ) → HandedAmong sorts (take (i + 1) places) x y
    ↔ (HandedAmong sorts (take i places) x y ⊎ HandedAt (table_at sorts place.sort) place.start x y)
handed_among_more sorts places i place h e x y = (
  λ j.
      elim ((contains_more places i place j.place h e).0 j.is_place) [
        | inl m ↦ inl (record { place = j.place; is_place = m; handed = j.handed })
        | inr same ↦ inr (subst (λ (q : Place). HandedAt (table_at sorts q.sort) q.start x y) (sym same) j.handed)
      ],
  λ j.
      elim j [
        | inl m ↦ record { place = m.place; is_place = (contains_more places i place m.place h e).1 (inl m.is_place); handed = m.handed }
        | inr m ↦ record { place = place; is_place = (contains_more places i place place h e).1 (inr refl); handed = m }
      ],
)

pub none_among : (sorts : List Pairs) (x y : ℕ) → ¬ HandedAmong sorts [] x y
none_among sorts x y h = not-suc-le-zero h.is_place.1
