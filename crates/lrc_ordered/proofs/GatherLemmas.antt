-- Passes over tables, one after another.
use Rattle.std.proofs.Common.{◌≡◌, ◌≢◌, ℕ, ◌+◌, ◌<◌, Bool, true, false, ◌||◌, List, [], ◌∷◌, ◌++◌, length, take, set, get_or, Contains, ◌⊎◌, ◌↔◌, inl, inr, ap, sym, refl, ◌∙◌, subst, arith, add-one, take-suc, get_or-set_same, get_or-set_other, length-set}
use Rattle.std.proofs.lemmas.Bool.{cases_eq, or_cases, or_parts}
use Rattle.std.proofs.lemmas.List.Elements.{Contains-append_left, Contains-push, Contains-push_cases}
use Rattle.lrc_graph.specs.Pairs.{Pairs, Has}
use Rattle.lrc_order_meaning.specs.declared.Place.{Place}
use Rattle.lrc_ordered.specs.Tables.{nothing, table_at, HasAt, Gathered, GatheredAll, JoinedAt, JoinedAmong, JoinedIn, FitsIn}

-- the members among one item more
pub contains_more : {X : Type 0} (xs : List X) (i : ℕ) (x y : X) → i < length xs → x ≡ get_or xs i x
    → Contains (take (i + 1) xs) y ↔ (Contains (take i xs) y ⊎ (x ≡ y))
contains_more xs i x y h e =
    let grown : take (i + 1) xs ≡ take i xs ++ x ∷ [] = rw add-one (take-suc xs i x h ∙ ap (λ z. take i xs ++ z ∷ []) (sym e)) in (
      λ m. Contains-push_cases (take i xs) x y (subst (λ ys. Contains ys y) grown m),
      λ m.
          subst (λ ys. Contains ys y) (sym grown)
          (elim m [ inl earlier ↦ Contains-append_left (take i xs) (x ∷ []) y earlier | inr same ↦ subst (λ z. Contains (take i xs ++ x ∷ []) z) same (Contains-push (take i xs) x) ]),
    )

-- the tables with another at one place
pub set_same : (tables : List Pairs) (s : ℕ) (t : Pairs) → s < length tables → table_at (set tables s t) s ≡ t
set_same tables s t h = get_or-set_same tables s t nothing h

pub set_other : (tables : List Pairs) (s r : ℕ) (t : Pairs) → r ≢ s → table_at (set tables s t) r ≡ table_at tables r
set_other tables s r t ne = get_or-set_other tables s r t nothing ne

-- a pass over one of the tables is a pass over all
module _ (old now : List Pairs) (found r : Bool) (E F : ℕ → ℕ → ℕ → Type 0) (s : ℕ) (new : Pairs) (G : ℕ → ℕ → Type 0)
    (before : GatheredAll old now found E) (there : s < length now) (pass : Gathered (table_at now s) new r G)
    (all : (t x y : ℕ) → F t x y ↔ (E t x y ⊎ ((t ≡ s) × G x y))) where
  abbrev after : List Pairs
  after = set now s new

  at_same : (t : ℕ) → t ≡ s → table_at after t ≡ new
  at_same t e = ap (table_at after) e ∙ set_same now s new there

  at_other : (t : ℕ) → t ≢ s → table_at after t ≡ table_at now t
  at_other t ne = set_other now s t new ne

  exact : (t x y : ℕ) → HasAt after t x y ↔ (HasAt old t x y ⊎ F t x y)
  exact t x y =
      elim (cases_eq t s) [
        | inl e ↦ (
          λ h.
              elim ((pass.exact x y).0 (subst (λ (table : Pairs). Has table x y) (at_same t e) h)) [
                | inl p ↦
                    elim ((before.exact t x y).0 (subst (λ k. HasAt now k x y) (sym e) p)) [
                      | inl q ↦ inl q
                      | inr q ↦ inr ((all t x y).1 (inl q))
                    ]
                | inr p ↦ inr ((all t x y).1 (inr (e, p)))
              ],
          λ h.
              subst (λ (table : Pairs). Has table x y) (sym (at_same t e))
              ((pass.exact x y).1
              (elim h [
                | inl q ↦ inl (subst (λ k. HasAt now k x y) e ((before.exact t x y).1 (inl q)))
                | inr f ↦
                    elim ((all t x y).0 f) [
                      | inl q ↦ inl (subst (λ k. HasAt now k x y) e ((before.exact t x y).1 (inr q)))
                      | inr q ↦ inr q.1
                    ]
              ])),
        )
        | inr ne ↦ (
          λ h.
              elim ((before.exact t x y).0 (subst (λ (table : Pairs). Has table x y) (at_other t ne) h)) [
                | inl q ↦ inl q
                | inr q ↦ inr ((all t x y).1 (inl q))
              ],
          λ h.
              subst (λ (table : Pairs). Has table x y) (sym (at_other t ne))
              (elim h [
                | inl q ↦ (before.exact t x y).1 (inl q)
                | inr f ↦
                    elim ((all t x y).0 f) [
                      | inl q ↦ (before.exact t x y).1 (inr q)
                      | inr q ↦ absurd (ne q.0)
                    ]
              ]),
        )
      ]

  grows : (t x y : ℕ) → HasAt now t x y → HasAt after t x y
  grows t x y h =
      (exact t x y).1
      (elim ((before.exact t x y).0 h) [ inl q ↦ inl q | inr q ↦ inr ((all t x y).1 (inl q)) ])

  points : (t : ℕ) → (table_at after t).points ≡ (table_at old t).points
  points t =
      elim (cases_eq t s) [
        | inl e ↦ ap (λ (p : Pairs). p.points) (at_same t e) ∙ pass.points ∙ ap (λ k. (table_at now k).points) (sym e) ∙ before.points t
        | inr ne ↦ ap (λ (p : Pairs). p.points) (at_other t ne) ∙ before.points t
      ]

  more : (found || r) ≡ true → (t : ℕ) × (x : ℕ) × (y : ℕ) × HasAt after t x y × (¬ HasAt old t x y) × (t < length old) × (x < (table_at old t).points) × (y < (table_at old t).points)
  more e =
      elim (or_cases found r e) [
        | inl f ↦ let m = before.more f in (m.0, m.1, m.2, grows m.0 m.1 m.2 m.3, m.4, m.5, m.6, m.7)
        | inr f ↦
            let m = pass.more f in (
              s,
              m.0,
              m.1,
              subst (λ (table : Pairs). Has table m.0 m.1) (sym (at_same s refl)) m.2,
              λ h. m.3 ((before.exact s m.0 m.1).1 (inl h)),
              (let e = before.tables in omega arith),
              (let e = before.points s in let small = m.4 in omega arith),
              (let e = before.points s in let small = m.5 in omega arith),
            )
      ]

  same : (found || r) ≡ false → (t x y : ℕ) → HasAt after t x y → HasAt old t x y
  same e t x y h =
      let none = or_parts found r e in
      elim (cases_eq t s) [
        | inl f ↦
            before.same none.0 t x y
            (subst (λ k. HasAt now k x y) (sym f) (pass.same none.1 x y (subst (λ (table : Pairs). Has table x y) (at_same t f) h)))
        | inr ne ↦ before.same none.0 t x y (subst (λ (table : Pairs). Has table x y) (at_other t ne) h)
      ]

  pub gathered_set : GatheredAll old after (found || r) F
  gathered_set = record {
    tables = length-set now s new ∙ before.tables;
    points = points;
    exact = exact;
    more = more;
    same = same;
  }

-- one place more
pub joined_more : (sorts : List Pairs) (relation : Pairs) (places : List Place) (i : ℕ) (place : Place) → i < length places → place ≡ get_or places i place
    → (t x y : ℕ) → JoinedAmong sorts relation (take (i + 1) places) t x y
    ↔ (JoinedAmong sorts relation (take i places) t x y ⊎ ((t ≡ place.sort) × JoinedAt (table_at sorts place.sort).points relation place.start x y))
joined_more sorts relation places i place h e t x y = (
  λ j.
      elim ((contains_more places i place j.place h e).0 j.is_place) [
        | inl m ↦ inl (record { place = j.place; is_place = m; of_sort = j.of_sort; joined = j.joined })
        | inr same ↦
            inr (
              sym j.of_sort ∙ ap (λ (q : Place). q.sort) (sym same),
              subst (λ (q : Place). JoinedAt (table_at sorts q.sort).points relation q.start x y) (sym same)
                  (subst (λ k. JoinedAt (table_at sorts k).points relation j.place.start x y) (sym j.of_sort) j.joined),
            )
      ],
  λ j.
      elim j [
        | inl m ↦ record { place = m.place; is_place = (contains_more places i place m.place h e).1 (inl m.is_place); of_sort = m.of_sort; joined = m.joined }
        | inr m ↦ record {
          place = place;
          is_place = (contains_more places i place place h e).1 (inr refl);
          of_sort = sym m.0;
          joined = subst (λ k. JoinedAt (table_at sorts k).points relation place.start x y) (sym m.0) m.1;
        }
      ],
)

-- a pass over all tables after another
pub gathered_then : (old now new : List Pairs) (found r : Bool) (E G F : ℕ → ℕ → ℕ → Type 0) → GatheredAll old now found E → GatheredAll now new r G
    → ((t x y : ℕ) → F t x y ↔ (E t x y ⊎ G t x y)) → GatheredAll old new (found || r) F
gathered_then old now new found r E G F one other all = record {
  tables = other.tables ∙ one.tables;
  points = λ t. other.points t ∙ one.points t;
  exact = λ t x y. (
    λ h.
        elim ((other.exact t x y).0 h) [
          | inl p ↦ elim ((one.exact t x y).0 p) [ inl q ↦ inl q | inr q ↦ inr ((all t x y).1 (inl q)) ]
          | inr p ↦ inr ((all t x y).1 (inr p))
        ],
    λ h.
        (other.exact t x y).1
        (elim h [
          | inl p ↦ inl ((one.exact t x y).1 (inl p))
          | inr f ↦ elim ((all t x y).0 f) [ inl q ↦ inl ((one.exact t x y).1 (inr q)) | inr q ↦ inr q ]
        ]),
  );
  more = λ e.
      elim (or_cases found r e) [
        | inl f ↦ let m = one.more f in (m.0, m.1, m.2, (other.exact m.0 m.1 m.2).1 (inl m.3), m.4, m.5, m.6, m.7)
        | inr f ↦ let m = other.more f in
            let e = one.tables in
            let same = one.points m.0 in
            let there = m.5 in
            let x_in = m.6 in
            let y_in = m.7 in (m.0, m.1, m.2, m.3, λ h. m.4 ((one.exact m.0 m.1 m.2).1 (inl h)), omega arith, omega arith, omega arith)
      ];
  same = λ e t x y h. let none = or_parts found r e in one.same none.0 t x y (other.same none.1 t x y h);
}

-- where only points count, tables with as many give the same
pub same_joined : (old now : List Pairs) (relation : Pairs) (places : List Place) → ((t : ℕ) → (table_at now t).points ≡ (table_at old t).points)
    → (t x y : ℕ) → JoinedAmong now relation places t x y ↔ JoinedAmong old relation places t x y
same_joined old now relation places points t x y = (
  λ j. record { place = j.place; is_place = j.is_place; of_sort = j.of_sort; joined = subst (λ n. JoinedAt n relation j.place.start x y) (points t) j.joined },
  λ j. record { place = j.place; is_place = j.is_place; of_sort = j.of_sort; joined = subst (λ n. JoinedAt n relation j.place.start x y) (sym (points t)) j.joined },
)

pub same_fits : (old now : List Pairs) (points : ℕ) → length now ≡ length old → ((t : ℕ) → (table_at now t).points ≡ (table_at old t).points)
    → (place : Place) → FitsIn old points place → FitsIn now points place
same_fits old now points len same place h = let e = same place.sort in let one = h.0 in let two = h.1 in (omega arith, omega arith)

module _ (sorts relations : List Pairs) (places : List (List Place)) where
  abbrev pub JoinedBelow : ℕ → ℕ → ℕ → ℕ → Type 0
  JoinedBelow n s x y = (j : JoinedIn sorts relations places s x y) × (j.production < n)

  -- one production more
  pub joined_below_more : (n s x y : ℕ) → n < length relations
      → JoinedBelow (n + 1) s x y ↔ (JoinedBelow n s x y ⊎ JoinedAmong sorts (table_at relations n) (get_or places n []) s x y)
  joined_below_more n s x y there = (
    λ j.
        elim (cases_eq j.0.production n) [
          | inl e ↦ inr (subst (λ i. JoinedAmong sorts (table_at relations i) (get_or places i []) s x y) e j.0.joined)
          | inr ne ↦ let less = j.1 in inl (j.0, omega arith)
        ],
    λ j.
        elim j [
          | inl m ↦ let less = m.1 in (m.0, omega arith)
          | inr m ↦ (record { production = n; is_there = there; joined = m }, omega arith)
        ],
  )

pub gathered_change : (old now : List Pairs) (found : Bool) (E F : ℕ → ℕ → ℕ → Type 0) → GatheredAll old now found E
    → ((t x y : ℕ) → E t x y ↔ F t x y) → GatheredAll old now found F
gathered_change old now found E F one same = record {
  tables = one.tables;
  points = one.points;
  exact = λ t x y. (
    λ h. elim ((one.exact t x y).0 h) [ inl p ↦ inl p | inr p ↦ inr ((same t x y).0 p) ],
    λ h. (one.exact t x y).1 (elim h [ inl p ↦ inl p | inr p ↦ inr ((same t x y).1 p) ]),
  );
  more = one.more;
  same = one.same;
}
