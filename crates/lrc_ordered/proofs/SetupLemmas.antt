-- The tables that the test begins with, item by item.
use Rattle.std.proofs.Common.{◌≡◌, ℕ, zero, suc, ◌+◌, ◌<◌, ◌≤◌, List, [], ◌∷◌, ◌++◌, map, take, set, length, get_or, Contains, ◌⊎◌, ◌↔◌, inl, inr, refl, sym, ap, ap₂, ◌∙◌, subst, arith, add-one, take-suc, take_all}
use Rattle.std.specs.List.{AllZip}
use Rattle.std.proofs.lemmas.Bool.{cases_eq}
use Rattle.std.proofs.lemmas.List.{length-map}
use Rattle.lrc_base.specs.declared.grammar.Given.{Given}
use Rattle.lrc_base.specs.declared.grammar.Sort.{Sort}
use Rattle.lrc_base.specs.declared.grammar.Production.{Production}
use Rattle.lrc_base.specs.declared.signature.Signature.{Signature}
use Rattle.lrc_meaning.specs.Signature.{signature_of}
use Rattle.lrc_graph.specs.Pairs.{Pairs, Has, HasExactly, With, Path}
use Rattle.lrc_order_meaning.specs.declared.Place.{Place}
use Rattle.lrc_ordered.specs.Tables.{table_at, HasAt}
use Rattle.lrc_ordered.specs.Setup.{IsIn}
use Rattle.lrc_ordered.proofs.SpreadLemmas.{path_map}
use Rattle.lrc_order_meaning.specs.declared.Need.{Need}
use Rattle.lrc_order_meaning.specs.Needs.{need}
use Rattle.lrc_ordered.proofs.GatherLemmas.{contains_more, set_same, set_other}

zip_push : {A B : Type 0} (R : A → B → Type 0) (xs : List A) (ys : List B) (x : A) (y : B) → AllZip R xs ys → R x y → AllZip R (xs ++ x ∷ []) (ys ++ y ∷ [])
zip_push R [] [] x y h r = (r, tt)
zip_push R [] (z ∷ ys) x y h r = absurd h
zip_push R (z ∷ xs) [] x y h r = absurd h
zip_push R (a ∷ xs) (b ∷ ys) x y h r = (h.0, zip_push R xs ys x y h.1 r)

-- one more of two lists
pub zip_more : {A B : Type 0} (R : A → B → Type 0) (xs : List A) (ys : List B) (i : ℕ) (x : A) (y : B) → i < length xs → x ≡ get_or xs i x
    → AllZip R (take i xs) ys → R x y → AllZip R (take (i + 1) xs) (ys ++ y ∷ [])
zip_more R xs ys i x y h e all r =
    let grown : take (i + 1) xs ≡ take i xs ++ x ∷ [] = rw add-one (take-suc xs i x h ∙ ap (λ z. take i xs ++ z ∷ []) (sym e)) in
    subst (λ zs. AllZip R zs (ys ++ y ∷ [])) (sym grown) (zip_push R (take i xs) ys x y all r)

-- the items of two lists at one place
pub zip_at : {A B : Type 0} (R : A → B → Type 0) (xs : List A) (ys : List B) (i : ℕ) (d : A) (e : B) → AllZip R xs ys → i < length xs → R (get_or xs i d) (get_or ys i e)
zip_at R [] ys i d e all h = absurd (omega arith)
zip_at R (x ∷ xs) [] i d e all h = absurd all
zip_at R (x ∷ xs) (y ∷ ys) zero d e all h = all.0
zip_at R (x ∷ xs) (y ∷ ys) (suc i) d e all h = zip_at R xs ys i d e all.1 (omega arith)

pub zip_length : {A B : Type 0} (R : A → B → Type 0) (xs : List A) (ys : List B) → AllZip R xs ys → length ys ≡ length xs
zip_length R [] [] all = refl
zip_length R [] (y ∷ ys) all = absurd all
zip_length R (x ∷ xs) [] all = absurd all
zip_length R (x ∷ xs) (y ∷ ys) all = ap suc (zip_length R xs ys all.1)

pub map_at : {A B : Type 0} (f : A → B) (xs : List A) (i : ℕ) (d : B) (e : A) → i < length xs → get_or (map f xs) i d ≡ f (get_or xs i e)
map_at f [] i d e h = absurd (omega arith)
map_at f (x ∷ xs) zero d e h = refl
map_at f (x ∷ xs) (suc i) d e h = map_at f xs i d e (omega arith)

some_at : {A : Type 0} (xs : List A) (i : ℕ) → i < length xs → (x : A) × (x ≡ get_or xs i x)
some_at [] i h = absurd (omega arith)
some_at (x ∷ xs) zero h = (x, refl)
some_at (x ∷ xs) (suc i) h = some_at xs i (omega arith)

-- the signature of a number is that of the production of this number
pub record IsSignedAt (sorts : List Sort) (prods : List Production) (i : ℕ) (signature : Signature) : Type 0 where
  pub production : Production
  pub there : production ≡ get_or prods i production
  pub is : signature ≡ signature_of sorts production

module _ (sorts : List Sort) (prods : List Production) (signatures : List Signature) (made : signatures ≡ map (signature_of sorts) prods) where
  pub signed_length : length signatures ≡ length prods
  signed_length = ap length made ∙ length-map prods (signature_of sorts)

  pub signed_is : (i : ℕ) (p : Production) (s : Signature) → i < length prods → p ≡ get_or prods i p → s ≡ get_or signatures i s → s ≡ signature_of sorts p
  signed_is i p s h there e =
      e ∙ ap (λ (xs : List Signature). get_or xs i s) made ∙ map_at (signature_of sorts) prods i s p h ∙ ap (signature_of sorts) (sym there)

  pub signed_at : (i : ℕ) (s : Signature) → i < length prods → s ≡ get_or signatures i s → IsSignedAt sorts prods i s
  signed_at i s h e =
      let found = some_at prods i h in
      record { production = found.0; there = found.1; is = signed_is i found.0 s h found.1 e }

pub ruleset signed_steps = (signed_length, signed_is)

same_need : (x y : ℕ) (n : Need) → x ≡ n.first → y ≡ n.then → n ≡ need x y
same_need x y n e f = ap₂ need (sym e) (sym f)

-- one need more
pub needs_more : (old now new : Pairs) (needs : List Need) (i : ℕ) (n : Need) → i < length needs → n ≡ get_or needs i n
    → HasExactly now (λ x y. Has old x y ⊎ Contains (take i needs) (need x y)) → HasExactly new (With (Has now) n.first n.then)
    → HasExactly new (λ x y. Has old x y ⊎ Contains (take (i + 1) needs) (need x y))
needs_more old now new needs i n there is before added x y =
    let more = contains_more needs i n (need x y) there is in (
      λ h.
          elim ((added x y).0 h) [
            | inl p ↦ elim ((before x y).0 p) [ inl q ↦ inl q | inr q ↦ inr (more.1 (inl q)) ]
            | inr p ↦ inr (more.1 (inr (same_need x y n p.0 p.1)))
          ],
      λ h.
          (added x y).1
          (elim h [
            | inl p ↦ inl ((before x y).1 (inl p))
            | inr p ↦
                elim (more.0 p) [
                  | inl q ↦ inl ((before x y).1 (inr q))
                  | inr q ↦ inr (ap (λ (m : Need). m.first) (sym q), ap (λ (m : Need). m.then) (sym q))
                ]
          ]),
    )

pub needs_all : (old now : Pairs) (needs : List Need) (i : ℕ) → length needs ≤ i
    → HasExactly now (λ x y. Has old x y ⊎ Contains (take i needs) (need x y)) → HasExactly now (λ x y. Has old x y ⊎ Contains needs (need x y))
needs_all old now needs i le h =
    subst (λ ns. HasExactly now (λ x y. Has old x y ⊎ Contains ns (need x y))) (take_all i needs le) h

-- the paths along what a table holds
pub paths_of : (r new : Pairs) (R : ℕ → ℕ → Type 0) → HasExactly r R → HasExactly new (Path (Has r)) → HasExactly new (Path R)
paths_of r new R exact closed x y = (
  λ h. path_map (Has r) R (λ a b p. (exact a b).0 p) x y ((closed x y).0 h),
  λ h. (closed x y).1 (path_map R (Has r) (λ a b p. (exact a b).1 p) x y h),
)

-- a given pair of a sort that stands somewhere
abbrev pub IsPut : List (List Place) → List Given → ℕ → ℕ → ℕ → Type 0
IsPut places given s x y = Contains given (record { sort = s; first = x; then = y }) × IsIn places s

module _ (old now : List Pairs) (places : List (List Place)) (given : List Given) (i : ℕ) (g : Given) (there : i < length given) (is : g ≡ get_or given i g)
    (before : (s x y : ℕ) → HasAt now s x y ↔ (HasAt old s x y ⊎ IsPut places (take i given) s x y)) where
  more : (s x y : ℕ) → Contains (take (i + 1) given) (record { sort = s; first = x; then = y })
      ↔ (Contains (take i given) (record { sort = s; first = x; then = y }) ⊎ (g ≡ record { sort = s; first = x; then = y }))
  more s x y = contains_more given i g (record { sort = s; first = x; then = y }) there is

  -- one of a sort that stands nowhere changes nothing
  pub given_left : (¬ IsIn places g.sort) → (s x y : ℕ) → HasAt now s x y ↔ (HasAt old s x y ⊎ IsPut places (take (i + 1) given) s x y)
  given_left nowhere s x y = (
    λ h.
        elim ((before s x y).0 h) [
          | inl p ↦ inl p
          | inr p ↦ inr ((more s x y).1 (inl p.0), p.1)
        ],
    λ h.
        (before s x y).1
        (elim h [
          | inl p ↦ inl p
          | inr p ↦
              elim ((more s x y).0 p.0) [
                | inl q ↦ inr (q, p.1)
                | inr e ↦ absurd (nowhere (subst (IsIn places) (sym (ap (λ (k : Given). k.sort) e)) p.1))
              ]
        ]),
  )

  module _ (new : Pairs) (small : g.sort < length now) (stands : IsIn places g.sort) (added : HasExactly new (With (Has (table_at now g.sort)) g.first g.then)) where
    abbrev after : List Pairs
    after = set now g.sort new

    -- any other is added
    pub given_added : (s x y : ℕ) → HasAt after s x y ↔ (HasAt old s x y ⊎ IsPut places (take (i + 1) given) s x y)
    given_added s x y =
        elim (cases_eq s g.sort) [
          | inl e ↦
              let at : table_at after s ≡ new = ap (table_at after) e ∙ set_same now g.sort new small in (
                λ h.
                    elim ((added x y).0 (subst (λ (t : Pairs). Has t x y) at h)) [
                      | inl p ↦
                          elim ((before s x y).0 (subst (λ k. HasAt now k x y) (sym e) p)) [
                            | inl q ↦ inl q
                            | inr q ↦ inr ((more s x y).1 (inl q.0), q.1)
                          ]
                      | inr p ↦ inr ((more s x y).1 (inr (same_given s x y g e p.0 p.1)), subst (IsIn places) (sym e) stands)
                    ],
                λ h.
                    subst (λ (t : Pairs). Has t x y) (sym at)
                    ((added x y).1
                    (elim h [
                      | inl p ↦ inl (subst (λ k. HasAt now k x y) e ((before s x y).1 (inl p)))
                      | inr p ↦
                          elim ((more s x y).0 p.0) [
                            | inl q ↦ inl (subst (λ k. HasAt now k x y) e ((before s x y).1 (inr (q, p.1))))
                            | inr q ↦ inr (ap (λ (k : Given). k.first) (sym q), ap (λ (k : Given). k.then) (sym q))
                          ]
                    ])),
              )
          | inr ne ↦
              let at : table_at after s ≡ table_at now s = set_other now g.sort s new ne in (
                λ h.
                    elim ((before s x y).0 (subst (λ (t : Pairs). Has t x y) at h)) [
                      | inl p ↦ inl p
                      | inr p ↦ inr ((more s x y).1 (inl p.0), p.1)
                    ],
                λ h.
                    subst (λ (t : Pairs). Has t x y) (sym at)
                    ((before s x y).1
                    (elim h [
                      | inl p ↦ inl p
                      | inr p ↦
                          elim ((more s x y).0 p.0) [
                            | inl q ↦ inr (q, p.1)
                            | inr q ↦ absurd (ne (ap (λ (k : Given). k.sort) (sym q)))
                          ]
                    ])),
              )
        ]
      where
        same_given : (s x y : ℕ) (k : Given) → s ≡ k.sort → x ≡ k.first → y ≡ k.then → k ≡ record { sort = s; first = x; then = y }
        same_given s x y k e f g = λ i. record { sort = sym e i; first = sym f i; then = sym g i }

-- tables keep their points
pub set_points : (tables : List Pairs) (s : ℕ) (new : Pairs) → s < length tables → new.points ≡ (table_at tables s).points
    → (t : ℕ) → (table_at (set tables s new) t).points ≡ (table_at tables t).points
set_points tables s new small same t =
    elim (cases_eq t s) [
      | inl e ↦
          ap (λ k. (table_at (set tables s new) k).points) e ∙ ap (λ (r : Pairs). r.points) (set_same tables s new small) ∙ same
          ∙ ap (λ k. (table_at tables k).points) (sym e)
      | inr ne ↦ ap (λ (r : Pairs). r.points) (set_other tables s t new ne)
    ]
