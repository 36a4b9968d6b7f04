-- The places of a production: its occurrences as they are written, by name.
use Rattle.std.proofs.Common.{◌≡◌, Bool, true, false, not, ◌&&◌, ◌||◌, ◌⊎◌, inl, inr, cond, List, [], ◌∷◌, ◌++◌, map, flat_map, find, Option, Some, None, bytes_eq, refl, sym, ◌∙◌, subst}
use Rattle.std.specs.Prelude.{option_and_then, ⊤}
use Rattle.std.specs.Option.{option_or}
use Rattle.std.specs.List.{list_any}
use Rattle.std.proofs.lemmas.Bool.{cases_Bool, and_parts, or_parts, or_from, or_right, or_left, not-true, false_from_ne_true, both_ways}
use Rattle.std.proofs.lemmas.List.Folds.{find-append, list_any-append}
use Rattle.lrc_base.specs.declared.raw.RawKind.{RawKind}
use Rattle.lrc_base.specs.declared.raw.RawAttr.{RawAttr}
use Rattle.lrc_base.specs.declared.raw.RawSort.{RawSort}
use Rattle.lrc_base.specs.declared.raw.RawKid.{RawKid}
use Rattle.lrc_base.specs.declared.raw.RawProd.{RawProd}
use Rattle.lrc_meaning.specs.Grammar.{all_distinct}
use Rattle.lrc_meaning.specs.Naming.{same_owner}
use Rattle.lrc_fault_meaning.specs.Faults.{Name, is_among, attrs_named, attrs_of_kind, Declared, declared_name, Target, same_target}
use Rattle.lrc_fault_laws.proofs.Lists.{Every, every_from, every_both}
use Rattle.lrc_fault_laws.proofs.Names.{same_name, own_name, names_swap}
use Rattle.lrc_fault_laws.proofs.Heads.{declared_kind, is_attached, declared_in}

-- what stands at an occurrence: its symbol, none for the left side and for the value of a local or nonterminal
-- attribute, its name and kind, and whether equations define it and may read it
pub record Place : Type 0 where
  pub owner : Option Name
  pub name : Name
  pub kind : RawKind
  pub is_defined : Bool
  pub is_read : Bool

abbrev pub own_place : RawAttr → Place
own_place a = record { owner = None; name = a.name; kind = a.kind; is_defined = not a.inherited; is_read = a.inherited }

abbrev pub symbol_place : Name → RawAttr → Place
symbol_place c a = record { owner = Some c; name = a.name; kind = a.kind; is_defined = a.inherited; is_read = not a.inherited }

abbrev pub value_place : Name → RawKind → Place
value_place n kind = record { owner = None; name = n; kind = kind; is_defined = true; is_read = true }

abbrev pub kid_places : List RawSort → RawKid → List Place
kid_places raw kid = map (symbol_place kid.name) (attrs_of_kind raw kid.kind)

abbrev pub declared_places : List RawSort → Declared → List Place
declared_places raw d =
    value_place (declared_name d) (declared_kind d) ∷ cond (is_attached d) (map (symbol_place (declared_name d)) (attrs_of_kind raw (declared_kind d))) []

abbrev pub places_of : List RawSort → RawProd → List Place
places_of raw p =
    map own_place (attrs_named raw p.left) ++ (flat_map (kid_places raw) p.kids ++ flat_map (declared_places raw) (declared_in p.items))

abbrev pub target_at : Place → Target
target_at x = record { owner = x.owner; name = x.name }

abbrev pub is_at : Target → Place → Bool
is_at t x = same_target (target_at x) t

-- ---- the name among those of the production that a place belongs to

abbrev pub head_of : Option Name → Name → Name
head_of None n = n
head_of (Some c) n = c

abbrev pub head_at : Place → Name
head_at x = head_of x.owner x.name

same_head : (o p : Option Name) (m n : Name) → (same_owner o p && bytes_eq m n) ≡ true → head_of o m ≡ head_of p n
same_head None None m n e = same_name m n e
same_head None (Some c) m n e = absurd (cc)
same_head (Some c) None m n e = absurd (cc)
same_head (Some c) (Some d) m n e = same_name c d ((and_parts (bytes_eq c d) (bytes_eq m n) e).0)

pub head_is : (t : Target) (x : Place) → is_at t x ≡ true → head_at x ≡ head_of t.owner t.name
head_is t x e = same_head x.owner t.owner x.name t.name e

-- ---- places that are apart

abbrev pub Apart : List Place → Type 0
Apart [] = ⊤
Apart (x ∷ xs) = (list_any (is_at (target_at x)) xs ≡ false) × Apart xs

abbrev pub HeadAmong : List Name → Place → Type 0
HeadAmong names x = is_among names (head_at x) ≡ true

none_at : (t : Target) (names : List Name) (xs : List Place) → is_among names (head_of t.owner t.name) ≡ false → Every (HeadAmong names) xs → list_any (is_at t) xs ≡ false
none_at t names [] other h = refl
none_at t names (x ∷ xs) other h =
    or_from (is_at t x) (list_any (is_at t) xs) (false_from_ne_true (is_at t x) (λ e. both_ways (is_among names (head_of t.owner t.name)) other (subst (λ n. is_among names n ≡ true) (head_is t x e) h.0))) (none_at t names xs other h.1)

pub apart_both : (front back : List Name) (xs ys : List Place) → ((n : Name) → is_among front n ≡ true → is_among back n ≡ false) → Every (HeadAmong front) xs → Every (HeadAmong back) ys → Apart xs → Apart ys → Apart (xs ++ ys)
apart_both front back [] ys differ hx hy ax ay = ay
apart_both front back (x ∷ xs) ys differ hx hy ax ay =
    (list_any-append (is_at (target_at x)) xs ys ∙ or_from (list_any (is_at (target_at x)) xs) (list_any (is_at (target_at x)) ys) ax.0 (none_at (target_at x) back ys (differ (head_at x) hx.0) hy), apart_both front back xs ys differ hx.1 hy ax.1 ay)

-- ---- groups of places, each under a name of its own

module _ {A : Type 0} (name : A → Name) (places : A → List Place) where
  abbrev pub AreUnder : A → Type 0
  AreUnder x = Every (λ y. head_at y ≡ name x) (places x)

  module _ (under : (x : A) → AreUnder x) where
    pub heads_among : (xs : List A) → Every (HeadAmong (map name xs)) (flat_map places xs)
    heads_among [] = tt
    heads_among (x ∷ xs) =
        every_both (HeadAmong (map name (x ∷ xs))) (places x) (flat_map places xs) (every_from (HeadAmong (map name (x ∷ xs))) (λ y. head_at y ≡ name x) (λ y e. or_left (bytes_eq (head_at y) (name x)) (is_among (map name xs) (head_at y)) (subst (λ n. bytes_eq (head_at y) n ≡ true) e (own_name (head_at y)))) (places x) (under x)) (every_from (HeadAmong (map name (x ∷ xs))) (HeadAmong (map name xs)) (λ y e. or_right (bytes_eq (head_at y) (name x)) (is_among (map name xs) (head_at y)) e) (flat_map places xs) (heads_among xs))

    pub apart_flat : (xs : List A) → all_distinct (map name xs) ≡ true → Every (λ x. Apart (places x)) xs → Apart (flat_map places xs)
    apart_flat [] d h = tt
    apart_flat (x ∷ xs) d h =
        let parts = and_parts (not (list_any (bytes_eq (name x)) (map name xs))) (all_distinct (map name xs)) d in
        let other : is_among (map name xs) (name x) ≡ false = not-true (list_any (bytes_eq (name x)) (map name xs)) parts.0 in
        apart_both (name x ∷ []) (map name xs) (places x) (flat_map places xs) (λ n e. subst (λ m. is_among (map name xs) m ≡ false) (sym (same_name n (name x) (only n (name x) e))) other) (every_from (HeadAmong (name x ∷ [])) (λ y. head_at y ≡ name x) (λ y e. or_left (bytes_eq (head_at y) (name x)) false (subst (λ n. bytes_eq (head_at y) n ≡ true) e (own_name (head_at y)))) (places x) (under x)) (heads_among xs) h.0 (apart_flat xs parts.1 h.1)
      where
        only : (m n : Name) → (bytes_eq m n || false) ≡ true → bytes_eq m n ≡ true
        only m n e = by (bytes_eq m n) e
          where
            by : (b : Bool) → (b || false) ≡ true → b ≡ true
            by true e = refl
            by false e = e

    none_found : (t : Target) (xs : List Place) → list_any (is_at t) xs ≡ false → find (is_at t) xs ≡ None
    none_found t [] e = refl
    none_found t (x ∷ xs) e =
        let parts = or_parts (is_at t x) (list_any (is_at t) xs) e in
        rw parts.0 (none_found t xs parts.1)

    abbrev pub found_in : Target → Option A → Option Place
    found_in t o = option_and_then (λ x. find (is_at t) (places x)) o

    -- what is found is found under its name
    pub find_flat : (t : Target) (xs : List A) → all_distinct (map name xs) ≡ true → find (is_at t) (flat_map places xs) ≡ found_in t (find (λ x. bytes_eq (name x) (head_of t.owner t.name)) xs)
    find_flat t [] d = refl
    find_flat t (x ∷ xs) d =
        find-append (is_at t) (places x) (flat_map places xs) ∙ by (cases_Bool (bytes_eq (name x) (head_of t.owner t.name))) (find_flat t xs parts.1)
      where
        parts : (not (list_any (bytes_eq (name x)) (map name xs)) ≡ true) × (all_distinct (map name xs) ≡ true)
        parts = and_parts (not (list_any (bytes_eq (name x)) (map name xs))) (all_distinct (map name xs)) d

        right_none : (o : Option Place) → option_or o None ≡ o
        right_none None = refl
        right_none (Some y) = refl

        by : (bytes_eq (name x) (head_of t.owner t.name) ≡ true) ⊎ (bytes_eq (name x) (head_of t.owner t.name) ≡ false) → find (is_at t) (flat_map places xs) ≡ found_in t (find (λ x. bytes_eq (name x) (head_of t.owner t.name)) xs) → option_or (find (is_at t) (places x)) (find (is_at t) (flat_map places xs)) ≡ found_in t (cond (bytes_eq (name x) (head_of t.owner t.name)) (Some x) (find (λ x. bytes_eq (name x) (head_of t.owner t.name)) xs))
        by (inl is) rest =
            let none : find (is_at t) (flat_map places xs) ≡ None = none_found t (flat_map places xs) (none_at t (map name xs) (flat_map places xs) (subst (λ n. is_among (map name xs) n ≡ false) (same_name (name x) (head_of t.owner t.name) is) (not-true (list_any (bytes_eq (name x)) (map name xs)) parts.0)) (heads_among xs)) in
            rw (is, none) (right_none (find (is_at t) (places x)))
        by (inr other) rest =
            let none : find (is_at t) (places x) ≡ None = none_found t (places x) (none_at t (name x ∷ []) (places x) (or_from (bytes_eq (head_of t.owner t.name) (name x)) false (names_swap (head_of t.owner t.name) (name x) ∙ other) refl) (every_from (HeadAmong (name x ∷ [])) (λ y. head_at y ≡ name x) (λ y e. or_left (bytes_eq (head_at y) (name x)) false (subst (λ n. bytes_eq (head_at y) n ≡ true) e (own_name (head_at y)))) (places x) (under x))) in
            rw (other, none) rest
