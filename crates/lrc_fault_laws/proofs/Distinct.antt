-- The places of a production whose names are distinct are apart, so a target has the number of one place alone.
use Rattle.std.proofs.Common.{◌≡◌, ℕ, zero, suc, Bool, true, false, not, ◌&&◌, ◌||◌, cond, List, [], ◌∷◌, ◌++◌, map, flat_map, slice_get, ◌==◌, Option, Some, None, bytes_eq, refl, sym, ap, ap₂, ◌∙◌, subst, arith, ne_eqb}
use Rattle.std.specs.Prelude.{option_map}
use Rattle.std.specs.Bool.{one_answer}
use Rattle.std.specs.List.{list_any}
use Rattle.std.proofs.lemmas.Bool.{and_parts, or_parts, or_left, or_right, not-true, false_from_ne_true, both_ways}
use Rattle.std.proofs.lemmas.Bool.Decides.{Decides-eqb}
use Rattle.std.proofs.lemmas.List.Folds.{list_any-append}
use Rattle.std.proofs.lemmas.List.Concat.{flat_map_single}
use Rattle.lrc_base.specs.declared.raw.RawKind.{RawKind}
use Rattle.lrc_base.specs.declared.raw.RawKind.TheVariants as rk
use Rattle.lrc_base.specs.declared.raw.RawAttr.{RawAttr}
use Rattle.lrc_base.specs.declared.raw.RawSort.{RawSort}
use Rattle.lrc_base.specs.declared.raw.RawKid.{RawKid}
use Rattle.lrc_base.specs.declared.raw.RawProd.{RawProd}
use Rattle.lrc_meaning.specs.Grammar.{all_distinct}
use Rattle.lrc_meaning.specs.Naming.{same_owner}
use Rattle.lrc_fault_meaning.specs.Faults.{Name, is_among, attrs_named, attrs_of_kind, attr_names, kid_names, Declared, local, attached, declared_name, Target, same_target}
use Rattle.lrc_fault_laws.proofs.Lists.{number, Every, every_from, every_both, every_of_all}
use Rattle.lrc_fault_laws.proofs.Names.{same_name, own_name, names_swap}
use Rattle.lrc_fault_laws.proofs.Sorts.{AreDistinct}
use Rattle.lrc_fault_laws.proofs.Heads.{attrs_distinct, declared_in, own_names}
use Rattle.lrc_fault_laws.proofs.Places.{Place, own_place, symbol_place, kid_places, declared_places, places_of, is_at, target_at, Apart, HeadAmong, apart_both, heads_among, apart_flat}
use Rattle.lrc_fault_laws.proofs.Meanings.{alone, lefts, rights, own_group, under_own, under_kid, under_declared}

-- ---- targets

pub one_target : (s t : Target) → same_target s t ≡ true → s ≡ t
one_target s t e = by s.owner t.owner s.name t.name e
  where
    by : (o u : Option Name) (m n : Name) → (same_owner o u && bytes_eq m n) ≡ true → ◌≡◌ {A = Target} (record { owner = o; name = m }) (record { owner = u; name = n })
    by None None m n e = ap (λ m. record { owner = None; name = m }) (same_name m n e)
    by None (Some d) m n e = absurd (cc)
    by (Some c) None m n e = absurd (cc)
    by (Some c) (Some d) m n e =
        let parts = and_parts (bytes_eq c d) (bytes_eq m n) e in
        ap₂ (λ c m. record { owner = Some c; name = m }) (same_name c d parts.0) (same_name m n parts.1)

-- ---- the number of a target is that of one place alone

not_later : (x y : Place) (t : Target) (xs : List Place) (i : ℕ) → list_any (is_at (target_at x)) xs ≡ false → slice_get xs i ≡ Some y → is_at t x ≡ true → is_at t y ≡ false
not_later x y t [] i none e h = absurd (cc)
not_later x y t (z ∷ xs) zero none e h =
    let parts = or_parts (is_at (target_at x) z) (list_any (is_at (target_at x)) xs) none in
    let same : z ≡ y = cc in
    false_from_ne_true (is_at t y) (λ k. both_ways (is_at (target_at x) y) (subst (λ z. is_at (target_at x) z ≡ false) same parts.0) (subst (λ s. same_target (target_at y) s ≡ true) (sym (one_target (target_at x) t h)) k))
not_later x y t (z ∷ xs) (suc i) none e h =
    not_later x y t xs i (or_parts (is_at (target_at x) z) (list_any (is_at (target_at x)) xs) none).1 e h

eq_suc : (i j : ℕ) → (suc i == suc j) ≡ (i == j)
eq_suc i j =
    one_answer (suc i == suc j) (i == j) (Decides-eqb (suc i) (suc j)) (λ e. let h = (Decides-eqb i j).0 e in omega arith, λ e. (Decides-eqb i j).1 (omega arith))

pub number_is : (t : Target) (xs : List Place) (i j : ℕ) (x : Place) → Apart xs → slice_get xs i ≡ Some x → number (is_at t) xs ≡ Some j → (j == i) ≡ is_at t x
number_is t [] i j x a e n = absurd (cc)
number_is t (z ∷ xs) zero j x a e n = by (is_at t z) refl (number (is_at t) xs) n
  where
    same : z ≡ x
    same = cc

    by : (b : Bool) → is_at t z ≡ b → (o : Option ℕ) → cond b (Some 0) (option_map suc o) ≡ Some j → (j == 0) ≡ is_at t x
    by true is o n = let here : 0 ≡ j = cc in subst (λ j. (j == 0) ≡ is_at t x) here (sym (ap (is_at t) (sym same) ∙ is))
    by false is None n = absurd (cc)
    by false is (Some m) n = let here : suc m ≡ j = cc in subst (λ j. (j == 0) ≡ is_at t x) here (ne_eqb (suc m) 0 (λ h. omega arith) ∙ sym (ap (is_at t) (sym same) ∙ is))
number_is t (z ∷ xs) (suc i) j x a e n = by (is_at t z) refl (number (is_at t) xs) refl n (λ m h. number_is t xs i m x a.1 e h)
  where
    by : (b : Bool) → is_at t z ≡ b → (o : Option ℕ) → number (is_at t) xs ≡ o → cond b (Some 0) (option_map suc o) ≡ Some j → ((m : ℕ) → number (is_at t) xs ≡ Some m → (m == i) ≡ is_at t x) → (j == suc i) ≡ is_at t x
    by true is o os n rest = let here : 0 ≡ j = cc in subst (λ j. (j == suc i) ≡ is_at t x) here (ne_eqb 0 (suc i) (λ h. omega arith) ∙ sym (not_later z x t xs i a.0 e is))
    by false is None os n rest = absurd (cc)
    by false is (Some m) os n rest = let here : suc m ≡ j = cc in subst (λ j. (j == suc i) ≡ is_at t x) here (eq_suc m i ∙ rest m os)

-- ---- the places of a production

under_name : (c : Name) (attrs : List RawAttr) → Every (λ y. y.owner ≡ Some c) (map (symbol_place c) attrs)
under_name c [] = tt
under_name c (a ∷ attrs) = (refl, under_name c attrs)

among_symbols : (c a : Name) (attrs : List RawAttr) → list_any (is_at (record { owner = Some c; name = a })) (map (symbol_place c) attrs) ≡ is_among (map (λ (b : RawAttr). b.name) attrs) a
among_symbols c a [] = refl
among_symbols c a (b ∷ attrs) = rw (own_name c) (ap₂ ◌||◌ (names_swap b.name a) (among_symbols c a attrs))

alone_in_symbols : (n c : Name) (attrs : List RawAttr) → list_any (is_at (alone n)) (map (symbol_place c) attrs) ≡ false
alone_in_symbols n c [] = refl
alone_in_symbols n c (a ∷ attrs) = alone_in_symbols n c attrs

apart_symbols : (c : Name) (attrs : List RawAttr) → all_distinct (map (λ (b : RawAttr). b.name) attrs) ≡ true → Apart (map (symbol_place c) attrs)
apart_symbols c [] d = tt
apart_symbols c (a ∷ attrs) d =
    let parts = and_parts (not (list_any (bytes_eq a.name) (map (λ (b : RawAttr). b.name) attrs))) (all_distinct (map (λ (b : RawAttr). b.name) attrs)) d in
    (among_symbols c a.name attrs ∙ not-true (list_any (bytes_eq a.name) (map (λ (b : RawAttr). b.name) attrs)) parts.0, apart_symbols c attrs parts.1)

module _ (raw : List RawSort) (attrs : Every AreDistinct raw) (p : RawProd) (distinct : all_distinct (own_names raw p) ≡ true) where
  of_kind_distinct : (kind : RawKind) → all_distinct (map (λ (b : RawAttr). b.name) (attrs_of_kind raw kind)) ≡ true
  of_kind_distinct rk.Int = refl
  of_kind_distinct rk.Bool = refl
  of_kind_distinct rk.Name = refl
  of_kind_distinct (rk.Named n) = attrs_distinct raw raw n attrs

  apart_kid : (kid : RawKid) → Apart (kid_places raw kid)
  apart_kid kid = apart_symbols kid.name (attrs_of_kind raw kid.kind) (of_kind_distinct kid.kind)

  apart_declared : (d : Declared) → Apart (declared_places raw d)
  apart_declared (local n kind) = (refl, tt)
  apart_declared (attached n sort) =
      (alone_in_symbols n n (attrs_named raw sort), apart_symbols n (attrs_named raw sort) (of_kind_distinct (rk.Named sort)))

  abbrev own_list : List Place
  own_list = flat_map (own_group raw p distinct) (attrs_named raw p.left)

  abbrev kid_list : List Place
  kid_list = flat_map (kid_places raw) p.kids

  abbrev declared_list : List Place
  declared_list = flat_map (declared_places raw) (declared_in p.items)

  abbrev declared_names : List Name
  declared_names = map declared_name (declared_in p.items)

  apart_rest : Apart (kid_list ++ declared_list)
  apart_rest =
      apart_both (kid_names p.kids) declared_names kid_list declared_list (rights raw p distinct).apart (heads_among (λ (k : RawKid). k.name) (kid_places raw) (under_kid raw p distinct) p.kids) (heads_among declared_name (declared_places raw) (under_declared raw p distinct) (declared_in p.items)) (apart_flat (λ (k : RawKid). k.name) (kid_places raw) (under_kid raw p distinct) p.kids (rights raw p distinct).front (every_of_all (λ k. Apart (kid_places raw k)) p.kids apart_kid)) (apart_flat declared_name (declared_places raw) (under_declared raw p distinct) (declared_in p.items) (rights raw p distinct).back (every_of_all (λ d. Apart (declared_places raw d)) (declared_in p.items) apart_declared))

  heads_rest : Every (HeadAmong (kid_names p.kids ++ declared_names)) (kid_list ++ declared_list)
  heads_rest =
      every_both (HeadAmong (kid_names p.kids ++ declared_names)) kid_list declared_list (every_from (HeadAmong (kid_names p.kids ++ declared_names)) (HeadAmong (kid_names p.kids)) (λ y e. list_any-append (bytes_eq _) (kid_names p.kids) declared_names ∙ or_left (is_among (kid_names p.kids) _) (is_among declared_names _) e) kid_list (heads_among (λ (k : RawKid). k.name) (kid_places raw) (under_kid raw p distinct) p.kids)) (every_from (HeadAmong (kid_names p.kids ++ declared_names)) (HeadAmong declared_names) (λ y e. list_any-append (bytes_eq _) (kid_names p.kids) declared_names ∙ or_right (is_among (kid_names p.kids) _) (is_among declared_names _) e) declared_list (heads_among declared_name (declared_places raw) (under_declared raw p distinct) (declared_in p.items)))

  pub places_apart : Apart (places_of raw p)
  places_apart =
      subst (λ l. Apart (l ++ (kid_list ++ declared_list))) (flat_map_single own_place (attrs_named raw p.left)) (apart_both (attr_names raw p.left) (kid_names p.kids ++ declared_names) own_list (kid_list ++ declared_list) (lefts raw p distinct).apart (heads_among (λ (a : RawAttr). a.name) (own_group raw p distinct) (under_own raw p distinct) (attrs_named raw p.left)) heads_rest (apart_flat (λ (a : RawAttr). a.name) (own_group raw p distinct) (under_own raw p distinct) (attrs_named raw p.left) (lefts raw p distinct).front (every_of_all (λ a. Apart (own_group raw p distinct a)) (attrs_named raw p.left) (λ a. (refl, tt)))) apart_rest)
