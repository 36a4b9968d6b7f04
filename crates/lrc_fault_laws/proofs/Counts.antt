-- Each place that is to be defined has one equation exactly where no target is defined twice, none is missing, and
-- what is declared has no other equation.
use Rattle.std.proofs.Common.{◌≡◌, ℕ, ◌+◌, ◌≤◌, Bool, true, false, not, ◌&&◌, ◌||◌, cond, List, [], ◌∷◌, ◌++◌, map, flat_map, find, slice_get, count_by, ◌==◌, nat_eq, Option, Some, None, bytes_eq, refl, sym, ap, ◌∙◌, subst, arith, append-nil}
use Rattle.std.specs.Prelude.{option_map, option_and_then}
use Rattle.std.specs.Option.{option_map_or}
use Rattle.std.specs.List.{list_any, list_all, range_with_len}
use Rattle.std.proofs.lemmas.Bool.{and_parts, or_parts, or_left, or_right, not-true, not-false, not_from_true, both_ways, false_from_ne_true}
use Rattle.std.proofs.lemmas.Bool.Decides.{Decides-eqb}
use Rattle.std.proofs.lemmas.List.Folds.{list_any-append}
use Rattle.std.proofs.lemmas.List.Concat.{flat_map-append}
use Rattle.lrc_base.specs.declared.grammar.Sort.{Sort}
use Rattle.lrc_base.specs.declared.grammar.Equation.{Equation}
use Rattle.lrc_base.specs.declared.grammar.Production.{Production}
use Rattle.lrc_base.specs.declared.expr.Expr.{Expr}
use Rattle.lrc_base.specs.declared.raw.RawKind.{RawKind}
use Rattle.lrc_base.specs.declared.raw.RawKind.TheVariants as rk
use Rattle.lrc_base.specs.declared.raw.RawAttr.{RawAttr}
use Rattle.lrc_base.specs.declared.raw.RawKid.{RawKid}
use Rattle.lrc_base.specs.declared.raw.RawItem.{RawItem}
use Rattle.lrc_base.specs.declared.raw.RawItem.TheVariants as item
use Rattle.lrc_base.specs.declared.raw.RawProd.{RawProd}
use Rattle.lrc_base.specs.declared.raw.RawGrammar.{RawGrammar}
use Rattle.lrc_base.specs.declared.raw.RawExpr.{RawExpr}
use Rattle.lrc_meaning.specs.Grammar.{Occurrence, occurrences_of, is_defined_once, all_distinct}
use Rattle.lrc_meaning.specs.Naming.{named_sort, named_expr, occurrence_number}
use Rattle.lrc_fault_meaning.specs.Faults.{Name, Fault, is_among, missing_equation, attrs_named, attrs_of_kind, attr_names, kid_names, Declared, local, attached, declared_by, declared_name, left_attr, means, left_or_other, kid_or_declared, kid_means, declared_means, Target, same_target, target_of, has_target, target_fault, missing_target, missing_of_left, missing_of_symbol, missing_of_kid, missing_of_declared, missing}
use Rattle.lrc_fault_laws.proofs.Lists.{number, Every, every_from, every_parts, every_both, every_flat, every_of_flat, every_with, every_mapped, every_of_mapped, every_fails, every_found, any_mapped, Each, each_length, each_at, each_tally, range_all, Names, After, empty_parts, empty_both, empty_each, each_empty, none_where, where_none, tally, count-tally, tally-append, tally_none, none_tally, tally_some, some_tally}
use Rattle.lrc_fault_laws.proofs.Names.{same_name, own_name, called, name_among}
use Rattle.lrc_fault_laws.proofs.Sorts.{AreDistinct}
use Rattle.lrc_fault_laws.proofs.Heads.{declared_in, declared_kind, Head}
use Rattle.lrc_fault_laws.proofs.Patterns.{AtMostOne}
use Rattle.lrc_fault_laws.proofs.Places.{Place, own_place, symbol_place, value_place, kid_places, declared_places, places_of, is_at, target_at}
use Rattle.lrc_fault_laws.proofs.Meanings.{alone, of_symbol, alone_place, find_alone, lefts, rights}
use Rattle.lrc_fault_laws.proofs.Occurrences.{Stands, stand, all_signed, occurrence_at}
use Rattle.lrc_fault_laws.proofs.Distinct.{one_target, number_is, places_apart}
use Rattle.lrc_fault_laws.proofs.Equations.{RawEquation, raw_equations, names, named_raw, RightAt, DefinesLeft, means_declared}

-- ---- targets that are defined once

abbrev pub IsNewTarget : List RawItem → RawItem → Type 0
IsNewTarget b i = Every (λ t. has_target b t ≡ false) (target_of i)

one_target_each : (i : RawItem) → AtMostOne (target_of i)
one_target_each (item.Local n kind x) = tt
one_target_each (item.Attach n sort x) = tt
one_target_each (item.Own n x) = tt
one_target_each (item.OfKid c n x) = tt
one_target_each (item.Pattern pieces) = tt

has_more : (b : List RawItem) (i : RawItem) (t : Target) → has_target (b ++ i ∷ []) t ≡ (has_target b t || list_any (same_target t) (target_of i))
has_more b i t =
    ap (list_any (same_target t)) (flat_map-append target_of b (i ∷ []) ∙ ap (λ l. flat_map target_of b ++ l) (append-nil (target_of i)))
    ∙ list_any-append (same_target t) (flat_map target_of b) (target_of i)

abbrev OnceMore : Target → List RawItem → List Target → Type 0
OnceMore t b ts = (has_target b t ≡ true → tally (same_target t) ts ≡ 0) × (tally (same_target t) ts ≤ 1)

once_more : (t : Target) (b : List RawItem) (i : RawItem) (rest ts : List Target) → target_of i ≡ ts → AtMostOne ts → Every (λ s. has_target b s ≡ false) ts → OnceMore t (b ++ i ∷ []) rest → OnceMore t b (ts ++ rest)
once_more t b i rest [] is one new h =
    (λ e. h.0 (has_more b i t ∙ or_left (has_target b t) (list_any (same_target t) (target_of i)) e), h.1)
once_more t b i rest (s ∷ []) is one new h = by (same_target t s) refl
  where
    by : (c : Bool) → same_target t s ≡ c → (has_target b t ≡ true → cond c 1 0 + tally (same_target t) rest ≡ 0) × (cond c 1 0 + tally (same_target t) rest ≤ 1)
    by true e =
        let now : has_target (b ++ i ∷ []) t ≡ true = has_more b i t ∙ or_right (has_target b t) (list_any (same_target t) (target_of i)) (rw is (or_left (same_target t s) false e)) in
        let none : tally (same_target t) rest ≡ 0 = h.0 now in
        (λ k. absurd (both_ways (has_target b t) (subst (λ u. has_target b u ≡ false) (sym (one_target t s e)) new.0) k), omega arith)
    by false e =
        (λ k. let none = h.0 (has_more b i t ∙ or_left (has_target b t) (list_any (same_target t) (target_of i)) k) in omega arith, let le = h.1 in omega arith)
once_more t b i rest (s ∷ (u ∷ ts)) is one new h = absurd one

pub targets_once : (t : Target) (b items : List RawItem) → After IsNewTarget b items → OnceMore t b (flat_map target_of items)
targets_once t b [] h = (λ e. refl, omega arith)
targets_once t b (i ∷ items) h =
    once_more t b i (flat_map target_of items) (target_of i) refl (one_target_each i) h.0 (targets_once t (b ++ i ∷ []) items h.1)

-- ---- equations by what declares them and by what targets them

abbrev pub hits : Place → RawEquation → Bool
hits x r = is_at r.target x

abbrev pub declared_hits : Place → Declared → Bool
declared_hits x d = is_at (alone (declared_name d)) x

abbrev pub target_hits : Place → Target → Bool
target_hits x t = is_at t x

pub split_tally : (x : Place) (items : List RawItem) → tally (hits x) (flat_map raw_equations items) ≡ tally (declared_hits x) (flat_map declared_by items) + tally (target_hits x) (flat_map target_of items)
split_tally x [] = omega arith
split_tally x (item.Local n kind y ∷ items) = let rest = split_tally x items in omega arith
split_tally x (item.Attach n sort y ∷ items) = let rest = split_tally x items in omega arith
split_tally x (item.Own n y ∷ items) = let rest = split_tally x items in omega arith
split_tally x (item.OfKid c n y ∷ items) = let rest = split_tally x items in omega arith
split_tally x (item.Pattern pieces ∷ items) = split_tally x items

-- ---- names that are distinct are met once

module _ {A : Type 0} (name : A → Name) where
  pub distinct_tally : (n : Name) (xs : List A) → all_distinct (map name xs) ≡ true → is_among (map name xs) n ≡ true → tally (λ y. bytes_eq n (name y)) xs ≡ 1
  distinct_tally n [] d e = absurd (cc)
  distinct_tally n (x ∷ xs) d e = by (bytes_eq n (name x)) refl e (distinct_tally n xs parts.1)
    where
      parts : (not (list_any (bytes_eq (name x)) (map name xs)) ≡ true) × (all_distinct (map name xs) ≡ true)
      parts = and_parts (not (list_any (bytes_eq (name x)) (map name xs))) (all_distinct (map name xs)) d

      by : (b : Bool) → bytes_eq n (name x) ≡ b → (b || is_among (map name xs) n) ≡ true → (is_among (map name xs) n ≡ true → tally (λ y. bytes_eq n (name y)) xs ≡ 1) → cond b 1 0 + tally (λ y. bytes_eq n (name y)) xs ≡ 1
      by true is e rest =
          let other : is_among (map name xs) n ≡ false = subst (λ m. is_among (map name xs) m ≡ false) (sym (same_name n (name x) is)) (not-true (list_any (bytes_eq (name x)) (map name xs)) parts.0) in
          let none : tally (λ y. bytes_eq n (name y)) xs ≡ 0 = tally_none (λ y. bytes_eq n (name y)) xs (sym (any_mapped (bytes_eq n) name xs) ∙ other) in
          omega arith
      by false is e rest = let one = rest e in omega arith

  pub every_among : (xs : List A) → Every (λ x. is_among (map name xs) (name x) ≡ true) xs
  every_among [] = tt
  every_among (x ∷ xs) =
      (or_left (bytes_eq (name x) (name x)) (is_among (map name xs) (name x)) (own_name (name x)), every_from (λ y. is_among (map name (x ∷ xs)) (name y) ≡ true) (λ y. is_among (map name xs) (name y) ≡ true) (λ y e. or_right (bytes_eq (name y) (name x)) (is_among (map name xs) (name y)) e) xs (every_among xs))

  pub every_finds : (xs : List A) → all_distinct (map name xs) ≡ true → Every (λ x. find (called name (name x)) xs ≡ Some x) xs
  every_finds [] d = tt
  every_finds (x ∷ xs) d =
      let parts = and_parts (not (list_any (bytes_eq (name x)) (map name xs))) (all_distinct (map name xs)) d in
      let others = every_of_mapped (λ n. bytes_eq (name x) n ≡ false) name xs (every_fails (bytes_eq (name x)) (map name xs) (not-true (list_any (bytes_eq (name x)) (map name xs)) parts.0)) in
      (rw (own_name (name x)) refl, every_with (λ y. find (called name (name y)) xs ≡ Some y) (λ y. bytes_eq (name x) (name y) ≡ false) (λ y. find (called name (name y)) (x ∷ xs) ≡ Some y) (λ y e other. rw other e) xs (every_finds xs parts.1) others)

-- ---- a production

module _ (g : RawGrammar) (sorts : List Sort) (named : Each (Names (named_sort g.sorts)) g.sorts sorts) (p : RawProd) (P : Production) (head : Head g.sorts p P.left P.kids P.extras) (prods : List Production) (made : Each (λ q Q. Head g.sorts q Q.left Q.kids Q.extras) g.prods prods) (attrs : Every AreDistinct g.sorts) where
  abbrev all_places : List Place
  all_places = places_of g.sorts p

  abbrev occurrences : List Occurrence
  occurrences = occurrences_of sorts P

  abbrev pub raw_all : List RawEquation
  raw_all = flat_map raw_equations p.items

  abbrev targets : List Target
  targets = flat_map target_of p.items

  abbrev all_declared : List Declared
  all_declared = declared_in p.items

  abbrev pub is_once : Place → Bool
  is_once x = not x.is_defined || nat_eq (tally (hits x) raw_all) 1

  abbrev pub IsOnce : Place → Type 0
  IsOnce x = is_once x ≡ true

  target_number : (r : RawEquation) (q : Equation) → named_raw g sorts named p P head prods made r ≡ Some q → number (is_at r.target) all_places ≡ Some q.target
  target_number r q e = sym (occurrence_at g.sorts sorts named p P head r.target) ∙ by (named_expr (names g sorts named p P head prods made) r.expr) (occurrence_number (all_signed g.sorts sorts named p P head) r.target.owner r.target.name) e
    where
      by : (z : Option Expr) (o : Option ℕ) → option_and_then (λ target. option_map (λ y. record { target = target; expr = y }) z) o ≡ Some q → o ≡ Some q.target
      by z None h = absurd (cc)
      by None (Some i) h = absurd (cc)
      by (Some y) (Some i) h = let one : record { target = i; expr = y } ≡ q = cc in ap (λ (q : Equation). Some q.target) one

  -- the test of each occurrence is the test of its place
  pub once_same : Each (Names (named_raw g sorts named p P head prods made)) raw_all P.equations → is_defined_once P occurrences ≡ list_all is_once all_places
  once_same are =
      subst (λ n. list_all test (range_with_len 0 n) ≡ list_all is_once all_places) (sym (each_length (Stands g.sorts) all_places occurrences stands)) (range_all test is_once 0 all_places at_each)
    where
      stands : Each (Stands g.sorts) all_places occurrences
      stands = stand g.sorts sorts named p P head

      test : ℕ → Bool
      test i = option_map_or (λ (x : Occurrence). not x.is_defined || nat_eq (count_by (λ (e : Equation). e.target == i) P.equations) 1) (slice_get occurrences i) true

      same : (j : ℕ) (x : Place) → slice_get all_places j ≡ Some x → count_by (λ (e : Equation). e.target == j) P.equations ≡ tally (hits x) raw_all
      same j x e =
          count-tally (λ (e : Equation). e.target == j) P.equations
          ∙ each_tally (Names (named_raw g sorts named p P head prods made)) (hits x) (λ (e : Equation). e.target == j) (λ r q h. number_is r.target all_places j q.target x (places_apart g.sorts attrs p head.distinct) e (target_number r q h)) raw_all P.equations are

      at_number : (j : ℕ) (x : Place) → slice_get all_places j ≡ Some x → test j ≡ is_once x
      at_number j x e =
          let found = each_at (Stands g.sorts) all_places occurrences j x stands e in
          rw (found.1, (found.2).is_defined, same j x e) refl

      at_each : (j : ℕ) (x : Place) → slice_get all_places j ≡ Some x → test (0 + j) ≡ is_once x
      at_each j x e = let here : j ≡ 0 + j = omega arith in subst (λ i. test i ≡ is_once x) here (at_number j x e)

  -- ---- one equation for each place, and none missing

  abbrev pub NotMissing : Place → Type 0
  NotMissing x = missing_target p x.is_defined (target_at x) ≡ []

  all_hits : (x : Place) → tally (hits x) raw_all ≡ tally (declared_hits x) all_declared + tally (target_hits x) targets
  all_hits x = split_tally x p.items

  once_means : (x : Place) → x.is_defined ≡ true → IsOnce x → tally (hits x) raw_all ≡ 1
  once_means x d h = (Decides-eqb (tally (hits x) raw_all) 1).0 (by x.is_defined d h)
    where
      by : (b : Bool) → b ≡ true → (not b || nat_eq (tally (hits x) raw_all) 1) ≡ true → nat_eq (tally (hits x) raw_all) 1 ≡ true
      by true d h = h
      by false d h = absurd (cc)

  means_once : (x : Place) → (x.is_defined ≡ true → tally (hits x) raw_all ≡ 1) → IsOnce x
  means_once x f = by x.is_defined refl
    where
      by : (b : Bool) → x.is_defined ≡ b → (not b || nat_eq (tally (hits x) raw_all) 1) ≡ true
      by true d = (Decides-eqb (tally (hits x) raw_all) 1).1 (f d)
      by false d = refl

  -- of a place that nothing declares
  once_of_attr : (x : Place) → tally (declared_hits x) all_declared ≡ 0 → After IsNewTarget [] p.items → NotMissing x → IsOnce x
  once_of_attr x none new h = means_once x one
    where
      has : (b : Bool) → b ≡ true → (b && not (has_target p.items (target_at x))) ≡ false → has_target p.items (target_at x) ≡ true
      has true d e = not-false (has_target p.items (target_at x)) e
      has false d e = absurd (cc)

      one : x.is_defined ≡ true → tally (hits x) raw_all ≡ 1
      one d =
          let there = has x.is_defined d (none_where (x.is_defined && not (has_target p.items (target_at x))) (target_fault missing_equation p.name (target_at x)) h) in
          let some = tally_some (target_hits x) targets there in
          let most = (targets_once (target_at x) [] p.items new).1 in
          let sum = all_hits x in
          omega arith

  attr_of_once : (x : Place) → tally (declared_hits x) all_declared ≡ 0 → IsOnce x → NotMissing x
  attr_of_once x none h = where_none (x.is_defined && not (has_target p.items (target_at x))) (target_fault missing_equation p.name (target_at x)) (by x.is_defined refl)
    where
      by : (b : Bool) → x.is_defined ≡ b → (b && not (has_target p.items (target_at x))) ≡ false
      by false d = refl
      by true d =
          let one = once_means x d h in
          let sum = all_hits x in
          let some : 1 ≤ tally (target_hits x) targets = omega arith in
          not_from_true (has_target p.items (target_at x)) (some_tally (target_hits x) targets some)

  -- ---- nothing declares an attribute

  symbol_not_declared : (c : Name) (a : RawAttr) (ds : List Declared) → tally (declared_hits (symbol_place c a)) ds ≡ 0
  symbol_not_declared c a [] = refl
  symbol_not_declared c a (d ∷ ds) = let rest = symbol_not_declared c a ds in omega arith

  own_not_declared : Every (λ (a : RawAttr). tally (declared_hits (own_place a)) all_declared ≡ 0) (attrs_named g.sorts p.left)
  own_not_declared =
      every_from (λ (a : RawAttr). tally (declared_hits (own_place a)) all_declared ≡ 0) (λ (a : RawAttr). is_among (attr_names g.sorts p.left) a.name ≡ true) by (attrs_named g.sorts p.left) (every_among (λ (a : RawAttr). a.name) (attrs_named g.sorts p.left))
    where
      by : (a : RawAttr) → is_among (attr_names g.sorts p.left) a.name ≡ true → tally (declared_hits (own_place a)) all_declared ≡ 0
      by a e =
          let others = (lefts g.sorts p head.distinct).apart a.name e in
          let parts = or_parts (is_among (kid_names p.kids) a.name) (is_among (map declared_name all_declared) a.name) (sym (list_any-append (bytes_eq a.name) (kid_names p.kids) (map declared_name all_declared)) ∙ others) in
          tally_none (declared_hits (own_place a)) all_declared (sym (any_mapped (bytes_eq a.name) declared_name all_declared) ∙ parts.1)

  -- ---- what is declared has its own equation alone

  no_target : (n : Name) (d : Declared) → means g.sorts p n ≡ declared_means (Some d) → (items : List RawItem) → Every (DefinesLeft g sorts named p P head prods made) items → tally (target_hits (value_place n (declared_kind d))) (flat_map target_of items) ≡ 0
  no_target n d is [] h = refl
  no_target n d is (item.Local m kind x ∷ items) h = no_target n d is items h.1
  no_target n d is (item.Attach m sort x ∷ items) h = no_target n d is items h.1
  no_target n d is (item.Own m x ∷ items) h =
      let rest = no_target n d is items h.1 in
      let other : bytes_eq n m ≡ false = false_from_ne_true (bytes_eq n m) (λ e. not_left d (h.0).0 (sym is ∙ (ap (means g.sorts p) (same_name n m e) ∙ (h.0).1))) in
      rw other (omega arith)
    where
      not_left : (d : Declared) (a : RawAttr) → declared_means (Some d) ≡ left_attr a → ⊥
      not_left (local m kind) a e = cc
      not_left (attached m sort) a e = cc
  no_target n d is (item.OfKid c m x ∷ items) h = let rest = no_target n d is items h.1 in omega arith
  no_target n d is (item.Pattern pieces ∷ items) h = no_target n d is items h.1

  value_once : Every (DefinesLeft g sorts named p P head prods made) p.items → Every (λ (d : Declared). IsOnce (value_place (declared_name d) (declared_kind d))) all_declared
  value_once left =
      every_with (λ (d : Declared). is_among (map declared_name all_declared) (declared_name d) ≡ true) (λ (d : Declared). find (called declared_name (declared_name d)) all_declared ≡ Some d) (λ (d : Declared). IsOnce (value_place (declared_name d) (declared_kind d))) (λ d e f. means_once (value_place (declared_name d) (declared_kind d)) (λ u. one d e f)) all_declared (every_among declared_name all_declared) (every_finds declared_name all_declared (rights g.sorts p head.distinct).back)
    where
      one : (d : Declared) → is_among (map declared_name all_declared) (declared_name d) ≡ true → find (called declared_name (declared_name d)) all_declared ≡ Some d → tally (hits (value_place (declared_name d) (declared_kind d))) raw_all ≡ 1
      one d e f =
          let sum = all_hits (value_place (declared_name d) (declared_kind d)) in
          let own : tally (declared_hits (value_place (declared_name d) (declared_kind d))) all_declared ≡ 1 = distinct_tally declared_name (declared_name d) all_declared (rights g.sorts p head.distinct).back e in
          let none = no_target (declared_name d) d (means_declared g sorts named p P head prods made (declared_name d) d f) p.items left in
          omega arith

  -- ---- all places

  symbols_once : (c : Name) (as' : List RawAttr) → After IsNewTarget [] p.items → flat_map (missing_of_symbol p c) as' ≡ [] → Every IsOnce (map (symbol_place c) as')
  symbols_once c as' new e =
      every_mapped IsOnce (symbol_place c) as' (every_from (λ a. IsOnce (symbol_place c a)) (λ a. missing_of_symbol p c a ≡ []) (λ a h. once_of_attr (symbol_place c a) (symbol_not_declared c a all_declared) new h) as' (empty_each (missing_of_symbol p c) as' e))

  once_symbols : (c : Name) (as' : List RawAttr) → Every IsOnce (map (symbol_place c) as') → flat_map (missing_of_symbol p c) as' ≡ []
  once_symbols c as' h =
      each_empty (missing_of_symbol p c) as' (every_from (λ a. missing_of_symbol p c a ≡ []) (λ a. IsOnce (symbol_place c a)) (λ a k. attr_of_once (symbol_place c a) (symbol_not_declared c a all_declared) k) as' (every_of_mapped IsOnce (symbol_place c) as' h))

  kid_once : After IsNewTarget [] p.items → (kid : RawKid) → missing_of_kid g.sorts p kid ≡ [] → Every IsOnce (kid_places g.sorts kid)
  kid_once new kid e = symbols_once kid.name (attrs_of_kind g.sorts kid.kind) new e

  declared_once : After IsNewTarget [] p.items → (d : Declared) → IsOnce (value_place (declared_name d) (declared_kind d)) → missing_of_declared g.sorts p d ≡ [] → Every IsOnce (declared_places g.sorts d)
  declared_once new (local n kind) h e = (h, tt)
  declared_once new (attached n sort) h e = (h, symbols_once n (attrs_named g.sorts sort) new e)

  once_declared : (d : Declared) → Every IsOnce (declared_places g.sorts d) → missing_of_declared g.sorts p d ≡ []
  once_declared (local n kind) h = refl
  once_declared (attached n sort) h = once_symbols n (attrs_named g.sorts sort) h.1

  abbrev missing_left : List Fault
  missing_left = flat_map (missing_of_left p) (attrs_named g.sorts p.left)

  abbrev missing_kids : List Fault
  missing_kids = flat_map (missing_of_kid g.sorts p) p.kids

  abbrev missing_declared : List Fault
  missing_declared = flat_map (missing_of_declared g.sorts p) all_declared

  pub all_once : After IsNewTarget [] p.items → Every (DefinesLeft g sorts named p P head prods made) p.items → missing g.sorts p ≡ [] → Every IsOnce all_places
  all_once new left e =
      let parts = empty_parts missing_left (missing_kids ++ missing_declared) e in
      let others = empty_parts missing_kids missing_declared parts.1 in
      let own = every_with (λ (a : RawAttr). tally (declared_hits (own_place a)) all_declared ≡ 0) (λ a. missing_of_left p a ≡ []) (λ a. IsOnce (own_place a)) (λ a none h. once_of_attr (own_place a) none new h) (attrs_named g.sorts p.left) own_not_declared (empty_each (missing_of_left p) (attrs_named g.sorts p.left) parts.0) in
      let kids = every_from (λ kid. Every IsOnce (kid_places g.sorts kid)) (λ kid. missing_of_kid g.sorts p kid ≡ []) (kid_once new) p.kids (empty_each (missing_of_kid g.sorts p) p.kids others.0) in
      let declared = every_with (λ (d : Declared). IsOnce (value_place (declared_name d) (declared_kind d))) (λ d. missing_of_declared g.sorts p d ≡ []) (λ d. Every IsOnce (declared_places g.sorts d)) (declared_once new) all_declared (value_once left) (empty_each (missing_of_declared g.sorts p) all_declared others.1) in
      every_both IsOnce (map own_place (attrs_named g.sorts p.left)) (flat_map (kid_places g.sorts) p.kids ++ flat_map (declared_places g.sorts) all_declared) (every_mapped IsOnce own_place (attrs_named g.sorts p.left) own) (every_both IsOnce (flat_map (kid_places g.sorts) p.kids) (flat_map (declared_places g.sorts) all_declared) (every_flat IsOnce (kid_places g.sorts) p.kids kids) (every_flat IsOnce (declared_places g.sorts) all_declared declared))

  pub none_missing : Every IsOnce all_places → missing g.sorts p ≡ []
  none_missing h =
      let parts = every_parts IsOnce (map own_place (attrs_named g.sorts p.left)) (flat_map (kid_places g.sorts) p.kids ++ flat_map (declared_places g.sorts) all_declared) h in
      let others = every_parts IsOnce (flat_map (kid_places g.sorts) p.kids) (flat_map (declared_places g.sorts) all_declared) parts.1 in
      let own = every_with (λ (a : RawAttr). tally (declared_hits (own_place a)) all_declared ≡ 0) (λ (a : RawAttr). IsOnce (own_place a)) (λ a. missing_of_left p a ≡ []) (λ a none k. attr_of_once (own_place a) none k) (attrs_named g.sorts p.left) own_not_declared (every_of_mapped IsOnce own_place (attrs_named g.sorts p.left) parts.0) in
      let kids = every_from (λ kid. missing_of_kid g.sorts p kid ≡ []) (λ kid. Every IsOnce (kid_places g.sorts kid)) (λ kid k. once_symbols kid.name (attrs_of_kind g.sorts kid.kind) k) p.kids (every_of_flat IsOnce (kid_places g.sorts) p.kids others.0) in
      let declared = every_from (λ d. missing_of_declared g.sorts p d ≡ []) (λ d. Every IsOnce (declared_places g.sorts d)) once_declared all_declared (every_of_flat IsOnce (declared_places g.sorts) all_declared others.1) in
      empty_both missing_left (missing_kids ++ missing_declared) (each_empty (missing_of_left p) (attrs_named g.sorts p.left) own) (empty_both missing_kids missing_declared (each_empty (missing_of_kid g.sorts p) p.kids kids) (each_empty (missing_of_declared g.sorts p) all_declared declared))

  -- ---- where each place has one equation, each target is new, and of the left side only attributes are defined

  abbrev RightEquation : RawEquation → Type 0
  RightEquation r = RightAt g sorts named p P head prods made r

  -- the one equation of a place is that of this item, so nothing else declares or targets it
  alone_at : (z : Place) (t : Target) (b : List RawItem) (i : RawItem) (rest : List RawItem) → b ++ i ∷ rest ≡ p.items → target_of i ≡ t ∷ [] → is_at t z ≡ true → tally (hits z) raw_all ≡ 1 → (has_target b t ≡ false) × (tally (declared_hits z) all_declared ≡ 0)
  alone_at z t b i rest w e at one =
      let split : targets ≡ flat_map target_of b ++ t ∷ flat_map target_of rest = ap (flat_map target_of) (sym w) ∙ (flat_map-append target_of b (i ∷ rest) ∙ ap (λ l. flat_map target_of b ++ (l ++ flat_map target_of rest)) e) in
      let parts : tally (target_hits z) targets ≡ tally (target_hits z) (flat_map target_of b) + (cond (is_at t z) 1 0 + tally (target_hits z) (flat_map target_of rest)) = ap (tally (target_hits z)) split ∙ tally-append (target_hits z) (flat_map target_of b) (t ∷ flat_map target_of rest) in
      let here : ◌≡◌ {A = ℕ} (cond (is_at t z) 1 0) 1 = ap (λ c. cond c 1 0) at in
      let sum = all_hits z in
      let none : tally (target_hits z) (flat_map target_of b) ≡ 0 = omega arith in
      let same : target_at z ≡ t = one_target (target_at z) t at in
      (subst (λ s. list_any (same_target s) (flat_map target_of b) ≡ false) same (none_tally (target_hits z) (flat_map target_of b) none), omega arith)

  once_at : (t : Target) (x : RawExpr) → RightEquation (record { target = t; expr = x }) → Every IsOnce all_places → (z : Place) × (find (is_at t) all_places ≡ Some z) × (is_at t z ≡ true) × (tally (hits z) raw_all ≡ 1)
  once_at t x h once =
      let found = every_found (is_at t) IsOnce all_places h.place once h.found in
      (h.place, h.found, found.1, once_means h.place h.defined found.0)

  defines_left : (n : Name) (z : Place) → find (is_at (alone n)) all_places ≡ Some z → is_at (alone n) z ≡ true → tally (declared_hits z) all_declared ≡ 0 → (a : RawAttr) × (means g.sorts p n ≡ left_attr a)
  defines_left n z f at none =
      by (find (called (λ (a : RawAttr). a.name) n) (attrs_named g.sorts p.left)) (find (called (λ (k : RawKid). k.name) n) p.kids) (find (called declared_name n) all_declared) refl (sym (find_alone g.sorts p head.distinct n) ∙ f)
    where
      no_kid : (k : RawKid) (kind : RawKind) → alone_place n (kid_means k kind) ≡ Some z → ⊥
      no_kid k rk.Int e = cc
      no_kid k rk.Bool e = cc
      no_kid k rk.Name e = cc
      no_kid k (rk.Named m) e = cc

      declared : (d : Declared) → find (called declared_name n) all_declared ≡ Some d → ⊥
      declared d e =
          let named' = name_among declared_name n all_declared d e in
          let same : target_at z ≡ alone n = one_target (target_at z) (alone n) at in
          let some : list_any (λ (d : Declared). same_target (alone n) (alone (declared_name d))) all_declared ≡ true = sym (any_mapped (bytes_eq n) declared_name all_declared) ∙ named'.0 in
          let some' : list_any (declared_hits z) all_declared ≡ true = subst (λ t. list_any (λ (d : Declared). same_target t (alone (declared_name d))) all_declared ≡ true) (sym same) some in
          let le = tally_some (declared_hits z) all_declared some' in
          omega arith

      by : (a : Option RawAttr) (k : Option RawKid) (d : Option Declared) → find (called declared_name n) all_declared ≡ d → alone_place n (left_or_other a (kid_or_declared k d)) ≡ Some z → (c : RawAttr) × (left_or_other a (kid_or_declared k d) ≡ left_attr c)
      by (Some a) k d e h = (a, refl)
      by None (Some k) d e h = absurd (no_kid k k.kind h)
      by None None (Some d) e h = absurd (declared d e)
      by None None None e h = absurd (cc)

  pub once_item : Every IsOnce all_places → Every RightEquation raw_all → (b : List RawItem) (i : RawItem) (rest : List RawItem) → b ++ i ∷ rest ≡ p.items → IsNewTarget b i × DefinesLeft g sorts named p P head prods made i
  once_item once right b i rest w = by i w (every_parts RightEquation (raw_equations i) (flat_map raw_equations rest) ((every_parts RightEquation (flat_map raw_equations b) (flat_map raw_equations (i ∷ rest)) (subst (λ l. Every RightEquation l) (ap (flat_map raw_equations) (sym w) ∙ flat_map-append raw_equations b (i ∷ rest)) right)).1)).0
    where
      by : (i : RawItem) → b ++ i ∷ rest ≡ p.items → Every RightEquation (raw_equations i) → IsNewTarget b i × DefinesLeft g sorts named p P head prods made i
      by (item.Local n kind x) w h = (tt, tt)
      by (item.Attach n sort x) w h = (tt, tt)
      by (item.Own n x) w h =
          let found = once_at (alone n) x h.0 once in
          let only = alone_at found.0 (alone n) b (item.Own n x) rest w refl found.2 found.3 in
          ((only.0, tt), defines_left n found.0 found.1 found.2 only.1)
      by (item.OfKid c a x) w h =
          let found = once_at (of_symbol c a) x h.0 once in
          let only = alone_at found.0 (of_symbol c a) b (item.OfKid c a x) rest w refl found.2 found.3 in
          ((only.0, tt), tt)
      by (item.Pattern pieces) w h = (tt, tt)
