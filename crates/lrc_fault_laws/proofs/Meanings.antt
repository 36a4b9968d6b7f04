-- What a name means in a production whose names are distinct is the place of that name.
use Rattle.std.proofs.Common.{◌≡◌, Bool, true, false, cond, List, [], ◌∷◌, ◌++◌, map, flat_map, find, Option, Some, None, bytes_eq, refl, sym, ap, ap₂, ◌∙◌, subst}
use Rattle.std.specs.Prelude.{option_map, option_and_then}
use Rattle.std.specs.Option.{option_or}
use Rattle.std.proofs.lemmas.Bool.{or_parts}
use Rattle.std.proofs.lemmas.List.Folds.{find-append, list_any-append}
use Rattle.std.proofs.lemmas.List.Concat.{flat_map_single}
use Rattle.lrc_base.specs.declared.raw.RawKind.{RawKind}
use Rattle.lrc_base.specs.declared.raw.RawKind.TheVariants as rk
use Rattle.lrc_base.specs.declared.raw.RawAttr.{RawAttr}
use Rattle.lrc_base.specs.declared.raw.RawSort.{RawSort}
use Rattle.lrc_base.specs.declared.raw.RawKid.{RawKid}
use Rattle.lrc_base.specs.declared.raw.RawProd.{RawProd}
use Rattle.lrc_meaning.specs.Grammar.{all_distinct}
use Rattle.lrc_fault_meaning.specs.Faults.{Name, is_among, attrs_named, attrs_of_kind, attr_names, kid_names, attr_in_sort, Declared, local, attached, declared_name, Means, nothing, left_attr, leaf, symbol, value, tree, means, left_or_other, kid_or_declared, kid_means, declared_means, symbol_sort, Target}
use Rattle.lrc_fault_laws.proofs.Lists.{Every}
use Rattle.lrc_fault_laws.proofs.Names.{own_name, Parted, distinct_parts, called, name_among, name_absent}
use Rattle.lrc_fault_laws.proofs.Heads.{declared_in, own_names}
use Rattle.lrc_fault_laws.proofs.Places.{Place, own_place, symbol_place, value_place, kid_places, declared_places, places_of, is_at, head_of, head_at, found_in, find_flat}

abbrev pub alone : Name → Target
alone n = record { owner = None; name = n }

abbrev pub of_symbol : Name → Name → Target
of_symbol c a = record { owner = Some c; name = a }

-- the place that a name alone means
abbrev pub alone_place : Name → Means → Option Place
alone_place n nothing = None
alone_place n (left_attr a) = Some (own_place a)
alone_place n (leaf kind) = None
alone_place n (symbol sort) = None
alone_place n (value kind) = Some (value_place n kind)
alone_place n (tree sort) = Some (value_place n (rk.Named sort))

-- the place of a symbol's attribute, by the symbol's sort
abbrev pub symbol_place_of : List RawSort → Name → Name → Option Name → Option Place
symbol_place_of raw c a o = option_and_then (λ sort. option_map (symbol_place c) (attr_in_sort raw sort a)) o

under_symbols : (c : Name) (attrs : List RawAttr) → Every (λ y. head_at y ≡ c) (map (symbol_place c) attrs)
under_symbols c [] = tt
under_symbols c (a ∷ attrs) = (refl, under_symbols c attrs)

alone_in_symbol : (n c : Name) (attrs : List RawAttr) → find (is_at (alone n)) (map (symbol_place c) attrs) ≡ None
alone_in_symbol n c [] = refl
alone_in_symbol n c (a ∷ attrs) = alone_in_symbol n c attrs

attr_in_symbol : (c a : Name) (attrs : List RawAttr) → find (is_at (of_symbol c a)) (map (symbol_place c) attrs) ≡ option_map (symbol_place c) (find (λ (b : RawAttr). bytes_eq b.name a) attrs)
attr_in_symbol c a [] = refl
attr_in_symbol c a (b ∷ attrs) = rw (own_name c) (by (bytes_eq b.name a) (attr_in_symbol c a attrs))
  where
    by : (t : Bool) → find (is_at (of_symbol c a)) (map (symbol_place c) attrs) ≡ option_map (symbol_place c) (find (λ (b : RawAttr). bytes_eq b.name a) attrs) → cond t (Some (symbol_place c b)) (find (is_at (of_symbol c a)) (map (symbol_place c) attrs)) ≡ option_map (symbol_place c) (cond t (Some b) (find (λ (b : RawAttr). bytes_eq b.name a) attrs))
    by true rest = refl
    by false rest = rest

module _ (raw : List RawSort) (p : RawProd) (distinct : all_distinct (own_names raw p) ≡ true) where
  pub lefts : Parted (attr_names raw p.left) (kid_names p.kids ++ map declared_name (declared_in p.items))
  lefts = distinct_parts (attr_names raw p.left) (kid_names p.kids ++ map declared_name (declared_in p.items)) distinct

  pub rights : Parted (kid_names p.kids) (map declared_name (declared_in p.items))
  rights = distinct_parts (kid_names p.kids) (map declared_name (declared_in p.items)) lefts.back

  abbrev pub attr_name : RawAttr → Name
  attr_name a = a.name

  abbrev pub kid_name : RawKid → Name
  kid_name k = k.name

  abbrev pub own_group : RawAttr → List Place
  own_group a = own_place a ∷ []

  pub under_own : (a : RawAttr) → Every (λ y. head_at y ≡ a.name) (own_group a)
  under_own a = (refl, tt)

  pub under_kid : (k : RawKid) → Every (λ y. head_at y ≡ k.name) (kid_places raw k)
  under_kid k = under_symbols k.name (attrs_of_kind raw k.kind)

  pub under_declared : (d : Declared) → Every (λ y. head_at y ≡ declared_name d) (declared_places raw d)
  under_declared (local n kind) = (refl, tt)
  under_declared (attached n sort) = (refl, under_symbols n (attrs_named raw sort))

  abbrev left_found : Name → Option RawAttr
  left_found n = find (called attr_name n) (attrs_named raw p.left)

  abbrev kid_found : Name → Option RawKid
  kid_found n = find (called kid_name n) p.kids

  abbrev declared_found : Name → Option Declared
  declared_found n = find (called declared_name n) (declared_in p.items)

  abbrev three_found : Target → Option RawAttr → Option RawKid → Option Declared → Option Place
  three_found t a k d =
      option_or (found_in attr_name own_group under_own t a) (option_or (found_in kid_name (kid_places raw) under_kid t k) (found_in declared_name (declared_places raw) under_declared t d))

  find_places : (t : Target) (n : Name) → head_of t.owner t.name ≡ n → find (is_at t) (places_of raw p) ≡ three_found t (left_found n) (kid_found n) (declared_found n)
  find_places t n e =
      find-append (is_at t) (map own_place (attrs_named raw p.left)) (flat_map (kid_places raw) p.kids ++ flat_map (declared_places raw) (declared_in p.items))
      ∙ ap₂ option_or (ap (find (is_at t)) (sym (flat_map_single own_place (attrs_named raw p.left))) ∙ (find_flat attr_name own_group under_own t (attrs_named raw p.left) lefts.front ∙ ap (λ m. found_in attr_name own_group under_own t (left_found m)) e)) (find-append (is_at t) (flat_map (kid_places raw) p.kids) (flat_map (declared_places raw) (declared_in p.items))
      ∙ ap₂ option_or (find_flat kid_name (kid_places raw) under_kid t p.kids rights.front ∙ ap (λ m. found_in kid_name (kid_places raw) under_kid t (kid_found m)) e) (find_flat declared_name (declared_places raw) under_declared t (declared_in p.items) rights.back ∙ ap (λ m. found_in declared_name (declared_places raw) under_declared t (declared_found m)) e))

  -- of the three at most one is there
  pub no_other_left : (n : Name) (a : RawAttr) → left_found n ≡ Some a → (kid_found n ≡ None) × (declared_found n ≡ None)
  no_other_left n a e =
      let others = lefts.apart n (name_among attr_name n (attrs_named raw p.left) a e).0 in
      let parts = or_parts (is_among (kid_names p.kids) n) (is_among (map declared_name (declared_in p.items)) n) (sym (list_any-append (bytes_eq n) (kid_names p.kids) (map declared_name (declared_in p.items))) ∙ others) in
      (name_absent kid_name n p.kids parts.0, name_absent declared_name n (declared_in p.items) parts.1)

  pub no_other_kid : (n : Name) (k : RawKid) → kid_found n ≡ Some k → declared_found n ≡ None
  no_other_kid n k e =
      name_absent declared_name n (declared_in p.items) (rights.apart n (name_among kid_name n p.kids k e).0)

  -- ---- a name alone

  alone_in_declared : (n : Name) (d : Declared) → declared_name d ≡ n → find (is_at (alone n)) (declared_places raw d) ≡ alone_place n (declared_means (Some d))
  alone_in_declared n (local m kind) e = rw e (rw (own_name n) refl)
  alone_in_declared n (attached m sort) e = rw e (rw (own_name n) refl)

  by_three : (n : Name) (a : Option RawAttr) (k : Option RawKid) (d : Option Declared) → left_found n ≡ a → kid_found n ≡ k → declared_found n ≡ d → three_found (alone n) a k d ≡ alone_place n (left_or_other a (kid_or_declared k d))
  by_three n (Some a) k d ea ek ed =
      let same : a.name ≡ n = (name_among attr_name n (attrs_named raw p.left) a ea).1 in
      rw same (rw (own_name n) refl)
  by_three n None (Some k) d ea ek ed =
      let none : d ≡ None = sym ed ∙ no_other_kid n k ek in
      rw (none, alone_in_symbol n k.name (attrs_of_kind raw k.kind)) (no_place k k.kind)
    where
      no_place : (k : RawKid) (kind : RawKind) → None ≡ alone_place n (kid_means k kind)
      no_place k rk.Int = refl
      no_place k rk.Bool = refl
      no_place k rk.Name = refl
      no_place k (rk.Named m) = refl
  by_three n None None None ea ek ed = refl
  by_three n None None (Some d) ea ek ed = alone_in_declared n d (name_among declared_name n (declared_in p.items) d ed).1

  pub find_alone : (n : Name) → find (is_at (alone n)) (places_of raw p) ≡ alone_place n (means raw p n)
  find_alone n =
      find_places (alone n) n refl ∙ by_three n (left_found n) (kid_found n) (declared_found n) refl refl refl

  -- ---- an attribute of a symbol

  of_kid : (c a : Name) (k : RawKid) (kind : RawKind) → find (is_at (of_symbol c a)) (map (symbol_place c) (attrs_of_kind raw kind)) ≡ symbol_place_of raw c a (symbol_sort (kid_means k kind))
  of_kid c a k rk.Int = refl
  of_kid c a k rk.Bool = refl
  of_kid c a k rk.Name = refl
  of_kid c a k (rk.Named m) = attr_in_symbol c a (attrs_named raw m)

  of_declared : (c a : Name) (d : Declared) → declared_name d ≡ c → find (is_at (of_symbol c a)) (declared_places raw d) ≡ symbol_place_of raw c a (symbol_sort (declared_means (Some d)))
  of_declared c a (local m kind) e = refl
  of_declared c a (attached m sort) e =
      subst (λ m. find (is_at (of_symbol c a)) (map (symbol_place m) (attrs_named raw sort)) ≡ option_map (symbol_place c) (attr_in_sort raw sort a)) (sym e) (attr_in_symbol c a (attrs_named raw sort))

  right_none : (o : Option Place) → option_or o None ≡ o
  right_none None = refl
  right_none (Some y) = refl

  symbol_by_three : (c a : Name) (x : Option RawAttr) (k : Option RawKid) (d : Option Declared) → left_found c ≡ x → kid_found c ≡ k → declared_found c ≡ d → three_found (of_symbol c a) x k d ≡ symbol_place_of raw c a (symbol_sort (left_or_other x (kid_or_declared k d)))
  symbol_by_three c a (Some x) k d ex ek ed =
      let others = no_other_left c x ex in
      let no_kid : k ≡ None = sym ek ∙ others.0 in
      let no_declared : d ≡ None = sym ed ∙ others.1 in
      rw (no_kid, no_declared) refl
  symbol_by_three c a None (Some k) d ex ek ed =
      let none : d ≡ None = sym ed ∙ no_other_kid c k ek in
      let same : k.name ≡ c = (name_among kid_name c p.kids k ek).1 in
      rw (none, same) (right_none (find (is_at (of_symbol c a)) (map (symbol_place c) (attrs_of_kind raw k.kind))) ∙ of_kid c a k k.kind)
  symbol_by_three c a None None None ex ek ed = refl
  symbol_by_three c a None None (Some d) ex ek ed = of_declared c a d (name_among declared_name c (declared_in p.items) d ed).1

  pub find_symbol : (c a : Name) → find (is_at (of_symbol c a)) (places_of raw p) ≡ symbol_place_of raw c a (symbol_sort (means raw p c))
  find_symbol c a =
      find_places (of_symbol c a) c refl ∙ symbol_by_three c a (left_found c) (kid_found c) (declared_found c) refl refl refl
