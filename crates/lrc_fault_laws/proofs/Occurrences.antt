-- Places and occurrences, number by number; leaves by their names.
use Rattle.std.proofs.Common.{◌≡◌, ℕ, Bool, true, false, not, ◌&&◌, cond, List, [], ◌∷◌, ◌++◌, map, flat_map, find, Option, Some, None, bytes_eq, refl, sym, ap, ◌∙◌, subst}
use Rattle.std.specs.Prelude.{option_and_then, ⊤}
use Rattle.std.specs.List.{list_any}
use Rattle.std.proofs.lemmas.Bool.{and_parts, not-true}
use Rattle.lrc_base.specs.declared.grammar.Kind.{Kind}
use Rattle.lrc_base.specs.declared.grammar.Kind.TheVariants as k
use Rattle.lrc_base.specs.declared.grammar.Attr.{Attr}
use Rattle.lrc_base.specs.declared.grammar.Sort.{Sort}
use Rattle.lrc_base.specs.declared.grammar.Kid.{Kid}
use Rattle.lrc_base.specs.declared.grammar.Extra.{Extra}
use Rattle.lrc_base.specs.declared.grammar.Production.{Production}
use Rattle.lrc_base.specs.declared.signature.Occurrence as signature
use Rattle.lrc_base.specs.declared.raw.RawKind.{RawKind}
use Rattle.lrc_base.specs.declared.raw.RawKind.TheVariants as rk
use Rattle.lrc_base.specs.declared.raw.RawAttr.{RawAttr}
use Rattle.lrc_base.specs.declared.raw.RawSort.{RawSort}
use Rattle.lrc_base.specs.declared.raw.RawKid.{RawKid}
use Rattle.lrc_base.specs.declared.raw.RawProd.{RawProd}
use Rattle.lrc_meaning.specs.Tree.{is_sort}
use Rattle.lrc_meaning.specs.Grammar.{attrs_of_sort, attrs_of, Occurrence, occurrences_of, leaf_kind, all_distinct}
use Rattle.lrc_meaning.specs.Naming.{named_kind, named_sort, is_called, occurrence_number, leaf_number}
use Rattle.lrc_meaning.specs.Signature.{left_attribute, symbol_attribute, symbol_attributes, kid_attributes, extra_attributes, signed_occurrences, role_of}
use Rattle.lrc_meaning.proofs.SignatureLemmas.{signed_roles}
use Rattle.lrc_fault_meaning.specs.Faults.{Name, is_among, attrs_named, attrs_of_kind, kid_names, Declared, local, attached, declared_name, Means, nothing, left_attr, leaf, symbol, value, tree, means, left_or_other, kid_means, kid_or_declared, Target}
use Rattle.lrc_fault_laws.proofs.Lists.{number, number_each, position-number, Each, each_both, each_mapped, each_flat, each_told, Names, FoundAt, absent, there, found_at}
use Rattle.lrc_fault_laws.proofs.Names.{same_name, distinct_parts, called, name_absent}
use Rattle.lrc_fault_laws.proofs.Sorts.{IsKind, IsAttr, is_given, is_that_sort, attrs_at, attrs_at_kind}
use Rattle.lrc_fault_laws.proofs.Heads.{declared_kind, is_attached, declared_in, IsKid, IsExtra, are_kids, are_extras, Head}
use Rattle.lrc_fault_laws.proofs.Places.{Place, own_place, symbol_place, kid_places, declared_places, places_of, is_at}

pub record Stands (raw : List RawSort) (x : Place) (o : Occurrence) : Type 0 where
  pub kind : named_kind raw x.kind ≡ Some o.kind
  pub is_defined : o.is_defined ≡ x.is_defined
  pub is_read : o.is_read ≡ x.is_read

-- an occurrence of a signature that stands at a place, and is called so
pub record IsSigned (raw : List RawSort) (x : Place) (o : signature.Occurrence) : Type 0 where
  pub owner : o.owner ≡ x.owner
  pub name : o.name ≡ x.name
  pub stands : Stands raw x (role_of o)

abbrev pub is_leaf : RawKind → Bool
is_leaf rk.Int = true
is_leaf rk.Bool = true
is_leaf rk.Name = true
is_leaf (rk.Named n) = false

module _ (raw : List RawSort) (sorts : List Sort) (named : Each (Names (named_sort raw)) raw sorts) (p : RawProd) (P : Production) (head : Head raw p P.left P.kids P.extras) where
  left_attrs : Each (IsAttr raw) (attrs_named raw p.left) (attrs_of_sort sorts P.left)
  left_attrs = (attrs_at raw sorts named p.left P.left head.of_left).0

  kids : Each (IsKid raw) p.kids P.kids
  kids = are_kids raw p.kids P.kids head.of_kids

  extras : Each (IsExtra raw) (declared_in p.items) P.extras
  extras = are_extras raw p.items P.extras head.of_extras

  -- ---- what stands at each place, and what it is called

  signed_own : (a : RawAttr) (b : Attr) → IsAttr raw a b → IsSigned raw (own_place a) (left_attribute b)
  signed_own a b h = record {
    owner = refl;
    name = h.name;
    stands = record { kind = h.kind; is_defined = ap not h.inherited; is_read = h.inherited };
  }

  signed_symbol : (c d : Name) → d ≡ c → (a : RawAttr) (b : Attr) → IsAttr raw a b → IsSigned raw (symbol_place c a) (symbol_attribute d b)
  signed_symbol c d e a b h = record {
    owner = ap (λ n. Some n) e;
    name = h.name;
    stands = record { kind = h.kind; is_defined = h.inherited; is_read = ap not h.inherited };
  }

  signed_symbols : (c d : Name) → d ≡ c → (x : RawKind) (y : Kind) → IsKind raw x y → Each (IsSigned raw) (map (symbol_place c) (attrs_of_kind raw x)) (symbol_attributes sorts d y)
  signed_symbols c d e x y h = each_mapped (IsAttr raw) (IsSigned raw) (symbol_place c) (symbol_attribute d) (signed_symbol c d e) (attrs_of_kind raw x) (attrs_of sorts y) (attrs_at_kind raw sorts named x y h)

  signed_declared : (d : Declared) (x : Extra) → IsExtra raw d x → Each (IsSigned raw) (declared_places raw d) (extra_attributes sorts x)
  signed_declared d x h = rw (h.attached) (record { owner = refl; name = h.name; stands = record { kind = h.kind; is_defined = refl; is_read = refl } }, by (is_attached d))
    where
      by : (b : Bool) → Each (IsSigned raw) (cond b (map (symbol_place (declared_name d)) (attrs_of_kind raw (declared_kind d))) []) (cond b (symbol_attributes sorts x.name x.kind) [])
      by true = signed_symbols (declared_name d) x.name h.name (declared_kind d) x.kind h.kind
      by false = tt

  abbrev pub all_signed : List signature.Occurrence
  all_signed = signed_occurrences sorts P.left P.kids P.extras

  signed : Each (IsSigned raw) (places_of raw p) all_signed
  signed =
      each_both (IsSigned raw) (map own_place (attrs_named raw p.left)) (map left_attribute (attrs_of_sort sorts P.left)) (flat_map (kid_places raw) p.kids ++ flat_map (declared_places raw) (declared_in p.items)) (flat_map (kid_attributes sorts) P.kids ++ flat_map (extra_attributes sorts) P.extras) (each_mapped (IsAttr raw) (IsSigned raw) own_place left_attribute signed_own (attrs_named raw p.left) (attrs_of_sort sorts P.left) left_attrs) (each_both (IsSigned raw) (flat_map (kid_places raw) p.kids) (flat_map (kid_attributes sorts) P.kids) (flat_map (declared_places raw) (declared_in p.items)) (flat_map (extra_attributes sorts) P.extras) (each_flat (IsKid raw) (IsSigned raw) (kid_places raw) (kid_attributes sorts) (λ a b h. signed_symbols a.name b.name h.name a.kind b.kind h.kind) p.kids P.kids kids) (each_flat (IsExtra raw) (IsSigned raw) (declared_places raw) (extra_attributes sorts) signed_declared (declared_in p.items) P.extras extras))

  pub stand : Each (Stands raw) (places_of raw p) (occurrences_of sorts P)
  stand = subst (Each (Stands raw) (places_of raw p)) (signed_roles sorts P) (each_told (IsSigned raw) (Stands raw) role_of (λ x o h. h.stands) (places_of raw p) all_signed signed)

  pub occurrence_at : (t : Target) → occurrence_number all_signed t.owner t.name ≡ number (is_at t) (places_of raw p)
  occurrence_at t =
      position-number (is_called t.owner t.name) all_signed
      ∙ number_each (IsSigned raw) (is_at t) (is_called t.owner t.name) (λ x o h. rw (h.owner, h.name) refl) (places_of raw p) all_signed signed

  pub target_found : (t : Target) → FoundAt (Stands raw) (is_at t) (places_of raw p) (occurrences_of sorts P)
  target_found t = found_at (Stands raw) (is_at t) (places_of raw p) (occurrences_of sorts P) stand

  -- ---- leaves

  abbrev raw_leaf : Name → RawKid → Bool
  raw_leaf n kid = bytes_eq kid.name n && is_leaf kid.kind

  abbrev kid_named : Name → RawKid → Bool
  kid_named n kid = bytes_eq kid.name n

  leaf_same : (x : RawKind) (y : Kind) → IsKind raw x y → is_sort y ≡ not (is_leaf x)
  leaf_same rk.Int y h = is_given raw rk.Int k.Int y (λ y. is_sort y ≡ false) refl h refl
  leaf_same rk.Bool y h = is_given raw rk.Bool k.Bool y (λ y. is_sort y ≡ false) refl h refl
  leaf_same rk.Name y h = is_given raw rk.Name k.Name y (λ y. is_sort y ≡ false) refl h refl
  leaf_same (rk.Named n) y h = is_that_sort raw n y (λ y. is_sort y ≡ true) h (λ i e. refl)

  twice_not : (b : Bool) → cond (not b) false true ≡ b
  twice_not true = refl
  twice_not false = refl

  leaf_at : (n : Name) → leaf_number P.kids n ≡ number (raw_leaf n) p.kids
  leaf_at n =
      position-number (λ (kid : Kid). bytes_eq kid.name n && cond (is_sort kid.kind) false true) P.kids
      ∙ number_each (IsKid raw) (raw_leaf n) (λ (kid : Kid). bytes_eq kid.name n && cond (is_sort kid.kind) false true) (λ a b h. rw (h.name, leaf_same a.kind b.kind h.kind) (ap (λ t. bytes_eq a.name n && t) (twice_not (is_leaf a.kind)))) p.kids P.kids kids

  abbrev if_leaf : Option RawKid → Option RawKid
  if_leaf o = option_and_then (λ (kid : RawKid). cond (is_leaf kid.kind) (Some kid) None) o

  no_leaf : (n : Name) (xs : List RawKid) → find (kid_named n) xs ≡ None → find (raw_leaf n) xs ≡ None
  no_leaf n [] e = refl
  no_leaf n (x ∷ xs) e = by (bytes_eq x.name n) (no_leaf n xs) e
    where
      by : (b : Bool) → (find (kid_named n) xs ≡ None → find (raw_leaf n) xs ≡ None) → cond b (Some x) (find (kid_named n) xs) ≡ None → cond (b && is_leaf x.kind) (Some x) (find (raw_leaf n) xs) ≡ None
      by true rest e = absurd (cc)
      by false rest e = rest e

  leaf_found : (n : Name) (xs : List RawKid) → all_distinct (kid_names xs) ≡ true → find (raw_leaf n) xs ≡ if_leaf (find (kid_named n) xs)
  leaf_found n [] d = refl
  leaf_found n (x ∷ xs) d = by (bytes_eq x.name n) refl (is_leaf x.kind) refl (leaf_found n xs parts.1)
    where
      parts : (not (list_any (bytes_eq x.name) (kid_names xs)) ≡ true) × (all_distinct (kid_names xs) ≡ true)
      parts = and_parts (not (list_any (bytes_eq x.name) (kid_names xs))) (all_distinct (kid_names xs)) d

      by : (b : Bool) → bytes_eq x.name n ≡ b → (l : Bool) → is_leaf x.kind ≡ l → find (raw_leaf n) xs ≡ if_leaf (find (kid_named n) xs) → cond (b && l) (Some x) (find (raw_leaf n) xs) ≡ if_leaf (cond b (Some x) (find (kid_named n) xs))
      by false is l il rest = rest
      by true is true il rest = rw il refl
      by true is false il rest =
          let none : find (kid_named n) xs ≡ None = name_absent (λ (k : RawKid). k.name) n xs (subst (λ m. is_among (kid_names xs) m ≡ false) (same_name x.name n is) (not-true (list_any (bytes_eq x.name) (kid_names xs)) parts.0)) in
          rw (no_leaf n xs none) (rw il refl)

  pub record IsLeaf (n : Name) (kind : RawKind) : Type 0 where
    pub number : ℕ
    pub kind_there : Kind
    pub at : leaf_number P.kids n ≡ Some number
    pub there : leaf_kind P.kids number ≡ Some kind_there
    pub known : named_kind raw kind ≡ Some kind_there

  -- the leaf of a name, where it means one; none where it means nothing or a symbol
  abbrev pub LeafAt : Name → Means → Type 0
  LeafAt n nothing = leaf_number P.kids n ≡ None
  LeafAt n (left_attr a) = ⊤
  LeafAt n (leaf kind) = IsLeaf n kind
  LeafAt n (symbol sort) = leaf_number P.kids n ≡ None
  LeafAt n (value kind) = ⊤
  LeafAt n (tree sort) = ⊤

  leaf_either : (n : Name) → FoundAt (IsKid raw) (raw_leaf n) p.kids P.kids
  leaf_either n = found_at (IsKid raw) (raw_leaf n) p.kids P.kids kids

  no_leaf_there : (n : Name) → FoundAt (IsKid raw) (raw_leaf n) p.kids P.kids → find (raw_leaf n) p.kids ≡ None → leaf_number P.kids n ≡ None
  no_leaf_there n (absent f m) e = leaf_at n ∙ m
  no_leaf_there n (there i a b f m at is yes') e = absurd (let both : Some a ≡ None = sym f ∙ e in cc)

  leaf_there : (n : Name) (a : RawKid) → FoundAt (IsKid raw) (raw_leaf n) p.kids P.kids → find (raw_leaf n) p.kids ≡ Some a → is_leaf a.kind ≡ true → IsLeaf n a.kind
  leaf_there n a (absent f m) e l = absurd (let both : None ≡ Some a = sym f ∙ e in cc)
  leaf_there n a (there i x b f m at is yes') e l =
      let same : x ≡ a = (let both : Some x ≡ Some a = sym f ∙ e in cc) in
      let kind : named_kind raw a.kind ≡ Some b.kind = subst (λ (z : RawKid). named_kind raw z.kind ≡ Some b.kind) same is.kind in
      record { number = i; kind_there = b.kind; at = leaf_at n ∙ m; there = rw (at, leaf_same a.kind b.kind kind, l) refl; known = kind }

  pub leaf_of_name : (n : Name) → LeafAt n (means raw p n)
  leaf_of_name n = by (find (called (λ (a : RawAttr). a.name) n) (attrs_named raw p.left)) (find (kid_named n) p.kids) (find (called declared_name n) (declared_in p.items)) refl
    where
      distinct_kids : all_distinct (kid_names p.kids) ≡ true
      distinct_kids = (distinct_parts (kid_names p.kids) (map declared_name (declared_in p.items)) ((distinct_parts (map (λ (a : RawAttr). a.name) (attrs_named raw p.left)) (kid_names p.kids ++ map declared_name (declared_in p.items)) head.distinct).back)).front

      found : find (raw_leaf n) p.kids ≡ if_leaf (find (kid_named n) p.kids)
      found = leaf_found n p.kids distinct_kids

      by_kid : (a : RawKid) (kind : RawKind) → a.kind ≡ kind → find (kid_named n) p.kids ≡ Some a → LeafAt n (kid_means a kind)
      by_kid a rk.Int e is = subst (IsLeaf n) e (leaf_there n a (leaf_either n) (found ∙ rw (is, e) refl) (rw e refl))
      by_kid a rk.Bool e is = subst (IsLeaf n) e (leaf_there n a (leaf_either n) (found ∙ rw (is, e) refl) (rw e refl))
      by_kid a rk.Name e is = subst (IsLeaf n) e (leaf_there n a (leaf_either n) (found ∙ rw (is, e) refl) (rw e refl))
      by_kid a (rk.Named m) e is = no_leaf_there n (leaf_either n) (found ∙ rw (is, e) refl)

      by : (x : Option RawAttr) (a : Option RawKid) (d : Option Declared) → find (kid_named n) p.kids ≡ a → LeafAt n (left_or_other x (kid_or_declared a d))
      by (Some x) a d is = tt
      by None (Some a) d is = by_kid a a.kind refl is
      by None None None is = no_leaf_there n (leaf_either n) (found ∙ rw is refl)
      by None None (Some (local m kind)) is = tt
      by None None (Some (attached m sort)) is = tt
