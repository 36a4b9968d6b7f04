-- What a production declares: its left sort, its children, its locals and nonterminal attributes, and their faults.
use Rattle.std.proofs.Common.{◌≡◌, ℕ, Bool, true, false, ◌&&◌, cond, List, [], ◌∷◌, ◌++◌, map, flat_map, find, Option, Some, None, bytes_eq, refl, sym, ap, ◌∙◌, subst, append_assoc, append-nil}
use Rattle.std.specs.Prelude.{option_map, codes}
use Rattle.std.specs.List.{list_any}
use Rattle.std.proofs.lemmas.List.{map-append}
use Rattle.lrc_base.specs.declared.grammar.Kind.{Kind}
use Rattle.lrc_base.specs.declared.grammar.Kind.TheVariants as k
use Rattle.lrc_base.specs.declared.grammar.Kid.{Kid}
use Rattle.lrc_base.specs.declared.grammar.Extra.{Extra}
use Rattle.lrc_base.specs.declared.raw.RawKind.{RawKind}
use Rattle.lrc_base.specs.declared.raw.RawKind.TheVariants as rk
use Rattle.lrc_base.specs.declared.raw.RawAttr.{RawAttr}
use Rattle.lrc_base.specs.declared.raw.RawSort.{RawSort}
use Rattle.lrc_base.specs.declared.raw.RawKid.{RawKid}
use Rattle.lrc_base.specs.declared.raw.RawItem.{RawItem}
use Rattle.lrc_base.specs.declared.raw.RawItem.TheVariants as item
use Rattle.lrc_base.specs.declared.raw.RawProd.{RawProd}
use Rattle.lrc_meaning.specs.Grammar.{all_distinct}
use Rattle.lrc_meaning.specs.Naming.{each_some, sort_number, named_kind, named_kid, named_extra, named_extras}
use Rattle.lrc_fault_meaning.specs.Faults.{Name, fault, twice, where_true, is_among, kind_faults, attrs_in, attr_names, kid_names, kid_faults, Declared, local, attached, declared_by, declared_name, is_pattern, names_before, declaration_faults, each_after}
use Rattle.lrc_fault_laws.proofs.Lists.{Every, Each, each_from, each_gives, every_has, each_named, named_each, Names, empty_parts, empty_both, none_where, where_none, After, none_after, after_none, after_from, after_both, every_of_after, after_of_every, every_flat, every_of_flat}
use Rattle.lrc_fault_laws.proofs.Names.{fresh, fresh_one, one_fresh, IsFresh, fresh_after, after_fresh, fresh-distinct, distinct_parts, IsNew, new_distinct, distinct_new}
use Rattle.lrc_fault_laws.proofs.Sorts.{IsKind, AreDistinct, known_kind, kind_is_sort, kind_faultless}

abbrev pub declared_kind : Declared → RawKind
declared_kind (local n kind) = kind
declared_kind (attached n sort) = rk.Named sort

abbrev pub is_attached : Declared → Bool
is_attached (local n kind) = false
is_attached (attached n sort) = true

-- the locals and nonterminal attributes of a production
abbrev pub declared_in : List RawItem → List Declared
declared_in items = flat_map declared_by items

-- the names of a production: left attributes, children, locals and nonterminal attributes
abbrev pub own_names : List RawSort → RawProd → List Name
own_names raw p = attr_names raw p.left ++ (kid_names p.kids ++ map declared_name (declared_in p.items))

map_flat : {A B C : Type 0} (g : B → C) (f : A → List B) (xs : List A) → flat_map (λ x. map g (f x)) xs ≡ map g (flat_map f xs)
map_flat g f [] = refl
map_flat g f (x ∷ xs) = ap (λ l. map g (f x) ++ l) (map_flat g f xs) ∙ sym (map-append g (f x) (flat_map f xs))

module _ (raw : List RawSort) where
  pub record IsKid (a : RawKid) (b : Kid) : Type 0 where
    pub name : b.name ≡ a.name
    pub kind : named_kind raw a.kind ≡ Some b.kind

  pub record IsExtra (d : Declared) (x : Extra) : Type 0 where
    pub name : x.name ≡ declared_name d
    pub attached : x.attached ≡ is_attached d
    pub kind : named_kind raw (declared_kind d) ≡ Some x.kind

  -- ---- children

  pub is_kid : (a : RawKid) (b : Kid) → named_kid raw a ≡ Some b → IsKid a b
  is_kid a b e = by (named_kind raw a.kind) refl e
    where
      by : (o : Option Kind) → named_kind raw a.kind ≡ o → option_map (λ kind. record { name = a.name; kind = kind }) o ≡ Some b → IsKid a b
      by None is h = absurd (cc)
      by (Some y) is h =
          let same : record { name = a.name; kind = y } ≡ b = cc in
          subst (IsKid a) same (record { name = refl; kind = is })

  pub kid_named : (a : RawKid) (y : Kind) → named_kind raw a.kind ≡ Some y → (b : Kid) × (named_kid raw a ≡ Some b)
  kid_named a y e = (record { name = a.name; kind = y }, rw e refl)

  pub are_kids : (xs : List RawKid) (ys : List Kid) → each_some (map (named_kid raw) xs) ≡ Some ys → Each IsKid xs ys
  are_kids xs ys e = each_from IsKid (Names (named_kid raw)) is_kid xs ys (each_named (named_kid raw) xs ys e)

  -- ---- locals and nonterminal attributes

  abbrev pub named_declared : Declared → Option Extra
  named_declared (local n kind) = option_map (λ found. record { name = n; attached = false; kind = found }) (named_kind raw kind)
  named_declared (attached n sort) = option_map (λ s. record { name = n; attached = true; kind = k.Sort s }) (sort_number raw sort)

  pub extras_declared : (items : List RawItem) → flat_map (named_extra raw) items ≡ map named_declared (declared_in items)
  extras_declared [] = refl
  extras_declared (item.Local n kind x ∷ items) = ap (λ l. named_declared (local n kind) ∷ l) (extras_declared items)
  extras_declared (item.Attach n sort x ∷ items) = ap (λ l. named_declared (attached n sort) ∷ l) (extras_declared items)
  extras_declared (item.Own n x ∷ items) = extras_declared items
  extras_declared (item.OfKid c n x ∷ items) = extras_declared items
  extras_declared (item.Pattern pieces ∷ items) = extras_declared items

  pub is_extra : (d : Declared) (x : Extra) → named_declared d ≡ Some x → IsExtra d x
  is_extra (local n kind) x e = by (named_kind raw kind) refl e
    where
      by : (o : Option Kind) → named_kind raw kind ≡ o → option_map (λ found. record { name = n; attached = false; kind = found }) o ≡ Some x → IsExtra (local n kind) x
      by None is h = absurd (cc)
      by (Some y) is h =
          let same : record { name = n; attached = false; kind = y } ≡ x = cc in
          subst (IsExtra (local n kind)) same (record { name = refl; attached = refl; kind = is })
  is_extra (attached n sort) x e = by (sort_number raw sort) refl e
    where
      by : (o : Option ℕ) → sort_number raw sort ≡ o → option_map (λ s. record { name = n; attached = true; kind = k.Sort s }) o ≡ Some x → IsExtra (attached n sort) x
      by None is h = absurd (cc)
      by (Some s) is h =
          let same : record { name = n; attached = true; kind = k.Sort s } ≡ x = cc in
          subst (IsExtra (attached n sort)) same (record { name = refl; attached = refl; kind = rw is refl })

  pub declared_named : (d : Declared) (y : Kind) → IsKind raw (declared_kind d) y → (x : Extra) × (named_declared d ≡ Some x)
  declared_named (local n kind) y e = (record { name = n; attached = false; kind = y }, rw e refl)
  declared_named (attached n sort) y e =
      let found = kind_is_sort raw sort y e in
      (record { name = n; attached = true; kind = k.Sort found.0 }, rw found.1 refl)

  pub are_extras : (items : List RawItem) (extras : List Extra) → named_extras raw items ≡ Some extras → Each IsExtra (declared_in items) extras
  are_extras items extras e =
      each_from IsExtra (Names named_declared) is_extra (declared_in items) extras (each_named named_declared (declared_in items) extras (ap each_some (sym (extras_declared items)) ∙ e))

  -- ---- the head of a production is named, and its names are distinct

  pub record Head (p : RawProd) (left : ℕ) (kids : List Kid) (extras : List Extra) : Type 0 where
    pub of_left : sort_number raw p.left ≡ Some left
    pub of_kids : each_some (map (named_kid raw) p.kids) ≡ Some kids
    pub of_extras : named_extras raw p.items ≡ Some extras
    pub distinct : all_distinct (own_names raw p) ≡ true

  -- the attributes of one sort are distinct
  pub attrs_distinct : (some : List RawSort) (n : Name) → Every AreDistinct some → all_distinct (map (λ (a : RawAttr). a.name) (attrs_in (find (λ (s : RawSort). bytes_eq s.name n) some))) ≡ true
  attrs_distinct [] n h = refl
  attrs_distinct (s ∷ some) n h = by (bytes_eq s.name n) (attrs_distinct some n h.1)
    where
      by : (b : Bool) → all_distinct (map (λ (a : RawAttr). a.name) (attrs_in (find (λ (s : RawSort). bytes_eq s.name n) some))) ≡ true → all_distinct (map (λ (a : RawAttr). a.name) (attrs_in (cond b (Some s) (find (λ (s : RawSort). bytes_eq s.name n) some)))) ≡ true
      by true rest = h.0
      by false rest = rest

  module _ (p : RawProd) where
    abbrev pub front : List Name
    front = attr_names raw p.left ++ kid_names p.kids

    abbrev pub item_names : RawItem → List Name
    item_names i = map declared_name (declared_by i)

    abbrev pub kid_parts : (before : List RawKid) (kid : RawKid) → kid_faults raw p before kid ≡ [] →
        (where_true (is_among (attr_names raw p.left ++ kid_names before) kid.name) (fault twice p.name kid.name) ≡ []) × (kind_faults raw p.name kid.kind ≡ [])
    kid_parts before kid e =
        empty_parts (where_true (is_among (attr_names raw p.left ++ kid_names before) kid.name) (fault twice p.name kid.name)) (kind_faults raw p.name kid.kind) e

    abbrev HasKid : RawKid → Type 0
    HasKid a = (b : Kid) × (named_kid raw a ≡ Some b)

    pub kids_right : all_distinct (attr_names raw p.left) ≡ true → each_after (kid_faults raw p) [] p.kids ≡ [] → ((kids : List Kid) × (each_some (map (named_kid raw) p.kids) ≡ Some kids)) × (all_distinct front ≡ true)
    kids_right d e =
        let each = none_after (kid_faults raw p) [] p.kids e in
        let new = after_from p.kids (λ b a. kid_faults raw p b a ≡ []) (IsNew (attr_names raw p.left) (λ (a : RawKid). a.name)) (λ b a rest w h. none_where (is_among (attr_names raw p.left ++ kid_names b) a.name) (fault twice p.name a.name) ((kid_parts b a h).0)) [] p.kids refl each in
        let known = after_from p.kids (λ b a. kid_faults raw p b a ≡ []) (λ b a. HasKid a) (λ b a rest w h. let kind = known_kind raw p.name a.kind ((kid_parts b a h).1) in kid_named a kind.0 kind.1) [] p.kids refl each in
        let all = every_has (Names (named_kid raw)) p.kids (every_of_after HasKid [] p.kids known) in
        ((all.0, named_each (named_kid raw) p.kids all.0 all.1), new_distinct (attr_names raw p.left) (λ (a : RawKid). a.name) p.kids d new)

    pub kids_faultless : (kids : List Kid) → each_some (map (named_kid raw) p.kids) ≡ Some kids → all_distinct front ≡ true → each_after (kid_faults raw p) [] p.kids ≡ []
    kids_faultless kids e d =
        let new = distinct_new (attr_names raw p.left) (λ (a : RawKid). a.name) p.kids d in
        let known = each_gives IsKid (λ (a : RawKid). kind_faults raw p.name a.kind ≡ []) (λ a b h. kind_faultless raw p.name a.kind b.kind h.kind) p.kids kids (are_kids p.kids kids e) in
        let both = after_both (IsNew (attr_names raw p.left) (λ (a : RawKid). a.name)) (λ b a. kind_faults raw p.name a.kind ≡ []) [] p.kids new (after_of_every (λ (a : RawKid). kind_faults raw p.name a.kind ≡ []) [] p.kids known) in
        after_none (kid_faults raw p) [] p.kids (after_from p.kids (λ b a. IsNew (attr_names raw p.left) (λ (a : RawKid). a.name) b a × (kind_faults raw p.name a.kind ≡ [])) (λ b a. kid_faults raw p b a ≡ []) (λ b a rest w h. empty_both (where_true (is_among (attr_names raw p.left ++ kid_names b) a.name) (fault twice p.name a.name)) (kind_faults raw p.name a.kind) (where_none (is_among (attr_names raw p.left ++ kid_names b) a.name) (fault twice p.name a.name) h.0) h.1) [] p.kids refl both)

    -- ---- declarations

    abbrev HasExtra : Declared → Type 0
    HasExtra d = (x : Extra) × (named_declared d ≡ Some x)

    -- of an item: its name is new, its kind is known, and a pattern is the first
    pub record Declares (before : List RawItem) (i : RawItem) : Type 0 where
      pub fresh_name : IsFresh front item_names before i
      pub known : Every HasExtra (declared_by i)
      pub first_pattern : (is_pattern i && list_any is_pattern before) ≡ false

    names_same : (before : List RawItem) → names_before raw p before ≡ front ++ flat_map item_names before
    names_same before =
        ap (λ l. attr_names raw p.left ++ (kid_names p.kids ++ l)) (sym (map_flat declared_name declared_by before))
        ∙ sym (append_assoc (attr_names raw p.left) (kid_names p.kids) (flat_map item_names before))

    new_name : (before : List RawItem) (n : Name) → where_true (is_among (names_before raw p before) n) (fault twice p.name n) ≡ [] → fresh (front ++ flat_map item_names before) (n ∷ []) ≡ true
    new_name before n e =
        fresh_one (front ++ flat_map item_names before) n (subst (λ l. is_among l n ≡ false) (names_same before) (none_where (is_among (names_before raw p before) n) (fault twice p.name n) e))

    name_new : (before : List RawItem) (n : Name) → fresh (front ++ flat_map item_names before) (n ∷ []) ≡ true → where_true (is_among (names_before raw p before) n) (fault twice p.name n) ≡ []
    name_new before n h =
        where_none (is_among (names_before raw p before) n) (fault twice p.name n) (subst (λ l. is_among l n ≡ false) (sym (names_same before)) (one_fresh (front ++ flat_map item_names before) n h))

    has_extra : (d : Declared) → kind_faults raw p.name (declared_kind d) ≡ [] → Every HasExtra (d ∷ [])
    has_extra d e = let kind = known_kind raw p.name (declared_kind d) e in (declared_named d kind.0 kind.1, tt)

    extra_faultless : (d : Declared) → Every HasExtra (d ∷ []) → kind_faults raw p.name (declared_kind d) ≡ []
    extra_faultless d h = kind_faultless raw p.name (declared_kind d) (h.0.0).kind (is_extra d h.0.0 h.0.1).kind

    pub declares : (before : List RawItem) (i : RawItem) → declaration_faults raw p before i ≡ [] → Declares before i
    declares before (item.Local n kind x) e =
        let parts = empty_parts (where_true (is_among (names_before raw p before) n) (fault twice p.name n)) (kind_faults raw p.name kind) e in
        record { fresh_name = new_name before n parts.0; known = has_extra (local n kind) parts.1; first_pattern = refl }
    declares before (item.Attach n sort x) e =
        let parts = empty_parts (where_true (is_among (names_before raw p before) n) (fault twice p.name n)) (kind_faults raw p.name (rk.Named sort)) e in
        record { fresh_name = new_name before n parts.0; known = has_extra (attached n sort) parts.1; first_pattern = refl }
    declares before (item.Own n x) e = record { fresh_name = refl; known = tt; first_pattern = refl }
    declares before (item.OfKid c n x) e = record { fresh_name = refl; known = tt; first_pattern = refl }
    declares before (item.Pattern pieces) e =
        record { fresh_name = refl; known = tt; first_pattern = none_where (list_any is_pattern before) (fault twice p.name (codes "text")) e }

    pub declaration_faultless : (before : List RawItem) (i : RawItem) → Declares before i → declaration_faults raw p before i ≡ []
    declaration_faultless before (item.Local n kind x) d =
        empty_both (where_true (is_among (names_before raw p before) n) (fault twice p.name n)) (kind_faults raw p.name kind) (name_new before n d.fresh_name) (extra_faultless (local n kind) d.known)
    declaration_faultless before (item.Attach n sort x) d =
        empty_both (where_true (is_among (names_before raw p before) n) (fault twice p.name n)) (kind_faults raw p.name (rk.Named sort)) (name_new before n d.fresh_name) (extra_faultless (attached n sort) d.known)
    declaration_faultless before (item.Own n x) d = refl
    declaration_faultless before (item.OfKid c n x) d = refl
    declaration_faultless before (item.Pattern pieces) d =
        where_none (list_any is_pattern before) (fault twice p.name (codes "text")) d.first_pattern

    -- ---- both together

    abbrev Heads : Type 0
    Heads = (left : ℕ) × (kids : List Kid) × (extras : List Extra) × Head p left kids extras

    pub head_right : Every AreDistinct raw → (left : ℕ) → sort_number raw p.left ≡ Some left → each_after (kid_faults raw p) [] p.kids ≡ [] → After Declares [] p.items → Heads
    head_right d left is kids declared =
        let children = kids_right (attrs_distinct raw p.left d) kids in
        let known = every_of_after (λ i. Every HasExtra (declared_by i)) [] p.items (after_from p.items Declares (λ b i. Every HasExtra (declared_by i)) (λ b i rest w h. h.known) [] p.items refl declared) in
        let all = every_has (Names named_declared) (declared_in p.items) (every_flat HasExtra declared_by p.items known) in
        let new = fresh_after front item_names [] p.items (after_from p.items Declares (IsFresh front item_names) (λ b i rest w h. h.fresh_name) [] p.items refl declared) in
        let new' = subst (λ l. fresh l (flat_map item_names p.items) ≡ true) (append-nil front) new in
        let distinct : all_distinct (front ++ flat_map item_names p.items) ≡ true = sym (fresh-distinct front (flat_map item_names p.items) children.1) ∙ new' in
        let same : front ++ flat_map item_names p.items ≡ own_names raw p = sym (names_same p.items) in (
          left,
          children.0.0,
          all.0,
          record {
            of_left = is;
            of_kids = children.0.1;
            of_extras = ap each_some (extras_declared p.items) ∙ named_each named_declared (declared_in p.items) all.0 all.1;
            distinct = subst (λ l. all_distinct l ≡ true) same distinct;
          },
        )

    pub head_kids : (left : ℕ) (kids : List Kid) (extras : List Extra) → Head p left kids extras → each_after (kid_faults raw p) [] p.kids ≡ []
    head_kids left kids extras h =
        let parts = distinct_parts front (flat_map item_names p.items) (subst (λ l. all_distinct l ≡ true) (names_same p.items) h.distinct) in
        kids_faultless kids h.of_kids parts.front

    pub head_declares : (left : ℕ) (kids : List Kid) (extras : List Extra) → Head p left kids extras → After (λ b i. (is_pattern i && list_any is_pattern b) ≡ false) [] p.items → After Declares [] p.items
    head_declares left kids extras h patterns =
        let all : all_distinct (front ++ flat_map item_names p.items) ≡ true = subst (λ l. all_distinct l ≡ true) (names_same p.items) h.distinct in
        let parts = distinct_parts front (flat_map item_names p.items) all in
        let fresh' : fresh front (flat_map item_names p.items) ≡ true = fresh-distinct front (flat_map item_names p.items) parts.front ∙ all in
        let new = after_fresh front item_names [] p.items (subst (λ l. fresh l (flat_map item_names p.items) ≡ true) (sym (append-nil front)) fresh') in
        let extras' = each_named named_declared (declared_in p.items) extras (ap each_some (sym (extras_declared p.items)) ∙ h.of_extras) in
        let known = every_of_flat HasExtra declared_by p.items (each_gives (Names named_declared) HasExtra (λ d x e. (x, e)) (declared_in p.items) extras extras') in
        let both = after_both (IsFresh front item_names) (λ b i. Every HasExtra (declared_by i)) [] p.items new (after_of_every (λ i. Every HasExtra (declared_by i)) [] p.items known) in
        let three = after_both (λ b i. IsFresh front item_names b i × Every HasExtra (declared_by i)) (λ b i. (is_pattern i && list_any is_pattern b) ≡ false) [] p.items both patterns in
        after_from p.items (λ b i. (IsFresh front item_names b i × Every HasExtra (declared_by i)) × ((is_pattern i && list_any is_pattern b) ≡ false)) Declares (λ b i rest w k. record { fresh_name = k.0.0; known = k.0.1; first_pattern = k.1 }) [] p.items refl three
