-- Sorts as they are written and by number: their kinds, their attributes and their faults.
use Rattle.std.proofs.Common.{◌≡◌, ℕ, ◌<◌, true, false, List, [], ◌∷◌, map, length, slice_get, Option, Some, None, nat_eq, bytes_eq, is_none, refl, sym, ap, ◌∙◌, subst, lt-ltb}
use Rattle.std.specs.Prelude.{option_map}
use Rattle.std.specs.Bool.{one_answer}
use Rattle.std.specs.List.{list_all}
use Rattle.std.specs.Cmp.Lexicographic.{bytes_decides}
use Rattle.std.proofs.lemmas.Bool.{and_parts, and_from}
use Rattle.std.proofs.lemmas.Bool.Decides.{Decides-eqb}
use Rattle.std.proofs.lemmas.Option.{slice_get_within}
use Rattle.lrc_base.specs.declared.grammar.Kind.{Kind}
use Rattle.lrc_base.specs.declared.grammar.Kind.TheVariants as k
use Rattle.lrc_base.specs.declared.grammar.Attr.{Attr}
use Rattle.lrc_base.specs.declared.grammar.Sort.{Sort}
use Rattle.lrc_base.specs.declared.raw.RawKind.{RawKind}
use Rattle.lrc_base.specs.declared.raw.RawKind.TheVariants as rk
use Rattle.lrc_base.specs.declared.raw.RawAttr.{RawAttr}
use Rattle.lrc_base.specs.declared.raw.RawSort.{RawSort}
use Rattle.lrc_meaning.specs.Tree.{same_kind}
use Rattle.lrc_meaning.specs.Grammar.{attrs_of_sort, attrs_of, all_distinct, is_known, is_sort_right}
use Rattle.lrc_meaning.specs.Naming.{each_some, sort_number, named_kind, named_attr, named_sort}
use Rattle.lrc_fault_meaning.specs.Faults.{Name, Fault, fault, unknown, twice, where_true, is_among, kind_faults, attr_faults, sort_faults, attrs_named, attrs_of_kind, same_kind as same_raw_kind, each_after}
use Rattle.lrc_fault_laws.proofs.Lists.{number_at, position-number, Every, every_passes, all_pass, Each, each_from, each_right, each_left, each_map, every_has, each_named, named_each, Names, FoundAt, absent, there, found_at, empty_parts, empty_both, none_where, where_none, none_after, after_none, after_from, after_both, every_of_after, after_of_every, every_from, each_gives, each_gives_right}
use Rattle.lrc_fault_laws.proofs.Names.{same_name, IsNew, new_distinct, distinct_new}

-- the attributes of a sort have names of their own
abbrev pub AreDistinct : RawSort → Type 0
AreDistinct s = all_distinct (map (λ (a : RawAttr). a.name) s.attrs) ≡ true

module _ (raw : List RawSort) where
  abbrev pub IsKind : RawKind → Kind → Type 0
  IsKind x y = named_kind raw x ≡ Some y

  pub record IsAttr (a : RawAttr) (b : Attr) : Type 0 where
    pub name : b.name ≡ a.name
    pub inherited : b.inherited ≡ a.inherited
    pub kind : named_kind raw a.kind ≡ Some b.kind

  pub record IsSort (s : RawSort) (t : Sort) : Type 0 where
    pub name : t.name ≡ s.name
    pub attrs : Each IsAttr s.attrs t.attrs

  -- ---- kinds

  a_number : (o : Option ℕ) (f : Fault) → where_true (is_none o) f ≡ [] → (i : ℕ) × (o ≡ Some i)
  a_number None f e = absurd (cc)
  a_number (Some i) f e = (i, refl)

  pub numbered_sort : (n : Name) (f : Fault) → where_true (is_none (sort_number raw n)) f ≡ [] → (i : ℕ) × (sort_number raw n ≡ Some i)
  numbered_sort n f e = a_number (sort_number raw n) f e

  pub sort_numbered : (n : Name) (f : Fault) (i : ℕ) → sort_number raw n ≡ Some i → where_true (is_none (sort_number raw n)) f ≡ []
  sort_numbered n f i e = rw e refl

  pub known_kind : (place : Name) (kind : RawKind) → kind_faults raw place kind ≡ [] → (y : Kind) × IsKind kind y
  known_kind place rk.Int e = (k.Int, refl)
  known_kind place rk.Bool e = (k.Bool, refl)
  known_kind place rk.Name e = (k.Name, refl)
  known_kind place (rk.Named n) e =
      let found = numbered_sort n (fault unknown place n) e in
      (k.Sort found.0, rw found.1 refl)

  pub kind_is_sort : (n : Name) (y : Kind) → IsKind (rk.Named n) y → (i : ℕ) × (sort_number raw n ≡ Some i) × (k.Sort i ≡ y)
  kind_is_sort n y e = by (sort_number raw n) refl e
    where
      by : (o : Option ℕ) → sort_number raw n ≡ o → option_map k.Sort o ≡ Some y → (i : ℕ) × (sort_number raw n ≡ Some i) × (k.Sort i ≡ y)
      by None is h = absurd (cc)
      by (Some i) is h = (i, is, cc)

  pub kind_faultless : (place : Name) (kind : RawKind) (y : Kind) → IsKind kind y → kind_faults raw place kind ≡ []
  kind_faultless place rk.Int y e = refl
  kind_faultless place rk.Bool y e = refl
  kind_faultless place rk.Name y e = refl
  kind_faultless place (rk.Named n) y e =
      let found = kind_is_sort n y e in
      sort_numbered n (fault unknown place n) found.0 found.1

  same_number : (m n : Name) (i : ℕ) → sort_number raw m ≡ Some i → sort_number raw n ≡ Some i → m ≡ n
  same_number m n i e f =
      let a = number_at (λ (s : RawSort). bytes_eq s.name m) raw i (sym (position-number (λ (s : RawSort). bytes_eq s.name m) raw) ∙ e) in
      let b = number_at (λ (s : RawSort). bytes_eq s.name n) raw i (sym (position-number (λ (s : RawSort). bytes_eq s.name n) raw) ∙ f) in
      let one : a.0 ≡ b.0 = cc in
      sym (same_name (a.0).name m a.2) ∙ (ap (λ (s : RawSort). s.name) one ∙ same_name (b.0).name n b.2)

  same_sorts : (m n : Name) (i j : ℕ) → sort_number raw m ≡ Some i → sort_number raw n ≡ Some j → bytes_eq m n ≡ nat_eq i j
  same_sorts m n i j e f =
      one_answer (bytes_eq m n) (nat_eq i j) (bytes_decides m n) (λ h. same_number m n j (subst (λ x. sort_number raw m ≡ Some x) ((Decides-eqb i j).0 h) e) f, λ h. (Decides-eqb i j).1 (let both : Some i ≡ Some j = sym e ∙ (ap (sort_number raw) h ∙ f) in cc))

  -- a kind that is none of the given ones is a sort of some number
  pub is_that_sort : (n : Name) (y : Kind) (P : Kind → Type 0) → IsKind (rk.Named n) y → ((i : ℕ) → sort_number raw n ≡ Some i → P (k.Sort i)) → P y
  is_that_sort n y P e f = let found = kind_is_sort n y e in subst P found.2 (f found.0 found.1)

  pub is_given : (x : RawKind) (z y : Kind) (P : Kind → Type 0) → named_kind raw x ≡ Some z → IsKind x y → P z → P y
  is_given x z y P e f h = let same : z ≡ y = (let both : Some z ≡ Some y = sym e ∙ f in cc) in subst P same h

  pub same_kinds : (x y : RawKind) (u v : Kind) → IsKind x u → IsKind y v → same_raw_kind x y ≡ same_kind u v
  same_kinds rk.Int rk.Int u v e f = is_given rk.Int k.Int u (λ u. true ≡ same_kind u v) refl e (is_given rk.Int k.Int v (λ v. true ≡ same_kind k.Int v) refl f refl)
  same_kinds rk.Int rk.Bool u v e f = is_given rk.Int k.Int u (λ u. false ≡ same_kind u v) refl e (is_given rk.Bool k.Bool v (λ v. false ≡ same_kind k.Int v) refl f refl)
  same_kinds rk.Int rk.Name u v e f = is_given rk.Int k.Int u (λ u. false ≡ same_kind u v) refl e (is_given rk.Name k.Name v (λ v. false ≡ same_kind k.Int v) refl f refl)
  same_kinds rk.Int (rk.Named n) u v e f = is_given rk.Int k.Int u (λ u. false ≡ same_kind u v) refl e (is_that_sort n v (λ v. false ≡ same_kind k.Int v) f (λ i h. refl))
  same_kinds rk.Bool rk.Int u v e f = is_given rk.Bool k.Bool u (λ u. false ≡ same_kind u v) refl e (is_given rk.Int k.Int v (λ v. false ≡ same_kind k.Bool v) refl f refl)
  same_kinds rk.Bool rk.Bool u v e f = is_given rk.Bool k.Bool u (λ u. true ≡ same_kind u v) refl e (is_given rk.Bool k.Bool v (λ v. true ≡ same_kind k.Bool v) refl f refl)
  same_kinds rk.Bool rk.Name u v e f = is_given rk.Bool k.Bool u (λ u. false ≡ same_kind u v) refl e (is_given rk.Name k.Name v (λ v. false ≡ same_kind k.Bool v) refl f refl)
  same_kinds rk.Bool (rk.Named n) u v e f = is_given rk.Bool k.Bool u (λ u. false ≡ same_kind u v) refl e (is_that_sort n v (λ v. false ≡ same_kind k.Bool v) f (λ i h. refl))
  same_kinds rk.Name rk.Int u v e f = is_given rk.Name k.Name u (λ u. false ≡ same_kind u v) refl e (is_given rk.Int k.Int v (λ v. false ≡ same_kind k.Name v) refl f refl)
  same_kinds rk.Name rk.Bool u v e f = is_given rk.Name k.Name u (λ u. false ≡ same_kind u v) refl e (is_given rk.Bool k.Bool v (λ v. false ≡ same_kind k.Name v) refl f refl)
  same_kinds rk.Name rk.Name u v e f = is_given rk.Name k.Name u (λ u. true ≡ same_kind u v) refl e (is_given rk.Name k.Name v (λ v. true ≡ same_kind k.Name v) refl f refl)
  same_kinds rk.Name (rk.Named n) u v e f = is_given rk.Name k.Name u (λ u. false ≡ same_kind u v) refl e (is_that_sort n v (λ v. false ≡ same_kind k.Name v) f (λ i h. refl))
  same_kinds (rk.Named m) rk.Int u v e f = is_that_sort m u (λ u. false ≡ same_kind u v) e (λ i h. is_given rk.Int k.Int v (λ v. false ≡ same_kind (k.Sort i) v) refl f refl)
  same_kinds (rk.Named m) rk.Bool u v e f = is_that_sort m u (λ u. false ≡ same_kind u v) e (λ i h. is_given rk.Bool k.Bool v (λ v. false ≡ same_kind (k.Sort i) v) refl f refl)
  same_kinds (rk.Named m) rk.Name u v e f = is_that_sort m u (λ u. false ≡ same_kind u v) e (λ i h. is_given rk.Name k.Name v (λ v. false ≡ same_kind (k.Sort i) v) refl f refl)
  same_kinds (rk.Named m) (rk.Named n) u v e f =
      is_that_sort m u (λ u. bytes_eq m n ≡ same_kind u v) e (λ i h. is_that_sort n v (λ v. bytes_eq m n ≡ same_kind (k.Sort i) v) f (λ j l. same_sorts m n i j h l))

  -- ---- attributes and sorts

  pub is_attr : (a : RawAttr) (b : Attr) → named_attr raw a ≡ Some b → IsAttr a b
  is_attr a b e = by (named_kind raw a.kind) refl e
    where
      by : (o : Option Kind) → named_kind raw a.kind ≡ o → option_map (λ kind. record { name = a.name; inherited = a.inherited; kind = kind }) o ≡ Some b → IsAttr a b
      by None is h = absurd (cc)
      by (Some y) is h =
          let same : record { name = a.name; inherited = a.inherited; kind = y } ≡ b = cc in
          subst (IsAttr a) same (record { name = refl; inherited = refl; kind = is })

  pub is_sort_named : (s : RawSort) (t : Sort) → named_sort raw s ≡ Some t → IsSort s t
  is_sort_named s t e = by (each_some (map (named_attr raw) s.attrs)) refl e
    where
      by : (o : Option (List Attr)) → each_some (map (named_attr raw) s.attrs) ≡ o → option_map (λ attrs. record { name = s.name; attrs = attrs }) o ≡ Some t → IsSort s t
      by None is h = absurd (cc)
      by (Some attrs) is h =
          let same : record { name = s.name; attrs = attrs } ≡ t = cc in
          subst (IsSort s) same (record { name = refl; attrs = each_from IsAttr (Names (named_attr raw)) is_attr s.attrs attrs (each_named (named_attr raw) s.attrs attrs is) })

  attr_named : (a : RawAttr) (y : Kind) → named_kind raw a.kind ≡ Some y → (b : Attr) × (named_attr raw a ≡ Some b)
  attr_named a y e = (record { name = a.name; inherited = a.inherited; kind = y }, rw e refl)

  -- ---- faults of one sort

  abbrev HasAttr : RawAttr → Type 0
  HasAttr a = (b : Attr) × (named_attr raw a ≡ Some b)

  abbrev attr_parts : (s : RawSort) (before : List RawAttr) (a : RawAttr) → attr_faults raw s.name before a ≡ [] →
      (where_true (is_among (map (λ (b : RawAttr). b.name) before) a.name) (fault twice s.name a.name) ≡ []) × (kind_faults raw s.name a.kind ≡ [])
  attr_parts s before a e =
      empty_parts (where_true (is_among (map (λ (b : RawAttr). b.name) before) a.name) (fault twice s.name a.name)) (kind_faults raw s.name a.kind) e

  pub attrs_right : (s : RawSort) → each_after (attr_faults raw s.name) [] s.attrs ≡ [] → ((t : Sort) × (named_sort raw s ≡ Some t)) × AreDistinct s
  attrs_right s e =
      let each = none_after (attr_faults raw s.name) [] s.attrs e in
      let new = after_from s.attrs (λ b a. attr_faults raw s.name b a ≡ []) (IsNew [] (λ (a : RawAttr). a.name)) (λ b a rest w h. none_where (is_among (map (λ (b : RawAttr). b.name) b) a.name) (fault twice s.name a.name) ((attr_parts s b a h).0)) [] s.attrs refl each in
      let known = after_from s.attrs (λ b a. attr_faults raw s.name b a ≡ []) (λ b a. HasAttr a) (λ b a rest w h. let kind = known_kind s.name a.kind ((attr_parts s b a h).1) in attr_named a kind.0 kind.1) [] s.attrs refl each in
      let all = every_has (Names (named_attr raw)) s.attrs (every_of_after HasAttr [] s.attrs known) in
      ((record { name = s.name; attrs = all.0 }, rw (named_each (named_attr raw) s.attrs all.0 all.1) refl), new_distinct [] (λ (a : RawAttr). a.name) s.attrs refl new)

  pub attrs_faultless : (s : RawSort) (t : Sort) → named_sort raw s ≡ Some t → AreDistinct s → each_after (attr_faults raw s.name) [] s.attrs ≡ []
  attrs_faultless s t e d =
      let new = distinct_new [] (λ (a : RawAttr). a.name) s.attrs d in
      let known = each_gives IsAttr (λ (a : RawAttr). kind_faults raw s.name a.kind ≡ []) (λ a b h. kind_faultless s.name a.kind b.kind h.kind) s.attrs t.attrs (is_sort_named s t e).attrs in
      let both = after_both (IsNew [] (λ (a : RawAttr). a.name)) (λ b a. kind_faults raw s.name a.kind ≡ []) [] s.attrs new (after_of_every (λ (a : RawAttr). kind_faults raw s.name a.kind ≡ []) [] s.attrs known) in
      after_none (attr_faults raw s.name) [] s.attrs (after_from s.attrs (λ b a. IsNew [] (λ (a : RawAttr). a.name) b a × (kind_faults raw s.name a.kind ≡ [])) (λ b a. attr_faults raw s.name b a ≡ []) (λ b a rest w h. empty_both (where_true (is_among (map (λ (c : RawAttr). c.name) b) a.name) (fault twice s.name a.name)) (kind_faults raw s.name a.kind) (where_none (is_among (map (λ (c : RawAttr). c.name) b) a.name) (fault twice s.name a.name) h.0) h.1) [] s.attrs refl both)

-- ---- all sorts

-- the sorts are named, and names are distinct
pub record SortsRight (raw : List RawSort) (sorts : List Sort) : Type 0 where
  pub named : Each (Names (named_sort raw)) raw sorts
  pub distinct : all_distinct (map (λ (s : RawSort). s.name) raw) ≡ true
  pub attrs : Every (AreDistinct) raw

abbrev sort_parts : (raw before : List RawSort) (s : RawSort) → sort_faults raw before s ≡ [] →
    (where_true (is_among (map (λ (t : RawSort). t.name) before) s.name) (fault twice s.name s.name) ≡ []) × (each_after (attr_faults raw s.name) [] s.attrs ≡ [])
sort_parts raw before s e =
    empty_parts (where_true (is_among (map (λ (t : RawSort). t.name) before) s.name) (fault twice s.name s.name)) (each_after (attr_faults raw s.name) [] s.attrs) e

abbrev HasSort : List RawSort → RawSort → Type 0
HasSort raw s = (t : Sort) × (named_sort raw s ≡ Some t)

pub sorts_right : (raw : List RawSort) → each_after (sort_faults raw) [] raw ≡ [] → (sorts : List Sort) × SortsRight raw sorts
sorts_right raw e =
    let each = none_after (sort_faults raw) [] raw e in
    let new = after_from raw (λ b s. sort_faults raw b s ≡ []) (IsNew [] (λ (s : RawSort). s.name)) (λ b s rest w h. none_where (is_among (map (λ (t : RawSort). t.name) b) s.name) (fault twice s.name s.name) ((sort_parts raw b s h).0)) [] raw refl each in
    let right = every_of_after (λ s. HasSort raw s × AreDistinct s) [] raw (after_from raw (λ b s. sort_faults raw b s ≡ []) (λ b s. HasSort raw s × AreDistinct s) (λ b s rest w h. attrs_right raw s ((sort_parts raw b s h).1)) [] raw refl each) in
    let all = every_has (Names (named_sort raw)) raw (every_from (HasSort raw) (λ s. HasSort raw s × AreDistinct s) (λ s h. h.0) raw right) in
    (all.0, record { named = all.1; distinct = new_distinct [] (λ (s : RawSort). s.name) raw refl new; attrs = every_from (AreDistinct) (λ s. HasSort raw s × AreDistinct s) (λ s h. h.1) raw right })

pub sorts_faultless : (raw : List RawSort) (sorts : List Sort) → SortsRight raw sorts → each_after (sort_faults raw) [] raw ≡ []
sorts_faultless raw sorts r =
    let new = distinct_new [] (λ (s : RawSort). s.name) raw r.distinct in
    let attrs = every_of_each raw sorts r.named r.attrs in
    let both = after_both (IsNew [] (λ (s : RawSort). s.name)) (λ b s. each_after (attr_faults raw s.name) [] s.attrs ≡ []) [] raw new (after_of_every (λ (s : RawSort). each_after (attr_faults raw s.name) [] s.attrs ≡ []) [] raw attrs) in
    after_none (sort_faults raw) [] raw (after_from raw (λ b s. IsNew [] (λ (s : RawSort). s.name) b s × (each_after (attr_faults raw s.name) [] s.attrs ≡ [])) (λ b s. sort_faults raw b s ≡ []) (λ b s rest w h. empty_both (where_true (is_among (map (λ (t : RawSort). t.name) b) s.name) (fault twice s.name s.name)) (each_after (attr_faults raw s.name) [] s.attrs) (where_none (is_among (map (λ (t : RawSort). t.name) b) s.name) (fault twice s.name s.name) h.0) h.1) [] raw refl both)
  where
    every_of_each : (xs : List RawSort) (ys : List Sort) → Each (Names (named_sort raw)) xs ys → Every (AreDistinct) xs → Every (λ (s : RawSort). each_after (attr_faults raw s.name) [] s.attrs ≡ []) xs
    every_of_each [] [] h k = tt
    every_of_each [] (y ∷ ys) h k = absurd h
    every_of_each (x ∷ xs) [] h k = absurd h
    every_of_each (x ∷ xs) (y ∷ ys) h k = (attrs_faultless raw x y h.0 k.0, every_of_each xs ys h.1 k.1)

-- ---- the same by number

module _ (raw : List RawSort) (sorts : List Sort) (named : Each (Names (named_sort raw)) raw sorts) where
  sort_found : (n : Name) (i : ℕ) → FoundAt (Names (named_sort raw)) (λ (s : RawSort). bytes_eq s.name n) raw sorts → sort_number raw n ≡ Some i → Each (IsAttr raw) (attrs_named raw n) (attrs_of_sort sorts i) × (i < length sorts)
  sort_found n i (absent f m) e = absurd (let none : None ≡ Some i = sym m ∙ (sym (position-number (λ (s : RawSort). bytes_eq s.name n) raw) ∙ e) in cc)
  sort_found n i (there j s t f m at is h) e =
      let one : j ≡ i = (let both : Some j ≡ Some i = sym m ∙ (sym (position-number (λ (s : RawSort). bytes_eq s.name n) raw) ∙ e) in cc) in
      let here = subst (λ x. slice_get sorts x ≡ Some t) one at in
      (rw (f, here) (is_sort_named raw s t is).attrs, slice_get_within sorts i t here)

  pub attrs_at : (n : Name) (i : ℕ) → sort_number raw n ≡ Some i → Each (IsAttr raw) (attrs_named raw n) (attrs_of_sort sorts i) × (i < length sorts)
  attrs_at n i = sort_found n i (found_at (Names (named_sort raw)) (λ (s : RawSort). bytes_eq s.name n) raw sorts named)

  pub attrs_at_kind : (x : RawKind) (y : Kind) → IsKind raw x y → Each (IsAttr raw) (attrs_of_kind raw x) (attrs_of sorts y)
  attrs_at_kind rk.Int y e = is_given raw rk.Int k.Int y (λ y. Each (IsAttr raw) [] (attrs_of sorts y)) refl e tt
  attrs_at_kind rk.Bool y e = is_given raw rk.Bool k.Bool y (λ y. Each (IsAttr raw) [] (attrs_of sorts y)) refl e tt
  attrs_at_kind rk.Name y e = is_given raw rk.Name k.Name y (λ y. Each (IsAttr raw) [] (attrs_of sorts y)) refl e tt
  attrs_at_kind (rk.Named n) y e = is_that_sort raw n y (λ y. Each (IsAttr raw) (attrs_named raw n) (attrs_of sorts y)) e (λ i h. (attrs_at n i h).0)

  pub kind_is_known : (x : RawKind) (y : Kind) → IsKind raw x y → is_known sorts y ≡ true
  kind_is_known rk.Int y e = is_given raw rk.Int k.Int y (λ y. is_known sorts y ≡ true) refl e refl
  kind_is_known rk.Bool y e = is_given raw rk.Bool k.Bool y (λ y. is_known sorts y ≡ true) refl e refl
  kind_is_known rk.Name y e = is_given raw rk.Name k.Name y (λ y. is_known sorts y ≡ true) refl e refl
  kind_is_known (rk.Named n) y e = is_that_sort raw n y (λ y. is_known sorts y ≡ true) e (λ i h. lt-ltb i (length sorts) (attrs_at n i h).1)

  attr_names_same : (s : RawSort) (t : Sort) → named_sort raw s ≡ Some t → map (λ (b : Attr). b.name) t.attrs ≡ map (λ (a : RawAttr). a.name) s.attrs
  attr_names_same s t e = each_map (IsAttr raw) (λ (a : RawAttr). a.name) (λ (b : Attr). b.name) (λ a b h. h.name) s.attrs t.attrs (is_sort_named raw s t e).attrs

  sort_names_same : map (λ (t : Sort). t.name) sorts ≡ map (λ (s : RawSort). s.name) raw
  sort_names_same = each_map (Names (named_sort raw)) (λ (s : RawSort). s.name) (λ (t : Sort). t.name) (λ s t h. (is_sort_named raw s t h).name) raw sorts named

  sort_is_right : (s : RawSort) (t : Sort) → named_sort raw s ≡ Some t → AreDistinct s → is_sort_right sorts t ≡ true
  sort_is_right s t e d =
      and_from (all_distinct (map (λ (a : Attr). a.name) t.attrs)) (list_all (λ (a : Attr). is_known sorts a.kind) t.attrs) (ap all_distinct (attr_names_same s t e) ∙ d) (all_pass (λ (a : Attr). is_known sorts a.kind) t.attrs (each_gives_right (IsAttr raw) (λ (b : Attr). is_known sorts b.kind ≡ true) (λ a b h. kind_is_known a.kind b.kind h.kind) s.attrs t.attrs (is_sort_named raw s t e).attrs))

  sort_was_right : (s : RawSort) (t : Sort) → named_sort raw s ≡ Some t → is_sort_right sorts t ≡ true → AreDistinct s
  sort_was_right s t e r =
      ap all_distinct (sym (attr_names_same s t e)) ∙ (and_parts (all_distinct (map (λ (a : Attr). a.name) t.attrs)) (list_all (λ (a : Attr). is_known sorts a.kind) t.attrs) r).0

  pub sorts_are_right : SortsRight raw sorts → (all_distinct (map (λ (t : Sort). t.name) sorts) ≡ true) × (list_all (is_sort_right sorts) sorts ≡ true)
  sorts_are_right r =
      (ap all_distinct sort_names_same ∙ r.distinct, all_pass (is_sort_right sorts) sorts (each_right (Names (named_sort raw)) AreDistinct (λ t. is_sort_right sorts t ≡ true) sort_is_right raw sorts named r.attrs))

  pub sorts_were_right : all_distinct (map (λ (t : Sort). t.name) sorts) ≡ true → list_all (is_sort_right sorts) sorts ≡ true → SortsRight raw sorts
  sorts_were_right d r = record {
    named = named;
    distinct = ap all_distinct (sym sort_names_same) ∙ d;
    attrs = each_left (Names (named_sort raw)) AreDistinct (λ t. is_sort_right sorts t ≡ true) sort_was_right raw sorts named (every_passes (is_sort_right sorts) sorts r);
  }
