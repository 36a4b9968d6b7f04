-- An equation has no fault exactly where it is named, defines what is to be defined, and has the kind of its target.
use Rattle.std.proofs.Common.{◌≡◌, ℕ, Bool, true, false, not, ◌&&◌, cond, List, [], ◌∷◌, ◌++◌, map, flat_map, find, Option, Some, None, bytes_eq, refl, sym, ap, ◌∙◌, subst}
use Rattle.std.specs.Prelude.{option_map, option_and_then, ⊤}
use Rattle.std.specs.Option.{option_map_or}
use Rattle.std.specs.List.{list_any}
use Rattle.std.proofs.lemmas.Bool.{and_parts, not-true, not-false, not_from_true, both_ways, or_left, or_right}
use Rattle.std.proofs.lemmas.List.Concat.{flat_map-append}
use Rattle.lrc_base.specs.declared.grammar.Kind.{Kind}
use Rattle.lrc_base.specs.declared.grammar.Sort.{Sort}
use Rattle.lrc_base.specs.declared.grammar.Equation.{Equation}
use Rattle.lrc_base.specs.declared.grammar.Production.{Production}
use Rattle.lrc_base.specs.declared.expr.Expr.{Expr}
use Rattle.lrc_base.specs.declared.raw.RawKind.{RawKind}
use Rattle.lrc_base.specs.declared.raw.RawKind.TheVariants as rk
use Rattle.lrc_base.specs.declared.raw.RawAttr.{RawAttr}
use Rattle.lrc_base.specs.declared.raw.RawKid.{RawKid}
use Rattle.lrc_base.specs.declared.raw.RawItem.{RawItem}
use Rattle.lrc_base.specs.declared.raw.RawItem.TheVariants as item
use Rattle.lrc_base.specs.declared.raw.RawProd.{RawProd}
use Rattle.lrc_base.specs.declared.raw.RawGrammar.{RawGrammar}
use Rattle.lrc_base.specs.declared.raw.RawExpr.{RawExpr}
use Rattle.lrc_meaning.specs.Tree.{same_kind}
use Rattle.lrc_meaning.specs.Grammar.{Occurrence, occurrences_of, is_equation_right, all_distinct}
use Rattle.lrc_meaning.specs.Expression.{Expression, expression}
use Rattle.lrc_meaning.specs.Naming.{Known, named_kind, named_sort, named_expr, named_target, named_equation, pattern_of}
use Rattle.lrc_meaning.proofs.KindLemmas.{own_kind, one_kind}
use Rattle.lrc_fault_meaning.specs.Faults.{Name, Fault, fault, fault_of, not_normal, wrong_kind, double_equation, where_true, attr_in_sort, attrs_named, Declared, local, attached, declared_by, declared_name, Means, nothing, left_attr, leaf, symbol, value, tree, means, left_or_other, kid_or_declared, declared_means, symbol_sort, is_nothing, Found, same_kind as same_raw_kind, kind_agrees, expr_faults, found_of, Target, target_of, target_fault, has_target, equation_faults, own_equation, attr_equation, symbol_equation, piece_faults, item_faults}
use Rattle.lrc_fault_laws.proofs.Lists.{number, Every, Each, Names, FoundAt, absent, there, empty_parts, empty_both, none_where, where_none}
use Rattle.lrc_fault_laws.proofs.Names.{own_name, called, distinct_parts}
use Rattle.lrc_fault_laws.proofs.Sorts.{same_kinds}
use Rattle.lrc_fault_laws.proofs.Heads.{declared_in, Head}
use Rattle.lrc_fault_laws.proofs.Places.{Place, own_place, symbol_place, value_place, places_of, is_at}
use Rattle.lrc_fault_laws.proofs.Meanings.{alone, of_symbol, alone_place, symbol_place_of, find_alone, find_symbol, no_other_left, no_other_kid}
use Rattle.lrc_fault_laws.proofs.Occurrences.{Stands, occurrence_at, target_found}
use Rattle.lrc_fault_laws.proofs.Expressions.{known, kind_in, Agrees, right, wrong, agrees}

-- an equation as it is written
pub record RawEquation : Type 0 where
  pub target : Target
  pub expr : RawExpr

abbrev pub raw_equations : RawItem → List RawEquation
raw_equations (item.Local n kind x) = record { target = alone n; expr = x } ∷ []
raw_equations (item.Attach n sort x) = record { target = alone n; expr = x } ∷ []
raw_equations (item.Own n x) = record { target = alone n; expr = x } ∷ []
raw_equations (item.OfKid c n x) = record { target = of_symbol c n; expr = x } ∷ []
raw_equations (item.Pattern pieces) = []

-- ---- what a declared name means

among_later : (q : Name → Bool) (front : List Declared) (d : Declared) (rest : List Declared) → q (declared_name d) ≡ true → list_any q (map declared_name (front ++ d ∷ rest)) ≡ true
among_later q [] d rest h = or_left (q (declared_name d)) (list_any q (map declared_name rest)) h
among_later q (x ∷ front) d rest h = or_right (q (declared_name x)) (list_any q (map declared_name (front ++ d ∷ rest))) (among_later q front d rest h)

find_declared : (front : List Declared) (d : Declared) (rest : List Declared) → all_distinct (map declared_name (front ++ d ∷ rest)) ≡ true → find (called declared_name (declared_name d)) (front ++ d ∷ rest) ≡ Some d
find_declared [] d rest h = rw (own_name (declared_name d)) refl
find_declared (x ∷ front) d rest h = by (bytes_eq (declared_name x) (declared_name d)) refl (find_declared front d rest parts.1)
  where
    parts : (not (list_any (bytes_eq (declared_name x)) (map declared_name (front ++ d ∷ rest))) ≡ true) × (all_distinct (map declared_name (front ++ d ∷ rest)) ≡ true)
    parts = and_parts (not (list_any (bytes_eq (declared_name x)) (map declared_name (front ++ d ∷ rest)))) (all_distinct (map declared_name (front ++ d ∷ rest))) h

    by : (b : Bool) → bytes_eq (declared_name x) (declared_name d) ≡ b → find (called declared_name (declared_name d)) (front ++ d ∷ rest) ≡ Some d → cond b (Some x) (find (called declared_name (declared_name d)) (front ++ d ∷ rest)) ≡ Some d
    by true is later = absurd (both_ways (list_any (bytes_eq (declared_name x)) (map declared_name (front ++ d ∷ rest))) (not-true (list_any (bytes_eq (declared_name x)) (map declared_name (front ++ d ∷ rest))) parts.0) (among_later (bytes_eq (declared_name x)) front d rest is))
    by false is later = later

declared_split : (b : List RawItem) (i : RawItem) (rest : List RawItem) (d : Declared) → declared_by i ≡ d ∷ [] → declared_in (b ++ i ∷ rest) ≡ declared_in b ++ d ∷ declared_in rest
declared_split b i rest d e = flat_map-append declared_by b (i ∷ rest) ∙ ap (λ l. declared_in b ++ (l ++ declared_in rest)) e

module _ (g : RawGrammar) (sorts : List Sort) (named : Each (Names (named_sort g.sorts)) g.sorts sorts) (p : RawProd) (P : Production) (head : Head g.sorts p P.left P.kids P.extras) (prods : List Production) (made : Each (λ q Q. Head g.sorts q Q.left Q.kids Q.extras) g.prods prods) where
  abbrev pub places : List Place
  places = places_of g.sorts p

  abbrev pub occurrences : List Occurrence
  occurrences = occurrences_of sorts P

  abbrev pub names : Known
  names = known g sorts named p P head prods made

  abbrev kind_of : Expression → Option Kind
  kind_of = kind_in g sorts named p P head prods made

  abbrev found_for : (t : Target) → FoundAt (Stands g.sorts) (is_at t) places occurrences
  found_for t = target_found g.sorts sorts named p P head t

  abbrev left_found : Name → Option RawAttr
  left_found n = find (called (λ (a : RawAttr). a.name) n) (attrs_named g.sorts p.left)

  abbrev kid_found : Name → Option RawKid
  kid_found n = find (called (λ (a : RawKid). a.name) n) p.kids

  abbrev declared_found : Name → Option Declared
  declared_found n = find (called declared_name n) (declared_in p.items)

  distinct_declared : all_distinct (map declared_name (declared_in p.items)) ≡ true
  distinct_declared =
      (distinct_parts (map (λ (a : RawKid). a.name) p.kids) (map declared_name (declared_in p.items)) ((distinct_parts (map (λ (a : RawAttr). a.name) (attrs_named g.sorts p.left)) (map (λ (a : RawKid). a.name) p.kids ++ map declared_name (declared_in p.items)) head.distinct).back)).back

  pub declared_is_found : (b : List RawItem) (i : RawItem) (rest : List RawItem) (d : Declared) → b ++ i ∷ rest ≡ p.items → declared_by i ≡ d ∷ [] → declared_found (declared_name d) ≡ Some d
  declared_is_found b i rest d w e =
      let all : declared_in p.items ≡ declared_in b ++ d ∷ declared_in rest = sym (ap declared_in w) ∙ declared_split b i rest d e in
      subst (λ ds. find (called declared_name (declared_name d)) ds ≡ Some d) (sym all) (find_declared (declared_in b) d (declared_in rest) (subst (λ ds. all_distinct (map declared_name ds) ≡ true) all distinct_declared))

  -- what is declared is no left attribute and no child
  pub means_declared : (n : Name) (d : Declared) → declared_found n ≡ Some d → means g.sorts p n ≡ declared_means (Some d)
  means_declared n d e = by (left_found n) refl (kid_found n) refl
    where
      by : (a : Option RawAttr) → left_found n ≡ a → (c : Option RawKid) → kid_found n ≡ c → left_or_other a (kid_or_declared c (declared_found n)) ≡ declared_means (Some d)
      by (Some a) ea c ec = absurd (let both : Some d ≡ None = sym e ∙ (no_other_left g.sorts p head.distinct n a ea).1 in cc)
      by None ea (Some c) ec = absurd (let both : Some d ≡ None = sym e ∙ no_other_kid g.sorts p head.distinct n c ec in cc)
      by None ea None ec = ap declared_means e

  pub place_known : (t : Target) (x : Place) → find (is_at t) places ≡ Some x → (y : Kind) × (named_kind g.sorts x.kind ≡ Some y)
  place_known t x e = by (found_for t)
    where
      by : FoundAt (Stands g.sorts) (is_at t) places occurrences → (y : Kind) × (named_kind g.sorts x.kind ≡ Some y)
      by (absent f m) = absurd (let both : None ≡ Some x = sym f ∙ e in cc)
      by (there i z y f m at is yes') =
          let same : z ≡ x = (let both : Some z ≡ Some x = sym f ∙ e in cc) in
          (y.kind, subst (λ (z : Place). named_kind g.sorts z.kind ≡ Some y.kind) same is.kind)

  -- ---- expressions

  abbrev pub HasKind : RawExpr → Kind → Type 0
  HasKind x y = (z : Expr) × (named_expr names x ≡ Some z) × (kind_of (expression z) ≡ Some y)

  abbrev AgreesAt : Fault → RawExpr → Type 0
  AgreesAt c x = Agrees g sorts named p P head prods made (found_of g p c x) (named_expr names x)

  pub expr_right : (c : Fault) (kind : RawKind) (y : Kind) (x : RawExpr) → named_kind g.sorts kind ≡ Some y → expr_faults g p c kind x ≡ [] → HasKind x y
  expr_right c kind y x hy e = by (agrees g sorts named p P head prods made c x)
    where
      parts : ((found_of g p c x).faults ≡ []) × (kind_agrees c kind (found_of g p c x).kind ≡ [])
      parts = empty_parts (found_of g p c x).faults (kind_agrees c kind (found_of g p c x).kind) e

      by : AgreesAt c x → HasKind x y
      by (wrong d ds f h) = absurd (let both : d ∷ ds ≡ [] = sym f ∙ parts.0 in cc)
      by (right kind' y' z f n h is) =
          let agree : kind_agrees c kind (Some kind') ≡ [] = subst (λ (w : Found). kind_agrees c kind w.kind ≡ []) f parts.1 in
          let same : same_raw_kind kind' kind ≡ true = not-false (same_raw_kind kind' kind) (none_where (not (same_raw_kind kind' kind)) c agree) in
          let one : y' ≡ y = one_kind y' y (sym (same_kinds g.sorts kind' kind y' y is hy) ∙ same) in
          (z, n, h ∙ ap (λ w. Some w) one)

  pub expr_faultless : (c : Fault) (kind : RawKind) (y : Kind) (x : RawExpr) → named_kind g.sorts kind ≡ Some y → HasKind x y → expr_faults g p c kind x ≡ []
  expr_faultless c kind y x hy h = by (agrees g sorts named p P head prods made c x)
    where
      by : AgreesAt c x → expr_faults g p c kind x ≡ []
      by (wrong d ds f none) =
          absurd (let given : None ≡ Some y = sym none ∙ (ap (λ o. option_and_then (λ z. kind_of (expression z)) o) h.1 ∙ h.2) in cc)
      by (right kind' y' z f n k' is) =
          let one : Some y' ≡ Some y = sym k' ∙ (ap (λ o. option_and_then (λ z. kind_of (expression z)) o) (sym n ∙ h.1) ∙ h.2) in
          let one' : y' ≡ y = cc in
          let same : same_raw_kind kind' kind ≡ true = same_kinds g.sorts kind' kind y' y is hy ∙ (ap (λ w. same_kind w y) one' ∙ own_kind y) in
          subst (λ (w : Found). w.faults ++ kind_agrees c kind w.kind ≡ []) (sym f) (where_none (not (same_raw_kind kind' kind)) c (not_from_true (same_raw_kind kind' kind) same))

  -- ---- one equation

  abbrev pub named_raw : RawEquation → Option Equation
  named_raw r = named_target names r.target.owner r.target.name r.expr

  pub equations_named : (items : List RawItem) → flat_map (named_equation names) items ≡ map named_raw (flat_map raw_equations items)
  equations_named [] = refl
  equations_named (item.Local n kind x ∷ items) = ap (λ l. named_target names None n x ∷ l) (equations_named items)
  equations_named (item.Attach n sort x ∷ items) = ap (λ l. named_target names None n x ∷ l) (equations_named items)
  equations_named (item.Own n x ∷ items) = ap (λ l. named_target names None n x ∷ l) (equations_named items)
  equations_named (item.OfKid c n x ∷ items) = ap (λ l. named_target names (Some c) n x ∷ l) (equations_named items)
  equations_named (item.Pattern pieces ∷ items) = equations_named items

  -- the target is there and is to be defined, and the expression has its kind
  pub record RightAt (r : RawEquation) : Type 0 where
    pub place : Place
    pub found : find (is_at r.target) places ≡ Some place
    pub defined : place.is_defined ≡ true
    pub kind : Kind
    pub of_place : named_kind g.sorts place.kind ≡ Some kind
    pub of_expr : HasKind r.expr kind

  abbrev Target_of : RawEquation → Option Equation → Option ℕ → Type 0
  Target_of r q i = option_and_then (λ target. option_map (λ y. record { target = target; expr = y }) (named_expr names r.expr)) i ≡ q

  pub right_named : (r : RawEquation) → RightAt r → (q : Equation) × (named_raw r ≡ Some q) × (is_equation_right sorts prods P q ≡ true)
  right_named r h = by (found_for r.target)
    where
      by : FoundAt (Stands g.sorts) (is_at r.target) places occurrences → (q : Equation) × (named_raw r ≡ Some q) × (is_equation_right sorts prods P q ≡ true)
      by (absent f m) = absurd (let both : None ≡ Some h.place = sym f ∙ h.found in cc)
      by (there i x y f m at is yes') =
          let same : x ≡ h.place = (let both : Some x ≡ Some h.place = sym f ∙ h.found in cc) in
          let kind : Some y.kind ≡ Some h.kind = sym (subst (λ (x : Place). named_kind g.sorts x.kind ≡ Some y.kind) same is.kind) ∙ h.of_place in
          let one : y.kind ≡ h.kind = cc in
          let defined : y.is_defined ≡ true = is.is_defined ∙ (ap (λ (x : Place). x.is_defined) same ∙ h.defined) in
          (record { target = i; expr = h.of_expr.0 }, rw (occurrence_at g.sorts sorts named p P head r.target, m, h.of_expr.1) refl, rw (at, defined, h.of_expr.2, one) (own_kind h.kind))

  pub named_right : (r : RawEquation) (q : Equation) → named_raw r ≡ Some q → is_equation_right sorts prods P q ≡ true → RightAt r
  named_right r q e right' = by (found_for r.target) (named_expr names r.expr) refl (subst (Target_of r (Some q)) (occurrence_at g.sorts sorts named p P head r.target) e)
    where
      has_kind : (y : Occurrence) (o : Option Kind) → option_map_or (same_kind y.kind) o false ≡ true → o ≡ Some y.kind
      has_kind y None h = absurd (cc)
      has_kind y (Some u) h = ap (λ w. Some w) (sym (one_kind y.kind u h))

      by : FoundAt (Stands g.sorts) (is_at r.target) places occurrences → (z : Option Expr) → named_expr names r.expr ≡ z → option_and_then (λ target. option_map (λ y. record { target = target; expr = y }) z) (number (is_at r.target) places) ≡ Some q → RightAt r
      by (absent f m) z ez h = absurd (let none : None ≡ Some q = subst (λ o. option_and_then (λ target. option_map (λ y. record { target = target; expr = y }) z) o ≡ Some q) m h in cc)
      by (there i x y f m at is yes') None ez h = absurd (let none : None ≡ Some q = subst (λ o. option_and_then (λ target. option_map (λ y. record { target = target; expr = y }) None) o ≡ Some q) m h in cc)
      by (there i x y f m at is yes') (Some z) ez h =
          let some : Some (record { target = i; expr = z }) ≡ Some q = subst (λ o. option_and_then (λ target. option_map (λ y. record { target = target; expr = y }) (Some z)) o ≡ Some q) m h in
          let same : record { target = i; expr = z } ≡ q = cc in
          let here : is_equation_right sorts prods P (record { target = i; expr = z }) ≡ true = subst (λ q. is_equation_right sorts prods P q ≡ true) (sym same) right' in
          let there' : (y.is_defined && option_map_or (same_kind y.kind) (kind_of (expression z)) false) ≡ true = rw at at here in
          let parts = and_parts y.is_defined (option_map_or (same_kind y.kind) (kind_of (expression z)) false) there' in
          record { place = x; found = f; defined = sym is.is_defined ∙ parts.0; kind = y.kind; of_place = is.kind; of_expr = (z, ez, has_kind y (kind_of (expression z)) parts.1) }

  -- ---- one item

  -- of the left side only attributes are defined
  abbrev pub DefinesLeft : RawItem → Type 0
  DefinesLeft (item.Local n kind x) = ⊤
  DefinesLeft (item.Attach n sort x) = ⊤
  DefinesLeft (item.Own n x) = (a : RawAttr) × (means g.sorts p n ≡ left_attr a)
  DefinesLeft (item.OfKid c n x) = ⊤
  DefinesLeft (item.Pattern pieces) = ⊤

  pub record ItemRight (b : List RawItem) (i : RawItem) : Type 0 where
    pub each : Every RightAt (raw_equations i)
    pub new : Every (λ t. has_target b t ≡ false) (target_of i)
    pub defines_left : DefinesLeft i
    pub pieces : Every (λ pieces. flat_map (piece_faults p) pieces ≡ []) (pattern_of i)

  find_means : (n : Name) (m : Means) → means g.sorts p n ≡ m → find (is_at (alone n)) places ≡ alone_place n m
  find_means n m e = find_alone g.sorts p head.distinct n ∙ ap (alone_place n) e

  find_sort : (c a : Name) (s : Option Name) → symbol_sort (means g.sorts p c) ≡ s → find (is_at (of_symbol c a)) places ≡ symbol_place_of g.sorts c a s
  find_sort c a s e = find_symbol g.sorts p head.distinct c a ∙ ap (symbol_place_of g.sorts c a) e

  right_at : (t : Target) (x : RawExpr) (z : Place) (c : Fault) → find (is_at t) places ≡ Some z → z.is_defined ≡ true → expr_faults g p c z.kind x ≡ [] → RightAt (record { target = t; expr = x })
  right_at t x z c f d e =
      let known' = place_known t z f in
      record { place = z; found = f; defined = d; kind = known'.0; of_place = known'.1; of_expr = expr_right c z.kind known'.0 x known'.1 e }

  -- the equations of an item that declares
  declared_right : (b : List RawItem) (i : RawItem) (rest : List RawItem) (d : Declared) → b ++ i ∷ rest ≡ p.items → declared_by i ≡ d ∷ [] → find (is_at (alone (declared_name d))) places ≡ alone_place (declared_name d) (declared_means (Some d))
  declared_right b i rest d w e =
      find_means (declared_name d) (declared_means (Some d)) (means_declared (declared_name d) d (declared_is_found b i rest d w e))

  abbrev twice_defined : List RawItem → Target → List Fault
  twice_defined b t = where_true (has_target b t) (target_fault double_equation p.name t)

  equation_parts : (b : List RawItem) (t : Target) (kind : RawKind) (x : RawExpr) → equation_faults g p b t kind x ≡ [] → (has_target b t ≡ false) × (expr_faults g p (target_fault wrong_kind p.name t) kind x ≡ [])
  equation_parts b t kind x e =
      let parts = empty_parts (twice_defined b t) (expr_faults g p (target_fault wrong_kind p.name t) kind x) e in
      (none_where (has_target b t) (target_fault double_equation p.name t) parts.0, parts.1)

  equation_faultless : (b : List RawItem) (t : Target) (kind : RawKind) (x : RawExpr) → has_target b t ≡ false → expr_faults g p (target_fault wrong_kind p.name t) kind x ≡ [] → equation_faults g p b t kind x ≡ []
  equation_faultless b t kind x h e =
      empty_both (twice_defined b t) (expr_faults g p (target_fault wrong_kind p.name t) kind x) (where_none (has_target b t) (target_fault double_equation p.name t) h) e

  own_right : (b : List RawItem) (n : Name) (x : RawExpr) (m : Means) → means g.sorts p n ≡ m → own_equation g p b n x m ≡ [] → ItemRight b (item.Own n x)
  own_right b n x nothing is e = absurd (cc)
  own_right b n x (left_attr a) is e = by a.inherited refl e
    where
      by : (inh : Bool) → a.inherited ≡ inh → cond inh (fault not_normal p.name n ∷ []) (equation_faults g p b (alone n) a.kind x) ≡ [] → ItemRight b (item.Own n x)
      by true h e = absurd (cc)
      by false h e =
          let parts = equation_parts b (alone n) a.kind x e in
          record {
            each = (right_at (alone n) x (own_place a) (target_fault wrong_kind p.name (alone n)) (find_means n (left_attr a) is) (ap not h) parts.1, tt);
            new = (parts.0, tt);
            defines_left = (a, is);
            pieces = tt;
          }
  own_right b n x (leaf kind) is e = absurd (cc)
  own_right b n x (symbol sort) is e = absurd (cc)
  own_right b n x (value kind) is e = absurd (cc)
  own_right b n x (tree sort) is e = absurd (cc)

  attr_right : (b : List RawItem) (c a : Name) (x : RawExpr) (attr : Option RawAttr) → find (is_at (of_symbol c a)) places ≡ option_map (symbol_place c) attr → attr_equation g p b c a x attr ≡ [] → ItemRight b (item.OfKid c a x)
  attr_right b c a x None f e = absurd (cc)
  attr_right b c a x (Some attr) f e = by attr.inherited refl e
    where
      by : (inh : Bool) → attr.inherited ≡ inh → cond inh (equation_faults g p b (of_symbol c a) attr.kind x) (fault_of not_normal p.name c a ∷ []) ≡ [] → ItemRight b (item.OfKid c a x)
      by false h e = absurd (cc)
      by true h e =
          let parts = equation_parts b (of_symbol c a) attr.kind x e in
          record {
            each = (right_at (of_symbol c a) x (symbol_place c attr) (target_fault wrong_kind p.name (of_symbol c a)) f h parts.1, tt);
            new = (parts.0, tt);
            defines_left = tt;
            pieces = tt;
          }

  symbol_right : (b : List RawItem) (c a : Name) (x : RawExpr) (missing : Bool) (s : Option Name) → symbol_sort (means g.sorts p c) ≡ s → symbol_equation g p b c a x missing s ≡ [] → ItemRight b (item.OfKid c a x)
  symbol_right b c a x missing None is e = absurd (cc)
  symbol_right b c a x missing (Some sort) is e = attr_right b c a x (attr_in_sort g.sorts sort a) (find_sort c a (Some sort) is) e

  pub item_right : (b : List RawItem) (i : RawItem) (rest : List RawItem) → b ++ i ∷ rest ≡ p.items → item_faults g p b i ≡ [] → ItemRight b i
  item_right b (item.Local n kind x) rest w e = record {
    each = (right_at (alone n) x (value_place n kind) (fault wrong_kind p.name n) (declared_right b (item.Local n kind x) rest (local n kind) w refl) refl e, tt);
    new = tt;
    defines_left = tt;
    pieces = tt;
  }
  item_right b (item.Attach n sort x) rest w e = record {
    each = (right_at (alone n) x (value_place n (rk.Named sort)) (fault wrong_kind p.name n) (declared_right b (item.Attach n sort x) rest (attached n sort) w refl) refl e, tt);
    new = tt;
    defines_left = tt;
    pieces = tt;
  }
  item_right b (item.Own n x) rest w e = own_right b n x (means g.sorts p n) refl e
  item_right b (item.OfKid c a x) rest w e = symbol_right b c a x (is_nothing (means g.sorts p c)) (symbol_sort (means g.sorts p c)) refl e
  item_right b (item.Pattern pieces) rest w e = record { each = tt; new = tt; defines_left = tt; pieces = (e, tt) }

  -- ---- and back

  -- the expression of an equation that is right has no fault at the kind of its place
  right_faultless : (r : RawEquation) (h : RightAt r) (z : Place) (c : Fault) → find (is_at r.target) places ≡ Some z → (expr_faults g p c z.kind r.expr ≡ []) × (z.is_defined ≡ true)
  right_faultless r h z c f =
      let same : h.place ≡ z = (let both : Some h.place ≡ Some z = sym h.found ∙ f in cc) in
      (expr_faultless c z.kind h.kind r.expr (subst (λ (y : Place). named_kind g.sorts y.kind ≡ Some h.kind) same h.of_place) h.of_expr, subst (λ (y : Place). y.is_defined ≡ true) same h.defined)

  own_faultless : (b : List RawItem) (n : Name) (x : RawExpr) (a : RawAttr) → means g.sorts p n ≡ left_attr a → RightAt (record { target = alone n; expr = x }) → has_target b (alone n) ≡ false → own_equation g p b n x (left_attr a) ≡ []
  own_faultless b n x a is h new = by a.inherited parts.1
    where
      parts : (expr_faults g p (target_fault wrong_kind p.name (alone n)) a.kind x ≡ []) × (not a.inherited ≡ true)
      parts = right_faultless (record { target = alone n; expr = x }) h (own_place a) (target_fault wrong_kind p.name (alone n)) (find_means n (left_attr a) is)

      by : (inh : Bool) → not inh ≡ true → cond inh (fault not_normal p.name n ∷ []) (equation_faults g p b (alone n) a.kind x) ≡ []
      by true h = absurd (cc)
      by false h = equation_faultless b (alone n) a.kind x new parts.0

  attr_faultless : (b : List RawItem) (c a : Name) (x : RawExpr) (attr : Option RawAttr) → find (is_at (of_symbol c a)) places ≡ option_map (symbol_place c) attr → RightAt (record { target = of_symbol c a; expr = x }) → has_target b (of_symbol c a) ≡ false →
      attr_equation g p b c a x attr ≡ []
  attr_faultless b c a x None f h new = absurd (let both : Some h.place ≡ None = sym h.found ∙ f in cc)
  attr_faultless b c a x (Some attr) f h new = by attr.inherited parts.1
    where
      parts : (expr_faults g p (target_fault wrong_kind p.name (of_symbol c a)) attr.kind x ≡ []) × (attr.inherited ≡ true)
      parts = right_faultless (record { target = of_symbol c a; expr = x }) h (symbol_place c attr) (target_fault wrong_kind p.name (of_symbol c a)) f

      by : (inh : Bool) → inh ≡ true → cond inh (equation_faults g p b (of_symbol c a) attr.kind x) (fault_of not_normal p.name c a ∷ []) ≡ []
      by false h = absurd (cc)
      by true h = equation_faultless b (of_symbol c a) attr.kind x new parts.0

  symbol_faultless : (b : List RawItem) (c a : Name) (x : RawExpr) (missing : Bool) (s : Option Name) → symbol_sort (means g.sorts p c) ≡ s → RightAt (record { target = of_symbol c a; expr = x }) → has_target b (of_symbol c a) ≡ false →
      symbol_equation g p b c a x missing s ≡ []
  symbol_faultless b c a x missing None is h new = absurd (let both : Some h.place ≡ None = sym h.found ∙ find_sort c a None is in cc)
  symbol_faultless b c a x missing (Some sort) is h new = attr_faultless b c a x (attr_in_sort g.sorts sort a) (find_sort c a (Some sort) is) h new

  pub item_faultless : (b : List RawItem) (i : RawItem) (rest : List RawItem) → b ++ i ∷ rest ≡ p.items → ItemRight b i → item_faults g p b i ≡ []
  item_faultless b (item.Local n kind x) rest w h =
      (right_faultless (record { target = alone n; expr = x }) h.each.0 (value_place n kind) (fault wrong_kind p.name n) (declared_right b (item.Local n kind x) rest (local n kind) w refl)).0
  item_faultless b (item.Attach n sort x) rest w h =
      (right_faultless (record { target = alone n; expr = x }) h.each.0 (value_place n (rk.Named sort)) (fault wrong_kind p.name n) (declared_right b (item.Attach n sort x) rest (attached n sort) w refl)).0
  item_faultless b (item.Own n x) rest w h =
      ap (own_equation g p b n x) h.defines_left.1 ∙ own_faultless b n x h.defines_left.0 h.defines_left.1 h.each.0 h.new.0
  item_faultless b (item.OfKid c a x) rest w h =
      symbol_faultless b c a x (is_nothing (means g.sorts p c)) (symbol_sort (means g.sorts p c)) refl h.each.0 h.new.0
  item_faultless b (item.Pattern pieces) rest w h = h.pieces.0
