-- Terms that are resolved are named and fit a kind, and the other way round.
use Rattle.std.proofs.Common.{◌≡◌, ℕ, zero, suc, ℤ, ◌<◌, Bool, true, false, cond, ◌&&◌, IsTrue, List, [], ◌∷◌, map, length, slice_get, nat_lt, nat_eq, Option, Some, None, Result, Ok, Err, refl, sym, ap, subst, ◌∙◌, arith}
use Rattle.std.proofs.lemmas.Bool.{eqb-true, and_parts}
use Rattle.std.proofs.lemmas.Bool.Decides.{nat_tests}
use Rattle.std.specs.Prelude.{option_map, option_and_then}
use Rattle.std.specs.Option.{option_map_or}
use Rattle.std.specs.List.{position_or_len}
use Rattle.std.specs.Str.{bytes_eq}
use Rattle.lrc_base.specs.declared.grammar.Kind.{Kind}
use Rattle.lrc_base.specs.declared.grammar.Kind.TheVariants as k
use Rattle.lrc_base.specs.declared.grammar.Kid.{Kid}
use Rattle.lrc_base.specs.declared.grammar.Production.{Production}
use Rattle.lrc_base.specs.declared.raw_term.RawTermTree.{RawTermTree, RawTermTree-F, ind-RawTermTree, roll-RawTermTree}
use Rattle.lrc_base.specs.declared.raw_term.RawTermTree.TheVariants as v
use Rattle.lrc_meaning.specs.Tree.{Tree, int, bool, name, node, none, more, row, same_kind, kids_of, is_left, fits, each_fits, kind_of}
use Rattle.lrc_meaning.specs.Naming.{each_some, production_number, named_tree}
use Rattle.lrc_meaning.proofs.KindLemmas.{own_kind, one_kind}
use Rattle.lrc_naming.proofs.NamingLemmas.{named_tree-Int, named_tree-Bool, named_tree-Name, named_tree-Node}
use Rattle.lrc_job.specs.declared.term_fault.TermFault.{TermFault}
use Rattle.lrc_job.specs.declared.term_fault.TermFault.TheVariants as fault
use Rattle.lrc_job.specs.Resolved.{and_then, map_ok, each_ok, is_of_kind, first_unlike, unless_unlike, node_of, resolved}
use Rattle.lrc_job.specs.TermLaws.{NamesFitting, FoundFits, FittingIsFound}
use Rattle.lrc_job.proofs.ResolvedLemmas.{resolved_Int, resolved_Bool, resolved_Name, resolved_Node}

-- ---- induction, variant by variant

module _ (P : RawTermTree → Type 0) where
  abbrev pub Every : List RawTermTree → Type 0
  Every [] = Unit {0}
  Every (x ∷ xs) = P x × Every xs

  abbrev Proved : Type 0
  Proved = (x : RawTermTree) × P x

  every_proved : (kids : List Proved) → Every (map (λ (x : Proved). x.0) kids)
  every_proved [] = tt
  every_proved (x ∷ kids) = (x.1, every_proved kids)

  module _ (at_int : (i : ℤ) → P (v.Int i)) (at_bool : (b : Bool) → P (v.Bool b)) (at_name : (n : List ℕ) → P (v.Name n)) (at_node : (n : List ℕ) (kids : List RawTermTree) → Every kids → P (v.Node n kids)) where
    of_layer : (y : RawTermTree-F Proved) → P (roll-RawTermTree (Rattle.lrc_base.specs.declared.raw_term.RawTermTree.map-RawTermTree Proved RawTermTree (λ x. x.0) y))
    of_layer (RawTermTree-F.Int i) = subst P (sym (v.rolls-Int i)) (at_int i)
    of_layer (RawTermTree-F.Bool b) = subst P (sym (v.rolls-Bool b)) (at_bool b)
    of_layer (RawTermTree-F.Name n) = subst P (sym (v.rolls-Name n)) (at_name n)
    of_layer (RawTermTree-F.Node n kids) = subst P (sym (v.rolls-Node n (map (λ (x : Proved). x.0) kids))) (at_node n (map (λ (x : Proved). x.0) kids) (every_proved kids))

    pub by_variant : (x : RawTermTree) → P x
    by_variant = ind-RawTermTree P (λ x y is. subst (λ z. P (roll-RawTermTree z)) is (of_layer y))

-- ---- kinds, and productions by number

number_same : (m n : ℕ) → m ≡ n → nat_eq m n ≡ true
number_same m n e = grind (arith, nat_tests)

placed : (b : Bool) (m n i : ℕ) → nat_lt m n ≡ b → cond b (Some m) None ≡ Some i → i < n
placed true m n i lt e = let same : m ≡ i = cc in let below : m < n = grind (arith, nat_tests) in omega arith
placed false m n i lt e = absurd (cc)

number_below : (prods : List Production) (n : List ℕ) (p : ℕ) → production_number prods n ≡ Some p → p < length prods
number_below prods n p e =
    placed (nat_lt (position_or_len (λ (q : Production). bytes_eq q.name n) prods) (length prods)) (position_or_len (λ (q : Production). bytes_eq q.name n) prods) (length prods) p refl e

one_there : {A : Type 0} (xs : List A) (i : ℕ) → i < length xs → (x : A) × (slice_get xs i ≡ Some x)
one_there [] i lt = absurd (omega arith)
one_there (x ∷ xs) zero lt = (x, refl)
one_there (x ∷ xs) (suc i) lt = one_there xs i (omega arith)

-- ---- what is found is named and fits

module _ (prods : List Production) where
  abbrev pub Found : RawTermTree → Type 0
  Found raw = (t : Tree) → resolved prods raw ≡ Ok t → (kind : Kind) × (kind_of prods t ≡ Some kind) × NamesFitting prods raw t kind

  -- each of the trees fits its kind
  abbrev pub HaveKinds : List Tree → Type 0
  HaveKinds [] = Unit {0}
  HaveKinds (t ∷ ts) = ((kind : Kind) × (kind_of prods t ≡ Some kind) × IsTrue (fits prods t kind)) × HaveKinds ts

  each_found : (kids : List RawTermTree) → Every Found kids → (ts : List Tree) → each_ok (map (resolved prods) kids) ≡ Ok ts →
      (each_some (map (named_tree prods) kids) ≡ Some ts) × HaveKinds ts
  each_found [] every ts e = let same : [] ≡ ts = cc in (ap Some same, subst HaveKinds same tt)
  each_found (x ∷ kids) every ts e =
      by (λ us rest. each_found kids every.1 us rest) (resolved prods x) refl (each_ok (map (resolved prods) kids)) refl e
    where
      by : ((us : List Tree) → each_ok (map (resolved prods) kids) ≡ Ok us → (each_some (map (named_tree prods) kids) ≡ Some us) × HaveKinds us) → (r : Result Tree TermFault) → resolved prods x ≡ r → (rs : Result (List Tree) TermFault) → each_ok (map (resolved prods) kids) ≡ rs → and_then (λ a. map_ok (λ as'. a ∷ as') rs) r ≡ Ok ts →
          (option_and_then (λ a. option_map (λ as'. a ∷ as') (each_some (map (named_tree prods) kids))) (named_tree prods x) ≡ Some ts) × HaveKinds ts
      by again (Err f) first rs rest h = absurd (cc)
      by again (Ok u) first (Err f) rest h = absurd (cc)
      by again (Ok u) first (Ok us) rest h =
          let same : u ∷ us ≡ ts = cc in
          let head = every.0 u first in
          let tail = again us rest in
          let named : option_and_then (λ a. option_map (λ as'. a ∷ as') (each_some (map (named_tree prods) kids))) (named_tree prods x) ≡ Some (u ∷ us) =
          ap (option_and_then (λ a. option_map (λ as'. a ∷ as') (each_some (map (named_tree prods) kids)))) head.2.named
          ∙ ap (option_map (λ as'. u ∷ as')) tail.0 in
          (named ∙ ap Some same, subst HaveKinds same ((head.0, head.1, head.2.fitting), tail.1))

  all_fit : (i : ℕ) (ts : List Tree) (kids : List Kid) → HaveKinds ts → length ts ≡ length kids → first_unlike prods i ts kids ≡ None → each_fits prods (row ts) kids ≡ true
  all_fit i [] [] have number e = refl
  all_fit i [] (kid ∷ kids) have number e = absurd (omega arith)
  all_fit i (t ∷ ts) [] have number e = absurd (omega arith)
  all_fit i (t ∷ ts) (kid ∷ kids) have number e =
      by (all_fit (suc i) ts kids have.1 (omega arith)) (same_kind have.0.0 kid.kind) refl (ap (λ o. cond (is_of_kind kid.kind o) (first_unlike prods (suc i) ts kids) (Some i)) (sym have.0.1) ∙ e)
    where
      by : (first_unlike prods (suc i) ts kids ≡ None → each_fits prods (row ts) kids ≡ true) → (b : Bool) → same_kind have.0.0 kid.kind ≡ b → cond b (first_unlike prods (suc i) ts kids) (Some i) ≡ None → each_fits prods (row (t ∷ ts)) (kid ∷ kids) ≡ true
      by again true same h =
          let fitting : fits prods t kid.kind ≡ true = subst (λ kind. fits prods t kind ≡ true) (one_kind have.0.0 kid.kind same) have.0.2 in
          ap (λ b. b && each_fits prods (row ts) kids) fitting ∙ again h
      by again false same h = absurd (cc)

  node_found : (n : List ℕ) (kids : List RawTermTree) → Every Found kids → Found (v.Node n kids)
  node_found n kids every t e =
      by (production_number prods n) refl (each_ok (map (resolved prods) kids)) refl (sym (resolved_Node prods n kids) ∙ e)
    where
      made : (p : ℕ) (ts : List Tree) (q : Production) → production_number prods n ≡ Some p → each_ok (map (resolved prods) kids) ≡ Ok ts → slice_get prods p ≡ Some q → length ts ≡ length (kids_of prods p) → first_unlike prods 0 ts (kids_of prods p) ≡ None →
          (kind : Kind) × (kind_of prods (node p (row ts)) ≡ Some kind) × NamesFitting prods (v.Node n kids) (node p (row ts)) kind
      made p ts q number all there many like =
          let found = each_found kids every ts all in
          let left : is_left prods p (k.Sort q.left) ≡ true =
          ap (λ (o : Option Production). option_map_or (λ (r : Production). same_kind (k.Sort r.left) (k.Sort q.left)) o false) there
          ∙ own_kind (k.Sort q.left) in
          let below = all_fit 0 ts (kids_of prods p) found.1 many like in (
            k.Sort q.left,
            ap (option_map (λ (r : Production). k.Sort r.left)) there,
            record {
              named = named_tree-Node prods n kids
                  ∙ (ap (option_and_then (λ p'. option_map (λ us. node p' (row us)) (each_some (map (named_tree prods) kids)))) number
                  ∙ ap (option_map (λ us. node p (row us))) found.0);
              fitting = ap (λ b. b && each_fits prods (row ts) (kids_of prods p)) left ∙ below;
            },
          )

      liked : (p : ℕ) (ts : List Tree) (o : Option ℕ) → production_number prods n ≡ Some p → each_ok (map (resolved prods) kids) ≡ Ok ts → length ts ≡ length (kids_of prods p) → first_unlike prods 0 ts (kids_of prods p) ≡ o → unless_unlike n p ts o ≡ Ok t →
          (kind : Kind) × (kind_of prods t ≡ Some kind) × NamesFitting prods (v.Node n kids) t kind
      liked p ts None number all many like h =
          let same : node p (row ts) ≡ t = cc in
          let there = one_there prods p (number_below prods n p number) in
          subst (λ u. (kind : Kind) × (kind_of prods u ≡ Some kind) × NamesFitting prods (v.Node n kids) u kind) same (made p ts there.0 number all there.1 many like)
      liked p ts (Some i) number all many like h = absurd (cc)

      counted : (p : ℕ) (ts : List Tree) (b : Bool) → production_number prods n ≡ Some p → each_ok (map (resolved prods) kids) ≡ Ok ts → nat_eq (length ts) (length (kids_of prods p)) ≡ b → cond b (unless_unlike n p ts (first_unlike prods 0 ts (kids_of prods p))) (Err (fault.Arity n)) ≡ Ok t →
          (kind : Kind) × (kind_of prods t ≡ Some kind) × NamesFitting prods (v.Node n kids) t kind
      counted p ts true number all many h =
          liked p ts (first_unlike prods 0 ts (kids_of prods p)) number all (eqb-true (length ts) (length (kids_of prods p)) many) refl h
      counted p ts false number all many h = absurd (cc)

      by : (o : Option ℕ) → production_number prods n ≡ o → (r : Result (List Tree) TermFault) → each_ok (map (resolved prods) kids) ≡ r → and_then (node_of prods n o) r ≡ Ok t →
          (kind : Kind) × (kind_of prods t ≡ Some kind) × NamesFitting prods (v.Node n kids) t kind
      by None number (Err f) all h = absurd (cc)
      by None number (Ok ts) all h = absurd (cc)
      by (Some p) number (Err f) all h = absurd (cc)
      by (Some p) number (Ok ts) all h = counted p ts (nat_eq (length ts) (length (kids_of prods p))) number all refl h

  leaf_found : (raw : RawTermTree) (u : Tree) (kind : Kind) → resolved prods raw ≡ Ok u → named_tree prods raw ≡ Some u → kind_of prods u ≡ Some kind → fits prods u kind ≡ true → Found raw
  leaf_found raw u kind is named of_kind fitting t e =
      let same : u ≡ t = cc in
      subst (λ w. (kind' : Kind) × (kind_of prods w ≡ Some kind') × NamesFitting prods raw w kind') same (kind, of_kind, record { named = named; fitting = fitting })

  pub found_fits : (raw : RawTermTree) → Found raw
  found_fits =
      by_variant Found
      (λ i. leaf_found (v.Int i) (int i) k.Int (resolved_Int prods i) (named_tree-Int prods i) refl refl)
      (λ b. leaf_found (v.Bool b) (bool b) k.Bool (resolved_Bool prods b) (named_tree-Bool prods b) refl refl)
      (λ n. leaf_found (v.Name n) (name n) k.Name (resolved_Name prods n) (named_tree-Name prods n) refl refl)
      node_found

-- ---- what is named and fits is found

module _ (prods : List Production) where
  abbrev pub Fitting : RawTermTree → Type 0
  Fitting raw = (t : Tree) (kind : Kind) → NamesFitting prods raw t kind → (resolved prods raw ≡ Ok t) × (kind_of prods t ≡ Some kind)

  pub record EachFound (kids : List RawTermTree) (ts : List Tree) (i : ℕ) (needed : List Kid) : Type 0 where
    pub all : each_ok (map (resolved prods) kids) ≡ Ok ts
    pub many : length ts ≡ length needed
    pub like : first_unlike prods i ts needed ≡ None

  each_fitting : (kids : List RawTermTree) → Every Fitting kids → (ts : List Tree) (i : ℕ) (needed : List Kid) → each_some (map (named_tree prods) kids) ≡ Some ts → each_fits prods (row ts) needed ≡ true →
      EachFound kids ts i needed
  each_fitting [] every ts i needed e f =
      let same : [] ≡ ts = cc in
      subst (λ us. each_fits prods (row us) needed ≡ true → EachFound [] us i needed) same (empty needed) f
    where
      empty : (ks : List Kid) → each_fits prods none ks ≡ true → EachFound [] [] i ks
      empty [] g = record { all = refl; many = refl; like = refl }
      empty (kid ∷ ks) g = absurd (cc)
  each_fitting (x ∷ kids) every ts i needed e f =
      by (λ us ks rest g. each_fitting kids every.1 us (suc i) ks rest g) (named_tree prods x) refl (each_some (map (named_tree prods) kids)) refl e
    where
      here : ((us : List Tree) (ks : List Kid) → each_some (map (named_tree prods) kids) ≡ Some us → each_fits prods (row us) ks ≡ true → EachFound kids us (suc i) ks) → (u : Tree) (us : List Tree) (ks : List Kid) → named_tree prods x ≡ Some u → each_some (map (named_tree prods) kids) ≡ Some us → each_fits prods (more u (row us)) ks ≡ true → EachFound (x ∷ kids) (u ∷ us) i ks
      here again u us [] first rest g = absurd (cc)
      here again u us (kid ∷ ks) first rest g =
          let both = and_parts (fits prods u kid.kind) (each_fits prods (row us) ks) g in
          let head = every.0 u kid.kind (record { named = first; fitting = both.0 }) in
          let tail = again us ks rest both.1 in
          record {
            all = ap (and_then (λ a. map_ok (λ as'. a ∷ as') (each_ok (map (resolved prods) kids)))) head.0
                ∙ ap (map_ok (λ as'. u ∷ as')) tail.all;
            many = ap suc tail.many;
            like = ap (λ o. cond (is_of_kind kid.kind o) (first_unlike prods (suc i) us ks) (Some i)) head.1
                ∙ (ap (λ b. cond b (first_unlike prods (suc i) us ks) (Some i)) (own_kind kid.kind) ∙ tail.like);
          }

      by : ((us : List Tree) (ks : List Kid) → each_some (map (named_tree prods) kids) ≡ Some us → each_fits prods (row us) ks ≡ true → EachFound kids us (suc i) ks) → (o : Option Tree) → named_tree prods x ≡ o → (os : Option (List Tree)) → each_some (map (named_tree prods) kids) ≡ os → option_and_then (λ a. option_map (λ as'. a ∷ as') os) o ≡ Some ts → EachFound (x ∷ kids) ts i needed
      by again None first os rest h = absurd (cc)
      by again (Some u) first None rest h = absurd (cc)
      by again (Some u) first (Some us) rest h =
          let same : u ∷ us ≡ ts = cc in
          subst (λ ws. each_fits prods (row ws) needed ≡ true → EachFound (x ∷ kids) ws i needed) same (here again u us needed first rest) f

  node_fitting : (n : List ℕ) (kids : List RawTermTree) → Every Fitting kids → Fitting (v.Node n kids)
  node_fitting n kids every t kind are =
      by (production_number prods n) refl (each_some (map (named_tree prods) kids)) refl (sym (named_tree-Node prods n kids) ∙ are.named)
    where
      made : (p : ℕ) (ts : List Tree) (q : Production) → production_number prods n ≡ Some p → each_some (map (named_tree prods) kids) ≡ Some ts → slice_get prods p ≡ Some q → fits prods (node p (row ts)) kind ≡ true →
          (resolved prods (v.Node n kids) ≡ Ok (node p (row ts))) × (kind_of prods (node p (row ts)) ≡ Some kind)
      made p ts q number all there fitting =
          let both = and_parts (is_left prods p kind) (each_fits prods (row ts) (kids_of prods p)) fitting in
          let left : same_kind (k.Sort q.left) kind ≡ true =
          ap (λ (o : Option Production). option_map_or (λ (r : Production). same_kind (k.Sort r.left) kind) o false) (sym there) ∙ both.0 in
          let found = each_fitting kids every ts 0 (kids_of prods p) all both.1 in (
            resolved_Node prods n kids
                ∙ (ap (and_then (node_of prods n (production_number prods n))) found.all
                ∙ (ap (λ o. node_of prods n o ts) number
                ∙ (ap (λ b. cond b (unless_unlike n p ts (first_unlike prods 0 ts (kids_of prods p))) (Err (fault.Arity n))) (number_same (length ts) (length (kids_of prods p)) found.many)
                ∙ ap (unless_unlike n p ts) found.like))),
            ap (option_map (λ (r : Production). k.Sort r.left)) there ∙ ap Some (one_kind (k.Sort q.left) kind left),
          )

      by : (o : Option ℕ) → production_number prods n ≡ o → (r : Option (List Tree)) → each_some (map (named_tree prods) kids) ≡ r → option_and_then (λ p. option_map (λ us. node p (row us)) r) o ≡ Some t →
          (resolved prods (v.Node n kids) ≡ Ok t) × (kind_of prods t ≡ Some kind)
      by None number r all h = absurd (cc)
      by (Some p) number None all h = absurd (cc)
      by (Some p) number (Some ts) all h =
          let same : node p (row ts) ≡ t = cc in
          let there = one_there prods p (number_below prods n p number) in
          subst (λ u. (resolved prods (v.Node n kids) ≡ Ok u) × (kind_of prods u ≡ Some kind)) same
          (made p ts there.0 number all there.1 (subst (λ u. fits prods u kind ≡ true) (sym same) are.fitting))

  leaf_fitting : (raw : RawTermTree) (u : Tree) (own : Kind) → resolved prods raw ≡ Ok u → named_tree prods raw ≡ Some u → kind_of prods u ≡ Some own → ((kind : Kind) → fits prods u kind ≡ same_kind own kind) → Fitting raw
  leaf_fitting raw u own is named of_kind fitting t kind are =
      let same : u ≡ t = let h = are.named in cc in
      let one : own ≡ kind = one_kind own kind (sym (fitting kind) ∙ subst (λ w. fits prods w kind ≡ true) (sym same) are.fitting) in
      (is ∙ ap Ok same, subst (λ w. kind_of prods w ≡ Some kind) same (of_kind ∙ ap Some one))

  pub fitting_is_found : (raw : RawTermTree) → Fitting raw
  fitting_is_found =
      by_variant Fitting
      (λ i. leaf_fitting (v.Int i) (int i) k.Int (resolved_Int prods i) (named_tree-Int prods i) refl (λ kind. refl))
      (λ b. leaf_fitting (v.Bool b) (bool b) k.Bool (resolved_Bool prods b) (named_tree-Bool prods b) refl (λ kind. refl))
      (λ n. leaf_fitting (v.Name n) (name n) k.Name (resolved_Name prods n) (named_tree-Name prods n) refl (λ kind. refl))
      node_fitting

pub both_ways : FoundFits × FittingIsFound
both_ways = (found_fits, λ prods raw t kind are. fitting_is_found prods raw t kind are)
