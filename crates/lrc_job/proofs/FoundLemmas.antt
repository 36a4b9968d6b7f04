-- Terms that are found item by item: one item more, what a fault becomes, and kinds.
use Rattle.std.proofs.Common.{◌≡◌, ℕ, zero, suc, ℤ, ◌≢◌, ◌+◌, ◌-◌, ◌<◌, ◌≤◌, Bool, true, false, cond, List, [], ◌∷◌, ◌++◌, length, map, take, drop, get_or, slice_get, nat_eq, Option, Some, None, Result, Ok, Err, refl, sym, ap, ◌∙◌, subst, arith, OnOk, IfErr, IsErrAnd}
use Rattle.std.specs.Prelude.{option_map}
use Rattle.std.proofs.lemmas.List.{length-map, map-append, length-drop}
use Rattle.lrc_base.specs.declared.grammar.Kind.{Kind}
use Rattle.lrc_base.specs.declared.grammar.Kind.TheVariants as k
use Rattle.lrc_base.specs.declared.grammar.Kid.{Kid}
use Rattle.lrc_base.specs.declared.grammar.Production.{Production}
use Rattle.lrc_base.specs.declared.item.RawTermItem.{RawTermItem}
use Rattle.lrc_base.specs.declared.item.RawTermItem.TheVariants as i
use Rattle.lrc_base.specs.declared.item.TermItem.TheVariants as ti
use Rattle.lrc_base.specs.declared.raw_term.RawTermTree.{RawTermTree}
use Rattle.lrc_base.specs.declared.raw_term.RawTermTree.TheVariants as v
use Rattle.lrc_base.specs.declared.term.TermTree.{TermTree}
use Rattle.lrc_base.specs.Forest.{grow}
use Rattle.lrc_base.specs.Terms.{grown}
use Rattle.lrc_base.specs.RawTerms.{raw_forest, raw_grown, raw_wanted, RawFits}
use Rattle.lrc_base.proofs.ForestLemmas.{map_joined}
use Rattle.lrc_base.proofs.RawItemLemmas.{raw_forest_next, raw_wanted_at}
use Rattle.lrc_meaning.specs.Tree.{Tree, int, bool, name, node, row, tree, same_kind, kids_of, kind_of}
use Rattle.lrc_meaning.specs.Naming.{production_number}
use Rattle.lrc_meaning.proofs.ItemLemmas.{trees_grown}
use Rattle.lrc_job.specs.declared.term_fault.TermFault.{TermFault}
use Rattle.lrc_job.specs.declared.term_fault.TermFault.TheVariants as fault
use Rattle.lrc_job.specs.Resolved.{and_then, map_ok, each_ok, is_of_kind, first_unlike, unless_unlike, node_of, resolved}
use Rattle.lrc_job.specs.Found.{found_with, AreKinds, first_unlike_kind, unless_unlike_kind, production_over}
use Rattle.lrc_job.proofs.ResolvedLemmas.{resolved_Int, resolved_Bool, resolved_Name, resolved_Node}

-- ---- lists

map_take : {A B : Type 0} (f : A → B) (n : ℕ) (xs : List A) → map f (take n xs) ≡ take n (map f xs)
map_take f zero xs = refl
map_take f (suc n) [] = refl
map_take f (suc n) (x ∷ xs) = ap (λ ys. f x ∷ ys) (map_take f n xs)

map_drop : {A B : Type 0} (f : A → B) (n : ℕ) (xs : List A) → map f (drop n xs) ≡ drop n (map f xs)
map_drop f zero xs = refl
map_drop f (suc n) [] = refl
map_drop f (suc n) (x ∷ xs) = map_drop f n xs

take_length : {A : Type 0} (xs : List A) → take (length xs) xs ≡ xs
take_length [] = refl
take_length (x ∷ xs) = ap (λ ys. x ∷ ys) (take_length xs)

take_all : {A : Type 0} (xs : List A) → take (length xs - 0) xs ≡ xs
take_all xs = let none : length xs - 0 ≡ length xs = omega arith in ap (λ n. take n xs) none ∙ take_length xs

-- a slice up to the end
take_drop : {A : Type 0} (n : ℕ) (xs : List A) → take (length xs - n) (drop n xs) ≡ drop n xs
take_drop n xs = ap (λ m. take m (drop n xs)) (sym (length-drop n xs)) ∙ take_length (drop n xs)

-- ---- each of a list, or the first fault among them

module _ {A E : Type 0} where
  behind_ok : (a : A) (n : ℕ) (r : Result (List A) E) → ((vs : List A) → r ≡ Ok vs → length vs ≡ n) → (us : List A) → map_ok (λ as'. a ∷ as') r ≡ Ok us → length us ≡ suc n
  behind_ok a n (Ok vs) again us e = let same : a ∷ vs ≡ us = cc in ap length (sym same) ∙ ap suc (again vs refl)
  behind_ok a n (Err f) again us e = absurd (cc)

  ok_length : (rs : List (Result A E)) (us : List A) → each_ok rs ≡ Ok us → length us ≡ length rs
  ok_length [] us e = let same : [] ≡ us = cc in ap length (sym same)
  ok_length (Ok a ∷ rs) us e = behind_ok a (length rs) (each_ok rs) (λ vs h. ok_length rs vs h) us e
  ok_length (Err f ∷ rs) us e = absurd (cc)

  leaf_behind : (a x : A) (r : Result (List A) E) → map_ok (λ as'. a ∷ as') (and_then (λ us. Ok (us ++ x ∷ [])) r) ≡ and_then (λ us. Ok (us ++ x ∷ [])) (map_ok (λ as'. a ∷ as') r)
  leaf_behind a x (Ok us) = refl
  leaf_behind a x (Err f) = refl

  -- with one that is there
  each_leaf : (x : A) (rs : List (Result A E)) → each_ok (rs ++ Ok x ∷ []) ≡ and_then (λ us. Ok (us ++ x ∷ [])) (each_ok rs)
  each_leaf x [] = refl
  each_leaf x (Ok a ∷ rs) = ap (map_ok (λ as'. a ∷ as')) (each_leaf x rs) ∙ leaf_behind a x (each_ok rs)
  each_leaf x (Err f ∷ rs) = refl

  -- those behind the first m become one, or a fault
  abbrev last_joined : ℕ → (List A → Result A E) → List A → Result (List A) E
  last_joined m f us = map_ok (λ t. take m us ++ t ∷ []) (f (drop m us))

  alone : (r : Result A E) → and_then (λ a. Ok (a ∷ [])) r ≡ map_ok (λ t. t ∷ []) r
  alone (Ok a) = refl
  alone (Err e) = refl

  all_joined : (f : List A → Result A E) (r : Result (List A) E) → and_then (λ a. Ok (a ∷ [])) (and_then f r) ≡ and_then (last_joined 0 f) r
  all_joined f (Ok us) = alone (f us)
  all_joined f (Err e) = refl

  one_before : (a : A) (m : ℕ) (us : List A) (r : Result A E) → map_ok (λ as'. a ∷ as') (map_ok (λ t. take m us ++ t ∷ []) r) ≡ map_ok (λ t. take (suc m) (a ∷ us) ++ t ∷ []) r
  one_before a m us (Ok t) = refl
  one_before a m us (Err e) = refl

  joined_behind : (a : A) (m : ℕ) (f : List A → Result A E) (r : Result (List A) E) → map_ok (λ as'. a ∷ as') (and_then (last_joined m f) r) ≡ and_then (last_joined (suc m) f) (map_ok (λ as'. a ∷ as') r)
  joined_behind a m f (Ok us) = one_before a m us (f (drop m us))
  joined_behind a m f (Err e) = refl

  each_joined : (m : ℕ) (f : List A → Result A E) (rs : List (Result A E)) → each_ok (take m rs ++ and_then f (each_ok (drop m rs)) ∷ []) ≡ and_then (last_joined m f) (each_ok rs)
  each_joined zero f rs = all_joined f (each_ok rs)
  each_joined (suc m) f [] = alone (f [])
  each_joined (suc m) f (Ok a ∷ rs) = ap (map_ok (λ as'. a ∷ as')) (each_joined m f rs) ∙ joined_behind a m f (each_ok rs)
  each_joined (suc m) f (Err e ∷ rs) = refl

  counted_by : (f : List A → Result A E) (count n : ℕ) (r : Result (List A) E) → ((us : List A) → r ≡ Ok us → length us ≡ n) →
      and_then (last_joined (n - count) f) r ≡ and_then (λ us. last_joined (length us - count) f us) r
  counted_by f count n (Ok us) many = ap (λ m. last_joined (m - count) f us) (sym (many us refl))
  counted_by f count n (Err e) many = refl

  lone_ok : (r : Result A E) (us : List A) → each_ok (r ∷ []) ≡ Ok us → (u : A) × (r ≡ Ok u) × (us ≡ u ∷ [])
  lone_ok (Ok u) us e = let same : us ≡ u ∷ [] = cc in (u, refl, same)
  lone_ok (Err f) us e = absurd (cc)

-- ---- item by item

module _ (prods : List Production) where
  each_with : (ts : List RawTermTree) (item : RawTermItem) → each_ok (map (resolved prods) (raw_grown ts item)) ≡ and_then (λ us. found_with prods us item) (each_ok (map (resolved prods) ts))
  each_with ts (i.Int x) = ap each_ok (map-append (resolved prods) ts (v.Int x ∷ []) ∙ ap (λ r. map (resolved prods) ts ++ r ∷ []) (resolved_Int prods x)) ∙ each_leaf (int x) (map (resolved prods) ts)
  each_with ts (i.Bool b) = ap each_ok (map-append (resolved prods) ts (v.Bool b ∷ []) ∙ ap (λ r. map (resolved prods) ts ++ r ∷ []) (resolved_Bool prods b)) ∙ each_leaf (bool b) (map (resolved prods) ts)
  each_with ts (i.Name n) = ap each_ok (map-append (resolved prods) ts (v.Name n ∷ []) ∙ ap (λ r. map (resolved prods) ts ++ r ∷ []) (resolved_Name prods n)) ∙ each_leaf (name n) (map (resolved prods) ts)
  each_with ts (i.Node n count) =
      ap each_ok (map_joined (resolved prods) (v.Node n) (λ rs. and_then (node_of prods n (production_number prods n)) (each_ok rs)) count ts (resolved_Node prods n))
      ∙ (each_joined (length (map (resolved prods) ts) - count) (node_of prods n (production_number prods n)) (map (resolved prods) ts)
      ∙ counted_by (node_of prods n (production_number prods n)) count (length (map (resolved prods) ts)) (each_ok (map (resolved prods) ts)) (λ us h. ok_length (map (resolved prods) ts) us h))

  -- a fault stays the first
  fault_stays : (is : List RawTermItem) (ts : List RawTermTree) (e : TermFault) → each_ok (map (resolved prods) ts) ≡ Err e → each_ok (map (resolved prods) (grow raw_wanted raw_grown ts is)) ≡ Err e
  fault_stays [] ts e h = h
  fault_stays (x ∷ is) ts e h = fault_stays is (raw_grown ts x) e (each_with ts x ∙ ap (and_then (λ us. found_with prods us x)) h)

  grow_rest : (is : List RawTermItem) (n : ℕ) (ts : List RawTermTree) → grow raw_wanted raw_grown ts is ≡ grow raw_wanted raw_grown (grow raw_wanted raw_grown ts (take n is)) (drop n is)
  grow_rest [] zero ts = refl
  grow_rest [] (suc n) ts = refl
  grow_rest (x ∷ is) zero ts = refl
  grow_rest (x ∷ is) (suc n) ts = grow_rest is n (raw_grown ts x)

  pub found_none : each_ok (map (resolved prods) (raw_forest [])) ≡ Ok []
  unfolding raw_forest
  found_none = refl

  -- with the item at a place
  pub found_next : (is : List RawTermItem) (n : ℕ) (item : RawTermItem) (us : List Tree) → n < length is → item ≡ get_or is n item → each_ok (map (resolved prods) (raw_forest (take n is))) ≡ Ok us →
      each_ok (map (resolved prods) (raw_forest (take (n + 1) is))) ≡ found_with prods us item
  found_next is n item us below at so_far =
      ap (λ ts. each_ok (map (resolved prods) ts)) (raw_forest_next is n item below at)
      ∙ (each_with (raw_forest (take n is)) item ∙ ap (and_then (λ ws. found_with prods ws item)) so_far)

  -- its fault is that of all items
  pub fault_at : (is : List RawTermItem) (n : ℕ) (item : RawTermItem) (us : List Tree) (e : TermFault) → n < length is → item ≡ get_or is n item → each_ok (map (resolved prods) (raw_forest (take n is))) ≡ Ok us → found_with prods us item ≡ Err e →
      each_ok (map (resolved prods) (raw_forest is)) ≡ Err e
  unfolding raw_forest
  fault_at is n item us e below at so_far wrong =
      ap (λ ts. each_ok (map (resolved prods) ts)) (grow_rest is (n + 1) [])
      ∙ fault_stays (drop (n + 1) is) (raw_forest (take (n + 1) is)) e (found_next is n item us below at so_far ∙ wrong)

  -- it finds as many trees as it takes
  pub room_at : (is : List RawTermItem) (n : ℕ) (item : RawTermItem) (ts : List TermTree) → RawFits is → n < length is → item ≡ get_or is n item → each_ok (map (resolved prods) (raw_forest (take n is))) ≡ Ok (map tree ts) →
      raw_wanted item ≤ length ts
  room_at is n item ts fits below at so_far =
      let many : length ts ≡ length (raw_forest (take n is)) = sym (length-map ts tree) ∙ (ok_length (map (resolved prods) (raw_forest (take n is))) (map tree ts) so_far ∙ length-map (raw_forest (take n is)) (resolved prods)) in
      subst (λ m. raw_wanted item ≤ m) (sym many) (raw_wanted_at is n item fits below at)

-- ---- kinds

module _ (prods : List Production) where
  kinds_length : (us : List Tree) (kinds : List Kind) → AreKinds prods us kinds → length kinds ≡ length us
  kinds_length us kinds are = sym (length-map kinds (λ kind. Some kind)) ∙ (ap length (sym are) ∙ length-map us (kind_of prods))

  kinds_drop : (m : ℕ) (us : List Tree) (kinds : List Kind) → AreKinds prods us kinds → AreKinds prods (drop m us) (drop m kinds)
  kinds_drop m us kinds are = map_drop (kind_of prods) m us ∙ (ap (drop m) are ∙ sym (map_drop (λ kind. Some kind) m kinds))

  kinds_take : (m : ℕ) (us : List Tree) (kinds : List Kind) → AreKinds prods us kinds → AreKinds prods (take m us) (take m kinds)
  kinds_take m us kinds are = map_take (kind_of prods) m us ∙ (ap (take m) are ∙ sym (map_take (λ kind. Some kind) m kinds))

  kinds_more : (us : List Tree) (kinds : List Kind) (u : Tree) (kind : Kind) → AreKinds prods us kinds → kind_of prods u ≡ Some kind → AreKinds prods (us ++ u ∷ []) (kinds ++ kind ∷ [])
  kinds_more us kinds u kind are one =
      map-append (kind_of prods) us (u ∷ [])
      ∙ (ap (λ o. map (kind_of prods) us ++ o ∷ []) one
      ∙ (ap (λ os. os ++ Some kind ∷ []) are ∙ sym (map-append (λ x. Some x) kinds (kind ∷ []))))

  unlike_kind : (n : ℕ) (us : List Tree) (kinds : List Kind) (kids : List Kid) → AreKinds prods us kinds → first_unlike prods n us kids ≡ first_unlike_kind n kinds kids
  unlike_kind n [] [] kids are = refl
  unlike_kind n [] (x ∷ xs) kids are = absurd (cc)
  unlike_kind n (u ∷ us) [] kids are = absurd (cc)
  unlike_kind n (u ∷ us) (x ∷ xs) [] are = refl
  unlike_kind n (u ∷ us) (x ∷ xs) (kid ∷ kids) are =
      let one : kind_of prods u ≡ Some x = cc in
      let rest : AreKinds prods us xs = cc in
      ap (λ o. cond (is_of_kind kid.kind o) (first_unlike prods (suc n) us kids) (Some n)) one
      ∙ ap (λ o. cond (same_kind x kid.kind) o (Some n)) (unlike_kind (suc n) us xs kids rest)

  chosen : (n : List ℕ) (p : ℕ) (us : List Tree) (b : Bool) (o : Option ℕ) →
      cond b (unless_unlike n p us o) (Err (fault.Arity n)) ≡ map_ok (λ q. node q (row us)) (cond b (unless_unlike_kind n p o) (Err (fault.Arity n)))
  chosen n p us true None = refl
  chosen n p us true (Some i) = refl
  chosen n p us false o = refl

  -- a node is found by the kinds of its children
  node_over : (n : List ℕ) (o : Option ℕ) (us : List Tree) (kinds : List Kind) → AreKinds prods us kinds → node_of prods n o us ≡ map_ok (λ p. node p (row us)) (production_over prods n o kinds)
  node_over n None us kinds are = refl
  node_over n (Some p) us kinds are =
      ap (λ m. cond (nat_eq m (length (kids_of prods p))) (unless_unlike n p us (first_unlike prods 0 us (kids_of prods p))) (Err (fault.Arity n))) (sym (kinds_length us kinds are))
      ∙ (ap (λ o. cond (nat_eq (length kinds) (length (kids_of prods p))) (unless_unlike n p us o) (Err (fault.Arity n))) (unlike_kind 0 us kinds (kids_of prods p) are)
      ∙ chosen n p us (nat_eq (length kinds) (length (kids_of prods p))) (first_unlike_kind 0 kinds (kids_of prods p)))

  -- the kinds of the children that a node takes
  pub record IsNodeOver (ts : List TermTree) (kinds : List Kind) (n : List ℕ) (count : ℕ) (found : Result ℕ TermFault) : Type 0 where
    pub are : AreKinds prods (map tree ts) kinds
    pub over : production_over prods n (production_number prods n) (drop (length kinds - count) kinds) ≡ found

  pub node_of_slice : (ts : List TermTree) (kinds some : List Kind) (n : List ℕ) (len count : ℕ) (found : Result ℕ TermFault) → AreKinds prods (map tree ts) kinds → some ≡ kinds → len ≡ length kinds
      → production_over prods n (production_number prods n) (take (length some - (len - count)) (drop (len - count) some)) ≡ found → IsNodeOver ts kinds n count found
  node_of_slice ts kinds some n len count found are same many over =
      let last : take (length some - (len - count)) (drop (len - count) some) ≡ drop (length kinds - count) kinds = take_drop (len - count) some ∙ (ap (drop (len - count)) same ∙ ap (λ l. drop (l - count) kinds) many) in
      record { are = are; over = ap (production_over prods n (production_number prods n)) (sym last) ∙ over }

  node_with : (ts : List TermTree) (kinds : List Kind) (n : List ℕ) (count : ℕ) (found : Result ℕ TermFault) → IsNodeOver ts kinds n count found →
      found_with prods (map tree ts) (i.Node n count)
      ≡ map_ok (λ u. take (length (map tree ts) - count) (map tree ts) ++ u ∷ []) (map_ok (λ p. node p (row (drop (length (map tree ts) - count) (map tree ts)))) found)
  node_with ts kinds n count found is =
      let us : List Tree = map tree ts in
      let m : ℕ = length us - count in
      let over : production_over prods n (production_number prods n) (drop m kinds) ≡ found = ap (λ l. production_over prods n (production_number prods n) (drop (l - count) kinds)) (sym (kinds_length us kinds is.are)) ∙ is.over in
      ap (map_ok (λ u. take m us ++ u ∷ [])) (node_over n (production_number prods n) (drop m us) (drop m kinds) (kinds_drop m us kinds is.are) ∙ ap (map_ok (λ p. node p (row (drop m us)))) over)

  pub node_added : (ts : List TermTree) (kinds : List Kind) (n : List ℕ) (count p : ℕ) → IsNodeOver ts kinds n count (Ok p) → found_with prods (map tree ts) (i.Node n count) ≡ Ok (map tree (grown ts (ti.Node p count)))
  node_added ts kinds n count p is = node_with ts kinds n count (Ok p) is ∙ ap Ok (sym (trees_grown ts (ti.Node p count)))

  pub node_at_fault : (ts : List TermTree) (kinds : List Kind) (n : List ℕ) (count : ℕ) (f : TermFault) → IsNodeOver ts kinds n count (Err f) → found_with prods (map tree ts) (i.Node n count) ≡ Err f
  node_at_fault ts kinds n count f is = node_with ts kinds n count (Err f) is

  pub node_kinds : (ts : List TermTree) (kinds : List Kind) (count p : ℕ) (kind : Kind) → AreKinds prods (map tree ts) kinds → option_map (λ (q : Production). k.Sort q.left) (slice_get prods p) ≡ Some kind →
      AreKinds prods (map tree (grown ts (ti.Node p count))) (take (length kinds - count) kinds ++ kind ∷ [])
  node_kinds ts kinds count p kind are left =
      let us : List Tree = map tree ts in
      let m : ℕ = length us - count in
      let more : AreKinds prods (take m us ++ node p (row (drop m us)) ∷ []) (take m kinds ++ kind ∷ []) = kinds_more (take m us) (take m kinds) (node p (row (drop m us))) kind (kinds_take m us kinds are) left in
      subst (λ ws. AreKinds prods ws (take (length kinds - count) kinds ++ kind ∷ [])) (sym (trees_grown ts (ti.Node p count)))
      (subst (λ l. AreKinds prods (take m us ++ node p (row (drop m us)) ∷ []) (take (l - count) kinds ++ kind ∷ [])) (sym (kinds_length us kinds are)) more)

  -- a leaf is of its own kind
  leaf_kinds : (us : List Tree) (kinds : List Kind) (u : Tree) (kind : Kind) → AreKinds prods us kinds → kind_of prods u ≡ Some kind → AreKinds prods (us ++ u ∷ []) (take (length kinds - 0) kinds ++ kind ∷ [])
  leaf_kinds us kinds u kind are one = subst (λ xs. AreKinds prods (us ++ u ∷ []) (xs ++ kind ∷ [])) (sym (take_all kinds)) (kinds_more us kinds u kind are one)

  pub int_kinds : (ts : List TermTree) (kinds : List Kind) (x : ℤ) → AreKinds prods (map tree ts) kinds → AreKinds prods (map tree (grown ts (ti.Int x))) (take (length kinds - 0) kinds ++ k.Int ∷ [])
  int_kinds ts kinds x are = subst (λ ws. AreKinds prods ws (take (length kinds - 0) kinds ++ k.Int ∷ [])) (sym (trees_grown ts (ti.Int x))) (leaf_kinds (map tree ts) kinds (int x) k.Int are refl)

  pub bool_kinds : (ts : List TermTree) (kinds : List Kind) (b : Bool) → AreKinds prods (map tree ts) kinds → AreKinds prods (map tree (grown ts (ti.Bool b))) (take (length kinds - 0) kinds ++ k.Bool ∷ [])
  bool_kinds ts kinds b are = subst (λ ws. AreKinds prods ws (take (length kinds - 0) kinds ++ k.Bool ∷ [])) (sym (trees_grown ts (ti.Bool b))) (leaf_kinds (map tree ts) kinds (bool b) k.Bool are refl)

  pub name_kinds : (ts : List TermTree) (kinds : List Kind) (n : List ℕ) → AreKinds prods (map tree ts) kinds → AreKinds prods (map tree (grown ts (ti.Name n))) (take (length kinds - 0) kinds ++ k.Name ∷ [])
  name_kinds ts kinds n are = subst (λ ws. AreKinds prods ws (take (length kinds - 0) kinds ++ k.Name ∷ [])) (sym (trees_grown ts (ti.Name n))) (leaf_kinds (map tree ts) kinds (name n) k.Name are refl)

-- ---- what is pushed

pub pushed : {A : Type 0} (r : Result A TermFault) (found : Result (List Tree) TermFault) (ts new : List TermTree) → found ≡ Ok (map tree ts) → OnOk r (new ≡ ts) → OnOk r (found ≡ Ok (map tree new))
pushed (Ok a) found ts new is same = is ∙ ap (λ us. Ok (map tree us)) (sym same)
pushed (Err f) found ts new is same = tt

pub pushed_kinds : {A : Type 0} (prods : List Production) (r : Result A TermFault) (ts new : List TermTree) (kinds more : List Kind) → AreKinds prods (map tree ts) kinds → OnOk r (new ≡ ts) → OnOk r (more ≡ kinds) →
    OnOk r (AreKinds prods (map tree new) more)
pushed_kinds prods (Ok a) ts new kinds more are same same' = subst (λ us. AreKinds prods (map tree us) more) (sym same) (subst (AreKinds prods (map tree ts)) (sym same') are)
pushed_kinds prods (Err f) ts new kinds more are same same' = tt

pub only_memory : {A : Type 0} (r : Result A TermFault) (found : Result (List Tree) TermFault) → IfErr r (λ f. f ≡ fault.Memory) → IfErr r (λ f. f ≢ fault.Memory → found ≡ Err f)
only_memory (Ok a) found memory = tt
only_memory (Err f) found memory = λ other. absurd (other memory)

pub told : {A B : Type 0} (r : Result A TermFault) (found : Result B TermFault) (f : TermFault) → IsErrAnd r (λ g. g ≡ f) → (f ≢ fault.Memory → found ≡ Err f) → IfErr r (λ g. g ≢ fault.Memory → found ≡ Err g)
told (Ok a) found f is wrong = tt
told (Err g) found f is wrong = λ other. wrong (subst (λ h. h ≢ fault.Memory) is other) ∙ ap Err (sym is)

pub found_nothing : (prods : List Production) (ts : List TermTree) (kinds : List Kind) → ts ≡ [] → kinds ≡ [] → AreKinds prods (map tree ts) kinds
found_nothing prods ts kinds e f = subst (λ us. AreKinds prods (map tree us) kinds) (sym e) (subst (AreKinds prods []) (sym f) refl)

-- ---- the one term

module _ (prods : List Production) (raw : RawTermTree) (items : List RawTermItem) (ts : List TermTree) (one : raw_forest items ≡ raw ∷ []) where
  lone_tree : each_ok (map (resolved prods) (raw_forest items)) ≡ Ok (map tree ts) → (u : Tree) × (resolved prods raw ≡ Ok u) × (map tree ts ≡ u ∷ [])
  lone_tree found = lone_ok (resolved prods raw) (map tree ts) (ap (λ rs. each_ok (map (resolved prods) rs)) (sym one) ∙ found)

  pub term_found : (term : TermTree) → ts ≡ term ∷ [] → each_ok (map (resolved prods) (raw_forest items)) ≡ Ok (map tree ts) → resolved prods raw ≡ Ok (tree term)
  term_found term only found =
      let u : Tree = (lone_tree found).0 in
      let all : tree term ∷ [] ≡ u ∷ [] = ap (map tree) (sym only) ∙ (lone_tree found).2 in
      let same : tree term ≡ u = cc in
      (lone_tree found).1 ∙ ap Ok (sym same)

pub one_kind_found : (prods : List Production) (ts : List TermTree) (kinds : List Kind) (term : TermTree) (d : Kind) → AreKinds prods (map tree ts) kinds → ts ≡ term ∷ [] → kind_of prods (tree term) ≡ Some (get_or kinds 0 d)
one_kind_found prods ts [] term d are only = absurd (let none : map (kind_of prods) (map tree (term ∷ [])) ≡ [] = ap (λ us. map (kind_of prods) (map tree us)) (sym only) ∙ are in cc)
one_kind_found prods ts (kind ∷ kinds) term d are only =
    let all : map (kind_of prods) (map tree (term ∷ [])) ≡ Some kind ∷ map (λ x. Some x) kinds = ap (λ us. map (kind_of prods) (map tree us)) (sym only) ∙ are in cc
