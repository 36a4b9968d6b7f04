-- Sorts that are found have trees, and once no more is found, all that have trees are found.
use Rattle.std.proofs.Common.{◌≡◌, ℕ, inl, inr, ◌<◌, ◌⊎◌, length, get_or, set, not, cond, count_by, All, Bool, true, false, List, [], ◌∷◌, Option, None, Some, slice_get, nat_eq, pos, refl, sym, ap, subst, ◌∙◌, arith}
use Rattle.std.specs.List.{list_all}
use Rattle.std.specs.Option.{option_map_or}
use Rattle.std.proofs.lemmas.Bool.{and_parts, and_from, cases_eq, false≢true}
use Rattle.std.proofs.lemmas.List.{get_or-set_other}
use Rattle.std.proofs.lemmas.List.Sums.{sum_by-set}
use Rattle.std.proofs.lemmas.Option.{slice_get_within, get_or_from_slice_get}
use Rattle.lrc_base.specs.declared.grammar.Kind.{Kind}
use Rattle.lrc_base.specs.declared.grammar.Kind.TheVariants as k
use Rattle.lrc_base.specs.declared.grammar.Kid.{Kid}
use Rattle.lrc_base.specs.declared.grammar.Production.{Production}
use Rattle.lrc_meaning.specs.Tree.{Tree, int, bool, name, node, Trees, none, more, same_kind, kids_of, is_left, fits, each_fits}
use Rattle.lrc_syntax.specs.Trees.{HasTreeOf, HasTree, has_sort, has_kind, has_kid, IsClosed, Makes}

-- each sort that is found has a tree
abbrev pub Sound : List Production → List Bool → Type 0
Sound prods found = (s : ℕ) → has_sort found s ≡ true → HasTree prods s

of_kind : (prods : List Production) (found : List Bool) (kind : Kind) → Sound prods found → has_kind found kind ≡ true → HasTreeOf prods kind
of_kind prods found k.Int sound has = (int (pos 0), refl)
of_kind prods found k.Bool sound has = (bool true, refl)
of_kind prods found k.Name sound has = (name [], refl)
of_kind prods found (k.Sort s) sound has = sound s has

of_kids : (prods : List Production) (found : List Bool) (kids : List Kid) → Sound prods found → list_all (has_kid found) kids ≡ true → (ts : Trees) × (each_fits prods ts kids ≡ true)
of_kids prods found [] sound has = (none, refl)
of_kids prods found (kid ∷ kids) sound has =
    let both = and_parts (has_kid found kid) (list_all (has_kid found) kids) has in
    let first = of_kind prods found kid.kind sound both.0 in
    let rest = of_kids prods found kids sound both.1 in
    (more first.0 rest.0, and_from (fits prods first.0 kid.kind) (each_fits prods rest.0 kids) first.1 rest.1)

same_number : (n : ℕ) → nat_eq n n ≡ true
same_number n = grind arith

-- the sort that a production makes has a tree
pub made : (prods : List Production) (found : List Bool) (s : ℕ) → Sound prods found → Makes prods found s → HasTree prods s
made prods found s sound (p, q, at, kids, left) =
    let trees = of_kids prods found q.kids sound kids in
    let lefts : is_left prods p (k.Sort s) ≡ true = ap (λ o. option_map_or (λ (r : Production). same_kind (k.Sort r.left) (k.Sort s)) o false) at ∙ ap (λ n. nat_eq n s) left ∙ same_number s in
    let fit : each_fits prods trees.0 (kids_of prods p) ≡ true = ap (λ o. each_fits prods trees.0 (option_map_or (λ (r : Production). r.kids) o [])) at ∙ trees.1 in
    (node p trees.0, and_from (is_left prods p (k.Sort s)) (each_fits prods trees.0 (kids_of prods p)) lefts fit)

same_from : (a b : ℕ) → nat_eq a b ≡ true → a ≡ b
same_from a b h = grind arith

-- the sort on the left is found where it is this kind
left_kind : (found : List Bool) (q : Production) (kind : Kind) → same_kind (k.Sort q.left) kind ≡ true → has_sort found q.left ≡ true → has_kind found kind ≡ true
left_kind found q k.Int same has = absurd (false≢true same)
left_kind found q k.Bool same has = absurd (false≢true same)
left_kind found q k.Name same has = absurd (false≢true same)
left_kind found q (k.Sort s) same has = ap (has_sort found) (sym (same_from q.left s same)) ∙ has

leaf_kind : (found : List Bool) (leaf kind : Kind) → same_kind leaf kind ≡ true → has_kind found leaf ≡ true → has_kind found kind ≡ true
leaf_kind found k.Int k.Int same has = refl
leaf_kind found k.Int k.Bool same has = refl
leaf_kind found k.Int k.Name same has = refl
leaf_kind found k.Int (k.Sort s) same has = absurd (false≢true same)
leaf_kind found k.Bool k.Int same has = refl
leaf_kind found k.Bool k.Bool same has = refl
leaf_kind found k.Bool k.Name same has = refl
leaf_kind found k.Bool (k.Sort s) same has = absurd (false≢true same)
leaf_kind found k.Name k.Int same has = refl
leaf_kind found k.Name k.Bool same has = refl
leaf_kind found k.Name k.Name same has = refl
leaf_kind found k.Name (k.Sort s) same has = absurd (false≢true same)
leaf_kind found (k.Sort r) k.Int same has = refl
leaf_kind found (k.Sort r) k.Bool same has = refl
leaf_kind found (k.Sort r) k.Name same has = refl
leaf_kind found (k.Sort r) (k.Sort s) same has = ap (has_sort found) (sym (same_from r s same)) ∙ has

node_kind : (prods : List Production) (found : List Bool) (p : ℕ) (kind : Kind) (o : Option Production) → o ≡ slice_get prods p → IsClosed prods found
    → option_map_or (λ (q : Production). same_kind (k.Sort q.left) kind) o false ≡ true → list_all (has_kid found) (option_map_or (λ (q : Production). q.kids) o []) ≡ true → has_kind found kind ≡ true
node_kind prods found p kind None at closed left kids = absurd (false≢true left)
node_kind prods found p kind (Some q) at closed left kids = left_kind found q kind left (closed p q (sym at) kids)

mutual
  -- a kind of which there is a tree is found
  pub complete : (prods : List Production) (found : List Bool) (t : Tree) (kind : Kind) → IsClosed prods found → fits prods t kind ≡ true → has_kind found kind ≡ true
  complete prods found (int i) kind closed fit = leaf_kind found k.Int kind fit refl
  complete prods found (bool b) kind closed fit = leaf_kind found k.Bool kind fit refl
  complete prods found (name n) kind closed fit = leaf_kind found k.Name kind fit refl
  complete prods found (node p kids) kind closed fit =
      let both = and_parts (is_left prods p kind) (each_fits prods kids (kids_of prods p)) fit in
      node_kind prods found p kind (slice_get prods p) refl closed both.0 (complete_each prods found kids (kids_of prods p) closed both.1)

  complete_each : (prods : List Production) (found : List Bool) (ts : Trees) (kids : List Kid) → IsClosed prods found → each_fits prods ts kids ≡ true → list_all (has_kid found) kids ≡ true
  complete_each prods found none [] closed fit = refl
  complete_each prods found none (kid ∷ kids) closed fit = absurd (false≢true fit)
  complete_each prods found (more t ts) [] closed fit = absurd (false≢true fit)
  complete_each prods found (more t ts) (kid ∷ kids) closed fit =
      let both = and_parts (fits prods t kid.kind) (each_fits prods ts kids) fit in
      and_from (has_kid found kid) (list_all (has_kid found) kids) (complete prods found t kid.kind closed both.0) (complete_each prods found ts kids closed both.1)

-- ---- one more sort is found

pub sound_more : (prods : List Production) (found : List Bool) (s : ℕ) → Sound prods found → HasTree prods s → Sound prods (set found s true)
sound_more prods found s sound tree r has = by_cases (cases_eq r s)
  where
    by_cases : (r ≡ s) ⊎ (r ≡ s → ⊥) → HasTree prods r
    by_cases (inl e) = subst (HasTree prods) (sym e) tree
    by_cases (inr other) = sound r (sym (get_or-set_other found s r true false other) ∙ has)

-- 1 of a sort that is not found yet
abbrev missing : Bool → ℕ
missing b = cond (not b) 1 0

pub fewer : (found : List Bool) (s : ℕ) → s < length found → has_sort found s ≡ false → count_by not (set found s true) < count_by not found
fewer found s lt no_tree =
    let e = sum_by-set missing found s true false lt in
    let f : missing (get_or found s false) ≡ 1 = ap missing no_tree in
    omega (arith, e, f)

pub makes_below : (prods : List Production) (found : List Bool) (sorts s : ℕ) → All (λ (q : Production). q.left < sorts) prods → Makes prods found s → s < sorts
makes_below prods found sorts s lefts (p, q, at, kids, left) =
    let lt = slice_get_within prods p q at in
    let below : q.left < sorts = subst (λ (r : Production). r.left < sorts) (get_or_from_slice_get prods p q q at) (lefts p q lt) in
    omega (arith, below, left)
