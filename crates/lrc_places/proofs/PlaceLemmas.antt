-- What stands at a place and what is put there, step by step: their parts, names, heights, productions and numbers of children.
use Rattle.std.proofs.Common.{◌≡◌, ℕ, zero, suc, ◌+◌, ◌≤◌, nat_lt, nat_le, List, [], ◌∷◌, length, Option, Some, IsTrue, slice_get, refl, ap, subst, arith}
use Rattle.std.specs.Prelude.{All}
use Rattle.std.specs.Option.{option_map_or}
use Rattle.std.proofs.lemmas.Bool.{and_parts, and_from, false≢true, lt-ltb, le-leb}
use Rattle.std.proofs.lemmas.Option.{same_Some, slice_get_within, get_or_from_slice_get}
use Rattle.lrc_base.specs.declared.grammar.Kid.{Kid}
use Rattle.lrc_base.specs.declared.grammar.Kind.{Kind}
use Rattle.lrc_base.specs.declared.grammar.Production.{Production}
use Rattle.lrc_base.specs.declared.limits.TheConstants.{CHILD_LIMIT}
use Rattle.lrc_meaning.specs.Tree.{Tree, int, bool, name, node, Trees, none, more, in_order, is_left, kids_of, fits, each_fits, tree_height, tallest, at_place, among, replaced, replaced_among}
use Rattle.lrc_meaning.specs.Limits.{IsFew}
use Rattle.lrc_meaning.proofs.KindLemmas.{left_kind}
use Rattle.lrc_store.specs.Cells.{nil, parts, IsWithin}
use Rattle.lrc_code.specs.Forms.{tree_cell, are_productions_below, are_kids_below, are_kids_few, are_all_few, EachName, EachNameBelow}
use Rattle.lrc_code.proofs.Growing.{left-within, right-within}
use Rattle.lrc_places.specs.Places.{kids_cell}

-- ---- what is put is there

mutual
  pub placed : (t u old : Tree) (steps : List ℕ) → at_place t steps ≡ Some old → at_place (replaced t steps u) steps ≡ Some u
  placed t u old [] e = refl
  placed (int i) u old (s ∷ steps) e = absurd (cc)
  placed (bool b) u old (s ∷ steps) e = absurd (cc)
  placed (name n) u old (s ∷ steps) e = absurd (cc)
  placed (node p kids) u old (s ∷ steps) e = placed-among kids u old s steps e

  placed-among : (ts : Trees) (u old : Tree) (s : ℕ) (steps : List ℕ) → among ts s steps ≡ Some old → among (replaced_among ts s steps u) s steps ≡ Some u
  placed-among none u old s steps e = absurd (cc)
  placed-among (more t ts) u old zero steps e = placed t u old steps e
  placed-among (more t ts) u old (suc s) steps e = placed-among ts u old s steps e

-- ---- parts

mutual
  pub within-place : (t u : Tree) (steps : List ℕ) → at_place t steps ≡ Some u → IsWithin (parts (tree_cell u)) (parts (tree_cell t))
  within-place t u [] e = subst (λ w. IsWithin (parts (tree_cell w)) (parts (tree_cell t))) (same_Some t u e) (λ c h. h)
  within-place (int i) u (s ∷ steps) e = absurd (cc)
  within-place (bool b) u (s ∷ steps) e = absurd (cc)
  within-place (name n) u (s ∷ steps) e = absurd (cc)
  within-place (node p kids) u (s ∷ steps) e = λ c h. left-within (256 + p) (kids_cell kids) nil c (within-among kids u s steps e c h)

  within-among : (ts : Trees) (u : Tree) (s : ℕ) (steps : List ℕ) → among ts s steps ≡ Some u → IsWithin (parts (tree_cell u)) (parts (kids_cell ts))
  within-among none u s steps e = absurd (cc)
  within-among (more t ts) u zero steps e = λ c h. left-within 4 (tree_cell t) (kids_cell ts) c (within-place t u steps e c h)
  within-among (more t ts) u (suc s) steps e = λ c h. right-within 4 (tree_cell t) (kids_cell ts) c (within-among ts u s steps e c h)

-- ---- heights

mutual
  pub no-higher : (t u : Tree) (steps : List ℕ) → at_place t steps ≡ Some u → tree_height u ≤ tree_height t
  no-higher t u [] e = let same = ap tree_height (same_Some t u e) in omega (arith, same)
  no-higher (int i) u (s ∷ steps) e = absurd (cc)
  no-higher (bool b) u (s ∷ steps) e = absurd (cc)
  no-higher (name n) u (s ∷ steps) e = absurd (cc)
  no-higher (node p kids) u (s ∷ steps) e = let below = no-higher-among kids u s steps e in omega (arith, below)

  no-higher-among : (ts : Trees) (u : Tree) (s : ℕ) (steps : List ℕ) → among ts s steps ≡ Some u → tree_height u ≤ tallest ts
  no-higher-among none u s steps e = absurd (cc)
  no-higher-among (more t ts) u zero steps e = let first = no-higher t u steps e in omega (arith, first)
  no-higher-among (more t ts) u (suc s) steps e = let rest = no-higher-among ts u s steps e in omega (arith, rest)

-- ---- names

module _ (IsSo : List ℕ → Type 0) where
  mutual
    pub named-place : (t u : Tree) (steps : List ℕ) → EachName IsSo t → at_place t steps ≡ Some u → EachName IsSo u
    named-place t u [] h e = subst (EachName IsSo) (same_Some t u e) h
    named-place (int i) u (s ∷ steps) h e = absurd (cc)
    named-place (bool b) u (s ∷ steps) h e = absurd (cc)
    named-place (name n) u (s ∷ steps) h e = absurd (cc)
    named-place (node p kids) u (s ∷ steps) h e = named-among kids u s steps h e

    named-among : (ts : Trees) (u : Tree) (s : ℕ) (steps : List ℕ) → EachNameBelow IsSo ts → among ts s steps ≡ Some u → EachName IsSo u
    named-among none u s steps h e = absurd (cc)
    named-among (more t ts) u zero steps h e = named-place t u steps h.0 e
    named-among (more t ts) u (suc s) steps h e = named-among ts u s steps h.1 e

  mutual
    pub named-replaced : (t u : Tree) (steps : List ℕ) → EachName IsSo t → EachName IsSo u → EachName IsSo (replaced t steps u)
    named-replaced t u [] h k = k
    named-replaced (int i) u (s ∷ steps) h k = h
    named-replaced (bool b) u (s ∷ steps) h k = h
    named-replaced (name n) u (s ∷ steps) h k = h
    named-replaced (node p kids) u (s ∷ steps) h k = each-named-replaced kids u s steps h k

    each-named-replaced : (ts : Trees) (u : Tree) (s : ℕ) (steps : List ℕ) → EachNameBelow IsSo ts → EachName IsSo u → EachNameBelow IsSo (replaced_among ts s steps u)
    each-named-replaced none u s steps h k = h
    each-named-replaced (more t ts) u zero steps h k = (named-replaced t u steps h.0 k, h.1)
    each-named-replaced (more t ts) u (suc s) steps h k = (h.0, each-named-replaced ts u s steps h.1 k)

-- ---- productions

module _ (prods : List Production) (limit : ℕ) (few : length prods ≤ limit) where
  mutual
    pub productions-below : (t : Tree) (kind : Kind) → IsTrue (fits prods t kind) → IsTrue (are_productions_below limit t)
    productions-below (int i) kind h = refl
    productions-below (bool b) kind h = refl
    productions-below (name n) kind h = refl
    productions-below (node p kids) kind h =
        let both = and_parts (is_left prods p kind) (each_fits prods kids (kids_of prods p)) h in
        let own = left_kind prods p kind both.0 in
        let within = slice_get_within prods p own.0 own.1 in
        and_from (nat_lt p limit) (are_kids_below limit kids) (lt-ltb p limit (omega (arith, within, few))) (kids-below kids (kids_of prods p) both.1)

    kids-below : (ts : Trees) (kids : List Kid) → IsTrue (each_fits prods ts kids) → IsTrue (are_kids_below limit ts)
    kids-below none kids h = refl
    kids-below (more t ts) [] h = absurd (false≢true h)
    kids-below (more t ts) (kid ∷ kids) h =
        let both = and_parts (fits prods t kid.kind) (each_fits prods ts kids) h in
        and_from (are_productions_below limit t) (are_kids_below limit ts) (productions-below t kid.kind both.0) (kids-below ts kids both.1)

-- ---- children

module _ (prods : List Production) (few : All IsFew prods) where
  each-few : (ts : Trees) (kids : List Kid) → IsTrue (each_fits prods ts kids) → length (in_order ts) ≤ length kids
  each-few none kids h = omega arith
  each-few (more t ts) [] h = absurd (false≢true h)
  each-few (more t ts) (kid ∷ kids) h =
      let rest = each-few ts kids (and_parts (fits prods t kid.kind) (each_fits prods ts kids) h).1 in omega (arith, rest)

  -- a node has as many as its production
  own-few : (p : ℕ) (q : Production) → slice_get prods p ≡ Some q → (kids : Trees) → IsTrue (each_fits prods kids (kids_of prods p)) → length (in_order kids) ≤ CHILD_LIMIT
  own-few p q e kids h =
      let many = each-few kids (kids_of prods p) h in
      let same = ap (λ (o : Option Production). length (option_map_or (λ (r : Production). r.kids) o [])) e in
      let most = (subst IsFew (get_or_from_slice_get prods p q q e) (few p q (slice_get_within prods p q e))).kids in
      omega (arith, many, same, most)

  mutual
    -- a tree that fits has no node with more children than a production may have
    pub children-few : (t : Tree) (kind : Kind) → IsTrue (fits prods t kind) → IsTrue (are_kids_few CHILD_LIMIT t)
    children-few (int i) kind h = refl
    children-few (bool b) kind h = refl
    children-few (name n) kind h = refl
    children-few (node p kids) kind h =
        let both = and_parts (is_left prods p kind) (each_fits prods kids (kids_of prods p)) h in
        let own = left_kind prods p kind both.0 in
        and_from (nat_le (length (in_order kids)) CHILD_LIMIT) (are_all_few CHILD_LIMIT kids)
        (le-leb (length (in_order kids)) CHILD_LIMIT (own-few p own.0 own.1 kids both.1)) (kids-few kids (kids_of prods p) both.1)

    kids-few : (ts : Trees) (kids : List Kid) → IsTrue (each_fits prods ts kids) → IsTrue (are_all_few CHILD_LIMIT ts)
    kids-few none kids h = refl
    kids-few (more t ts) [] h = absurd (false≢true h)
    kids-few (more t ts) (kid ∷ kids) h =
        let both = and_parts (fits prods t kid.kind) (each_fits prods ts kids) h in
        and_from (are_kids_few CHILD_LIMIT t) (are_all_few CHILD_LIMIT ts) (children-few t kid.kind both.0) (kids-few ts kids both.1)
