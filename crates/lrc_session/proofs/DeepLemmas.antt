-- A tree that is higher than a limit has no attributes within it.
use Rattle.std.proofs.Common.{◌≡◌, ℕ, ◌<◌, ◌≤◌, Bool, true, false, not, ◌&&◌, List, [], ◌∷◌, Some, IsTrue, refl, subst, arith}
use Rattle.std.proofs.lemmas.Bool.{false≢true}
use Rattle.lrc_base.specs.declared.grammar.Kind.{Kind}
use Rattle.lrc_base.specs.declared.grammar.Kid.{Kid}
use Rattle.lrc_meaning.specs.Tree.{Tree, at_place, replaced, int, bool, name, node, is_sort, is_left, fits, each_fits, kids_of, tree_height, tallest}
use Rattle.lrc_meaning.specs.Grammar.{Grammar}
use Rattle.lrc_meaning.specs.Attribution.{Decorated, at_node, Parts, end, value, symbol, bare, bare_kids, production_of, kids_agree, IsRight, AreRight, height, highest, Attributes}
use Rattle.lrc_meaning.proofs.KindLemmas.{left_kind}
use Rattle.lrc_places.proofs.PlaceLemmas.{placed, no-higher}

both : (a b : Bool) → IsTrue (a && b) → IsTrue a × IsTrue b
both true b h = (refl, h)
both false b h = absurd (cc)

module _ (g : Grammar) where
  sort_of : (p : ℕ) (kind : Kind) → IsTrue (is_left g.prods p kind) → IsTrue (is_sort kind)
  sort_of p kind h = let left = left_kind g.prods p kind h in subst (λ kind'. IsTrue (is_sort kind')) left.2 refl

  -- what is of a leaf's kind is a leaf
  leaf_low : (v : Tree) (kind : Kind) → IsTrue (not (is_sort kind)) → IsTrue (fits g.prods v kind) → tree_height v ≡ 0
  leaf_low (int i) kind leaf fit = refl
  leaf_low (bool b) kind leaf fit = refl
  leaf_low (name n) kind leaf fit = refl
  leaf_low (node p kids) kind leaf fit =
      absurd (false≢true (subst (λ b. IsTrue (not b)) (sort_of p kind (both (is_left g.prods p kind) (each_fits g.prods kids (kids_of g.prods p)) fit).0) leaf))

  mutual
    pub low : (d : Decorated) → IsRight g d → tree_height (bare d) ≤ height d
    low (at_node p own kids extras) right =
        let below = low_kids right.0.production.kids kids right.0.is_right.has_kids right.1 in omega (arith, below)

    pub low_kids : (needed : List Kid) (kids : Parts) → IsTrue (kids_agree g.prods needed kids) → AreRight g kids → tallest (bare_kids kids) ≤ highest kids
    low_kids [] end agree right = omega arith
    low_kids [] (value v rest) agree right = absurd (false≢true agree)
    low_kids [] (symbol d rest) agree right = absurd (false≢true agree)
    low_kids (kid ∷ needed) end agree right = omega arith
    low_kids (kid ∷ needed) (value v rest) agree right =
        let first = both (not (is_sort kid.kind) && fits g.prods v kid.kind) (kids_agree g.prods needed rest) agree in
        let own = both (not (is_sort kid.kind)) (fits g.prods v kid.kind) first.0 in
        let leaf = leaf_low v kid.kind own.0 own.1 in
        let below = low_kids needed rest first.1 right in
        omega (arith, leaf, below)
    low_kids (kid ∷ needed) (symbol d rest) agree right =
        let parts = both (is_left g.prods (production_of d) kid.kind) (kids_agree g.prods needed rest) agree in
        let here = low d right.0 in
        let below = low_kids needed rest parts.1 right.1 in
        omega (arith, here, below)

  pub too_high : (limit : ℕ) (t : Tree) → limit < tree_height t → (vs : List Tree) → ¬ Attributes g limit t vs
  too_high limit t high vs has =
      let here = low has.attribution has.is_attribution.is_right in
      let bound : tree_height t ≤ height has.attribution = subst (λ u. tree_height u ≤ height has.attribution) has.is_attribution.is_bare here in
      let within = has.within in
      omega (arith, bound, within, high)

-- a tree with a higher part than a limit is higher
pub put_high : (whole new : Tree) (steps : List ℕ) (old : Tree) (limit : ℕ) → at_place whole steps ≡ Some old → limit < tree_height new → limit < tree_height (replaced whole steps new)
put_high whole new steps old limit there high =
    let le = no-higher (replaced whole steps new) new steps (placed whole new old steps there) in omega (arith, le, high)
