-- Trees that fit have parts of the kinds that are declared for their places, and may have others of these there.
use Rattle.std.proofs.Common.{◌≡◌, ℕ, zero, suc, List, [], ◌∷◌, Some, IsSome, option_map, IsTrue, refl, sym, ap, ◌∙◌, subst}
use Rattle.std.specs.Option.{option_and_then}
use Rattle.std.proofs.lemmas.Bool.{and_parts, and_from, false≢true}
use Rattle.std.proofs.lemmas.Option.{same_Some}
use Rattle.lrc_base.specs.declared.grammar.Kid.{Kid}
use Rattle.lrc_base.specs.declared.grammar.Kind.{Kind}
use Rattle.lrc_base.specs.declared.grammar.Kind.TheVariants as k
use Rattle.lrc_base.specs.declared.grammar.Production.{Production}
use Rattle.lrc_meaning.specs.Tree.{Tree, int, bool, name, node, Trees, none, more, is_left, kids_of, fits, each_fits, kind_of, at_place, among, replaced, replaced_among}
use Rattle.lrc_meaning.proofs.KindLemmas.{one_kind, left_kind}
use Rattle.lrc_places.specs.Places.{declared_at, declared_among}

module _ (prods : List Production) where
  -- the root's kind
  root-kind : (t : Tree) (kind : Kind) → IsTrue (fits prods t kind) → kind_of prods t ≡ Some kind
  root-kind (int i) kind h = ap Some (one_kind k.Int kind h)
  root-kind (bool b) kind h = ap Some (one_kind k.Bool kind h)
  root-kind (name n) kind h = ap Some (one_kind k.Name kind h)
  root-kind (node p kids) kind h =
      let own = left_kind prods p kind (and_parts (is_left prods p kind) (each_fits prods kids (kids_of prods p)) h).0 in
      ap (option_map (λ (q : Production). k.Sort q.left)) own.1 ∙ ap Some own.2

  -- a part of a tree that fits
  mutual
    part-fits : (t part : Tree) (kind : Kind) (steps : List ℕ) → IsTrue (fits prods t kind) → at_place t steps ≡ Some part → (own : Kind) × IsTrue (fits prods part own)
    part-fits t part kind [] h e = (kind, subst (λ w. IsTrue (fits prods w kind)) (same_Some t part e) h)
    part-fits (int i) part kind (s ∷ steps) h e = absurd (cc)
    part-fits (bool b) part kind (s ∷ steps) h e = absurd (cc)
    part-fits (name n) part kind (s ∷ steps) h e = absurd (cc)
    part-fits (node p kids) part kind (s ∷ steps) h e = each-part-fits kids part (kids_of prods p) s steps (and_parts (is_left prods p kind) (each_fits prods kids (kids_of prods p)) h).1 e

    each-part-fits : (ts : Trees) (part : Tree) (kids : List Kid) (s : ℕ) (steps : List ℕ) → IsTrue (each_fits prods ts kids) → among ts s steps ≡ Some part → (own : Kind) × IsTrue (fits prods part own)
    each-part-fits none part kids s steps h e = absurd (cc)
    each-part-fits (more t ts) part [] s steps h e = absurd (false≢true h)
    each-part-fits (more t ts) part (kid ∷ kids) zero steps h e = part-fits t part kid.kind steps (and_parts (fits prods t kid.kind) (each_fits prods ts kids) h).0 e
    each-part-fits (more t ts) part (kid ∷ kids) (suc s) steps h e = each-part-fits ts part kids s steps (and_parts (fits prods t kid.kind) (each_fits prods ts kids) h).1 e

  pub part-kind : (t part : Tree) (kind : Kind) (steps : List ℕ) → IsTrue (fits prods t kind) → at_place t steps ≡ Some part → IsSome (kind_of prods part)
  part-kind t part kind steps h e = let (own, is) = part-fits t part kind steps h e in subst IsSome (sym (root-kind part own is)) refl

  mutual
    pub kind-at : (t : Tree) (kind : Kind) (steps : List ℕ) → IsTrue (fits prods t kind) → option_and_then (kind_of prods) (at_place t steps) ≡ declared_at prods t kind steps
    kind-at t kind [] h = root-kind t kind h
    kind-at (int i) kind (s ∷ steps) h = refl
    kind-at (bool b) kind (s ∷ steps) h = refl
    kind-at (name n) kind (s ∷ steps) h = refl
    kind-at (node p kids) kind (s ∷ steps) h = kind-among kids (kids_of prods p) s steps (and_parts (is_left prods p kind) (each_fits prods kids (kids_of prods p)) h).1

    kind-among : (ts : Trees) (kids : List Kid) (s : ℕ) (steps : List ℕ) → IsTrue (each_fits prods ts kids) → option_and_then (kind_of prods) (among ts s steps) ≡ declared_among prods ts kids s steps
    kind-among none kids s steps h = refl
    kind-among (more t ts) [] s steps h = absurd (false≢true h)
    kind-among (more t ts) (kid ∷ kids) zero steps h = kind-at t kid.kind steps (and_parts (fits prods t kid.kind) (each_fits prods ts kids) h).0
    kind-among (more t ts) (kid ∷ kids) (suc s) steps h = kind-among ts kids s steps (and_parts (fits prods t kid.kind) (each_fits prods ts kids) h).1

  -- a part's own kind is the declared one
  pub declared-kind : (t part : Tree) (kind own : Kind) (steps : List ℕ) → IsTrue (fits prods t kind) → at_place t steps ≡ Some part → kind_of prods part ≡ Some own → declared_at prods t kind steps ≡ Some own
  declared-kind t part kind own steps h e is = sym (kind-at t kind steps h) ∙ ap (option_and_then (kind_of prods)) e ∙ is

  mutual
    pub fits-declared : (t part : Tree) (kind own : Kind) (steps : List ℕ) → IsTrue (fits prods t kind) → at_place t steps ≡ Some part → declared_at prods t kind steps ≡ Some own → IsTrue (fits prods part own)
    fits-declared t part kind own [] h e is =
        subst (λ w. IsTrue (fits prods part w)) (same_Some kind own is) (subst (λ w. IsTrue (fits prods w kind)) (same_Some t part e) h)
    fits-declared (int i) part kind own (s ∷ steps) h e is = absurd (cc)
    fits-declared (bool b) part kind own (s ∷ steps) h e is = absurd (cc)
    fits-declared (name n) part kind own (s ∷ steps) h e is = absurd (cc)
    fits-declared (node p kids) part kind own (s ∷ steps) h e is =
        each-fits-declared kids part (kids_of prods p) own s steps (and_parts (is_left prods p kind) (each_fits prods kids (kids_of prods p)) h).1 e is

    each-fits-declared : (ts : Trees) (part : Tree) (kids : List Kid) (own : Kind) (s : ℕ) (steps : List ℕ) → IsTrue (each_fits prods ts kids) → among ts s steps ≡ Some part →
        declared_among prods ts kids s steps ≡ Some own → IsTrue (fits prods part own)
    each-fits-declared none part kids own s steps h e is = absurd (cc)
    each-fits-declared (more t ts) part [] own s steps h e is = absurd (false≢true h)
    each-fits-declared (more t ts) part (kid ∷ kids) own zero steps h e is =
        fits-declared t part kid.kind own steps (and_parts (fits prods t kid.kind) (each_fits prods ts kids) h).0 e is
    each-fits-declared (more t ts) part (kid ∷ kids) own (suc s) steps h e is =
        each-fits-declared ts part kids own s steps (and_parts (fits prods t kid.kind) (each_fits prods ts kids) h).1 e is

  -- what is of the declared kind may be put
  mutual
    pub fits-put : (t u : Tree) (kind own : Kind) (steps : List ℕ) → IsTrue (fits prods t kind) → declared_at prods t kind steps ≡ Some own → IsTrue (fits prods u own) → IsTrue (fits prods (replaced t steps u) kind)
    fits-put t u kind own [] h is new = subst (λ w. IsTrue (fits prods u w)) (sym (same_Some kind own is)) new
    fits-put (int i) u kind own (s ∷ steps) h is new = h
    fits-put (bool b) u kind own (s ∷ steps) h is new = h
    fits-put (name n) u kind own (s ∷ steps) h is new = h
    fits-put (node p kids) u kind own (s ∷ steps) h is new =
        let both = and_parts (is_left prods p kind) (each_fits prods kids (kids_of prods p)) h in
        and_from (is_left prods p kind) (each_fits prods (replaced_among kids s steps u) (kids_of prods p)) both.0 (each-fits-put kids u (kids_of prods p) own s steps both.1 is new)

    each-fits-put : (ts : Trees) (u : Tree) (kids : List Kid) (own : Kind) (s : ℕ) (steps : List ℕ) → IsTrue (each_fits prods ts kids) → declared_among prods ts kids s steps ≡ Some own →
        IsTrue (fits prods u own) → IsTrue (each_fits prods (replaced_among ts s steps u) kids)
    each-fits-put none u kids own s steps h is new = h
    each-fits-put (more t ts) u [] own s steps h is new = absurd (false≢true h)
    each-fits-put (more t ts) u (kid ∷ kids) own zero steps h is new =
        let both = and_parts (fits prods t kid.kind) (each_fits prods ts kids) h in
        and_from (fits prods (replaced t steps u) kid.kind) (each_fits prods ts kids) (fits-put t u kid.kind own steps both.0 is new) both.1
    each-fits-put (more t ts) u (kid ∷ kids) own (suc s) steps h is new =
        let both = and_parts (fits prods t kid.kind) (each_fits prods ts kids) h in
        and_from (fits prods t kid.kind) (each_fits prods (replaced_among ts s steps u) kids) both.0 (each-fits-put ts u kids own s steps both.1 is new)
