-- Two attributions of a tree that inherit the same are equal.
use Rattle.std.proofs.Common.{◌≡◌, ℕ, ◌+◌, ◌<◌, ◌≤◌, true, false, not, ◌&&◌, IsTrue, List, [], ◌∷◌, ◌++◌, length, get_or, Some, inl, inr, slice_get, refl, sym, ap, ◌∙◌, subst, arith}
use Rattle.std.specs.Prelude.{slice_index_or}
use Rattle.std.specs.Option.{option_map_or}
use Rattle.std.proofs.lemmas.Bool.{and_parts, false≢true, true≢false, not-true, eq-eqb}
use Rattle.std.proofs.lemmas.Option.{same_Some, slice_get-get_or, slice_get_within}
use Rattle.std.proofs.lemmas.List.{ext_get_or, get_or_append_left}
use Rattle.lrc_base.specs.declared.grammar.Kind.{Kind}
use Rattle.lrc_base.specs.declared.grammar.Kind.TheVariants as k
use Rattle.lrc_base.specs.declared.grammar.Kid.{Kid}
use Rattle.lrc_base.specs.declared.grammar.Extra.{Extra}
use Rattle.lrc_base.specs.declared.grammar.Attr.{Attr}
use Rattle.lrc_base.specs.declared.grammar.Production.{Production}
use Rattle.lrc_meaning.specs.Tree.{Tree, is_sort, same_kind, is_left, fits}
use Rattle.lrc_meaning.specs.Grammar.{Grammar, Occurrence, attrs_of_sort, occurrences_of, is_well_formed}
use Rattle.lrc_meaning.specs.Attribution.{Decorated, at_node, Parts, end, value, symbol, bare, bare_kids, attributes_of, production_of, kid_values, extra_values, occurrence_values, kids_agree, extras_agree, IsNodeRight, IsRight, AreRight, height, highest}
use Rattle.lrc_order_meaning.specs.declared.Partition.{Partition}
use Rattle.lrc_plan_meaning.specs.declared.Bound.TheVariants as b
use Rattle.lrc_plan_meaning.specs.Items.{attrs_of_visit, values_of_visit}
use Rattle.lrc_visit_meaning.specs.Values.{value_in, no_tree}
use Rattle.lrc_visit_meaning.specs.Values.{value as datum}
use Rattle.lrc_visit_meaning.specs.Visits.{Held, plain_visit}
use Rattle.lrc_order_meaning.proofs.MemberLemmas.{member_of_map}
use Rattle.lrc_laws.proofs.FuelLemmas.{max_left, max_right}
use Rattle.lrc_laws.proofs.HeldLemmas.{Agree}
use Rattle.lrc_laws.proofs.NodeLemmas.{AllMade}
use Rattle.lrc_laws.proofs.PartLemmas.{symbols_right, symbols_low, symbol_sort, attributes_count, kid_counts}
use Rattle.lrc_laws.proofs.DecoratedLemmas.{node_held, node_made, whole_count, serves, AreSound}
use Rattle.lrc_laws.proofs.AlikeLemmas.{AreVisited, occurrence_alike}
use Rattle.lrc_plan.proofs.ApartLemmas.{attr_in_visit}

pub fronts_same : {X : Type 0} (xs ys us vs : List X) → length xs ≡ length ys → xs ++ us ≡ ys ++ vs → (xs ≡ ys) × (us ≡ vs)
fronts_same [] [] us vs l e = (refl, e)
fronts_same [] (y ∷ ys) us vs l e = absurd (omega arith)
fronts_same (x ∷ xs) [] us vs l e = absurd (omega arith)
fronts_same (x ∷ xs) (y ∷ ys) us vs l e =
    let head : x ≡ y = cc in
    let tail : xs ++ us ≡ ys ++ vs = cc in
    let rest = fronts_same xs ys us vs (omega arith) tail in
    (ap (λ z. z ∷ xs) head ∙ ap (λ zs. y ∷ zs) rest.0, rest.1)

-- what a node holds at an attribute of its own
pub own_at : (g : Grammar) (q : Production) (own : List Tree) (kids extras : Parts) → IsNodeRight g q own kids extras → (x : ℕ) → x < length (attrs_of_sort g.sorts q.left)
    → get_or (occurrence_values own kids extras) (0 + x) no_tree ≡ get_or own x no_tree
own_at g q own kids extras right x less =
    let i : 0 + x ≡ x = omega arith in
    let l : x < length own = subst (λ w. x < w) (sym right.owns) less in
    ap (λ j. get_or (occurrence_values own kids extras) j no_tree) i ∙ get_or_append_left own (kid_values kids ++ extra_values extras) no_tree x l

module _ (g : Grammar) where
  -- the two inherit the same values
  abbrev pub InheritSame : ℕ → List Tree → List Tree → Type 0
  InheritSame s own others = (x : ℕ) (attr : Attr) → slice_get (attrs_of_sort g.sorts s) x ≡ Some attr → attr.inherited ≡ true → slice_index_or own x no_tree ≡ slice_index_or others x no_tree

module _ (g : Grammar) (parts : List Partition) (formed : IsTrue (is_well_formed g)) (sound : AreSound g parts) (visited : AreVisited g parts) (fuel : ℕ) where
  -- all is made on a right node, with fuel for its symbols
  pub right_made : (n : ℕ) (q : Production) (own : List Tree) (kids extras : Parts) → slice_get g.prods n ≡ Some q → IsNodeRight g q own kids extras → AreRight g kids → AreRight g extras
      → highest kids ≤ fuel → highest extras ≤ fuel → AllMade g parts (plain_visit g parts fuel) q (bare_kids kids) (node_held g parts own kids extras)
  right_made n q own kids extras there right kids_right extras_right kids_low extras_low =
      node_made g parts q own kids extras right kids_right extras_right (plain_visit g parts fuel) n there formed (sound n q there)
      (λ d s among h.
      elim among [
        | inl c ↦ let l = symbols_low kids d c in serves g parts formed sound fuel d s (symbols_right g kids kids_right d c) (omega (arith, l, kids_low)) h
        | inr c ↦ let l = symbols_low extras d c in serves g parts formed sound fuel d s (symbols_right g extras extras_right d c) (omega (arith, l, extras_low)) h
      ])

  -- the inherited attributes of a visit hold the same
  inherited_alike : (s : ℕ) (m n : Held) → ((x : ℕ) (attr : Attr) → slice_get (attrs_of_sort g.sorts s) x ≡ Some attr → attr.inherited ≡ true → m (b.Value (0 + x)) ≡ n (b.Value (0 + x)))
      → (v : ℕ) → Agree (values_of_visit g.sorts parts true s 0 v) m n
  inherited_alike s m n same v y c =
      let found = member_of_map (λ x. b.Value (0 + x)) (attrs_of_visit g.sorts parts true s v) y c in
      let x = found.0 in
      let there = attr_in_visit g parts s true v x found.1 in
      subst (λ z. m z ≡ n z) found.2 (same x there.0 there.1 there.2)

  -- the values of two right nodes over one production and the same trees are the same
  values_same : (n : ℕ) (q : Production) (own others : List Tree) (kids kids' extras extras' : Parts) → slice_get g.prods n ≡ Some q
      → IsNodeRight g q own kids extras → IsNodeRight g q others kids' extras' → AreRight g kids → AreRight g extras → AreRight g kids' → AreRight g extras'
      → highest kids ≤ fuel → highest extras ≤ fuel → highest kids' ≤ fuel → highest extras' ≤ fuel
      → bare_kids kids ≡ bare_kids kids' → InheritSame g q.left own others → occurrence_values own kids extras ≡ occurrence_values others kids' extras'
  values_same n q own others kids kids' extras extras' there right right' kr er kr' er' kl el kl' el' same_kids inherit =
      let m = node_held g parts own kids extras in
      let m' = node_held g parts others kids' extras' in
      let one = right_made n q own kids extras there right kr er kl el in
      let other = subst (λ ts. AllMade g parts (plain_visit g parts fuel) q ts m') (sym same_kids) (right_made n q others kids' extras' there right' kr' er' kl' el') in
      let inherited = inherited_alike q.left m m' (λ x attr has is.
      let less = slice_get_within (attrs_of_sort g.sorts q.left) x attr has in
      ap datum (own_at g q own kids extras right x less ∙ inherit x attr has is ∙ sym (own_at g q others kids' extras' right' x less))) in
      let count = whole_count g parts q own kids extras right kr er in
      let count' = whole_count g parts q others kids' extras' right' kr' er' in
      ext_get_or no_tree (occurrence_values own kids extras) (occurrence_values others kids' extras') (count ∙ sym count')
      (λ o less.
      let within : o < length (occurrences_of g.sorts q) = subst (λ w. o < w) count less in
      let d : Occurrence = record { kind = k.Int; is_defined = true; is_read = true } in
      ap value_in (occurrence_alike g parts q (plain_visit g parts fuel) (bare_kids kids) m m' (sound n q there) one other inherited visited o (get_or (occurrences_of g.sorts q) o d) (slice_get-get_or (occurrences_of g.sorts q) o d within)))

  left_itself : (n : ℕ) (q : Production) → slice_get g.prods n ≡ Some q → IsTrue (is_left g.prods n (k.Sort q.left))
  left_itself n q there = ap (λ o. option_map_or (λ (p : Production). same_kind (k.Sort p.left) (k.Sort q.left)) o false) there ∙ eq-eqb q.left q.left refl

  same_attributes : (s : ℕ) (own others : List Tree) → own ≡ others → InheritSame g s own others
  same_attributes s own others e x attr has is = ap (λ vs. slice_index_or vs x no_tree) e

  no_leaf_there : (n : ℕ) (kind : Kind) → IsTrue (is_left g.prods n kind) → is_sort kind ≡ false → ⊥
  no_leaf_there n kind h f = false≢true (sym f ∙ symbol_sort g.prods n kind h)

  mutual
    -- two right trees that are the same tree and inherit the same are equal
    pub unique : (d e : Decorated) → IsRight g d → IsRight g e → height d ≤ fuel → height e ≤ fuel → bare d ≡ bare e
        → ((s : ℕ) → IsTrue (is_left g.prods (production_of d) (k.Sort s)) → InheritSame g s (attributes_of d) (attributes_of e)) → d ≡ e
    unique (at_node n own kids extras) (at_node n' own' kids' extras') r r' low low' same inherit =
        let number : n ≡ n' = cc in
        let same_kids : bare_kids kids ≡ bare_kids kids' = cc in
        let q = r.0.production in
        let is : r'.0.production ≡ q = same_Some r'.0.production q (sym r'.0.is_there ∙ ap (slice_get g.prods) (sym number) ∙ r.0.is_there) in
        let right' = subst (λ (p : Production). IsNodeRight g p own' kids' extras') is r'.0.is_right in
        let k1 = max_left (highest kids) (highest extras) in
        let k2 = max_right (highest kids) (highest extras) in
        let k3 = max_left (highest kids') (highest extras') in
        let k4 = max_right (highest kids') (highest extras') in
        let kl : highest kids ≤ fuel = omega (arith, k1, low) in
        let el : highest extras ≤ fuel = omega (arith, k2, low) in
        let kl' : highest kids' ≤ fuel = omega (arith, k3, low') in
        let el' : highest extras' ≤ fuel = omega (arith, k4, low') in
        let all = values_same n q own own' kids kids' extras extras' r.0.is_there r.0.is_right right' r.1 r.2 r'.1 r'.2 kl el kl' el' same_kids
        (inherit q.left (left_itself n q r.0.is_there)) in
        let owns = fronts_same own own' (kid_values kids ++ extra_values extras) (kid_values kids' ++ extra_values extras') (r.0.is_right.owns ∙ sym right'.owns) all in
        let counts = (kid_counts g q.kids kids 0 r.0.is_right.has_kids r.1).1 in
        let counts' = (kid_counts g q.kids kids' 0 right'.has_kids r'.1).1 in
        let rests = fronts_same (kid_values kids) (kid_values kids') (extra_values extras) (extra_values extras') (counts ∙ sym counts') owns.1 in
        let one = unique_kids kids kids' q.kids r.0.is_right.has_kids right'.has_kids r.1 r'.1 kl kl' same_kids rests.0 in
        let two = unique_extras extras extras' q.extras r.0.is_right.has_extras right'.has_extras r.2 r'.2 el el' rests.1 in
        ap (λ i. at_node i own kids extras) number ∙ ap (λ vs. at_node n' vs kids extras) owns.0 ∙ ap (λ ps. at_node n' own' ps extras) one ∙ ap (λ ps. at_node n' own' kids' ps) two

    unique_kids : (ps qs : Parts) (kids : List Kid) → IsTrue (kids_agree g.prods kids ps) → IsTrue (kids_agree g.prods kids qs) → AreRight g ps → AreRight g qs
        → highest ps ≤ fuel → highest qs ≤ fuel → bare_kids ps ≡ bare_kids qs → kid_values ps ≡ kid_values qs → ps ≡ qs
    unique_kids end end kids h h' r r' l l' same values = refl
    unique_kids end (value w qs) [] h h' r r' l l' same values = absurd (false≢true h')
    unique_kids end (value w qs) (kid ∷ kids) h h' r r' l l' same values = absurd (false≢true h)
    unique_kids end (symbol e qs) [] h h' r r' l l' same values = absurd (false≢true h')
    unique_kids end (symbol e qs) (kid ∷ kids) h h' r r' l l' same values = absurd (false≢true h)
    unique_kids (value v ps) qs [] h h' r r' l l' same values = absurd (false≢true h)
    unique_kids (value v ps) end (kid ∷ kids) h h' r r' l l' same values = absurd (false≢true h')
    unique_kids (value v ps) (value w qs) (kid ∷ kids) h h' r r' l l' same values =
        let both = and_parts (not (is_sort kid.kind) && fits g.prods v kid.kind) (kids_agree g.prods kids ps) h in
        let both' = and_parts (not (is_sort kid.kind) && fits g.prods w kid.kind) (kids_agree g.prods kids qs) h' in
        let first : v ≡ w = cc in
        let rest : bare_kids ps ≡ bare_kids qs = cc in
        ap (λ x. value x ps) first ∙ ap (λ x. value w x) (unique_kids ps qs kids both.1 both'.1 r r' l l' rest values)
    unique_kids (value v ps) (symbol e qs) (kid ∷ kids) h h' r r' l l' same values =
        let both = and_parts (not (is_sort kid.kind) && fits g.prods v kid.kind) (kids_agree g.prods kids ps) h in
        let both' = and_parts (is_left g.prods (production_of e) kid.kind) (kids_agree g.prods kids qs) h' in
        absurd (no_leaf_there (production_of e) kid.kind both'.0 (not-true (is_sort kid.kind) (and_parts (not (is_sort kid.kind)) (fits g.prods v kid.kind) both.0).0))
    unique_kids (symbol d ps) qs [] h h' r r' l l' same values = absurd (false≢true h)
    unique_kids (symbol d ps) end (kid ∷ kids) h h' r r' l l' same values = absurd (false≢true h')
    unique_kids (symbol d ps) (value w qs) (kid ∷ kids) h h' r r' l l' same values =
        let both = and_parts (is_left g.prods (production_of d) kid.kind) (kids_agree g.prods kids ps) h in
        let both' = and_parts (not (is_sort kid.kind) && fits g.prods w kid.kind) (kids_agree g.prods kids qs) h' in
        absurd (no_leaf_there (production_of d) kid.kind both.0 (not-true (is_sort kid.kind) (and_parts (not (is_sort kid.kind)) (fits g.prods w kid.kind) both'.0).0))
    unique_kids (symbol d ps) (symbol e qs) (kid ∷ kids) h h' r r' l l' same values =
        let both = and_parts (is_left g.prods (production_of d) kid.kind) (kids_agree g.prods kids ps) h in
        let both' = and_parts (is_left g.prods (production_of e) kid.kind) (kids_agree g.prods kids qs) h' in
        let first : bare d ≡ bare e = cc in
        let rest : bare_kids ps ≡ bare_kids qs = cc in
        let count = attributes_count g d kid.kind r.0 both.0 in
        let count' = attributes_count g e kid.kind r'.0 both'.0 in
        let split = fronts_same (attributes_of d) (attributes_of e) (kid_values ps) (kid_values qs) (count ∙ sym count') values in
        let k1 = max_left (height d) (highest ps) in
        let k2 = max_right (height d) (highest ps) in
        let k3 = max_left (height e) (highest qs) in
        let k4 = max_right (height e) (highest qs) in
        let one = unique d e r.0 r'.0 (omega (arith, k1, l)) (omega (arith, k3, l')) first (λ s left. same_attributes s (attributes_of d) (attributes_of e) split.0) in
        ap (λ x. symbol x ps) one ∙ ap (λ x. symbol e x) (unique_kids ps qs kids both.1 both'.1 r.1 r'.1 (omega (arith, k2, l)) (omega (arith, k4, l')) rest split.1)

    unique_extras : (ps qs : Parts) (xs : List Extra) → IsTrue (extras_agree g.prods xs ps) → IsTrue (extras_agree g.prods xs qs) → AreRight g ps → AreRight g qs
        → highest ps ≤ fuel → highest qs ≤ fuel → extra_values ps ≡ extra_values qs → ps ≡ qs
    unique_extras end end xs h h' r r' l l' values = refl
    unique_extras end (value w qs) [] h h' r r' l l' values = absurd (false≢true h')
    unique_extras end (value w qs) (x ∷ xs) h h' r r' l l' values = absurd (false≢true h)
    unique_extras end (symbol e qs) [] h h' r r' l l' values = absurd (false≢true h')
    unique_extras end (symbol e qs) (x ∷ xs) h h' r r' l l' values = absurd (false≢true h)
    unique_extras (value v ps) qs [] h h' r r' l l' values = absurd (false≢true h)
    unique_extras (value v ps) end (x ∷ xs) h h' r r' l l' values = absurd (false≢true h')
    unique_extras (value v ps) (value w qs) (x ∷ xs) h h' r r' l l' values =
        let both = and_parts (not x.attached) (extras_agree g.prods xs ps) h in
        let both' = and_parts (not x.attached) (extras_agree g.prods xs qs) h' in
        let first : v ≡ w = cc in
        let rest : extra_values ps ≡ extra_values qs = cc in
        ap (λ y. value y ps) first ∙ ap (λ y. value w y) (unique_extras ps qs xs both.1 both'.1 r r' l l' rest)
    unique_extras (value v ps) (symbol e qs) (x ∷ xs) h h' r r' l l' values =
        let both = and_parts (not x.attached) (extras_agree g.prods xs ps) h in
        let three = and_parts (x.attached && is_left g.prods (production_of e) x.kind) (extras_agree g.prods xs qs) h' in
        let two = and_parts x.attached (is_left g.prods (production_of e) x.kind) three.0 in
        absurd (true≢false (sym two.0 ∙ not-true x.attached both.0))
    unique_extras (symbol d ps) qs [] h h' r r' l l' values = absurd (false≢true h)
    unique_extras (symbol d ps) end (x ∷ xs) h h' r r' l l' values = absurd (false≢true h')
    unique_extras (symbol d ps) (value w qs) (x ∷ xs) h h' r r' l l' values =
        let both = and_parts (not x.attached) (extras_agree g.prods xs qs) h' in
        let three = and_parts (x.attached && is_left g.prods (production_of d) x.kind) (extras_agree g.prods xs ps) h in
        let two = and_parts x.attached (is_left g.prods (production_of d) x.kind) three.0 in
        absurd (true≢false (sym two.0 ∙ not-true x.attached both.0))
    unique_extras (symbol d ps) (symbol e qs) (x ∷ xs) h h' r r' l l' values =
        let three = and_parts (x.attached && is_left g.prods (production_of d) x.kind) (extras_agree g.prods xs ps) h in
        let two = and_parts x.attached (is_left g.prods (production_of d) x.kind) three.0 in
        let three' = and_parts (x.attached && is_left g.prods (production_of e) x.kind) (extras_agree g.prods xs qs) h' in
        let two' = and_parts x.attached (is_left g.prods (production_of e) x.kind) three'.0 in
        let first : bare d ≡ bare e = cc in
        let rest : attributes_of d ++ extra_values ps ≡ attributes_of e ++ extra_values qs = cc in
        let count = attributes_count g d x.kind r.0 two.1 in
        let count' = attributes_count g e x.kind r'.0 two'.1 in
        let split = fronts_same (attributes_of d) (attributes_of e) (extra_values ps) (extra_values qs) (count ∙ sym count') rest in
        let k1 = max_left (height d) (highest ps) in
        let k2 = max_right (height d) (highest ps) in
        let k3 = max_left (height e) (highest qs) in
        let k4 = max_right (height e) (highest qs) in
        let one = unique d e r.0 r'.0 (omega (arith, k1, l)) (omega (arith, k3, l')) first (λ s left. same_attributes s (attributes_of d) (attributes_of e) split.0) in
        ap (λ y. symbol y ps) one ∙ ap (λ y. symbol e y) (unique_extras ps qs xs three.1 three'.1 r.1 r'.1 (omega (arith, k2, l)) (omega (arith, k4, l')) split.1)
