-- The parts of a decorated node, and the places and occurrences that they stand at.
use Rattle.std.proofs.Common.{◌≡◌, ℕ, zero, suc, ◌+◌, ◌<◌, ◌≤◌, max, true, false, not, ◌&&◌, IsTrue, cond, List, [], ◌∷◌, ◌++◌, map, length, get_or, Contains, Option, Some, None, inl, inr, slice_get, refl, sym, ap, ◌∙◌, subst, arith, append_assoc, length-append}
use Rattle.std.specs.Prelude.{flat_map, slice_index_or}
use Rattle.std.specs.Option.{option_map, option_map_or}
use Rattle.std.proofs.lemmas.Bool.{and_parts, and_from, false≢true, not-true}
use Rattle.std.proofs.lemmas.Option.{none-some, same_Some}
use Rattle.std.proofs.lemmas.List.{length-map, get_or_append_left, get_or-append-add}
use Rattle.lrc_base.specs.declared.grammar.Kind.{Kind}
use Rattle.lrc_base.specs.declared.grammar.Kind.TheVariants as k
use Rattle.lrc_base.specs.declared.grammar.Kid.{Kid}
use Rattle.lrc_base.specs.declared.grammar.Extra.{Extra}
use Rattle.lrc_base.specs.declared.grammar.Production.{Production}
use Rattle.lrc_meaning.specs.Tree.{Tree, int, bool, name, node, Trees, is_sort, same_kind, is_left, fits}
use Rattle.lrc_meaning.specs.Grammar.{Grammar, attrs_of_sort, attrs_of, symbol_occurrence, extra_occurrences}
use Rattle.lrc_meaning.specs.Attribution.{Decorated, at_node, Parts, end, value, symbol, bare, bare_kids, attributes_of, production_of, kid_values, extra_values, leaf_at, kids_agree, extras_agree, IsRight, AreRight, height, highest}
use Rattle.lrc_meaning.proofs.KindLemmas.{left_kind}
use Rattle.lrc_order_meaning.specs.declared.Place.{Place}
use Rattle.lrc_order_meaning.specs.Needs.{symbol_of, kid_symbols, extra_symbols}
use Rattle.lrc_visit_meaning.specs.Values.{no_tree}
use Rattle.lrc_visit_meaning.specs.Visits.{is_of_kind, are_of_kinds, leaf_in, symbol_trees}
use Rattle.lrc_order_meaning.proofs.MemberLemmas.{member_cases, no_member}
use Rattle.lrc_laws.proofs.FuelLemmas.{max_left, max_right}

-- the decorated trees among parts, in order
abbrev pub symbols_in : Parts → List Decorated
symbols_in end = []
symbols_in (value v rest) = symbols_in rest
symbols_in (symbol d rest) = d ∷ symbols_in rest

pub symbols_right : (g : Grammar) (ps : Parts) → AreRight g ps → (d : Decorated) → Contains (symbols_in ps) d → IsRight g d
symbols_right g end r d c = absurd (no_member d c)
symbols_right g (value v rest) r d c = symbols_right g rest r d c
symbols_right g (symbol e rest) r d c =
    elim (member_cases e (symbols_in rest) d c) [ inl same ↦ subst (λ x. IsRight g x) same r.0 | inr later ↦ symbols_right g rest r.1 d later ]

pub symbols_low : (ps : Parts) (d : Decorated) → Contains (symbols_in ps) d → height d ≤ highest ps
symbols_low end d c = absurd (no_member d c)
symbols_low (value v rest) d c = symbols_low rest d c
symbols_low (symbol e rest) d c =
    elim (member_cases e (symbols_in rest) d c) [
      | inl same ↦ subst (λ x. height x ≤ max (height e) (highest rest)) same (max_left (height e) (highest rest))
      | inr later ↦ let low = symbols_low rest d later in let up = max_right (height e) (highest rest) in omega (arith, low, up)
    ]

pub of_kind_over : (kind : Kind) (o : Option Production)
    → option_map_or (λ x. same_kind x kind) (option_map (λ (q : Production). k.Sort q.left) o) false ≡ option_map_or (λ (q : Production). same_kind (k.Sort q.left) kind) o false
of_kind_over kind None = refl
of_kind_over kind (Some q) = refl

-- a node is of a kind where its production's left sort is that
pub node_of_kind : (prods : List Production) (n : ℕ) (kids : Trees) (kind : Kind) → is_of_kind prods (node n kids) kind ≡ is_left prods n kind
node_of_kind prods n kids kind = of_kind_over kind (slice_get prods n)

pub bare_of_kind : (prods : List Production) (d : Decorated) (kind : Kind) → is_of_kind prods (bare d) kind ≡ is_left prods (production_of d) kind
bare_of_kind prods (at_node n own kids extras) kind = node_of_kind prods n (bare_kids kids) kind

-- where a tree fits a kind it is of the kind
pub fits_of_kind : (prods : List Production) (t : Tree) (kind : Kind) → IsTrue (fits prods t kind) → IsTrue (is_of_kind prods t kind)
fits_of_kind prods (int i) kind h = h
fits_of_kind prods (bool b) kind h = h
fits_of_kind prods (name n) kind h = h
fits_of_kind prods (node n kids) kind h = node_of_kind prods n kids kind ∙ (and_parts (is_left prods n kind) _ h).0

-- the children of a right node are of their kinds
pub kids_of_kinds : (prods : List Production) (kids : List Kid) (ps : Parts) → IsTrue (kids_agree prods kids ps) → IsTrue (are_of_kinds prods (bare_kids ps) kids)
kids_of_kinds prods [] end h = refl
kids_of_kinds prods [] (value v rest) h = absurd (false≢true h)
kids_of_kinds prods [] (symbol d rest) h = absurd (false≢true h)
kids_of_kinds prods (kid ∷ kids) end h = absurd (false≢true h)
kids_of_kinds prods (kid ∷ kids) (value v rest) h =
    let both = and_parts (not (is_sort kid.kind) && fits prods v kid.kind) (kids_agree prods kids rest) h in
    and_from (is_of_kind prods v kid.kind) (are_of_kinds prods (bare_kids rest) kids)
    (fits_of_kind prods v kid.kind (and_parts (not (is_sort kid.kind)) (fits prods v kid.kind) both.0).1) (kids_of_kinds prods kids rest both.1)
kids_of_kinds prods (kid ∷ kids) (symbol d rest) h =
    let both = and_parts (is_left prods (production_of d) kid.kind) (kids_agree prods kids rest) h in
    and_from (is_of_kind prods (bare d) kid.kind) (are_of_kinds prods (bare_kids rest) kids)
    (bare_of_kind prods d kid.kind ∙ both.0) (kids_of_kinds prods kids rest both.1)

-- a decorated child stands at a sort
pub symbol_sort : (prods : List Production) (n : ℕ) (kind : Kind) → IsTrue (is_left prods n kind) → is_sort kind ≡ true
symbol_sort prods n kind h = let q = left_kind prods n kind h in ap is_sort (sym q.2)

-- the leaf of a number
pub leaf_same : (prods : List Production) (kids : List Kid) (ps : Parts) → IsTrue (kids_agree prods kids ps) → (i : ℕ) → leaf_in kids (bare_kids ps) i ≡ leaf_at ps i
leaf_same prods [] end h i = refl
leaf_same prods [] (value v rest) h i = absurd (false≢true h)
leaf_same prods [] (symbol d rest) h i = absurd (false≢true h)
leaf_same prods (kid ∷ kids) end h i = absurd (false≢true h)
leaf_same prods (kid ∷ kids) (value v rest) h zero =
    let both = and_parts (not (is_sort kid.kind) && fits prods v kid.kind) (kids_agree prods kids rest) h in
    ap (λ b. cond b None (Some v)) (not-true (is_sort kid.kind) (and_parts (not (is_sort kid.kind)) (fits prods v kid.kind) both.0).0)
leaf_same prods (kid ∷ kids) (value v rest) h (suc i) =
    leaf_same prods kids rest (and_parts (not (is_sort kid.kind) && fits prods v kid.kind) (kids_agree prods kids rest) h).1 i
leaf_same prods (kid ∷ kids) (symbol d rest) h zero =
    ap (λ b. cond b None (Some (bare d))) (symbol_sort prods (production_of d) kid.kind (and_parts (is_left prods (production_of d) kid.kind) (kids_agree prods kids rest) h).0)
leaf_same prods (kid ∷ kids) (symbol d rest) h (suc i) =
    leaf_same prods kids rest (and_parts (is_left prods (production_of d) kid.kind) (kids_agree prods kids rest) h).1 i

-- the trees of the symbols among the children
pub symbol_trees_are : (prods : List Production) (kids : List Kid) (ps : Parts) → IsTrue (kids_agree prods kids ps) → symbol_trees kids (bare_kids ps) ≡ map bare (symbols_in ps)
symbol_trees_are prods [] end h = refl
symbol_trees_are prods [] (value v rest) h = absurd (false≢true h)
symbol_trees_are prods [] (symbol d rest) h = absurd (false≢true h)
symbol_trees_are prods (kid ∷ kids) end h = absurd (false≢true h)
symbol_trees_are prods (kid ∷ kids) (value v rest) h =
    let both = and_parts (not (is_sort kid.kind) && fits prods v kid.kind) (kids_agree prods kids rest) h in
    ap (λ b. cond b (v ∷ symbol_trees kids (bare_kids rest)) (symbol_trees kids (bare_kids rest)))
    (not-true (is_sort kid.kind) (and_parts (not (is_sort kid.kind)) (fits prods v kid.kind) both.0).0)
    ∙ symbol_trees_are prods kids rest both.1
symbol_trees_are prods (kid ∷ kids) (symbol d rest) h =
    let both = and_parts (is_left prods (production_of d) kid.kind) (kids_agree prods kids rest) h in
    ap (λ b. cond b (bare d ∷ symbol_trees kids (bare_kids rest)) (symbol_trees kids (bare_kids rest))) (symbol_sort prods (production_of d) kid.kind both.0)
    ∙ ap (λ ts. bare d ∷ ts) (symbol_trees_are prods kids rest both.1)

-- a right node has a value for each attribute of a sort that its tree is of
pub attributes_count : (g : Grammar) (d : Decorated) (kind : Kind) → IsRight g d → IsTrue (is_left g.prods (production_of d) kind) → length (attributes_of d) ≡ length (attrs_of g.sorts kind)
attributes_count g (at_node n own kids extras) kind r h =
    let q = left_kind g.prods n kind h in
    let same : r.0.production ≡ q.0 = same_Some r.0.production q.0 (sym r.0.is_there ∙ q.1) in
    r.0.is_right.owns ∙ ap (λ (x : Production). length (attrs_of_sort g.sorts x.left)) same ∙ ap (λ kd. length (attrs_of g.sorts kd)) q.2

-- Symbol i of some places is the decorated tree d: that is of its sort, and its attributes stand in the list of the
-- node's values where the place says.
pub record StandsAt (g : Grammar) (whole : List Tree) (place : Place) (d : Decorated) : Type 0 where
  pub of_sort : IsTrue (is_left g.prods (production_of d) (k.Sort place.sort))
  pub attrs : (x : ℕ) → x < length (attrs_of_sort g.sorts place.sort) → slice_index_or whole (place.start + x) no_tree ≡ slice_index_or (attributes_of d) x no_tree

get_within : (before own rest : List Tree) (x start : ℕ) → start ≡ length before → x < length own → get_or (before ++ (own ++ rest)) (start + x) no_tree ≡ get_or own x no_tree
get_within before own rest x start at less =
    let i : start + x ≡ length before + x = omega (arith, at) in
    ap (λ j. get_or (before ++ (own ++ rest)) j no_tree) i ∙ get_or-append-add before (own ++ rest) x no_tree ∙ get_or_append_left own rest no_tree x less

get_first : (before rest : List Tree) (v : Tree) (start : ℕ) → start ≡ length before → get_or (before ++ v ∷ rest) start no_tree ≡ v
get_first before rest v start at =
    let i : start ≡ length before + 0 = omega (arith, at) in
    ap (λ j. get_or (before ++ v ∷ rest) j no_tree) i ∙ get_or-append-add before (v ∷ rest) 0 no_tree

pub record SymbolThere (g : Grammar) (whole : List Tree) (symbols : List Decorated) (i : ℕ) (place : Place) : Type 0 where
  pub tree : Decorated
  pub is_there : slice_get symbols i ≡ Some tree
  pub stands : StandsAt g whole place tree

later_symbol : (g : Grammar) (whole : List Tree) (e : Decorated) (ds : List Decorated) (i : ℕ) (place : Place) → SymbolThere g whole ds i place → SymbolThere g whole (e ∷ ds) (suc i) place
later_symbol g whole e ds i place h = record { tree = h.tree; is_there = h.is_there; stands = h.stands }

module _ (g : Grammar) where
  -- a kid that is a leaf has no occurrences and is no symbol
  pub leaf_kid : (kind : Kind) (start : ℕ) → is_sort kind ≡ false → (symbol_of kind start None ≡ []) × (length (attrs_of g.sorts kind) ≡ 0)
  leaf_kid k.Int start h = (refl, refl)
  leaf_kid k.Bool start h = (refl, refl)
  leaf_kid k.Name start h = (refl, refl)
  leaf_kid (k.Sort s) start h = absurd (false≢true (sym h))

  -- the symbols among children whose values stand behind others
  pub kid_symbol : (kids : List Kid) (ps : Parts) (before after : List Tree) (start i : ℕ) (place : Place) → start ≡ length before → IsTrue (kids_agree g.prods kids ps) → AreRight g ps
      → slice_get (kid_symbols g.sorts start kids) i ≡ Some place
      → SymbolThere g (before ++ (kid_values ps ++ after)) (symbols_in ps) i place × (place.tree ≡ None)
  kid_symbol [] ps before after start i place at h r e = absurd (none-some place e)
  kid_symbol (kid ∷ kids) end before after start i place at h r e = absurd (false≢true h)
  kid_symbol (kid ∷ kids) (value v rest) before after start i place at h r e =
      let both = and_parts (not (is_sort kid.kind) && fits g.prods v kid.kind) (kids_agree g.prods kids rest) h in
      let leaf = leaf_kid kid.kind start (not-true (is_sort kid.kind) (and_parts (not (is_sort kid.kind)) (fits g.prods v kid.kind) both.0).0) in
      let on : start + length (attrs_of g.sorts kid.kind) ≡ length before = omega (arith, leaf.1, at) in
      kid_symbol kids rest before after (start + length (attrs_of g.sorts kid.kind)) i place on both.1 r
      (ap (λ ps. slice_get (ps ++ kid_symbols g.sorts (start + length (attrs_of g.sorts kid.kind)) kids) i) (sym leaf.0) ∙ e)
  kid_symbol (kid ∷ kids) (symbol d rest) before after start i place at h r e =
      let both = and_parts (is_left g.prods (production_of d) kid.kind) (kids_agree g.prods kids rest) h in
      let q = left_kind g.prods (production_of d) kid.kind both.0 in
      let count = attributes_count g d kid.kind r.0 both.0 in
      let more = length-append before (attributes_of d) in
      let on : start + length (attrs_of g.sorts kid.kind) ≡ length (before ++ attributes_of d) = omega (arith, at, count, more) in
      let first : Place = record { sort = q.0.left; start = start; tree = None } in
      let symbols : symbol_of kid.kind start None ≡ first ∷ [] = ap (λ kd. symbol_of kd start None) (sym q.2) in
      let here : StandsAt g (before ++ ((attributes_of d ++ kid_values rest) ++ after)) first d = record {
        of_sort = subst (λ kd. IsTrue (is_left g.prods (production_of d) kd)) (sym q.2) both.0;
        attrs = λ x less.
            let l : x < length (attributes_of d) = subst (λ n. x < n) (ap (λ kd. length (attrs_of g.sorts kd)) q.2 ∙ sym count) less in
            ap (λ vs. get_or (before ++ vs) (start + x) no_tree) (append_assoc (attributes_of d) (kid_values rest) after)
            ∙ get_within before (attributes_of d) (kid_values rest ++ after) x start at l;
      } in
      let whole : (before ++ attributes_of d) ++ (kid_values rest ++ after) ≡ before ++ ((attributes_of d ++ kid_values rest) ++ after) =
      append_assoc before (attributes_of d) (kid_values rest ++ after) ∙ ap (λ vs. before ++ vs) (sym (append_assoc (attributes_of d) (kid_values rest) after)) in
      over d rest first (kid_symbols g.sorts (start + length (attrs_of g.sorts kid.kind)) kids) i place (before ++ ((attributes_of d ++ kid_values rest) ++ after)) here refl
      (ap (λ ps. slice_get (ps ++ kid_symbols g.sorts (start + length (attrs_of g.sorts kid.kind)) kids) i) (sym symbols) ∙ e)
      (λ j f. subst (λ vs. SymbolThere g vs (symbols_in rest) j place × (place.tree ≡ None)) whole
      (kid_symbol kids rest (before ++ attributes_of d) after (start + length (attrs_of g.sorts kid.kind)) j place on both.1 r.1 f))
    where
      over : (d : Decorated) (rest : Parts) (first : Place) (places : List Place) (i : ℕ) (place : Place) (whole : List Tree) → StandsAt g whole first d → first.tree ≡ None
          → slice_get (first ∷ places) i ≡ Some place
          → ((j : ℕ) → slice_get places j ≡ Some place → SymbolThere g whole (symbols_in rest) j place × (place.tree ≡ None))
          → SymbolThere g whole (d ∷ symbols_in rest) i place × (place.tree ≡ None)
      over d rest first places zero place whole here bare_place e later =
          let s : first ≡ place = same_Some first place e in
          (record { tree = d; is_there = refl; stands = subst (λ pl. StandsAt g whole pl d) s here }, ap (λ (pl : Place). pl.tree) (sym s) ∙ bare_place)
      over d rest first places (suc i) place whole here bare_place e later =
          let r = later i e in (later_symbol g whole d (symbols_in rest) i place r.0, r.1)

  -- how many occurrences a local and a nonterminal attribute have
  pub extra_plain : (x : Extra) → x.attached ≡ false → length (extra_occurrences g.sorts x) ≡ 1
  extra_plain x h = ap (λ b. suc (length (cond b (map symbol_occurrence (attrs_of g.sorts x.kind)) []))) h

  pub extra_attached : (x : Extra) → x.attached ≡ true → length (extra_occurrences g.sorts x) ≡ suc (length (attrs_of g.sorts x.kind))
  extra_attached x h =
      ap (λ b. suc (length (cond b (map symbol_occurrence (attrs_of g.sorts x.kind)) []))) h
      ∙ ap suc (length-map (attrs_of g.sorts x.kind) symbol_occurrence)

  -- a symbol that is a nonterminal attribute: its tree is the attribute's value
  pub record AttachedThere (whole : List Tree) (symbols : List Decorated) (i : ℕ) (place : Place) : Type 0 where
    pub symbol_there : SymbolThere g whole symbols i place
    pub at : ℕ
    pub has_tree : place.tree ≡ Some at
    pub value_is : slice_index_or whole at no_tree ≡ bare symbol_there.tree

  later_attached : (whole : List Tree) (e : Decorated) (ds : List Decorated) (i : ℕ) (place : Place) → AttachedThere whole ds i place → AttachedThere whole (e ∷ ds) (suc i) place
  unfolding later_symbol
  later_attached whole e ds i place h = record {
    symbol_there = later_symbol g whole e ds i place h.symbol_there;
    at = h.at;
    has_tree = h.has_tree;
    value_is = h.value_is;
  }

  -- the symbols among locals and nonterminal attributes whose values stand behind others
  pub extra_symbol : (xs : List Extra) (ps : Parts) (before : List Tree) (start i : ℕ) (place : Place) → start ≡ length before → IsTrue (extras_agree g.prods xs ps) → AreRight g ps
      → slice_get (extra_symbols g.sorts start xs) i ≡ Some place
      → AttachedThere (before ++ extra_values ps) (symbols_in ps) i place
  extra_symbol [] ps before start i place at h r e = absurd (none-some place e)
  extra_symbol (x ∷ xs) end before start i place at h r e = absurd (false≢true h)
  extra_symbol (x ∷ xs) (value v rest) before start i place at h r e =
      let both = and_parts (not x.attached) (extras_agree g.prods xs rest) h in
      let plain = not-true x.attached both.0 in
      let one = extra_plain x plain in
      let more = length-append before (v ∷ []) in
      let on : start + length (extra_occurrences g.sorts x) ≡ length (before ++ v ∷ []) = omega (arith, at, one, more) in
      subst (λ vs. AttachedThere vs (symbols_in rest) i place) (append_assoc before (v ∷ []) (extra_values rest))
      (extra_symbol xs rest (before ++ v ∷ []) (start + length (extra_occurrences g.sorts x)) i place on both.1 r
      (ap (λ b. slice_get (cond b (symbol_of x.kind (start + 1) (Some start)) [] ++ extra_symbols g.sorts (start + length (extra_occurrences g.sorts x)) xs) i) (sym plain) ∙ e))
  extra_symbol (x ∷ xs) (symbol d rest) before start i place at h r e =
      let three = and_parts (x.attached && is_left g.prods (production_of d) x.kind) (extras_agree g.prods xs rest) h in
      let two = and_parts x.attached (is_left g.prods (production_of d) x.kind) three.0 in
      let q = left_kind g.prods (production_of d) x.kind two.1 in
      let count = attributes_count g d x.kind r.0 two.1 in
      let values = extra_attached x two.0 in
      let one = length-append before (bare d ∷ attributes_of d) in
      let on : start + length (extra_occurrences g.sorts x) ≡ length (before ++ bare d ∷ attributes_of d) = omega (arith, at, count, values, one) in
      let first : Place = record { sort = q.0.left; start = start + 1; tree = Some start } in
      let symbols : cond x.attached (symbol_of x.kind (start + 1) (Some start)) [] ≡ first ∷ [] =
      ap (λ b. cond b (symbol_of x.kind (start + 1) (Some start)) []) two.0 ∙ ap (λ kd. symbol_of kd (start + 1) (Some start)) (sym q.2) in
      let behind = length-append before (bare d ∷ []) in
      let start_on : start + 1 ≡ length (before ++ bare d ∷ []) = omega (arith, at, behind) in
      let here : StandsAt g (before ++ bare d ∷ (attributes_of d ++ extra_values rest)) first d = record {
        of_sort = subst (λ kd. IsTrue (is_left g.prods (production_of d) kd)) (sym q.2) two.1;
        attrs = λ y less.
            let l : y < length (attributes_of d) = subst (λ n. y < n) (ap (λ kd. length (attrs_of g.sorts kd)) q.2 ∙ sym count) less in
            ap (λ vs. get_or vs (start + 1 + y) no_tree) (sym (append_assoc before (bare d ∷ []) (attributes_of d ++ extra_values rest)))
            ∙ get_within (before ++ bare d ∷ []) (attributes_of d) (extra_values rest) y (start + 1) start_on l;
      } in
      let value_here = get_first before (attributes_of d ++ extra_values rest) (bare d) start at in
      let whole : (before ++ bare d ∷ attributes_of d) ++ extra_values rest ≡ before ++ bare d ∷ (attributes_of d ++ extra_values rest) =
      append_assoc before (bare d ∷ attributes_of d) (extra_values rest) in
      over d rest first start (extra_symbols g.sorts (start + length (extra_occurrences g.sorts x)) xs) i place (before ++ bare d ∷ (attributes_of d ++ extra_values rest)) here refl value_here
      (ap (λ ps. slice_get (ps ++ extra_symbols g.sorts (start + length (extra_occurrences g.sorts x)) xs) i) (sym symbols) ∙ e)
      (λ j f. subst (λ vs. AttachedThere vs (symbols_in rest) j place) whole
      (extra_symbol xs rest (before ++ bare d ∷ attributes_of d) (start + length (extra_occurrences g.sorts x)) j place on three.1 r.1 f))
    where
      over : (d : Decorated) (rest : Parts) (first : Place) (start : ℕ) (places : List Place) (i : ℕ) (place : Place) (whole : List Tree) → StandsAt g whole first d → first.tree ≡ Some start
          → slice_index_or whole start no_tree ≡ bare d
          → slice_get (first ∷ places) i ≡ Some place
          → ((j : ℕ) → slice_get places j ≡ Some place → AttachedThere whole (symbols_in rest) j place)
          → AttachedThere whole (d ∷ symbols_in rest) i place
      over d rest first start places zero place whole here tree_here value_here e later =
          let s : first ≡ place = same_Some first place e in
          record {
            symbol_there = record { tree = d; is_there = refl; stands = subst (λ pl. StandsAt g whole pl d) s here };
            at = start;
            has_tree = ap (λ (pl : Place). pl.tree) (sym s) ∙ tree_here;
            value_is = value_here;
          }
      over d rest first start places (suc i) place whole here tree_here value_here e later =
          later_attached whole d (symbols_in rest) i place (later i e)

  -- how many symbols and values there are
  pub kid_counts : (kids : List Kid) (ps : Parts) (start : ℕ) → IsTrue (kids_agree g.prods kids ps) → AreRight g ps
      → (length (kid_symbols g.sorts start kids) ≡ length (symbols_in ps))
      × (length (kid_values ps) ≡ length (flat_map (λ (kid : Kid). map symbol_occurrence (attrs_of g.sorts kid.kind)) kids))
  kid_counts [] end start h r = (refl, refl)
  kid_counts [] (value v rest) start h r = absurd (false≢true h)
  kid_counts [] (symbol d rest) start h r = absurd (false≢true h)
  kid_counts (kid ∷ kids) end start h r = absurd (false≢true h)
  kid_counts (kid ∷ kids) (value v rest) start h r =
      let both = and_parts (not (is_sort kid.kind) && fits g.prods v kid.kind) (kids_agree g.prods kids rest) h in
      let leaf = leaf_kid kid.kind start (not-true (is_sort kid.kind) (and_parts (not (is_sort kid.kind)) (fits g.prods v kid.kind) both.0).0) in
      let rests = kid_counts kids rest (start + length (attrs_of g.sorts kid.kind)) both.1 r in
      let values = length-append (map symbol_occurrence (attrs_of g.sorts kid.kind)) (flat_map (λ (kid : Kid). map symbol_occurrence (attrs_of g.sorts kid.kind)) kids) in
      let own = length-map (attrs_of g.sorts kid.kind) symbol_occurrence in (
        ap (λ ps. length (ps ++ kid_symbols g.sorts (start + length (attrs_of g.sorts kid.kind)) kids)) leaf.0 ∙ rests.0,
        omega (arith, values, own, leaf.1, rests.1),
      )
  kid_counts (kid ∷ kids) (symbol d rest) start h r =
      let both = and_parts (is_left g.prods (production_of d) kid.kind) (kids_agree g.prods kids rest) h in
      let q = left_kind g.prods (production_of d) kid.kind both.0 in
      let count = attributes_count g d kid.kind r.0 both.0 in
      let rests = kid_counts kids rest (start + length (attrs_of g.sorts kid.kind)) both.1 r.1 in
      let values = length-append (map symbol_occurrence (attrs_of g.sorts kid.kind)) (flat_map (λ (kid : Kid). map symbol_occurrence (attrs_of g.sorts kid.kind)) kids) in
      let own = length-map (attrs_of g.sorts kid.kind) symbol_occurrence in
      let all = length-append (attributes_of d) (kid_values rest) in (
        ap (λ kd. length (symbol_of kd start None ++ kid_symbols g.sorts (start + length (attrs_of g.sorts kid.kind)) kids)) (sym q.2) ∙ ap suc rests.0,
        omega (arith, values, own, all, count, rests.1),
      )

  pub extra_counts : (xs : List Extra) (ps : Parts) → IsTrue (extras_agree g.prods xs ps) → AreRight g ps → length (extra_values ps) ≡ length (flat_map (extra_occurrences g.sorts) xs)
  extra_counts [] end h r = refl
  extra_counts [] (value v rest) h r = absurd (false≢true h)
  extra_counts [] (symbol d rest) h r = absurd (false≢true h)
  extra_counts (x ∷ xs) end h r = absurd (false≢true h)
  extra_counts (x ∷ xs) (value v rest) h r =
      let both = and_parts (not x.attached) (extras_agree g.prods xs rest) h in
      let one = extra_plain x (not-true x.attached both.0) in
      let rests = extra_counts xs rest both.1 r in
      let all = length-append (extra_occurrences g.sorts x) (flat_map (extra_occurrences g.sorts) xs) in
      omega (arith, one, rests, all)
  extra_counts (x ∷ xs) (symbol d rest) h r =
      let three = and_parts (x.attached && is_left g.prods (production_of d) x.kind) (extras_agree g.prods xs rest) h in
      let two = and_parts x.attached (is_left g.prods (production_of d) x.kind) three.0 in
      let count = attributes_count g d x.kind r.0 two.1 in
      let values = extra_attached x two.0 in
      let rests = extra_counts xs rest three.1 r.1 in
      let all = length-append (extra_occurrences g.sorts x) (flat_map (extra_occurrences g.sorts) xs) in
      let own = length-append (attributes_of d) (extra_values rest) in
      omega (arith, count, values, rests, all, own)
