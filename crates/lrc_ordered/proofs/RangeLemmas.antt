-- In a well-formed grammar needs are of occurrences, and places are of sorts that are there.
use Rattle.std.proofs.Common.{ltb-true, ◌≡◌, ℕ, zero, suc, ◌+◌, ◌<◌, ◌≤◌, Bool, true, false, not, ◌&&◌, ◌||◌, cond, List, [], ◌∷◌, ◌++◌, map, length, All, Option, Some, None, IsTrue, slice_get, get_or, refl, arith}
use Rattle.std.specs.Prelude.{flat_map}
use Rattle.std.specs.Option.{option_map_or, option_map, option_and_then}
use Rattle.std.specs.List.{list_all, range_with_len}
use Rattle.std.proofs.lemmas.Bool.{and_parts, false≢true}
use Rattle.std.proofs.lemmas.Option.{none-some, same_Some, slice_get_within}
use Rattle.std.proofs.lemmas.List.Elements.{All-nil, All-cons, All-append, All-map, All-weaker, All-from_recursion}
use Rattle.lrc_base.specs.declared.grammar.Kind.{Kind}
use Rattle.lrc_base.specs.declared.grammar.Kind.TheVariants as k
use Rattle.lrc_base.specs.declared.grammar.Sort.{Sort}
use Rattle.lrc_base.specs.declared.grammar.Kid.{Kid}
use Rattle.lrc_base.specs.declared.grammar.Extra.{Extra}
use Rattle.lrc_base.specs.declared.grammar.Equation.{Equation}
use Rattle.lrc_base.specs.declared.grammar.Production.{Production}
use Rattle.lrc_base.specs.declared.expr.Op.{Op}
use Rattle.lrc_base.specs.declared.expr.Op.TheVariants as o
use Rattle.lrc_meaning.specs.Tree.{same_kind, is_sort}
use Rattle.lrc_meaning.specs.Expression.{Expression, literal, occurrence, leaf, binary, choice, make, Expressions, no_more, and_more, expression}
use Rattle.lrc_meaning.specs.Grammar.{Grammar, Occurrence, attrs_of_sort, attrs_of, extra_occurrences, occurrences_of, common_kind, of_kind, operated_kind, expression_kind, have_kinds, is_known, is_equation_right, is_production_right, is_well_formed}
use Rattle.lrc_order_meaning.specs.declared.Need.{Need}
use Rattle.lrc_order_meaning.specs.declared.Place.{Place}
use Rattle.lrc_order_meaning.specs.Needs.{reads, reads_of_each, symbol_of, kid_symbols, extra_symbols, left_place, symbols_of, places_of, own_end, kids_end, occurrences_at, need, equation_needs, tree_needs, needs_of}
use Rattle.lrc_ordered.proofs.PlaceLemmas.{IsWithin, places_within}

-- a list with a test that each item passes, by items
pub all_pass : {X : Type 0} (p : X → Bool) (P : X → Type 0) → ((x : X) → p x ≡ true → P x) → (xs : List X) → list_all p xs ≡ true → All P xs
all_pass p P f [] h = All-nil P
all_pass p P f (x ∷ xs) h =
    let parts = and_parts (p x) (list_all p xs) h in All-cons P x xs (f x parts.0) (all_pass p P f xs parts.1)

pub all_flat : {X Y : Type 0} (f : X → List Y) (P : Y → Type 0) (xs : List X) → All (λ x. All P (f x)) xs → All P (flat_map f xs)
all_flat f P [] h = All-nil P
all_flat f P (x ∷ xs) h = All-append P (f x) (flat_map f xs) (h 0 x (omega arith)) (all_flat f P xs (λ k d l. h (suc k) d (omega arith)))

abbrev pub IsSomeKind : Option Kind → Type 0
IsSomeKind x = (kind : Kind) × (x ≡ Some kind)

common_parts : (x y : Option Kind) (kind : Kind) → common_kind x y ≡ Some kind → IsSomeKind x × IsSomeKind y
common_parts None y kind h = absurd (none-some kind h)
common_parts (Some a) None kind h = absurd (none-some kind h)
common_parts (Some a) (Some b) kind h = ((a, refl), (b, refl))

of_kind_some : (needed gives : Kind) (found : Option Kind) (kind : Kind) → of_kind needed gives found ≡ Some kind → IsSomeKind found
of_kind_some needed gives None kind h = absurd (none-some kind h)
of_kind_some needed gives (Some a) kind h = (a, refl)

mapped_some : (found : Option Kind) (f : Kind → Kind) (kind : Kind) → option_map f found ≡ Some kind → IsSomeKind found
mapped_some None f kind h = absurd (none-some kind h)
mapped_some (Some a) f kind h = (a, refl)

operated_parts : (op : Op) (x y : Option Kind) (kind : Kind) → operated_kind op x y ≡ Some kind → IsSomeKind x × IsSomeKind y
operated_parts o.Add x y kind h = let c = of_kind_some k.Int k.Int (common_kind x y) kind h in common_parts x y c.0 c.1
operated_parts o.Sub x y kind h = let c = of_kind_some k.Int k.Int (common_kind x y) kind h in common_parts x y c.0 c.1
operated_parts o.Mul x y kind h = let c = of_kind_some k.Int k.Int (common_kind x y) kind h in common_parts x y c.0 c.1
operated_parts o.Equal x y kind h = let c = mapped_some (common_kind x y) (λ a. k.Bool) kind h in common_parts x y c.0 c.1
operated_parts o.Less x y kind h = let c = of_kind_some k.Int k.Bool (common_kind x y) kind h in common_parts x y c.0 c.1

cond_parts : (b : Bool) (x : Option Kind) (kind : Kind) → cond b x None ≡ Some kind → (b ≡ true) × (x ≡ Some kind)
cond_parts true x kind h = (refl, h)
cond_parts false x kind h = absurd (none-some kind h)

choice_parts : (c x y : Option Kind) (kind : Kind) → option_and_then (λ a. cond (same_kind a k.Bool) (common_kind x y) None) c ≡ Some kind
    → IsSomeKind c × IsSomeKind x × IsSomeKind y
choice_parts None x y kind h = absurd (none-some kind h)
choice_parts (Some a) x y kind h =
    let parts = common_parts x y kind (cond_parts (same_kind a k.Bool) (common_kind x y) kind h).1 in ((a, refl), parts.0, parts.1)

read_there : (found : Option Occurrence) (kind : Kind) → option_and_then (λ (x : Occurrence). cond x.is_read (Some x.kind) None) found ≡ Some kind
    → (x : Occurrence) × (found ≡ Some x)
read_there None kind h = absurd (none-some kind h)
read_there (Some x) kind h = (x, refl)

made_there : (found : Option Production) (f : Production → Bool) (kind : Kind)
    → option_and_then (λ (q : Production). cond (f q) (Some (k.Sort q.left)) None) found ≡ Some kind → (q : Production) × (f q ≡ true)
made_there None f kind h = absurd (none-some kind h)
made_there (Some q) f kind h = (q, (cond_parts (f q) (Some (k.Sort q.left)) kind h).0)

mapped_true : (found : Option Kind) (f : Kind → Bool) → option_map_or f found false ≡ true → IsSomeKind found
mapped_true None f h = absurd (false≢true h)
mapped_true (Some a) f h = (a, refl)

module _ (prods : List Production) (occurrences : List Occurrence) (kids : List Kid) where
  abbrev IsThere : ℕ → Type 0
  IsThere i = i < length occurrences

  mutual
    pub reads_there : (e : Expression) (kind : Kind) → expression_kind prods occurrences kids e ≡ Some kind → All IsThere (reads e)
    reads_there (literal t) kind h = All-nil IsThere
    reads_there (occurrence i) kind h =
        let x = read_there (slice_get occurrences i) kind h in
        All-from_recursion IsThere (i ∷ []) (slice_get_within occurrences i x.0 x.1, tt)
    reads_there (leaf i) kind h = All-nil IsThere
    reads_there (binary op a b) kind h =
        let parts = operated_parts op (expression_kind prods occurrences kids a) (expression_kind prods occurrences kids b) kind h in
        All-append IsThere (reads a) (reads b) (reads_there a parts.0.0 parts.0.1) (reads_there b parts.1.0 parts.1.1)
    reads_there (choice c a b) kind h =
        let parts = choice_parts (expression_kind prods occurrences kids c) (expression_kind prods occurrences kids a) (expression_kind prods occurrences kids b) kind h in
        All-append IsThere (reads c) (reads a ++ reads b) (reads_there c parts.0.0 parts.0.1)
        (All-append IsThere (reads a) (reads b) (reads_there a parts.1.0 parts.1.1) (reads_there b parts.2.0 parts.2.1))
    reads_there (make p args) kind h =
        let made = made_there (slice_get prods p) (λ (q : Production). have_kinds prods occurrences kids args q.kids) kind h in
        each_read_there args made.0.kids made.1

    pub each_read_there : (es : Expressions) (needed : List Kid) → have_kinds prods occurrences kids es needed ≡ true → All IsThere (reads_of_each es)
    each_read_there no_more needed h = All-nil IsThere
    each_read_there (and_more e es) [] h = absurd (false≢true h)
    each_read_there (and_more e es) (kid ∷ rest) h =
        let parts = and_parts (option_map_or (λ x. same_kind x kid.kind) (expression_kind prods occurrences kids e) false) (have_kinds prods occurrences kids es rest) h in
        let kind = mapped_true (expression_kind prods occurrences kids e) (λ x. same_kind x kid.kind) parts.0 in
        All-append IsThere (reads e) (reads_of_each es) (reads_there e kind.0 kind.1) (each_read_there es rest parts.1)

-- a need is of two occurrences below a number
abbrev pub IsNeedWithin : ℕ → Need → Type 0
IsNeedWithin total n = (n.first < total) × (n.then < total)

right_over : (target : Option Occurrence) (kind : Option Kind)
    → option_map_or (λ (t : Occurrence). t.is_defined && option_map_or (same_kind t.kind) kind false) target false ≡ true
    → ((t : Occurrence) × (target ≡ Some t)) × IsSomeKind kind
right_over None kind h = absurd (false≢true h)
right_over (Some t) kind h =
    ((t, refl), mapped_true kind (same_kind t.kind) (and_parts t.is_defined (option_map_or (same_kind t.kind) kind false) h).1)

equation_within : (sorts : List Sort) (prods : List Production) (p : Production) (e : Equation) → is_equation_right sorts prods p e ≡ true
    → All (IsNeedWithin (length (occurrences_of sorts p))) (equation_needs e)
equation_within sorts prods p e h =
    let total = length (occurrences_of sorts p) in
    let parts = right_over (slice_get (occurrences_of sorts p) e.target) (expression_kind prods (occurrences_of sorts p) p.kids (expression e.expr)) h in
    let target = slice_get_within (occurrences_of sorts p) e.target parts.0.0 parts.0.1 in
    All-map (IsNeedWithin total) (λ i. need i e.target) (reads (expression e.expr))
    (All-weaker (λ i. i < total) (λ i. IsNeedWithin total (need i e.target)) (λ i l. (l, target)) (reads (expression e.expr))
    (reads_there prods (occurrences_of sorts p) p.kids (expression e.expr) parts.1.0 parts.1.1))

range_within : (start n total : ℕ) → start + n ≤ total → All (λ i. i < total) (range_with_len start n)
range_within start zero total h = All-nil (λ i. i < total)
range_within start (suc n) total h = All-cons (λ i. i < total) start (range_with_len (start + 1) n) (omega arith) (range_within (start + 1) n total (omega arith))

-- a place is of a sort that is there, and a nonterminal attribute's value stands before its attributes
pub record IsPlaced (sorts : List Sort) (place : Place) : Type 0 where
  pub sort_there : place.sort < length sorts
  pub tree_before : (tree : ℕ) → place.tree ≡ Some tree → tree < place.start

symbol_placed : (sorts : List Sort) (kind : Kind) (start : ℕ) (tree : Option ℕ) → is_known sorts kind ≡ true
    → ((t : ℕ) → tree ≡ Some t → t < start) → All (IsPlaced sorts) (symbol_of kind start tree)
symbol_placed sorts k.Int start tree known before = All-nil (IsPlaced sorts)
symbol_placed sorts k.Bool start tree known before = All-nil (IsPlaced sorts)
symbol_placed sorts k.Name start tree known before = All-nil (IsPlaced sorts)
symbol_placed sorts (k.Sort s) start tree known before =
    All-from_recursion (IsPlaced sorts) (record { sort = s; start = start; tree = tree } ∷ [])
    (record { sort_there = ltb-true s (length sorts) known; tree_before = before }, tt)

kids_placed : (sorts : List Sort) (start : ℕ) (kids : List Kid) → list_all (λ (kid : Kid). is_known sorts kid.kind) kids ≡ true
    → All (IsPlaced sorts) (kid_symbols sorts start kids)
kids_placed sorts start [] h = All-nil (IsPlaced sorts)
kids_placed sorts start (kid ∷ kids) h =
    let parts = and_parts (is_known sorts kid.kind) (list_all (λ (kid : Kid). is_known sorts kid.kind) kids) h in
    All-append (IsPlaced sorts) (symbol_of kid.kind start None) (kid_symbols sorts (start + length (attrs_of sorts kid.kind)) kids)
    (symbol_placed sorts kid.kind start None parts.0 (λ t e. absurd (none-some t e)))
    (kids_placed sorts (start + length (attrs_of sorts kid.kind)) kids parts.1)

attached_placed : (sorts : List Sort) (attached : Bool) (kind : Kind) (start : ℕ) → is_known sorts kind ≡ true
    → All (IsPlaced sorts) (cond attached (symbol_of kind (start + 1) (Some start)) [])
attached_placed sorts true kind start known =
    symbol_placed sorts kind (start + 1) (Some start) known (λ t e. let same = same_Some start t e in omega arith)
attached_placed sorts false kind start known = All-nil (IsPlaced sorts)

abbrev IsExtraRight : List Sort → Extra → Bool
IsExtraRight sorts x = is_known sorts x.kind && (not x.attached || is_sort x.kind)

extras_placed : (sorts : List Sort) (start : ℕ) (xs : List Extra) → list_all (IsExtraRight sorts) xs ≡ true
    → All (IsPlaced sorts) (extra_symbols sorts start xs)
extras_placed sorts start [] h = All-nil (IsPlaced sorts)
extras_placed sorts start (x ∷ xs) h =
    let parts = and_parts (IsExtraRight sorts x) (list_all (IsExtraRight sorts) xs) h in
    All-append (IsPlaced sorts) (cond x.attached (symbol_of x.kind (start + 1) (Some start)) []) (extra_symbols sorts (start + length (extra_occurrences sorts x)) xs)
    (attached_placed sorts x.attached x.kind start (and_parts (is_known sorts x.kind) (not x.attached || is_sort x.kind) parts.0).0)
    (extras_placed sorts (start + length (extra_occurrences sorts x)) xs parts.1)

module _ (sorts : List Sort) (prods : List Production) (p : Production) (right : is_production_right sorts prods p ≡ true) where
  pub places_placed : All (IsPlaced sorts) (places_of sorts p)
  places_placed =
      let six = and_parts _ _ right in
      let five = and_parts _ _ six.0 in
      let four = and_parts _ _ five.0 in
      let three = and_parts _ _ four.0 in
      let two = and_parts _ _ three.0 in
      let one = and_parts _ _ two.0 in
      All-cons (IsPlaced sorts) (left_place p) (symbols_of sorts p)
      (record { sort_there = ltb-true p.left (length sorts) one.0; tree_before = λ t e. absurd (none-some t e) })
      (All-append (IsPlaced sorts) (kid_symbols sorts (own_end sorts p) p.kids) (extra_symbols sorts (kids_end sorts p) p.extras)
      (kids_placed sorts (own_end sorts p) p.kids one.1)
      (extras_placed sorts (kids_end sorts p) p.extras two.1))

  tree_within : (place : Place) (tree : Option ℕ) → place.tree ≡ tree → IsPlaced sorts place → IsWithin sorts (length (occurrences_of sorts p)) place
      → All (IsNeedWithin (length (occurrences_of sorts p))) (option_map_or (λ t. map (need t) (occurrences_at sorts place)) tree [])
  tree_within place None e placed within = All-nil (IsNeedWithin (length (occurrences_of sorts p)))
  tree_within place (Some t) e placed within =
      let total = length (occurrences_of sorts p) in
      let before = placed.tree_before t e in
      let small : t < total = omega arith in
      All-map (IsNeedWithin total) (need t) (occurrences_at sorts place)
      (All-weaker (λ i. i < total) (λ i. IsNeedWithin total (need t i)) (λ i l. (small, l)) (occurrences_at sorts place)
      (range_within place.start (length (attrs_of_sort sorts place.sort)) total within))

  -- the needs of a production are of its occurrences
  pub needs_within : All (IsNeedWithin (length (occurrences_of sorts p))) (needs_of sorts p)
  needs_within =
      let total = length (occurrences_of sorts p) in
      let equations = (and_parts _ _ (and_parts _ _ (and_parts _ _ right).0).0).1 in
      All-append (IsNeedWithin total) (flat_map equation_needs p.equations) (flat_map (tree_needs sorts) (places_of sorts p))
      (all_flat equation_needs (IsNeedWithin total) p.equations
      (all_pass (is_equation_right sorts prods p) (λ e. All (IsNeedWithin total) (equation_needs e)) (equation_within sorts prods p) p.equations equations))
      (all_flat (tree_needs sorts) (IsNeedWithin total) (places_of sorts p)
      (λ k d h.
      let place : Place = get_or (places_of sorts p) k d in
      tree_within place place.tree refl (places_placed k d h) (places_within sorts p k d h)))

pub production_right : (g : Grammar) → IsTrue (is_well_formed g) → All (λ p. is_production_right g.sorts g.prods p ≡ true) g.prods
production_right g well =
    all_pass (is_production_right g.sorts g.prods) (λ p. is_production_right g.sorts g.prods p ≡ true) (λ p h. h) g.prods
    (and_parts _ _ (and_parts _ _ well).0).1
