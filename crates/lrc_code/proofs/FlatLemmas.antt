-- The trees that the items of a flat term make on the way: each is a part of the whole, whose productions and children are
-- limited as the whole's, and they are few.
use Rattle.std.proofs.Common.{◌≡◌, ℕ, zero, suc, ◌+◌, ◌-◌, ◌*◌, ◌<◌, ◌≤◌, max, List, [], ◌∷◌, ◌++◌, length, map, take, get_or, refl, sym, ◌∙◌, ap, subst, arith}
use Rattle.std.specs.Prelude.{IsTrue, nat_lt, nat_le}
use Rattle.std.proofs.lemmas.List.{length-map, map-append, take-append-drop}
use Rattle.std.proofs.lemmas.Bool.{and_parts, leb-true}
use borrow.Author.Tests.{ltb-true}
use Rattle.lrc_base.specs.declared.term.TermTree.{TermTree}
use Rattle.lrc_base.specs.declared.item.TermItem.{TermItem}
use Rattle.lrc_base.specs.declared.item.TermItem.TheVariants as i
use Rattle.lrc_base.specs.declared.limits.TheConstants.{CHILD_LIMIT}
use Rattle.lrc_base.specs.Forest.{grow, Fit}
use Rattle.lrc_base.specs.Terms.{wanted, grown, forest, Fits}
use Rattle.lrc_base.proofs.ItemLemmas.{forest_next, forest_all, forest_none}
use Rattle.lrc_meaning.specs.Tree.{Tree, int, bool, name, node, row, in_order, tree, tree_height, tallest}
use Rattle.lrc_meaning.proofs.ItemLemmas.{trees_with, trees_grown}
use Rattle.lrc_store.specs.Cells.{CellTree, nil, parts, IsWithin}
use Rattle.lrc_code.specs.Forms.{list_cell, node_cell, tree_cell, kid_cells, item_cell, are_productions_below, are_kids_below, are_kids_few, are_all_few}
use Rattle.lrc_code.specs.Stack.{last_of, all_but}
use Rattle.lrc_code.proofs.Growing.{left-within, right-within}
use Rattle.lrc_code.proofs.StackLemmas.{map-last_of, last_none, all_but_none}

-- ---- the tree that an item makes

abbrev pub item_tree : TermItem → List Tree → Tree
item_tree (i.Int x) ts = int x
item_tree (i.Bool b) ts = bool b
item_tree (i.Name n) ts = name n
item_tree (i.Node p n) ts = node p (row (last_of n ts))

-- it takes the place of the trees that the item takes
trees-behind : (ts : List Tree) (item : TermItem) → trees_with ts item ≡ all_but (wanted item) ts ++ item_tree item ts ∷ []
trees-behind ts (i.Int x) = ap (λ us. us ++ int x ∷ []) (sym (all_but_none ts))
trees-behind ts (i.Bool b) = ap (λ us. us ++ bool b ∷ []) (sym (all_but_none ts))
trees-behind ts (i.Name n) = ap (λ us. us ++ name n ∷ []) (sym (all_but_none ts))
trees-behind ts (i.Node p n) = refl

kid-cells-row : (ts : List Tree) → kid_cells (row ts) ≡ map tree_cell ts
kid-cells-row [] = refl
kid-cells-row (t ∷ ts) = ap (λ cells. tree_cell t ∷ cells) (kid-cells-row ts)

cell-of-item : (ts : List Tree) (item : TermItem) → tree_cell (item_tree item ts) ≡ item_cell item (map tree_cell ts)
cell-of-item ts (i.Int x) = refl
cell-of-item ts (i.Bool b) = refl
cell-of-item ts (i.Name n) = refl
cell-of-item ts (i.Node p n) = ap (λ cells. node_cell p (list_cell cells)) (kid-cells-row (last_of n ts) ∙ map-last_of tree_cell n ts)

map-take : {A B : Type 0} (f : A → B) (n : ℕ) (xs : List A) → map f (take n xs) ≡ take n (map f xs)
map-take f zero xs = refl
map-take f (suc n) [] = refl
map-take f (suc n) (x ∷ xs) = ap (λ ys. f x ∷ ys) (map-take f n xs)

map-all_but : {A B : Type 0} (f : A → B) (n : ℕ) (xs : List A) → map f (all_but n xs) ≡ all_but n (map f xs)
map-all_but f n xs = map-take f (length xs - n) xs ∙ ap (λ m. take (m - n) (map f xs)) (sym (length-map xs f))

-- ---- the trees behind the first items, and their cells

abbrev pub trees_at : List TermItem → ℕ → List Tree
trees_at items k = map tree (forest (take k items))

abbrev pub cells_at : List TermItem → ℕ → List CellTree
cells_at items k = map tree_cell (trees_at items k)

pub trees-next : (items : List TermItem) (k : ℕ) (item : TermItem) → k < length items → item ≡ get_or items k item →
    trees_at items (k + 1) ≡ all_but (wanted item) (trees_at items k) ++ item_tree item (trees_at items k) ∷ []
trees-next items k item h e = ap (map tree) (forest_next items k item h e) ∙ trees_grown (forest (take k items)) item ∙ trees-behind (trees_at items k) item

pub cells-next : (items : List TermItem) (k : ℕ) (item : TermItem) → k < length items → item ≡ get_or items k item →
    cells_at items (k + 1) ≡ all_but (wanted item) (cells_at items k) ++ item_cell item (cells_at items k) ∷ []
cells-next items k item h e =
    let ts = trees_at items k in
    ap (map tree_cell) (trees-next items k item h e)
    ∙ map-append tree_cell (all_but (wanted item) ts) (item_tree item ts ∷ [])
    ∙ ap (λ cells. cells ++ tree_cell (item_tree item ts) ∷ []) (map-all_but tree_cell (wanted item) ts)
    ∙ ap (λ cell. all_but (wanted item) (cells_at items k) ++ cell ∷ []) (cell-of-item ts item)

pub cells-none : (items : List TermItem) → cells_at items 0 ≡ []
cells-none items = ap (λ ts. map tree_cell (map tree ts)) forest_none

-- behind all items there is the cell of the term
pub cells-all : (items : List TermItem) (k : ℕ) (term : TermTree) → forest items ≡ term ∷ [] → length items ≤ k → cells_at items k ≡ tree_cell (tree term) ∷ []
cells-all items k term e h = ap (λ ts. map tree_cell (map tree ts)) (forest_all items k h ∙ e)

pub length-cells : (items : List TermItem) (k : ℕ) → length (cells_at items k) ≡ length (forest (take k items))
length-cells items k = length-map (trees_at items k) tree_cell ∙ length-map (forest (take k items)) tree

-- ---- backwards over the items

module _ (P : List TermTree → Type 0) (back : (ts : List TermTree) (item : TermItem) → wanted item ≤ length ts → P (grown ts item) → P ts) where
  grown-back : (ts : List TermTree) (items : List TermItem) (k : ℕ) → Fit wanted grown ts items → P (grow wanted grown ts items) → P (grow wanted grown ts (take k items))
  grown-back ts [] zero fit h = h
  grown-back ts [] (suc k) fit h = h
  grown-back ts (item ∷ items) zero fit h = back ts item fit.0 (grown-back (grown ts item) items zero fit.1 h)
  grown-back ts (item ∷ items) (suc k) fit h = grown-back (grown ts item) items k fit.1 h

  forest-back : (items : List TermItem) (k : ℕ) → Fits items → P (forest items) → P (forest (take k items))
  unfolding forest Fits
  forest-back items k fit h = grown-back [] items k fit h

-- ---- what holds of a tree's children where it holds of the tree holds of the trees before

abbrev pub Each : (Tree → Type 0) → List Tree → Type 0
Each Q [] = Unit {0}
Each Q (t ∷ ts) = Q t × Each Q ts

module _ (Q : Tree → Type 0) where
  pub each-front : (ts us : List Tree) → Each Q (ts ++ us) → Each Q ts
  each-front [] us h = tt
  each-front (t ∷ ts) us h = (h.0, each-front ts us h.1)

  pub each-end : (ts us : List Tree) → Each Q (ts ++ us) → Each Q us
  each-end [] us h = h
  each-end (t ∷ ts) us h = each-end ts us h.1

  pub each-both : (ts us : List Tree) → Each Q ts → Each Q us → Each Q (ts ++ us)
  each-both [] us h k = k
  each-both (t ∷ ts) us h k = (h.0, each-both ts us h.1 k)

  module _ (inherit : (p : ℕ) (kids : List Tree) → Q (node p (row kids)) → Each Q kids) where
    taken-each : (ts : List Tree) (item : TermItem) → Q (item_tree item ts) → Each Q (last_of (wanted item) ts)
    taken-each ts (i.Int x) h = subst (Each Q) (sym (last_none ts)) tt
    taken-each ts (i.Bool b) h = subst (Each Q) (sym (last_none ts)) tt
    taken-each ts (i.Name n) h = subst (Each Q) (sym (last_none ts)) tt
    taken-each ts (i.Node p n) h = inherit p (last_of n ts) h

    each-before : (ts : List Tree) (item : TermItem) → Each Q (all_but (wanted item) ts ++ item_tree item ts ∷ []) → Each Q ts
    each-before ts item h =
        let n = wanted item in
        subst (Each Q) (take-append-drop (length ts - n) ts)
        (each-both (all_but n ts) (last_of n ts) (each-front (all_but n ts) (item_tree item ts ∷ []) h)
        (taken-each ts item (each-end (all_but n ts) (item_tree item ts ∷ []) h).0))

-- ---- a part of the whole, whose productions and children are limited

pub record IsPart (whole : CellTree) (t : Tree) : Type 0 where
  pub within : IsWithin (parts (tree_cell t)) (parts whole)
  pub below : IsTrue (are_productions_below 65280 t)
  pub few : IsTrue (are_kids_few CHILD_LIMIT t)

kids-parts : (whole : CellTree) (kids : List Tree) → IsWithin (parts (list_cell (kid_cells (row kids)))) (parts whole) → IsTrue (are_kids_below 65280 (row kids)) → IsTrue (are_all_few CHILD_LIMIT (row kids)) →
    Each (IsPart whole) kids
kids-parts whole [] w below few = tt
kids-parts whole (t ∷ ts) w below few =
    let b = and_parts (are_productions_below 65280 t) (are_kids_below 65280 (row ts)) below in
    let f = and_parts (are_kids_few CHILD_LIMIT t) (are_all_few CHILD_LIMIT (row ts)) few in (
      record { within = λ part h. w part (left-within 4 (tree_cell t) (list_cell (kid_cells (row ts))) part h); below = b.0; few = f.0 },
      kids-parts whole ts (λ part h. w part (right-within 4 (tree_cell t) (list_cell (kid_cells (row ts))) part h)) b.1 f.1,
    )

below-own : (p : ℕ) (kids : List Tree) → IsTrue (are_productions_below 65280 (node p (row kids))) → IsTrue (nat_lt p 65280) × IsTrue (are_kids_below 65280 (row kids))
below-own p kids h = and_parts (nat_lt p 65280) (are_kids_below 65280 (row kids)) h

few-own : (p : ℕ) (kids : List Tree) → IsTrue (are_kids_few CHILD_LIMIT (node p (row kids))) → IsTrue (nat_le (length (in_order (row kids))) CHILD_LIMIT) × IsTrue (are_all_few CHILD_LIMIT (row kids))
few-own p kids h = and_parts (nat_le (length (in_order (row kids))) CHILD_LIMIT) (are_all_few CHILD_LIMIT (row kids)) h

part-kids : (whole : CellTree) (p : ℕ) (kids : List Tree) → IsPart whole (node p (row kids)) → Each (IsPart whole) kids
part-kids whole p kids h =
    kids-parts whole kids (λ part own. h.within part (left-within (256 + p) (list_cell (kid_cells (row kids))) nil part own))
    (below-own p kids h.below).1 (few-own p kids h.few).1

row-length : (kids : List Tree) → length (in_order (row kids)) ≡ length kids
row-length [] = refl
row-length (t ∷ ts) = ap suc (row-length ts)

part-few : (whole : CellTree) (p : ℕ) (kids : List Tree) → IsPart whole (node p (row kids)) → length kids ≤ 8
part-few whole p kids h =
    let few = leb-true (length (in_order (row kids))) CHILD_LIMIT (few-own p kids h.few).0 in
    omega (arith, row-length kids)

-- ---- how many trees there are

-- the most of each tree's place and 8 for each of its levels
abbrev pub reach : List Tree → ℕ
reach [] = 0
reach (t ∷ ts) = max (8 * tree_height t) (suc (reach ts))

length-reach : (ts : List Tree) → length ts ≤ reach ts
length-reach [] = omega arith
length-reach (t ∷ ts) = let rest = length-reach ts in omega (arith, rest)

reach-behind : (ts us vs : List Tree) → reach us ≤ reach vs → reach (ts ++ us) ≤ reach (ts ++ vs)
reach-behind [] us vs h = h
reach-behind (t ∷ ts) us vs h = let rest = reach-behind ts us vs h in omega (arith, rest)

reach-kids : (ts : List Tree) → reach ts ≤ 8 * tallest (row ts) + length ts
reach-kids [] = omega arith
reach-kids (t ∷ ts) = let rest = reach-kids ts in omega (arith, rest)

reach-taken : (whole : CellTree) (ts : List Tree) (item : TermItem) → IsPart whole (item_tree item ts) → reach (last_of (wanted item) ts) ≤ reach (item_tree item ts ∷ [])
reach-taken whole ts (i.Int x) h = let none = ap reach (last_none ts) in omega (arith, none)
reach-taken whole ts (i.Bool b) h = let none = ap reach (last_none ts) in omega (arith, none)
reach-taken whole ts (i.Name n) h = let none = ap reach (last_none ts) in omega (arith, none)
reach-taken whole ts (i.Node p n) h =
    let few = part-few whole p (last_of n ts) h in
    let all = reach-kids (last_of n ts) in
    omega (arith, few, all)

reach-before : (whole : CellTree) (ts : List Tree) (item : TermItem) → IsPart whole (item_tree item ts) → reach ts ≤ reach (all_but (wanted item) ts ++ item_tree item ts ∷ [])
reach-before whole ts item h =
    let n = wanted item in
    subst (λ us. reach us ≤ reach (all_but n ts ++ item_tree item ts ∷ [])) (take-append-drop (length ts - n) ts)
    (reach-behind (all_but n ts) (last_of n ts) (item_tree item ts ∷ []) (reach-taken whole ts item h))

-- ---- both

pub record AreParts (whole : CellTree) (room : ℕ) (ts : List Tree) : Type 0 where
  pub each : Each (IsPart whole) ts
  pub fit : reach ts ≤ room

parts-before : (whole : CellTree) (room : ℕ) (ts : List Tree) (item : TermItem) → AreParts whole room (all_but (wanted item) ts ++ item_tree item ts ∷ []) → AreParts whole room ts
parts-before whole room ts item h =
    let last = (each-end (IsPart whole) (all_but (wanted item) ts) (item_tree item ts ∷ []) h.each).0 in
    let most = reach-before whole ts item last in
    let fit = h.fit in
    record { each = each-before (IsPart whole) (part-kids whole) ts item h.each; fit = omega (arith, most, fit) }

parts-back : (whole : CellTree) (room : ℕ) (ts : List TermTree) (item : TermItem) → wanted item ≤ length ts → AreParts whole room (map tree (grown ts item)) → AreParts whole room (map tree ts)
parts-back whole room ts item few h =
    parts-before whole room (map tree ts) item (subst (AreParts whole room) (trees_grown ts item ∙ trees-behind (map tree ts) item) h)

-- each tree on the way is a part of the whole, and they are so few
pub parts-at : (items : List TermItem) (k : ℕ) (term : TermTree) (room : ℕ) → forest items ≡ term ∷ [] → Fits items →
    IsTrue (are_productions_below 65280 (tree term)) → IsTrue (are_kids_few CHILD_LIMIT (tree term)) → 8 * tree_height (tree term) ≤ room → 1 ≤ room →
    AreParts (tree_cell (tree term)) room (trees_at items k)
parts-at items k term room e fit below few high some =
    let P : List TermTree → Type 0 = λ ts. AreParts (tree_cell (tree term)) room (map tree ts) in
    forest-back P (parts-back (tree_cell (tree term)) room) items k fit
    (subst P (sym e) (record { each = (record { within = λ part own. own; below = below; few = few }, tt); fit = omega (arith, high, some) }))

-- so are they with the next item's
next-parts : (whole : CellTree) (room : ℕ) (items : List TermItem) (k : ℕ) (item : TermItem) → k < length items → item ≡ get_or items k item → AreParts whole room (trees_at items (k + 1)) →
    AreParts whole room (all_but (wanted item) (trees_at items k) ++ item_tree item (trees_at items k) ∷ [])
next-parts whole room items k item h e are = subst (AreParts whole room) (trees-next items k item h e) are

item-part : (whole : CellTree) (room : ℕ) (items : List TermItem) (k : ℕ) (item : TermItem) → k < length items → item ≡ get_or items k item → AreParts whole room (trees_at items (k + 1)) →
    IsPart whole (item_tree item (trees_at items k))
item-part whole room items k item h e are =
    let ts = trees_at items k in
    (each-end (IsPart whole) (all_but (wanted item) ts) (item_tree item ts ∷ []) (next-parts whole room items k item h e are).each).0

-- the item's cell is a part of the whole
pub item-within : (whole : CellTree) (room : ℕ) (items : List TermItem) (k : ℕ) (item : TermItem) → k < length items → item ≡ get_or items k item → AreParts whole room (trees_at items (k + 1)) →
    IsWithin (parts (item_cell item (cells_at items k))) (parts whole)
item-within whole room items k item h e are =
    let P : CellTree → Type 0 = λ cell. IsWithin (parts cell) (parts whole) in
    subst P (cell-of-item (trees_at items k) item) (item-part whole room items k item h e are).within

-- its production is below the limit
node-below : (whole : CellTree) (ts : List Tree) (item : TermItem) (p n : ℕ) → item ≡ i.Node p n → IsPart whole (item_tree item ts) → p < 65280
node-below whole ts item p n e h =
    let own = subst (λ x. IsPart whole (item_tree x ts)) e h in ltb-true p 65280 (below-own p (last_of n ts) own.below).0

pub item-below : (whole : CellTree) (room : ℕ) (items : List TermItem) (k : ℕ) (item : TermItem) → k < length items → item ≡ get_or items k item → AreParts whole room (trees_at items (k + 1)) →
    (p n : ℕ) → item ≡ i.Node p n → p < 65280
item-below whole room items k item h e are p n is = node-below whole (trees_at items k) item p n is (item-part whole room items k item h e are)

-- there is room for it
pub room-for : (whole : CellTree) (room : ℕ) (items : List TermItem) (k : ℕ) → AreParts whole room (trees_at items k) → length (cells_at items k) ≤ room
room-for whole room items k are =
    let most = length-reach (trees_at items k) in
    let fit = are.fit in
    let many = length-map (trees_at items k) tree_cell in
    omega (arith, most, fit, many)
