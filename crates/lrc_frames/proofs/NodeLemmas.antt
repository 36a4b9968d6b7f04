-- What is read of the cells of trees: their kinds, and the nodes with their children.
use Rattle.std.proofs.Common.{◌≡◌, ℕ, suc, ◌+◌, ◌-◌, ◌<◌, ◌≤◌, ℤ, Bool, true, false, not, ◌&&◌, List, [], ◌∷◌, length, drop, drop-cons, get_or, Option, Some, None, refl, sym, ap, ◌∙◌, subst, arith}
use Rattle.std.specs.Option.{is_some}
use Rattle.lrc_base.specs.declared.grammar.Kid.{Kid}
use Rattle.lrc_base.specs.declared.grammar.Kind.TheVariants as k
use Rattle.lrc_base.specs.declared.grammar.Production.{Production}
use Rattle.lrc_meaning.specs.Tree.{Tree, Trees, int, bool, name, node, none, more, kind_of}
use Rattle.lrc_visit_meaning.specs.Visits.{is_of_kind, are_of_kinds}
use Rattle.lrc_store.specs.Cells.{CellTree, nil, number, pair}
use Rattle.lrc_store.specs.Standing.{Standing, Stands, IsKnown, meant}
use Rattle.lrc_store.specs.Words.{Keeps}
use Rattle.lrc_store.specs.declared.cells.Handle.{Handle}
use Rattle.lrc_store.proofs.Known.{known-stands}
use Rattle.lrc_code.specs.Forms.{list_cell, node_cell, tree_cell, kid_cells}
use Rattle.lrc_eval.proofs.ValueLemmas.{number-tree, name-tag}
use Rattle.lrc_plan.proofs.ReadLemmas.{found_at}
use Rattle.lrc_frames.specs.declared.lists.Front.{Front}
use Rattle.lrc_frames.specs.Lists.{IsFront, HasFront}
use Rattle.lrc_frames.specs.Nodes.{IsNode, left_of}
use Rattle.lrc_frames.proofs.ReadLemmas.{cons_first, cons_rest}

-- ---- kinds

pair_tag : (tag other : ℕ) (a b c d : CellTree) → pair tag a b ≡ pair other c d → tag ≡ other
pair_tag tag other a b c d e = cc

pub number_kind : (prods : List Production) (t : Tree) (z : ℤ) → tree_cell t ≡ number z → Some k.Int ≡ kind_of prods t
number_kind prods t z e = ap (kind_of prods) (sym (number-tree t z e))

pub truth_kind : (prods : List Production) (t : Tree) (tag : ℕ) (l r : CellTree) → tree_cell t ≡ pair tag l r → tag < 3 → Some k.Bool ≡ kind_of prods t
truth_kind prods (int i) tag l r e less = absurd (cc)
truth_kind prods (bool b) tag l r e less = refl
truth_kind prods (name bytes) tag l r e less = let is = name-tag bytes tag l r e in absurd (omega (arith, is, less))
truth_kind prods (node p kids) tag l r e less = let is = pair_tag (256 + p) tag (list_cell (kid_cells kids)) nil l r e in absurd (omega (arith, is, less))

pub node_kind : (prods : List Production) (t : Tree) (tag : ℕ) (l r : CellTree) → tree_cell t ≡ pair tag l r → 256 ≤ tag → left_of prods (tag - 256) ≡ kind_of prods t
node_kind prods (int i) tag l r e le = absurd (cc)
node_kind prods (bool true) tag l r e le = let is = pair_tag 2 tag nil nil l r e in absurd (omega (arith, is, le))
node_kind prods (bool false) tag l r e le = let is = pair_tag 1 tag nil nil l r e in absurd (omega (arith, is, le))
node_kind prods (name bytes) tag l r e le = let is = name-tag bytes tag l r e in absurd (omega (arith, is, le))
node_kind prods (node p kids) tag l r e le =
    let is = pair_tag (256 + p) tag (list_cell (kid_cells kids)) nil l r e in
    let same : tag - 256 ≡ p = omega (arith, is) in
    ap (left_of prods) same

-- ---- nodes

node_left : (p tag : ℕ) (kids l r : CellTree) → node_cell p kids ≡ pair tag l r → kids ≡ l
node_left p tag kids l r e = cc

pub node_there : (s : Standing) (prods : List Production) (t : Tree) (tag : ℕ) (kids : Handle) (r : CellTree) → tree_cell t ≡ pair tag (meant s kids.0) r → IsKnown s kids.0
    → 256 ≤ tag → tag - 256 < length prods → IsNode s prods t (record { production = tag - 256; kids = kids })
node_there s prods (int i) tag kids r e known le less = absurd (cc)
node_there s prods (bool true) tag kids r e known le less = let is = pair_tag 2 tag nil nil (meant s kids.0) r e in absurd (omega (arith, is, le))
node_there s prods (bool false) tag kids r e known le less = let is = pair_tag 1 tag nil nil (meant s kids.0) r e in absurd (omega (arith, is, le))
node_there s prods (name bytes) tag kids r e known le less = let is = name-tag bytes tag (meant s kids.0) r e in absurd (omega (arith, is, le))
node_there s prods (node p trees) tag kids r e known le less =
    let tags = pair_tag (256 + p) tag (list_cell (kid_cells trees)) nil (meant s kids.0) r e in
    let same : p ≡ tag - 256 = omega (arith, tags) in
    let found = found_at prods (tag - 256) less in record {
      trees = trees;
      is = ap (λ (q : ℕ). node q trees) same;
      declared = found.0;
      there = found.1;
      children = known-stands s kids.0 known ∙ ap Some (sym (node_left p tag (list_cell (kid_cells trees)) (meant s kids.0) r e));
    }

-- ---- children

-- the next child, whose cell stands in front, and the others
pub record NextKid (t : Standing) (ts : Trees) (front : Front) : Type 0 where
  pub kid : Tree
  pub others : Trees
  pub is : ts ≡ more kid others
  pub item : Stands t front.item.0 (tree_cell kid)
  pub rest : Stands t front.rest.0 (list_cell (kid_cells others))

pub next_kid : (t : Standing) (ts : Trees) (front : Front) → IsFront t (kid_cells ts) front → NextKid t ts front
next_kid t none front f = absurd (let e = f.all in cc)
next_kid t (more u us) front f = record {
  kid = u;
  others = us;
  is = refl;
  item = f.item ∙ ap Some (sym (cons_first (tree_cell u) f.first (kid_cells us) f.others f.all));
  rest = f.rest ∙ ap (λ (cells : List CellTree). Some (list_cell cells)) (sym (cons_rest (tree_cell u) f.first (kid_cells us) f.others f.all));
}

-- after some of the children these are left, and they decide
pub record KidsLeft (s : Standing) (prods : List Production) (ts : Trees) (kids : List Kid) (list : ℕ) (later : List Kid) : Type 0 where
  pub left : Trees
  pub stands : Stands s list (list_cell (kid_cells left))
  pub decide : are_of_kinds prods ts kids ≡ are_of_kinds prods left later

pub kids_there : (s : Standing) (prods : List Production) (ts : Trees) (kids : List Kid) (list i : ℕ) (kid : Kid) → i < length kids → kid ≡ get_or kids i kid
    → KidsLeft s prods ts kids list (drop i kids) → KidsLeft s prods ts kids list (kid ∷ drop (i + 1) kids)
kids_there s prods ts kids list i kid less is left =
    let next : suc i ≡ i + 1 = omega arith in
    subst (KidsLeft s prods ts kids list) (drop-cons kids i kid less ∙ ap (λ (x : Kid). x ∷ drop (suc i) kids) (sym is) ∙ ap (λ (n : ℕ). kid ∷ drop n kids) next) left

module _ (s t u : Standing) (prods : List Production) (ts : Trees) (kids : List Kid) (list : ℕ) (kid : Kid) (later : List Kid) (left : KidsLeft s prods ts kids list (kid ∷ later)) where
  pub no_kid_left : kid_cells left.left ≡ [] → false ≡ are_of_kinds prods ts kids
  no_kid_left e = over left.left e ∙ sym left.decide where
    over : (us : Trees) → kid_cells us ≡ [] → false ≡ are_of_kinds prods us (kid ∷ later)
    over none e = refl
    over (more v vs) e = absurd (cc)

  module _ (front : Front) (f : IsFront t (kid_cells left.left) front) where
    abbrev pub now : NextKid t left.left front
    now = next_kid t left.left front f

    decided : (b : Bool) → is_of_kind prods now.kid kid.kind ≡ b → are_of_kinds prods ts kids ≡ (b && are_of_kinds prods now.others later)
    decided b is =
        left.decide
        ∙ ap (λ (vs : Trees). are_of_kinds prods vs (kid ∷ later)) now.is
        ∙ ap (λ (c : Bool). c && are_of_kinds prods now.others later) is

    pub wrong_kid : (right : Bool) → right ≡ is_of_kind prods now.kid kid.kind → right ≡ false → false ≡ are_of_kinds prods ts kids
    wrong_kid right told is = sym (decided false (sym told ∙ is))

    pub kids_left : Keeps t u → (right : Bool) → right ≡ is_of_kind prods now.kid kid.kind → right ≡ true → KidsLeft u prods ts kids front.rest.0 later
    kids_left keeps right told is =
        record { left = now.others; stands = keeps front.rest.0 (list_cell (kid_cells now.others)) now.rest; decide = decided true (sym told ∙ is) }

pub kids_end : (s t : Standing) (prods : List Production) (ts : Trees) (kids : List Kid) (list : ℕ) (left : KidsLeft s prods ts kids list []) (found : Option Front) (b : Bool) → is_some found ≡ not b
    → HasFront t (kid_cells left.left) found → b ≡ are_of_kinds prods ts kids
kids_end s t prods ts kids list left found b is front = over left.left found b is front ∙ sym left.decide where
  over : (us : Trees) (found : Option Front) (b : Bool) → is_some found ≡ not b → HasFront t (kid_cells us) found → b ≡ are_of_kinds prods us []
  over none None true is front = refl
  over none None false is front = absurd (cc)
  over none (Some front) b is f = absurd (let e = f.all in cc)
  over (more v vs) None b is front = absurd (cc)
  over (more v vs) (Some front) true is f = absurd (cc)
  over (more v vs) (Some front) false is f = refl
