-- Trees and lists of children that are built with another part, from below.
use Rattle.std.proofs.Common.{◌≡◌, ◌≢◌, ℕ, zero, suc, ◌+◌, ◌-◌, ◌<◌, ◌≤◌, nat_lt, List, [], ◌∷◌, length, drop, get_or, IsTrue, refl, sym, ap, ◌∙◌, subst, arith}
use Rattle.std.specs.Prelude.{Result, Ok, Err, IsErr}
use Rattle.std.proofs.lemmas.Bool.{and_parts}
use Rattle.lrc_meaning.specs.Tree.{Tree, Trees, node, more, replaced, replaced_among}
use Rattle.lrc_store.specs.Cells.{CellTree, nil, parts, IsWithin}
use Rattle.lrc_store.specs.Standing.{Standing, Stands, meant}
use Rattle.lrc_store.specs.Words.{Adds, Reads}
use Rattle.lrc_store.specs.declared.cells.Handle.{Handle}
use Rattle.lrc_store.specs.declared.stores.Full.{Full}
use Rattle.lrc_store.proofs.Known.{stands-meant}
use Rattle.lrc_store.proofs.Lasting.{stays-gains, adds-then}
use Rattle.lrc_code.specs.Forms.{more_cell, node_cell, tree_cell, are_productions_below, are_kids_below}
use Rattle.lrc_code.specs.Building.{Builds}
use Rattle.lrc_code.proofs.Growing.{left-within, right-within, builds-then, builds-stopped, builds-as, pair-then, linked}
use Rattle.lrc_places.specs.Places.{kids_cell}

-- the work that steps ask for: each passes so many children
abbrev pub work : List ℕ → ℕ
work [] = 0
work (step ∷ steps) = step + 2 + work steps

pub step-taken : (steps rest : List ℕ) → 1 ≤ length steps → rest ≡ drop 1 steps → get_or steps 0 0 + 1 + work rest < work steps
step-taken [] rest h e = absurd (omega (arith, h))
step-taken (s ∷ steps) rest h e =
    let same : work rest ≡ work steps = ap work e in
    let less : s + 1 + work rest < s + 2 + work steps = omega (arith, same) in less

-- ---- a store that is read first

pub read-stands : (s t : Standing) (handle : Handle) (cell : CellTree) → Reads s t → Stands s handle.0 cell → Stands t handle.0 cell
read-stands s t handle cell reads h = reads.stays.lasts.known handle.0 cell h

pub reads-adds : (s t : Standing) (cells : List CellTree) → Reads s t → Adds s t cells
reads-adds s t cells reads = record { gains = stays-gains s t cells reads.stays; memo = reads.memo; missed = reads.missed }

pub read-builds : (s t u : Standing) (cell : CellTree) (answer : Result Handle Full) → Reads s t → Builds t u cell answer → Builds s u cell answer
read-builds s t u cell answer reads b = record {
  adds = adds-then s t u (parts cell) (reads-adds s t (parts cell) reads) b.adds;
  ok = b.ok;
  full = b.full;
}

-- ---- what is built over a part

module _ (s t u : Standing) (whole : CellTree) (answer : Result Handle Full) (reads : Reads s t) where
  -- the part can't be built
  pub stopped : (part cell : CellTree) (e : Full) → IsWithin (parts part) (parts cell) → cell ≡ whole → IsErr answer → Builds t u part (Err e) → Builds s u whole answer
  stopped part cell e within is err b = read-builds s t u whole answer reads (builds-as t u cell whole answer is (builds-stopped t u part cell e answer within err b))

  module _ (v : Standing) where
    -- a node over the list of its children
    pub node-over : (p : ℕ) (kids : CellTree) (list : Handle) → node_cell p kids ≡ whole → Builds t u kids (Ok list) → Builds u v (node_cell p (meant u list.0)) answer → Builds s v whole answer
    node-over p kids list is b d =
        read-builds s t v whole answer reads (builds-as t v (node_cell p kids) whole answer is
        (builds-then t u v kids (node_cell p kids) answer (left-within (256 + p) kids nil) b.adds
        (builds-as u v (node_cell p (meant u list.0)) (node_cell p kids) answer (ap (node_cell p) (stands-meant u list.0 kids b.ok.stands)) d)))

    -- a list over its first item, before others that were there
    pub first-over : (item rest : CellTree) (first others : Handle) → more_cell item rest ≡ whole → Stands t others.0 rest → Builds t u item (Ok first) → Builds u v (more_cell (meant u first.0) (meant u others.0)) answer → Builds s v whole answer
    first-over item rest first others is h b d =
        read-builds s t v whole answer reads (builds-as t v (more_cell item rest) whole answer is (linked t u v 4 first others.0 item rest answer h b d))

    -- a list over others, behind a first item that was there
    pub others-over : (item rest : CellTree) (first others : Handle) → more_cell item rest ≡ whole → Stands t first.0 item → Builds t u rest (Ok others) → Builds u v (more_cell (meant u first.0) (meant u others.0)) answer → Builds s v whole answer
    others-over item rest first others is h b d =
        read-builds s t v whole answer reads (builds-as t v (more_cell item rest) whole answer is
        (pair-then t u v 4 first.0 others.0 item rest rest (Ok others) answer (stands-meant u first.0 item (b.adds.gains.lasts.known first.0 item h)) (stands-meant u others.0 rest b.ok.stands)
        (right-within 4 item rest) b d))

-- ---- replaced trees, a step at a time

pub node-replaced : (t u : Tree) (p : ℕ) (kids : Trees) (steps rest : List ℕ) → t ≡ node p kids → 1 ≤ length steps → rest ≡ drop 1 steps → node_cell p (kids_cell (replaced_among kids (get_or steps 0 0) rest u)) ≡ tree_cell (replaced t steps u)
node-replaced t u p kids [] rest is h e = absurd (omega (arith, h))
node-replaced t u p kids (s ∷ steps) rest is h e = ap (λ r. node_cell p (kids_cell (replaced_among kids s r u))) e ∙ ap (λ w. tree_cell (replaced w (s ∷ steps) u)) (sym is)

pub first-replaced : (ts : Trees) (first : Tree) (rest : Trees) (step : ℕ) (steps : List ℕ) (u : Tree) → ts ≡ more first rest → step ≡ 0 → kids_cell (more (replaced first steps u) rest) ≡ kids_cell (replaced_among ts step steps u)
first-replaced ts first rest step steps u is e = sym (ap (λ us. kids_cell (replaced_among us step steps u)) is ∙ ap (λ n. kids_cell (replaced_among (more first rest) n steps u)) e)

passed : (first : Tree) (rest : Trees) (step : ℕ) (steps : List ℕ) (u : Tree) → step ≢ 0 → more first (replaced_among rest (step - 1) steps u) ≡ replaced_among (more first rest) step steps u
passed first rest zero steps u h = absurd (h refl)
passed first rest (suc n) steps u h = let e : suc n - 1 ≡ n = omega arith in ap (λ m. more first (replaced_among rest m steps u)) e

pub others-replaced : (ts : Trees) (first : Tree) (rest : Trees) (step : ℕ) (steps : List ℕ) (u : Tree) → ts ≡ more first rest → step ≢ 0 → kids_cell (more first (replaced_among rest (step - 1) steps u)) ≡ kids_cell (replaced_among ts step steps u)
others-replaced ts first rest step steps u is h = ap kids_cell (passed first rest step steps u h) ∙ ap (λ us. kids_cell (replaced_among us step steps u)) (sym is)

-- the productions of the children of a node
pub kids-below : (t : Tree) (p : ℕ) (kids : Trees) → t ≡ node p kids → IsTrue (are_productions_below 65280 t) → IsTrue (are_kids_below 65280 kids)
kids-below t p kids is h = (and_parts (nat_lt p 65280) (are_kids_below 65280 kids) (subst (λ u. IsTrue (are_productions_below 65280 u)) is h)).1

-- the productions of the first child and of the others
pub each-below : (ts : Trees) (first : Tree) (rest : Trees) → ts ≡ more first rest → IsTrue (are_kids_below 65280 ts) → IsTrue (are_productions_below 65280 first) × IsTrue (are_kids_below 65280 rest)
each-below ts first rest is h = and_parts (are_productions_below 65280 first) (are_kids_below 65280 rest) (subst (λ us. IsTrue (are_kids_below 65280 us)) is h)
