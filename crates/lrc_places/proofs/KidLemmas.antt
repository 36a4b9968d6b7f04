-- Children by number, and parts by steps, in a store that is only read.
use Rattle.std.proofs.Common.{◌≡◌, ℕ, zero, suc, ◌+◌, ◌-◌, ◌<◌, List, ◌∷◌, length, drop, get_or, slice_get, Option, Some, None, refl, ap, ◌∙◌, arith, add-one, drop-cons}
use Rattle.std.specs.Option.{option_and_then}
use Rattle.lrc_base.specs.declared.grammar.Kind.{Kind}
use Rattle.lrc_meaning.specs.Tree.{Tree, Trees, node, none, more, in_order, at_place, among}
use Rattle.lrc_store.specs.Standing.{Standing, Stands}
use Rattle.lrc_store.specs.declared.cells.Handle.{Handle}
use Rattle.lrc_code.specs.Forms.{tree_cell}
use Rattle.lrc_places.specs.declared.shapes.Items.{Items}
use Rattle.lrc_places.specs.Places.{kids_cell, kind_of_leaf, ShowsFirst, FindsPart}
use Rattle.lrc_places.proofs.ShapeLemmas.{leaf-place}

-- ---- children by number

-- what is wanted is behind so many of these children
abbrev pub IsBehind : Standing → Option Tree → ℕ → Items → Type 0
IsBehind s wanted passed items = (first : Tree) × (rest : Trees) × (wanted ≡ slice_get (first ∷ in_order rest) passed) × Stands s items.first.0 (tree_cell first) × Stands s items.rest.0 (kids_cell rest)

pub first-behind : (s : Standing) (ts : Trees) (wanted : Option Tree) (n : ℕ) (items : Items) → wanted ≡ slice_get (in_order ts) n → ShowsFirst s ts (Some items) → IsBehind s wanted n items
first-behind s ts wanted n items e (first, rest, is, stands, others) = (first, rest, e ∙ ap (λ us. slice_get (in_order us) n) is, stands, others)

-- one child is passed
pub passed-on : (wanted : Option Tree) (first : Tree) (rest : Trees) (n passed : ℕ) → passed < n → wanted ≡ slice_get (first ∷ in_order rest) (n - passed) → wanted ≡ slice_get (in_order rest) (n - (passed + 1))
passed-on wanted first rest n passed h e =
    let more : n - passed ≡ suc (n - (passed + 1)) = omega (arith, h) in e ∙ ap (slice_get (first ∷ in_order rest)) more

-- ---- parts by steps

among-child : (ts : Trees) (n : ℕ) (steps : List ℕ) → among ts n steps ≡ option_and_then (λ kid. at_place kid steps) (slice_get (in_order ts) n)
among-child none n steps = refl
among-child (more t ts) zero steps = refl
among-child (more t ts) (suc n) steps = among-child ts n steps

-- the steps that are left lead from here to what is wanted
abbrev pub IsOnPath : Standing → Option Tree → List ℕ → Handle → Type 0
IsOnPath s wanted left here = (part : Tree) × (wanted ≡ at_place part left) × Stands s here.0 (tree_cell part)

next-step : (steps : List ℕ) (i : ℕ) → i < length steps → drop i steps ≡ get_or steps i 0 ∷ drop (i + 1) steps
next-step steps i h = rw add-one (drop-cons steps i 0 h)

-- a leaf has no child for a step
pub no-step : (wanted : Option Tree) (part : Tree) (kind : Kind) (steps : List ℕ) (i : ℕ) → i < length steps → wanted ≡ at_place part (drop i steps) → kind_of_leaf part ≡ Some kind → wanted ≡ None
no-step wanted part kind steps i h is leaf = is ∙ ap (at_place part) (next-step steps i h) ∙ leaf-place part kind (get_or steps i 0) (drop (i + 1) steps) leaf

-- a step of a node leads to the child of its number, or nowhere
stepped : (wanted : Option Tree) (part : Tree) (p : ℕ) (kids : Trees) (child : Option Tree) (steps : List ℕ) (i : ℕ) → i < length steps → wanted ≡ at_place part (drop i steps) → part ≡ node p kids →
    slice_get (in_order kids) (get_or steps i 0) ≡ child → wanted ≡ option_and_then (λ kid. at_place kid (drop (i + 1) steps)) child
stepped wanted part p kids child steps i h is of found =
    is ∙ ap (at_place part) (next-step steps i h) ∙ ap (λ t. at_place t (get_or steps i 0 ∷ drop (i + 1) steps)) of
    ∙ among-child kids (get_or steps i 0) (drop (i + 1) steps) ∙ ap (option_and_then (λ kid. at_place kid (drop (i + 1) steps))) found

pub step-missing : (wanted : Option Tree) (part : Tree) (p : ℕ) (kids : Trees) (steps : List ℕ) (i : ℕ) → i < length steps → wanted ≡ at_place part (drop i steps) → part ≡ node p kids →
    slice_get (in_order kids) (get_or steps i 0) ≡ None → wanted ≡ None
step-missing wanted part p kids steps i h is of found = stepped wanted part p kids None steps i h is of found

pub step-taken : (s : Standing) (wanted : Option Tree) (part : Tree) (p : ℕ) (kids : Trees) (steps : List ℕ) (i : ℕ) (kid : Handle) → i < length steps → wanted ≡ at_place part (drop i steps) → part ≡ node p kids →
    FindsPart s (slice_get (in_order kids) (get_or steps i 0)) (Some kid) → IsOnPath s wanted (drop (i + 1) steps) kid
step-taken s wanted part p kids steps i kid h is of (child, found, stands) = (child, stepped wanted part p kids (Some child) steps i h is of found, stands)
