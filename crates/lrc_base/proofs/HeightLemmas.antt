-- The heights of terms that are joined.
use Rattle.std.proofs.Common.{◌≡◌, ℕ, ℤ, Bool, List, [], ◌∷◌, ◌++◌, length, map, refl, sym, ap, ◌∙◌}
use Rattle.std.proofs.lemmas.List.{map-append}
use Rattle.lrc_base.specs.declared.term.TermTree.{TermTree, TermTree-F, fold-roll-TermTree}
use Rattle.lrc_base.specs.declared.term.TermTree.TheVariants as t
use Rattle.lrc_base.specs.declared.item.TermItem.{TermItem}
use Rattle.lrc_base.specs.declared.item.TermItem.TheVariants as i
use Rattle.lrc_base.specs.Forest.{joined}
use Rattle.lrc_base.specs.Terms.{grown, above, higher, height_of, height_step}
use Rattle.lrc_base.proofs.ForestLemmas.{map_joined, joined_none}

pub height_Int : (x : ℤ) → height_of (t.Int x) ≡ 0
unfolding height_of
height_Int x = ap height_of (sym (t.rolls-Int x)) ∙ fold-roll-TermTree ℕ height_step (TermTree-F.Int x)

pub height_Bool : (b : Bool) → height_of (t.Bool b) ≡ 0
unfolding height_of
height_Bool b = ap height_of (sym (t.rolls-Bool b)) ∙ fold-roll-TermTree ℕ height_step (TermTree-F.Bool b)

pub height_Name : (n : List ℕ) → height_of (t.Name n) ≡ 0
unfolding height_of
height_Name n = ap height_of (sym (t.rolls-Name n)) ∙ fold-roll-TermTree ℕ height_step (TermTree-F.Name n)

pub height_Node : (p : ℕ) (kids : List TermTree) → height_of (t.Node p kids) ≡ above (map height_of kids)
unfolding height_of
height_Node p kids = ap height_of (sym (t.rolls-Node p kids)) ∙ fold-roll-TermTree ℕ height_step (TermTree-F.Node p kids)

leaf : (ts : List TermTree) (u : TermTree) → height_of u ≡ 0 → map height_of (ts ++ u ∷ []) ≡ map height_of ts ++ 0 ∷ []
leaf ts u e = map-append height_of ts (u ∷ []) ∙ ap (λ h. map height_of ts ++ h ∷ []) e

pub heights_grown : (ts : List TermTree) (item : TermItem) → map height_of (grown ts item) ≡ higher item (map height_of ts)
heights_grown ts (i.Int x) = leaf ts _ (height_Int x)
heights_grown ts (i.Bool b) = leaf ts _ (height_Bool b)
heights_grown ts (i.Name n) = leaf ts _ (height_Name n)
heights_grown ts (i.Node p n) = map_joined height_of (t.Node p) above n ts (height_Node p)
