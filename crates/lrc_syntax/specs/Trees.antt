-- Sorts of which there is a tree.
use Rattle.std.specs.Prelude.{◌≡◌, ℕ, ◌<◌, IsTrue, Bool, true, false, List, Some, slice_get, slice_index_or}
use Rattle.std.specs.List.{list_all}
use Rattle.lrc_base.specs.declared.grammar.Kind.{Kind}
use Rattle.lrc_base.specs.declared.grammar.Kind.TheVariants as k
use Rattle.lrc_base.specs.declared.grammar.Kid.{Kid}
use Rattle.lrc_base.specs.declared.grammar.Production.{Production}
use Rattle.lrc_meaning.specs.Tree.{Tree, fits}

-- a tree of the kind over these productions
abbrev pub HasTreeOf : List Production → Kind → Type 0
HasTreeOf prods kind = (t : Tree) × IsTrue (fits prods t kind)

-- a tree of the sort of this number
abbrev pub HasTree : List Production → ℕ → Type 0
HasTree prods s = HasTreeOf prods (k.Sort s)

-- the first of so many sorts of which there is no tree
pub record IsFirstWithout (prods : List Production) (sorts s : ℕ) : Type 0 where
  pub within : s < sorts
  pub none : ¬ HasTree prods s
  pub before : (r : ℕ) → r < s → HasTree prods r

-- ---- sorts that are found so far, by their numbers

abbrev pub has_sort : List Bool → ℕ → Bool
has_sort found s = slice_index_or found s false

-- no sort, or one that is found
abbrev pub has_kind : List Bool → Kind → Bool
has_kind found k.Int = true
has_kind found k.Bool = true
has_kind found k.Name = true
has_kind found (k.Sort s) = has_sort found s

abbrev pub has_kid : List Bool → Kid → Bool
has_kid found kid = has_kind found kid.kind

-- the sort of a production is found where the sorts of its children are
abbrev pub IsClosed : List Production → List Bool → Type 0
IsClosed prods found =
    (p : ℕ) (q : Production) → slice_get prods p ≡ Some q → list_all (has_kid found) q.kids ≡ true → has_sort found q.left ≡ true

-- a production of this sort has children of sorts that are found
abbrev pub Makes : List Production → List Bool → ℕ → Type 0
Makes prods found s =
    (p : ℕ) × (q : Production) × (slice_get prods p ≡ Some q) × (list_all (has_kid found) q.kids ≡ true) × (q.left ≡ s)
