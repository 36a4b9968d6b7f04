-- Terms that are resolved, and trees that fit a kind.
use Rattle.std.specs.Prelude.{◌≡◌, IsTrue, List, Some, Ok}
use Rattle.lrc_base.specs.declared.grammar.Kind.{Kind}
use Rattle.lrc_base.specs.declared.grammar.Production.{Production}
use Rattle.lrc_base.specs.declared.raw_term.RawTermTree.{RawTermTree}
use Rattle.lrc_meaning.specs.Tree.{Tree, fits, kind_of}
use Rattle.lrc_meaning.specs.Naming.{named_tree}
use Rattle.lrc_job.specs.Resolved.{resolved}

-- the term names this tree, which fits this kind
pub record NamesFitting (prods : List Production) (raw : RawTermTree) (t : Tree) (kind : Kind) : Type 0 where
  pub named : named_tree prods raw ≡ Some t
  pub fitting : IsTrue (fits prods t kind)

-- what is found is named and fits its kind
abbrev pub FoundFits : Type 0
FoundFits =
    (prods : List Production) (raw : RawTermTree) (t : Tree) → resolved prods raw ≡ Ok t → (kind : Kind) × (kind_of prods t ≡ Some kind) × NamesFitting prods raw t kind

-- what names a tree that fits a kind is found
abbrev pub FittingIsFound : Type 0
FittingIsFound =
    (prods : List Production) (raw : RawTermTree) (t : Tree) (kind : Kind) → NamesFitting prods raw t kind → (resolved prods raw ≡ Ok t) × (kind_of prods t ≡ Some kind)
