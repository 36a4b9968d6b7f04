-- Sessions whose terms fit.
use Rattle.std.specs.Prelude.{ℕ, Bool, true, ◌&&◌, List}
use Rattle.std.specs.List.{list_all}
use Rattle.lrc_base.specs.declared.grammar.Kind.TheVariants as k
use Rattle.lrc_base.specs.declared.grammar.Production.{Production}
use Rattle.lrc_base.specs.declared.job.Edit.{Edit}
use Rattle.lrc_base.specs.declared.job.Edit.TheVariants as edit
use Rattle.lrc_base.specs.declared.job.Script.{Script}
use Rattle.lrc_meaning.specs.Tree.{tree, fits}

-- the term of a put fits the kind beside it
abbrev pub edit_fits : List Production → Edit → Bool
edit_fits prods (edit.Put path kind term) = fits prods (tree term) kind
edit_fits prods (edit.Copy from to) = true
edit_fits prods edit.Show = true
edit_fits prods (edit.Forget place) = true

-- the tree fits the start sort, and the terms of puts their kinds
abbrev pub script_fits : List Production → ℕ → Script → Bool
script_fits prods start s = fits prods (tree s.tree) (k.Sort start) && list_all (edit_fits prods) s.edits
