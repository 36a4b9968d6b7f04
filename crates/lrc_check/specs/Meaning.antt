-- What a name means in a production.
use Rattle.std.specs.Prelude.{List, find, option_map, bytes_eq}
use Rattle.lrc_base.specs.declared.raw.RawAttr.{RawAttr}
use Rattle.lrc_base.specs.declared.raw.RawKid.{RawKid}
use Rattle.lrc_fault_meaning.specs.Faults as f
use Rattle.lrc_check.specs.declared.declared.Declared.{Declared}
use Rattle.lrc_check.specs.Declares.{declaration}
use Rattle.lrc_check.specs.declared.scope.Means.{Means}
use Rattle.lrc_check.specs.declared.scope.Means.TheVariants as m

abbrev pub meaning : Means → f.Means
meaning m.Nothing = f.nothing
meaning (m.LeftAttr a) = f.left_attr a
meaning (m.Leaf kind) = f.leaf kind
meaning (m.Symbol sort) = f.symbol sort
meaning (m.Value kind) = f.value kind
meaning (m.Tree sort) = f.tree sort

-- what the name means among left attributes, children, and locals and nonterminal attributes
abbrev pub means_among : List RawAttr → List RawKid → List Declared → f.Name → f.Means
means_among left kids declared n =
    f.left_or_other (find (λ (a : RawAttr). bytes_eq a.name n) left)
    (f.kid_or_declared (find (λ (k : RawKid). bytes_eq k.name n) kids) (option_map declaration (find (λ d. bytes_eq (f.declared_name (declaration d)) n) declared)))
