-- The filled grammar: behind a production's own items stand copies, one for each attribute that is to be defined, has no
-- item, and whose value another attribute of its name and kind can give. Inherited attributes are copied down from the
-- left side, and synthesised ones up from a symbol, where only one has such an attribute. Where two sorts share a name
-- the first counts; a sort that is unknown has no attributes. Source: the copy rules of attribute grammar systems; here
-- nothing is copied up where two symbols could give the value.
use Rattle.std.specs.Prelude.{ℕ, Bool, true, false, not, ◌&&◌, List, [], ◌∷◌, ◌++◌, map, flat_map, filter, Option, Some, None, bytes_eq, cond}
use Rattle.std.specs.List.{list_any}
use Rattle.lrc_base.specs.declared.raw.RawKind.{RawKind}
use Rattle.lrc_base.specs.declared.raw.RawKind.TheVariants as rk
use Rattle.lrc_base.specs.declared.raw.RawAttr.{RawAttr}
use Rattle.lrc_base.specs.declared.raw.RawSort.{RawSort}
use Rattle.lrc_base.specs.declared.raw.RawKid.{RawKid}
use Rattle.lrc_base.specs.declared.raw.RawItem.{RawItem}
use Rattle.lrc_base.specs.declared.raw.RawItem.TheVariants as item
use Rattle.lrc_base.specs.declared.raw.RawExpr.TheVariants as e
use Rattle.lrc_base.specs.declared.raw.RawProd.{RawProd}
use Rattle.lrc_base.specs.declared.raw.RawGrammar.{RawGrammar}
use Rattle.lrc_fault_meaning.specs.Faults.{Name, attrs_named, same_kind, has_target}

-- a symbol of a production, which is a child or a nonterminal attribute, with the attributes of its sort
pub record Symbol : Type 0 where
  pub name : Name
  pub attrs : List RawAttr

-- the symbol of this name and kind, where the kind is a sort
abbrev pub symbol_of_kind : List RawSort → Name → RawKind → List Symbol
symbol_of_kind sorts c rk.Int = []
symbol_of_kind sorts c rk.Bool = []
symbol_of_kind sorts c rk.Name = []
symbol_of_kind sorts c (rk.Named n) = record { name = c; attrs = attrs_named sorts n } ∷ []

abbrev pub symbol_of_kid : List RawSort → RawKid → List Symbol
symbol_of_kid sorts kid = symbol_of_kind sorts kid.name kid.kind

-- the symbol that an item declares
abbrev pub symbol_of_item : List RawSort → RawItem → List Symbol
symbol_of_item sorts (item.Local n kind x) = []
symbol_of_item sorts (item.Attach n sort x) = record { name = n; attrs = attrs_named sorts sort } ∷ []
symbol_of_item sorts (item.Own n x) = []
symbol_of_item sorts (item.OfKid c n x) = []
symbol_of_item sorts (item.Pattern pieces) = []

-- the symbols of a production in order: children, and then nonterminal attributes
abbrev pub symbols : List RawSort → RawProd → List Symbol
symbols sorts p = flat_map (symbol_of_kid sorts) p.kids ++ flat_map (symbol_of_item sorts) p.items

abbrev pub same_name_and_kind : RawAttr → RawAttr → Bool
same_name_and_kind a b = bytes_eq a.name b.name && same_kind a.kind b.kind

-- one of them is inherited and has this attribute's name and kind
abbrev pub has_inherited : List RawAttr → RawAttr → Bool
has_inherited attrs a = list_any (λ (b : RawAttr). b.inherited && same_name_and_kind a b) attrs

-- the same of a synthesised one
abbrev pub has_synthesised : List RawAttr → RawAttr → Bool
has_synthesised attrs a = list_any (λ (b : RawAttr). not b.inherited && same_name_and_kind a b) attrs

-- c.a = a, where c.a is inherited and has no item, and the left side has such an attribute
abbrev pub copy_down : List RawItem → List RawAttr → Name → RawAttr → List RawItem
copy_down items left c a =
    cond (a.inherited && (not (has_target items (record { owner = Some c; name = a.name })) && has_inherited left a)) (item.OfKid c a.name (e.One a.name) ∷ []) []

abbrev pub copies_down : List RawItem → List RawAttr → Symbol → List RawItem
copies_down items left c = flat_map (copy_down items left c.name) c.attrs

-- a = c.a, where c is the only symbol
abbrev pub copy_of_only : Name → List Symbol → List RawItem
copy_of_only a [] = []
copy_of_only a (c ∷ []) = item.Own a (e.Two c.name a) ∷ []
copy_of_only a (c ∷ (d ∷ more)) = []

-- a = c.a, where a is synthesised and has no item, and c alone among the symbols has such an attribute
abbrev pub copy_up : List RawItem → List Symbol → RawAttr → List RawItem
copy_up items all a =
    cond (not a.inherited && not (has_target items (record { owner = None; name = a.name }))) (copy_of_only a.name (filter (λ (c : Symbol). has_synthesised c.attrs a) all)) []

-- the copies of a production: those down to each symbol, and then those up to the left side
abbrev pub copies : List RawItem → List RawAttr → List Symbol → List RawItem
copies items left all = flat_map (copies_down items left) all ++ flat_map (copy_up items all) left

abbrev pub filled_production : List RawSort → RawProd → RawProd
filled_production sorts p = record {
  name = p.name;
  left = p.left;
  kids = p.kids;
  items = p.items ++ copies p.items (attrs_named sorts p.left) (symbols sorts p);
}

-- the filled grammar
abbrev pub filled : RawGrammar → RawGrammar
filled g = record { sorts = g.sorts; prods = map (filled_production g.sorts) g.prods; start = g.start }
