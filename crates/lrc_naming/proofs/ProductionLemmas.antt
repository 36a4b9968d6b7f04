-- A production from its left sort, its children, and its locals and nonterminal attributes.
use Rattle.std.proofs.Common.{◌≡◌, ℕ, List, map, Option, Some, ap, ◌∙◌}
use Rattle.std.specs.Prelude.{option_and_then}
use Rattle.lrc_base.specs.declared.grammar.Sort.{Sort}
use Rattle.lrc_base.specs.declared.grammar.Kid.{Kid}
use Rattle.lrc_base.specs.declared.grammar.Extra.{Extra}
use Rattle.lrc_base.specs.declared.grammar.Production.{Production}
use Rattle.lrc_base.specs.declared.raw.RawProd.{RawProd}
use Rattle.lrc_base.specs.declared.raw.RawGrammar.{RawGrammar}
use Rattle.lrc_meaning.specs.Naming.{each_some, sort_number, named_kid, named_extras, named_with, named_production}

by_parts : (left : Option ℕ) (kids : Option (List Kid)) (extras : Option (List Extra)) (make : ℕ → List Kid → List Extra → Option Production) (l : ℕ) (k : List Kid) (x : List Extra) →
    left ≡ Some l → kids ≡ Some k → extras ≡ Some x →
    option_and_then (λ l'. option_and_then (λ k'. option_and_then (make l' k') extras) kids) left ≡ make l k x
by_parts left kids extras make l k x e f g =
    ap (option_and_then (λ l'. option_and_then (λ k'. option_and_then (make l' k') extras) kids)) e
    ∙ (ap (option_and_then (λ k'. option_and_then (make l k') extras)) f ∙ ap (option_and_then (make l k)) g)

pub named_by_parts : (raw : RawGrammar) (sorts : List Sort) (p : RawProd) (left : ℕ) (kids : List Kid) (extras : List Extra) →
    sort_number raw.sorts p.left ≡ Some left → each_some (map (named_kid raw.sorts) p.kids) ≡ Some kids → named_extras raw.sorts p.items ≡ Some extras →
    named_production raw sorts p ≡ named_with raw.prods sorts p left kids extras
named_by_parts raw sorts p left kids extras e f g =
    by_parts (sort_number raw.sorts p.left) (each_some (map (named_kid raw.sorts) p.kids)) (named_extras raw.sorts p.items) (named_with raw.prods sorts p) left kids extras e f g
