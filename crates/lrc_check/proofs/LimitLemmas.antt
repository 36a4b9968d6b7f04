-- The grammar by numbers is within the limits that the writing keeps.
use Rattle.std.proofs.Common.{◌≡◌, ℕ, ◌≤◌, List, All, map, length, count_by, Option, Some, None, option_map, option_and_then, refl, subst, arith}
use Rattle.std.proofs.lemmas.List.Elements.{recursion_from_All}
use Rattle.lrc_base.specs.declared.limits.TheConstants.{CHILD_LIMIT, LOCAL_LIMIT, NODE_LIMIT}
use Rattle.lrc_base.specs.declared.grammar.Sort.{Sort}
use Rattle.lrc_base.specs.declared.grammar.Production.{Production}
use Rattle.lrc_base.specs.declared.raw.RawItem.{RawItem}
use Rattle.lrc_base.specs.declared.raw.RawProd.{RawProd}
use Rattle.lrc_base.specs.declared.raw.RawGrammar.{RawGrammar}
use Rattle.lrc_meaning.specs.Grammar.{Grammar}
use Rattle.lrc_meaning.specs.Limits.{KeepsLimits, is_declaration, item_nodes, IsFew, IsWithinLimits}
use Rattle.lrc_meaning.specs.Naming.{each_some, sort_number, named_sort, named_kid, named_production, named_grammar}
use Rattle.lrc_meaning.proofs.NamedLemmas.{known_to, named_parts}
use Rattle.lrc_naming.proofs.CountLemmas.{each_gives, length-named, length-named_extras, named_sorts-few}
use Rattle.lrc_check.proofs.NodeLemmas.{few_equations}

-- few children, few locals and nonterminal attributes, and few nodes on each right side
record IsFewWritten (p : RawProd) : Type 0 where
  kids : length p.kids ≤ CHILD_LIMIT
  locals : count_by is_declaration p.items ≤ LOCAL_LIMIT
  nodes : All (λ (i : RawItem). item_nodes i ≤ NODE_LIMIT) p.items

few_parts : (g : RawGrammar) (sorts : List Sort) (p : RawProd) → IsFewWritten p → (y : Production) → named_production g sorts p ≡ Some y → IsFew y
few_parts g sorts p few y h =
    let parts = named_parts g sorts p y h in
    let some_kids = length-named (named_kid g.sorts) p.kids y.kids parts.of_kids in
    let some_extras = length-named_extras g.sorts p.items y.extras parts.of_extras in
    let few_kids = few.kids in
    let few_extras = few.locals in
    record {
      kids = omega (arith, some_kids, few_kids);
      extras = omega (arith, some_extras, few_extras);
      nodes = few_equations (known_to g sorts y) p.items (recursion_from_All (λ (i : RawItem). item_nodes i ≤ NODE_LIMIT) p.items few.nodes) y.equations parts.of_equations;
    }

numbered : (raw : RawGrammar) → KeepsLimits raw → (sorts : List Sort) → each_some (map (named_sort raw.sorts) raw.sorts) ≡ Some sorts →
    (prods : List Production) → each_some (map (named_production raw sorts) raw.prods) ≡ Some prods → (start : ℕ) →
    IsWithinLimits (record { sorts = sorts; prods = prods; start = start })
numbered raw few sorts h prods k start =
    let many_sorts = length-named (named_sort raw.sorts) raw.sorts sorts h in
    let many_prods = length-named (named_production raw sorts) raw.prods prods k in
    let few_sorts = few.sorts in
    let few_prods = few.prods in
    record {
      sorts = omega (arith, many_sorts, few_sorts);
      prods = omega (arith, many_prods, few_prods);
      attrs = named_sorts-few raw.sorts raw.sorts sorts few.attrs h;
      parts = each_gives (named_production raw sorts) IsFewWritten IsFew (few_parts raw sorts) raw.prods
          (λ i d l. record { kids = few.kids i d l; locals = few.locals i d l; nodes = few.nodes i d l }) prods k;
    }

pub limits_are_kept : (raw : RawGrammar) (g : Grammar) → KeepsLimits raw → named_grammar raw ≡ Some g → IsWithinLimits g
limits_are_kept raw g few h = by (each_some (map (named_sort raw.sorts) raw.sorts)) refl h
  where
    by : (ss : Option (List Sort)) → each_some (map (named_sort raw.sorts) raw.sorts) ≡ ss →
        option_and_then
        (λ sorts. option_and_then (λ prods. option_map (λ start. record { sorts = sorts; prods = prods; start = start }) (sort_number raw.sorts raw.start)) (each_some (map (named_production raw sorts) raw.prods)))
        ss ≡ Some g → IsWithinLimits g
    by (Some sorts) e k = then (each_some (map (named_production raw sorts) raw.prods)) (sort_number raw.sorts raw.start) refl k
      where
        then : (ps : Option (List Production)) (n : Option ℕ) → each_some (map (named_production raw sorts) raw.prods) ≡ ps →
            option_and_then (λ prods. option_map (λ start. record { sorts = sorts; prods = prods; start = start }) n) ps ≡ Some g → IsWithinLimits g
        then (Some prods) (Some start) e' k' =
            let made : record { sorts = sorts; prods = prods; start = start } ≡ g = cc in
            subst IsWithinLimits made (numbered raw few sorts e prods e' start)
        then (Some prods) None e' k' = absurd (cc)
        then None n e' k' = absurd (cc)
    by None e k = absurd (cc)
