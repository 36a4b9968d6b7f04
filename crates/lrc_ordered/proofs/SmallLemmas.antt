-- A production with few children, locals and nonterminal attributes of sorts with few attributes has few occurrences.
use Rattle.std.proofs.Common.{◌≡◌, ℕ, zero, suc, ◌*◌, ◌+◌, ◌<◌, ◌≤◌, Bool, true, false, List, [], ◌∷◌, All, length, map, get_or, refl, length-append, arith, zero-le}
use Rattle.std.specs.List.{flat_map}
use Rattle.std.proofs.lemmas.List.{length-map}
use Rattle.std.proofs.lemmas.List.Elements.{All-weaker}
use Rattle.lrc_base.specs.declared.limits.TheConstants.{ATTRIBUTE_LIMIT}
use Rattle.lrc_base.specs.declared.grammar.Kind.{Kind}
use Rattle.lrc_base.specs.declared.grammar.Kind.TheVariants as k
use Rattle.lrc_base.specs.declared.grammar.Sort.{Sort}
use Rattle.lrc_base.specs.declared.grammar.Kid.{Kid}
use Rattle.lrc_base.specs.declared.grammar.Extra.{Extra}
use Rattle.lrc_base.specs.declared.grammar.Production.{Production}
use Rattle.lrc_meaning.specs.Grammar.{Grammar, attrs_of_sort, attrs_of, symbol_occurrence, extra_occurrences}
use Rattle.lrc_order_meaning.specs.Needs.{kid_count, extra_count}
use Rattle.lrc_order_meaning.specs.Ordered.{IsSmall}
use Rattle.lrc_meaning.specs.Limits.{IsWithinLimits}
use Rattle.lrc_ordered.proofs.PlaceLemmas.{occurrence_count, attached_length, local_length}

few_of_sort : (sorts : List Sort) (s : ℕ) → All (λ (x : Sort). length x.attrs ≤ ATTRIBUTE_LIMIT) sorts → length (attrs_of_sort sorts s) ≤ ATTRIBUTE_LIMIT
few_of_sort [] s few = zero-le
few_of_sort (x ∷ xs) zero few = few 0 x (omega arith)
few_of_sort (x ∷ xs) (suc s) few = few_of_sort xs s (λ i d h. few (suc i) d (omega arith))

module _ (sorts : List Sort) (few : All (λ (x : Sort). length x.attrs ≤ ATTRIBUTE_LIMIT) sorts) where
  few_of : (kind : Kind) → length (attrs_of sorts kind) ≤ ATTRIBUTE_LIMIT
  few_of k.Int = zero-le
  few_of k.Bool = zero-le
  few_of k.Name = zero-le
  few_of (k.Sort s) = few_of_sort sorts s few

  few_kids : (kids : List Kid) → kid_count sorts kids ≤ ATTRIBUTE_LIMIT * length kids
  few_kids [] = zero-le
  few_kids (kid ∷ kids) =
      let rest = few_kids kids in
      let own = few_of kid.kind in
      let both = length-append (map symbol_occurrence (attrs_of sorts kid.kind)) (flat_map (λ (x : Kid). map symbol_occurrence (attrs_of sorts x.kind)) kids) in
      let count = length-map (attrs_of sorts kid.kind) symbol_occurrence in
      omega arith

  few_over : (x : Extra) (attached : Bool) → x.attached ≡ attached → length (extra_occurrences sorts x) ≤ 1 + ATTRIBUTE_LIMIT
  few_over x true e = let count = attached_length sorts x e in let own = few_of x.kind in omega arith
  few_over x false e = let count = local_length sorts x e in omega arith

  few_extras : (xs : List Extra) → extra_count sorts xs ≤ (1 + ATTRIBUTE_LIMIT) * length xs
  few_extras [] = zero-le
  few_extras (x ∷ xs) =
      let rest = few_extras xs in
      let own = few_over x x.attached refl in
      let both = length-append (extra_occurrences sorts x) (flat_map (extra_occurrences sorts) xs) in
      omega arith

pub few_is_small : (g : Grammar) → IsWithinLimits g → IsSmall g
few_is_small g few = record {
  productions = let n = few.prods in omega arith;
  occurrences = λ i d h.
      let p : Production = get_or g.prods i d in
      let count = occurrence_count g.sorts p in
      let own = few_of_sort g.sorts p.left few.attrs in
      let kids = few_kids g.sorts few.attrs p.kids in
      let extras = few_extras g.sorts few.attrs p.extras in
      let parts = few.parts i d h in
      let few_children = parts.kids in
      let few_more = parts.extras in
      omega arith;
  attributes = All-weaker (λ (s : Sort). length s.attrs ≤ ATTRIBUTE_LIMIT) (λ (s : Sort). length s.attrs < 1024) (λ s n. omega arith) g.sorts few.attrs;
}
