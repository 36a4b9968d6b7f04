-- A production of a grammar has few occurrences and symbols, and its trees and needs are in order.
use Rattle.std.proofs.Common.{ℕ, ◌+◌, ◌<◌, ◌≤◌, ◌^◌, Bool, true, false, cond, IsTrue, List, [], ◌∷◌, length, All, Contains, Option, Some, None, length-append, arith, zero-le}
use Rattle.std.proofs.lemmas.List.Elements.{All-contains, All-weaker}
use Rattle.lrc_base.specs.declared.grammar.Kind.{Kind}
use Rattle.lrc_base.specs.declared.grammar.Kind.TheVariants as k
use Rattle.lrc_base.specs.declared.grammar.Sort.{Sort}
use Rattle.lrc_base.specs.declared.grammar.Kid.{Kid}
use Rattle.lrc_base.specs.declared.grammar.Extra.{Extra}
use Rattle.lrc_base.specs.declared.grammar.Production.{Production}
use Rattle.lrc_meaning.specs.Grammar.{Grammar, attrs_of, extra_occurrences, occurrences_of, is_well_formed}
use Rattle.lrc_meaning.specs.Limits.{IsFew, IsWithinLimits}
use Rattle.lrc_order_meaning.specs.Needs.{symbol_of, kid_symbols, extra_symbols, own_end, kids_end, symbols_of, places_of, needs_of}
use Rattle.lrc_ordered.specs.Setup.{IsNeedBelow}
use Rattle.lrc_ordered.proofs.RangeLemmas.{IsPlaced, places_placed, needs_within}
use Rattle.lrc_ordered.proofs.SmallLemmas.{few_is_small}
use Rattle.lrc_plan.specs.Sites.{IsBehindTree}
use Rattle.lrc_plan.proofs.InLemmas.{production_is_right}

one_symbol : (kind : Kind) (start : ℕ) (tree : Option ℕ) → length (symbol_of kind start tree) ≤ 1
one_symbol k.Int start tree = zero-le
one_symbol k.Bool start tree = zero-le
one_symbol k.Name start tree = zero-le
one_symbol (k.Sort s) start tree = omega arith

one_attached : (attached : Bool) (kind : Kind) (start : ℕ) → length (cond attached (symbol_of kind (start + 1) (Some start)) []) ≤ 1
one_attached true kind start = one_symbol kind (start + 1) (Some start)
one_attached false kind start = zero-le

kid_symbols_few : (sorts : List Sort) (start : ℕ) (kids : List Kid) → length (kid_symbols sorts start kids) ≤ length kids
kid_symbols_few sorts start [] = zero-le
kid_symbols_few sorts start (kid ∷ kids) =
    let rest = kid_symbols_few sorts (start + length (attrs_of sorts kid.kind)) kids in
    let one = one_symbol kid.kind start None in
    let both = length-append (symbol_of kid.kind start None) (kid_symbols sorts (start + length (attrs_of sorts kid.kind)) kids) in
    omega arith

extra_symbols_few : (sorts : List Sort) (start : ℕ) (xs : List Extra) → length (extra_symbols sorts start xs) ≤ length xs
extra_symbols_few sorts start [] = zero-le
extra_symbols_few sorts start (x ∷ xs) =
    let rest = extra_symbols_few sorts (start + length (extra_occurrences sorts x)) xs in
    let one = one_attached x.attached x.kind start in
    let both = length-append (cond x.attached (symbol_of x.kind (start + 1) (Some start)) []) (extra_symbols sorts (start + length (extra_occurrences sorts x)) xs) in
    omega arith

module _ (g : Grammar) (well : IsTrue (is_well_formed g)) (kept : IsWithinLimits g) (p : Production) (there : Contains g.prods p) where
  pub few_occurrences : length (occurrences_of g.sorts p) < 2 ^ 32
  few_occurrences =
      let small = All-contains (λ q. length (occurrences_of g.sorts q) < 1024) g.prods p (few_is_small g kept).occurrences there in omega arith

  few_parts : IsFew p
  few_parts = All-contains IsFew g.prods p kept.parts there

  pub few_symbols : length (symbols_of g.sorts p) < 2 ^ 32
  few_symbols =
      let few_kids = few_parts.kids in
      let few_extras = few_parts.extras in
      let kids = kid_symbols_few g.sorts (own_end g.sorts p) p.kids in
      let extras = extra_symbols_few g.sorts (kids_end g.sorts p) p.extras in
      let both = length-append (kid_symbols g.sorts (own_end g.sorts p) p.kids) (extra_symbols g.sorts (kids_end g.sorts p) p.extras) in
      omega arith

  -- its trees stand before their attributes, and what it needs is of its occurrences
  pub trees_before : All IsBehindTree (places_of g.sorts p)
  trees_before =
      All-weaker (IsPlaced g.sorts) IsBehindTree (λ place h. h.tree_before) (places_of g.sorts p)
      (places_placed g.sorts g.prods p (production_is_right g well p there))

  pub needs_below : All (IsNeedBelow (length (occurrences_of g.sorts p))) (needs_of g.sorts p)
  needs_below = needs_within g.sorts g.prods p (production_is_right g well p there)
