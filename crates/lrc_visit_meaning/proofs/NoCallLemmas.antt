-- What does not have the form of a call has no result.
use Rattle.std.proofs.Common.{◌≡◌, ℕ, zero, suc, false, codes, ◌&&◌, cond, length, List, [], ◌∷◌, pos, Option, Some, None, slice_get, refl, ap, ◌∙◌}
use Rattle.std.specs.Option.{option_map, option_and_then}
use Rattle.lrc_base.specs.declared.grammar.Production.{Production}
use Rattle.lrc_base.specs.declared.expr.Expr.TheVariants as e
use Rattle.lrc_graph.specs.Pairs.{paired}
use Rattle.lrc_meaning.specs.Tree.{Tree, int, node, Trees, none, more}
use Rattle.lrc_meaning.specs.Grammar.{Grammar}
use Rattle.lrc_meaning.specs.Examples.{declarations, equals, production}
use Rattle.lrc_order_meaning.specs.declared.Partition.{Partition}
use Rattle.lrc_plan_meaning.specs.Items.{makes}
use Rattle.lrc_plan_meaning.specs.Sequences.{segment}
use Rattle.lrc_plan_meaning.specs.Examples.{partitions, declaration}
use Rattle.lrc_visit_meaning.specs.Values.{value, Data, no_data, data_row, Call, Result}
use Rattle.lrc_visit_meaning.specs.Visits.{walk, are_of_kinds, is_call, held_at_start, result_of, step, visit_of_node, visit_of_tree, plain_visit}
use Rattle.lrc_visit_meaning.specs.Examples.{endless, endless_partitions, one, call_of_one, no_items, second_item, second_call}
use Rattle.lrc_visit_meaning.specs.Laws.{NoCallHasNone}
use Rattle.lrc_plan_meaning.proofs.DeclarationLemmas.{declaration_hands}
use Rattle.lrc_visit_meaning.proofs.DeclarationLemmas.{call_by}

module _ (g : Grammar) (parts : List Partition) where
  node_none : (visit : Call → Option Result) (p : Production) (kids : Trees) (c : Call) → is_call g parts p c ≡ false → visit_of_node g parts visit p kids c ≡ None
  node_none visit p kids c no_call =
      ap (λ b. cond (b && are_of_kinds g.prods kids p.kids)
      (option_map (result_of g parts p c.visit) (walk (makes g.sorts parts p) (step g parts visit p kids) (segment g.sorts parts p c.visit) (record { height = 0; held = held_at_start g parts p c }))) None) no_call

pub no_call_has_none : NoCallHasNone
unfolding plain_visit
no_call_has_none g parts zero n p kids c is there no_call = refl
no_call_has_none g parts (suc fuel) n p kids c is there no_call =
    ap (λ t. visit_of_tree g parts (plain_visit g parts fuel) t c) is
    ∙ ap (option_and_then (λ q. visit_of_node g parts (plain_visit g parts fuel) q kids c)) there
    ∙ node_none g parts (plain_visit g parts fuel) p kids c no_call

-- what is no call of `One()`
module _ (fuel : ℕ) (inherited : List Tree) (bindings : List Data) where
  none_of_one : (visit : ℕ) → is_call endless endless_partitions (production (codes "One") 0 [] [] (equals 0 (e.Int (pos 1)) ∷ [])) (call_of_one visit inherited bindings) ≡ false
      → plain_visit endless endless_partitions fuel (call_of_one visit inherited bindings) ≡ None
  none_of_one visit h =
      no_call_has_none endless endless_partitions fuel 1 (production (codes "One") 0 [] [] (equals 0 (e.Int (pos 1)) ∷ [])) none (call_of_one visit inherited bindings) refl refl h

  pub before_the_first : plain_visit endless endless_partitions fuel (call_of_one 0 inherited bindings) ≡ None
  unfolding is_call
  before_the_first = none_of_one 0 refl

  pub behind_the_last : plain_visit endless endless_partitions fuel (call_of_one 2 inherited bindings) ≡ None
  unfolding is_call
  behind_the_last = none_of_one 2 refl

pub one_inherits_nothing : (fuel : ℕ) → plain_visit endless endless_partitions fuel (call_of_one 1 (one ∷ []) []) ≡ None
unfolding is_call
one_inherits_nothing fuel = none_of_one fuel (one ∷ []) [] 1 refl

pub one_is_handed_nothing : (fuel : ℕ) → plain_visit endless endless_partitions fuel (call_of_one 1 [] (no_data ∷ [])) ≡ None
unfolding is_call
one_is_handed_nothing fuel = none_of_one fuel [] (no_data ∷ []) 1 refl

-- a declaration's second visit with a binding of one item
pub short_has_none : (fuel : ℕ) → plain_visit declarations partitions fuel (second_call second_item (data_row (value (int (pos 20)) ∷ []))) ≡ None
short_has_none fuel =
    let c = second_call second_item (data_row (value (int (pos 20)) ∷ [])) in
    no_call_has_none declarations partitions fuel 2 declaration (more (int (pos 2)) (more no_items none)) c refl refl
    (call_by declarations partitions declaration c (2 ∷ []) false (ap (λ xs. length xs ∷ []) declaration_hands) refl)
