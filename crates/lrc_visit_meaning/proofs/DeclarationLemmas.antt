-- The visits of two declarations, one after another.
use Rattle.std.proofs.Common.{◌≡◌, ℕ, suc, ◌+◌, ◌-◌, Bool, true, ◌&&◌, ◌==◌, nat_le, cond, List, [], ◌∷◌, ◌++◌, map, length, get_or, pos, Option, Some, None, slice_get, codes, false, refl, sym, ap, ◌∙◌}
use Rattle.std.specs.Prelude.{flat_map}
use Rattle.std.specs.Option.{option_map, option_and_then}
use Rattle.std.specs.List.{range_with_len}
use Rattle.std.specs.Int.{int_wrap}
use Rattle.std.proofs.lemmas.Bool.{and_from}
use Rattle.std.proofs.lemmas.Simd.{map-map}
use Rattle.lrc_base.specs.declared.grammar.Production.{Production}
use Rattle.lrc_base.specs.declared.expr.Expr.TheVariants as e
use Rattle.lrc_graph.specs.Pairs.{paired}
use Rattle.lrc_meaning.specs.Tree.{Tree, Trees, int, node, none, more}
use Rattle.lrc_meaning.specs.Grammar.{Grammar}
use Rattle.lrc_meaning.specs.Examples.{declarations, production, equals, two_declarations}
use Rattle.lrc_meaning.proofs.ExpressionLemmas.{expression_equations}
use Rattle.lrc_order_meaning.specs.declared.Partition.{Partition}
use Rattle.lrc_plan_meaning.specs.declared.Action.{Action}
use Rattle.lrc_plan_meaning.specs.declared.Action.TheVariants as a
use Rattle.lrc_plan_meaning.specs.declared.Bound.{Bound}
use Rattle.lrc_plan_meaning.specs.declared.Bound.TheVariants as b
use Rattle.lrc_plan_meaning.specs.Items.{visits_of, attrs_of_visit, values_of_visit, makes}
use Rattle.lrc_plan_meaning.specs.Sequences.{segments_of, segment}
use Rattle.lrc_plan_meaning.specs.Bindings.{binding as items_between}
use Rattle.lrc_plan_meaning.specs.Sound.{handed_in}
use Rattle.lrc_plan_meaning.specs.Examples.{partitions, top, declaration, handed}
use Rattle.lrc_plan_meaning.proofs.DeclarationLemmas.{top_is, declaration_is, declaration_hands}
use Rattle.lrc_visit_meaning.specs.Values.{value, no_data, data_row, data_list, Call, Result, root_call}
use Rattle.lrc_visit_meaning.specs.Visits.{nothing_held, holding, Walked, walk, are_of_kinds, are_of_lengths, is_call, values_at, held_at_start, result_of, step, visit_of_node, visit_of_tree, plain_visit}
use Rattle.lrc_visit_meaning.specs.Examples.{number_result, no_items, second_item, both_items, first_call, second_call, first_result, declaration_binding}

module _ (g : Grammar) (parts : List Partition) where
  -- the result at the end of a visit with these bindings
  abbrev ended : Production → ℕ → List (List Bound) → Walked → Result
  ended p v later w = record {
    height = suc w.height;
    synthesised = values_at w.held (values_of_visit g.sorts parts false p.left 0 v);
    bindings = map (λ xs. data_row (map w.held xs)) later;
  }

  -- whether it is a call, by how many items the bindings of its visit have
  pub call_by : (p : Production) (c : Call) (lengths : List ℕ) (b : Bool) → map (λ u. length (items_between g.sorts parts p u c.visit)) (range_with_len 1 (c.visit - 1)) ≡ lengths
      → (nat_le 1 c.visit && nat_le c.visit (visits_of parts p.left)) && ((length c.inherited == length (attrs_of_visit g.sorts parts true p.left c.visit)) && are_of_lengths c.bindings lengths) ≡ b
      → is_call g parts p c ≡ b
  unfolding is_call
  call_by p c lengths b are h =
      ap (λ ns. (nat_le 1 c.visit && nat_le c.visit (visits_of parts p.left)) && ((length c.inherited == length (attrs_of_visit g.sorts parts true p.left c.visit)) && are_of_lengths c.bindings ns)) are ∙ h

  -- a visit by what is known of its segment and its bindings
  node_visit : (visit : Call → Option Result) (n : ℕ) (p : Production) (kids : Trees) (c : Call) (seg : List Action) (items : List Bound) (later : List (List Bound)) → slice_get g.prods n ≡ Some p
      → is_call g parts p c ≡ true → are_of_kinds g.prods kids p.kids ≡ true → segment g.sorts parts p c.visit ≡ seg → handed_in g.sorts parts p c.visit ≡ items
      → map (items_between g.sorts parts p c.visit) (range_with_len (c.visit + 1) (visits_of parts p.left - c.visit)) ≡ later
      → visit_of_tree g parts visit (node n kids) c
      ≡ option_map (ended p c.visit later) (walk (makes g.sorts parts p) (step g parts visit p kids) seg (record { height = 0; held = holding items (map value c.inherited ++ flat_map data_list c.bindings) nothing_held }))
  node_visit visit n p kids c seg items later there called kinds seg_is items_are later_are =
      ap (option_and_then (λ q. visit_of_node g parts visit q kids c)) there
      ∙ ap (λ k. cond k (option_map (result_of g parts p c.visit) (walk (makes g.sorts parts p) (step g parts visit p kids) (segment g.sorts parts p c.visit) (record { height = 0; held = held_at_start g parts p c }))) None) (and_from (is_call g parts p c) (are_of_kinds g.prods kids p.kids) called kinds)
      ∙ ap (λ s. option_map (result_of g parts p c.visit) (walk (makes g.sorts parts p) (step g parts visit p kids) s (record { height = 0; held = held_at_start g parts p c }))) seg_is
      ∙ ap (λ xs. option_map (result_of g parts p c.visit) (walk (makes g.sorts parts p) (step g parts visit p kids) seg (record { height = 0; held = holding xs (map value c.inherited ++ flat_map data_list c.bindings) nothing_held }))) items_are
      ∙ over (walk (makes g.sorts parts p) (step g parts visit p kids) seg (record { height = 0; held = holding items (map value c.inherited ++ flat_map data_list c.bindings) nothing_held }))
    where
      over : (o : Option Walked) → option_map (result_of g parts p c.visit) o ≡ option_map (ended p c.visit later) o
      over None = refl
      over (Some w) =
          ap (λ bs. Some (record { height = suc w.height; synthesised = values_at w.held (values_of_visit g.sorts parts false p.left 0 c.visit); bindings = bs }))
          (sym (map-map (λ xs. data_row (map w.held xs)) (items_between g.sorts parts p c.visit) (range_with_len (c.visit + 1) (visits_of parts p.left - c.visit)))
          ∙ ap (map (λ xs. data_row (map w.held xs))) later_are)

abbrev empty : Production
empty = production (codes "None") 1 [] [] (equals 0 (e.Int (pos 0)) ∷ equals 2 (e.Int (pos 0)) ∷ [])

empty_is : segments_of declarations.sorts partitions empty ≡ (a.Eval 0 ∷ []) ∷ (a.Eval 2 ∷ []) ∷ []
unfolding paired
empty_is = simp expression_equations refl

empty_hands : items_between declarations.sorts partitions empty 1 2 ≡ []
unfolding paired
empty_hands = rw empty_is (simp expression_equations refl)

module _ (visit : Call → Option Result) where
  empty_first : visit_of_tree declarations partitions visit no_items (first_call no_items) ≡ Some (first_result 1 0 no_data)
  unfolding paired int_wrap
  empty_first =
      node_visit declarations partitions visit 1 empty none (first_call no_items) (a.Eval 0 ∷ []) [] ([] ∷ []) refl (call_by declarations partitions empty (first_call no_items) [] true refl refl) refl (ap (λ s. get_or s 0 []) empty_is) refl (ap (λ xs. xs ∷ []) empty_hands)
      ∙ simp expression_equations refl

  empty_second : visit_of_tree declarations partitions visit no_items (second_call no_items no_data) ≡ Some (number_result 1 0)
  unfolding paired int_wrap
  empty_second =
      node_visit declarations partitions visit 1 empty none (second_call no_items no_data) (a.Eval 2 ∷ []) (b.Value 1 ∷ []) [] refl
      (call_by declarations partitions empty (second_call no_items no_data) (0 ∷ []) true (ap (λ xs. length xs ∷ []) empty_hands) refl) refl (ap (λ s. get_or s 1 []) empty_is)
      (ap (λ xs. b.Value 1 ∷ (xs ++ [])) empty_hands) refl
      ∙ simp expression_equations refl

  abbrev decl : ℕ → Tree → Tree
  decl n rest = node 2 (more (int (pos n)) (more rest none))

  -- Decl(2, None()) and Decl(1, Decl(2, None())), where the visits of the rest are known
  second_first : visit (first_call no_items) ≡ Some (first_result 1 0 no_data)
      → visit_of_tree declarations partitions visit second_item (first_call second_item) ≡ Some (first_result 2 20 (declaration_binding 20 no_data))
  unfolding paired int_wrap
  second_first rest =
      node_visit declarations partitions visit 2 declaration (more (int (pos 2)) (more no_items none)) (first_call second_item) (a.Eval 6 ∷ a.Visit 0 1 ∷ a.Eval 0 ∷ []) [] (handed ∷ []) refl
      (call_by declarations partitions declaration (first_call second_item) [] true refl refl) refl
      (ap (λ s. get_or s 0 []) declaration_is) refl (ap (λ xs. xs ∷ []) declaration_hands)
      ∙ simp expression_equations (rw rest refl)

  second_second : visit (second_call no_items no_data) ≡ Some (number_result 1 0)
      → visit_of_tree declarations partitions visit second_item (second_call second_item (declaration_binding 20 no_data)) ≡ Some (number_result 2 1)
  unfolding paired int_wrap
  second_second rest =
      node_visit declarations partitions visit 2 declaration (more (int (pos 2)) (more no_items none)) (second_call second_item (declaration_binding 20 no_data)) (a.Eval 4 ∷ a.Visit 0 2 ∷ a.Eval 2 ∷ []) (b.Value 1 ∷ handed) [] refl
      (call_by declarations partitions declaration (second_call second_item (declaration_binding 20 no_data)) (2 ∷ []) true (ap (λ xs. length xs ∷ []) declaration_hands) refl) refl
      (ap (λ s. get_or s 1 []) declaration_is) (ap (λ xs. b.Value 1 ∷ (xs ++ [])) declaration_hands) refl
      ∙ simp expression_equations (rw rest refl)

  both_first : visit (first_call second_item) ≡ Some (first_result 2 20 (declaration_binding 20 no_data))
      → visit_of_tree declarations partitions visit both_items (first_call both_items) ≡ Some (first_result 3 30 (declaration_binding 10 (declaration_binding 20 no_data)))
  unfolding paired int_wrap
  both_first rest =
      node_visit declarations partitions visit 2 declaration (more (int (pos 1)) (more second_item none)) (first_call both_items) (a.Eval 6 ∷ a.Visit 0 1 ∷ a.Eval 0 ∷ []) [] (handed ∷ []) refl
      (call_by declarations partitions declaration (first_call both_items) [] true refl refl) refl
      (ap (λ s. get_or s 0 []) declaration_is) refl (ap (λ xs. xs ∷ []) declaration_hands)
      ∙ simp expression_equations (rw rest refl)

  both_second : visit (second_call second_item (declaration_binding 20 no_data)) ≡ Some (number_result 2 1)
      → visit_of_tree declarations partitions visit both_items (second_call both_items (declaration_binding 10 (declaration_binding 20 no_data))) ≡ Some (number_result 3 2)
  unfolding paired int_wrap
  both_second rest =
      node_visit declarations partitions visit 2 declaration (more (int (pos 1)) (more second_item none)) (second_call both_items (declaration_binding 10 (declaration_binding 20 no_data)))
      (a.Eval 4 ∷ a.Visit 0 2 ∷ a.Eval 2 ∷ []) (b.Value 1 ∷ handed) [] refl
      (call_by declarations partitions declaration (second_call both_items (declaration_binding 10 (declaration_binding 20 no_data))) (2 ∷ []) true (ap (λ xs. length xs ∷ []) declaration_hands) refl) refl
      (ap (λ s. get_or s 1 []) declaration_is) (ap (λ xs. b.Value 1 ∷ (xs ++ [])) declaration_hands) refl
      ∙ simp expression_equations (rw rest refl)

  root_first : visit (first_call both_items) ≡ Some (first_result 3 30 (declaration_binding 10 (declaration_binding 20 no_data)))
      → visit (second_call both_items (declaration_binding 10 (declaration_binding 20 no_data))) ≡ Some (number_result 3 2)
      → visit_of_tree declarations partitions visit two_declarations (root_call two_declarations) ≡ Some (number_result 4 2)
  unfolding paired int_wrap
  root_first one two =
      node_visit declarations partitions visit 0 top (more both_items none) (root_call two_declarations) (a.Visit 0 1 ∷ a.Eval 2 ∷ a.Visit 0 2 ∷ a.Eval 0 ∷ []) [] [] refl (call_by declarations partitions top (root_call two_declarations) [] true refl refl) refl
      (ap (λ s. get_or s 0 []) top_is) refl refl
      ∙ simp expression_equations (rw one (rw two refl))

-- with fuel for four nodes both are bad
pub two_are_bad : plain_visit declarations partitions 4 (root_call two_declarations) ≡ Some (number_result 4 2)
unfolding plain_visit
two_are_bad =
    let none_1 = empty_first (plain_visit declarations partitions 0) in
    let none_2 = empty_second (plain_visit declarations partitions 0) in
    let second_1 = second_first (plain_visit declarations partitions 1) none_1 in
    let second_2 = second_second (plain_visit declarations partitions 1) none_2 in
    let both_1 = both_first (plain_visit declarations partitions 2) second_1 in
    let both_2 = both_second (plain_visit declarations partitions 2) second_2 in
    root_first (plain_visit declarations partitions 3) both_1 both_2
