-- What a spelled call meets is spelled, where the grammar's literals are: what a node holds is, from its start to its end.
use Rattle.std.proofs.Common.{◌≡◌, ℕ, zero, suc, ◌+◌, ◌-◌, Bool, true, false, cond, List, [], ◌∷◌, ◌++◌, map, All, length, Contains, Option, Some, None, inl, inr, slice_get, subst}
use Rattle.std.specs.Prelude.{◌==◌, flat_map, slice_index_or}
use Rattle.std.specs.Option.{IfSome, option_map, option_map_or, option_and_then}
use Rattle.std.specs.List.{AllByRecursion, range_with_len}
use Rattle.std.proofs.lemmas.Bool.{cond_both}
use Rattle.std.proofs.lemmas.Option.{none-some, same_Some}
use Rattle.std.proofs.lemmas.List.Elements.{All-contains, Contains-append_cases}
use Rattle.lrc_base.specs.declared.grammar.Kid.{Kid}
use Rattle.lrc_base.specs.declared.grammar.Kind.TheVariants as k
use Rattle.lrc_base.specs.declared.grammar.Equation.{Equation}
use Rattle.lrc_base.specs.declared.grammar.Production.{Production}
use Rattle.lrc_meaning.specs.Tree.{Tree, int, bool, name, node, Trees, none, more, in_order, is_sort}
use Rattle.lrc_meaning.specs.Expression.{Expression, literal, occurrence, leaf, binary, choice, make, Expressions, no_more, and_more, expression, bool_in, value_of}
use Rattle.lrc_meaning.specs.Grammar.{Grammar, occurrences_of}
use Rattle.lrc_order_meaning.specs.declared.Partition.{Partition}
use Rattle.lrc_plan_meaning.specs.declared.Action.{Action}
use Rattle.lrc_plan_meaning.specs.declared.Action.TheVariants as a
use Rattle.lrc_plan_meaning.specs.declared.Bound.{Bound}
use Rattle.lrc_plan_meaning.specs.declared.Bound.TheVariants as b
use Rattle.lrc_plan_meaning.specs.Items.{same_item, symbol_at, makes, visits_of, values_of_visit}
use Rattle.lrc_plan_meaning.specs.Sequences.{segment}
use Rattle.lrc_plan_meaning.specs.Bindings.{binding as items_between}
use Rattle.lrc_plan_meaning.specs.Sound.{handed_in}
use Rattle.lrc_visit_meaning.specs.Values.{Datum, value, binding, Data, no_data, data_then, data_row, data_list, value_in, binding_in, no_tree, Call, Result}
use Rattle.lrc_visit_meaning.specs.Visits.{Held, Given, Walked, walked_on, walk, holding, nothing_held, is_of_kind, is_visited, leaf_in, symbol_trees, equation_of, values_in, evaluated, tree_at, call_of, given_by, held_at_start, result_of, step, visit_of_node, visit_of_tree, plain_visit}
use Rattle.lrc_visit_meaning.specs.Demand.{Met, name_literal, built_in, built_in_each, reach}
use Rattle.lrc_code.specs.Forms.{EachNameBelow}
use Rattle.lrc_order_meaning.proofs.MemberLemmas.{member_cases, no_member, member_slice}
use Rattle.lrc_call_meaning.specs.Spelled.{IsSpelledName, IsSpelled, AreLiteralsSpelled, AreAllLiteralsSpelled, HasSpelledLiterals, IsSpelledDatum, AreSpelledData, IsSpelledCall, IsSpelledResult, IsSpelledMet}
use Rattle.lrc_call_meaning.proofs.ValueLemmas.{value-fine, item-fine}
use Rattle.lrc_laws.proofs.FuelLemmas.{mapped, bound_by, where_true}
use Rattle.lrc_laws.proofs.ReadLemmas.{found_there}
use Rattle.lrc_cell_laws.proofs.ReachedLemmas.{IsKept, itself, inner, own, reached, ByAction, made, visits, by_action, reach_none}

-- ---- lists, each item of which is fine

fine_append : {X : Type 0} (P : X → Type 0) (xs ys : List X) → AllByRecursion P xs → AllByRecursion P ys → AllByRecursion P (xs ++ ys)
fine_append P [] ys h i = i
fine_append P (x ∷ xs) ys h i = (h.0, fine_append P xs ys h.1 i)

fine_map : {X Y : Type 0} (P : X → Type 0) (Q : Y → Type 0) (f : X → Y) (xs : List X) → ((x : X) → P x → Q (f x)) → AllByRecursion P xs → AllByRecursion Q (map f xs)
fine_map P Q f [] g h = tt
fine_map P Q f (x ∷ xs) g h = (g x h.0, fine_map P Q f xs g h.1)

-- each item of a map is fine, whatever the list
fine_each : {X Y : Type 0} (Q : Y → Type 0) (f : X → Y) (xs : List X) → ((x : X) → Q (f x)) → AllByRecursion Q (map f xs)
fine_each Q f [] g = tt
fine_each Q f (x ∷ xs) g = (g x, fine_each Q f xs g)

fine_flat : {X Y : Type 0} (P : X → Type 0) (Q : Y → Type 0) (f : X → List Y) (xs : List X) → ((x : X) → P x → AllByRecursion Q (f x)) → AllByRecursion P xs → AllByRecursion Q (flat_map f xs)
fine_flat P Q f [] g h = tt
fine_flat P Q f (x ∷ xs) g h = fine_append Q (f x) (flat_map f xs) (g x h.0) (fine_flat P Q f xs g h.1)

fine_at : {X : Type 0} (P : X → Type 0) (xs : List X) (i : ℕ) (d : X) → AllByRecursion P xs → P d → P (slice_index_or xs i d)
fine_at P [] i d h e = e
fine_at P (x ∷ xs) zero d h e = h.0
fine_at P (x ∷ xs) (suc i) d h e = fine_at P xs i d h.1 e

-- ---- data

value_spelled : (d : Datum) → IsSpelledDatum d → IsSpelled (value_in d)
value_spelled (value t) h = h
value_spelled (binding ds) h = tt

binding_spelled : (d : Datum) → IsSpelledDatum d → AreSpelledData (binding_in d)
binding_spelled (value t) h = tt
binding_spelled (binding ds) h = h

row_spelled : (ds : List Datum) → AllByRecursion IsSpelledDatum ds → AreSpelledData (data_row ds)
row_spelled [] h = tt
row_spelled (d ∷ ds) h = (h.0, row_spelled ds h.1)

list_spelled : (ds : Data) → AreSpelledData ds → AllByRecursion IsSpelledDatum (data_list ds)
list_spelled no_data h = tt
list_spelled (data_then d ds) h = (h.0, list_spelled ds h.1)

-- ---- what a node holds

-- what each item holds is spelled
abbrev pub IsSpelledHeld : Held → Type 0
IsSpelledHeld m = (x : Bound) → IsSpelledDatum (m x)

holding_spelled : (xs : List Bound) (ds : List Datum) (m : Held) → AllByRecursion IsSpelledDatum ds → IsSpelledHeld m → IsSpelledHeld (holding xs ds m)
holding_spelled [] ds m h i = i
holding_spelled (x ∷ xs) [] m h i = i
holding_spelled (x ∷ xs) (d ∷ ds) m h i =
    holding_spelled xs ds (λ y. cond (same_item x y) d (m y)) h.1 (λ y. cond_both (same_item x y) d (m y) IsSpelledDatum (λ _. h.0) (λ _. i y))

-- ---- the children of a node

kids_spelled : (ts : Trees) → EachNameBelow IsSpelledName ts → AllByRecursion IsSpelled (in_order ts)
kids_spelled none h = tt
kids_spelled (more t ts) h = (h.0, kids_spelled ts h.1)

symbols_spelled : (kids : List Kid) (ts : Trees) → EachNameBelow IsSpelledName ts → AllByRecursion IsSpelled (symbol_trees kids ts)
symbols_spelled [] ts h = tt
symbols_spelled (kid ∷ kids) none h = tt
symbols_spelled (kid ∷ kids) (more t ts) h =
    let rest = symbols_spelled kids ts h.1 in
    cond_both (is_sort kid.kind) (t ∷ symbol_trees kids ts) (symbol_trees kids ts) (AllByRecursion IsSpelled) (λ _. (h.0, rest)) (λ _. rest)

leaf_spelled : (kids : List Kid) (ts : Trees) (i : ℕ) → EachNameBelow IsSpelledName ts → IfSome (leaf_in kids ts i) IsSpelled
leaf_spelled kids ts i h = over (slice_get kids i)
  where
    over : (o : Option Kid) → IfSome (option_and_then (λ (kid : Kid). cond (is_sort kid.kind) None (slice_get (in_order ts) i)) o) IsSpelled
    over None = tt
    over (Some kid) = cond_both (is_sort kid.kind) None (slice_get (in_order ts) i) (λ o. IfSome o IsSpelled) (λ _. tt) (λ _. item-fine (in_order ts) i (kids_spelled ts h))

-- ---- what an expression makes

literal_made : (t u : Tree) → IsSpelled t → Contains (name_literal t) u → IsSpelled u
literal_made (int i) u h c = absurd (no_member u c)
literal_made (bool x) u h c = absurd (no_member u c)
literal_made (node p kids) u h c = absurd (no_member u c)
literal_made (name bytes) u h c =
    elim (member_cases (name bytes) [] u c) [ inl e ↦ subst IsSpelled e h | inr later ↦ absurd (no_member u later) ]

value_made : (o : Option Tree) (u : Tree) → IfSome o IsSpelled → Contains (option_map_or (λ t. t ∷ []) o []) u → IsSpelled u
value_made None u h c = absurd (no_member u c)
value_made (Some t) u h c = elim (member_cases t [] u c) [ inl e ↦ subst IsSpelled e h | inr later ↦ absurd (no_member u later) ]

taken_made : (o : Option Bool) (xs ys : List Tree) (u : Tree) → (Contains xs u → IsSpelled u) → (Contains ys u → IsSpelled u)
    → Contains (option_map_or (λ taken. cond taken xs ys) o []) u → IsSpelled u
taken_made None xs ys u f g c = absurd (no_member u c)
taken_made (Some true) xs ys u f g c = f c
taken_made (Some false) xs ys u f g c = g c

module _ (values : List Tree) (leaves : ℕ → Option Tree) (all : AllByRecursion IsSpelled values) (each : (i : ℕ) → IfSome (leaves i) IsSpelled) where
  mutual
    pub built_spelled : (e : Expression) (u : Tree) → AreLiteralsSpelled e → Contains (built_in values leaves e) u → IsSpelled u
    built_spelled (literal t) u h c = literal_made t u h c
    built_spelled (occurrence i) u h c = absurd (no_member u c)
    built_spelled (leaf i) u h c = absurd (no_member u c)
    built_spelled (binary op x y) u h c =
        elim (Contains-append_cases (built_in values leaves x) (built_in values leaves y) u c) [
          | inl l ↦ built_spelled x u h.0 l
          | inr r ↦ built_spelled y u h.1 r
        ]
    built_spelled (choice q x y) u h c =
        elim (Contains-append_cases (built_in values leaves q) _ u c) [
          | inl l ↦ built_spelled q u h.0 l
          | inr r ↦
              taken_made (option_and_then bool_in (value_of values leaves q)) (built_in values leaves x) (built_in values leaves y) u
              (built_spelled x u h.1) (built_spelled y u h.2) r
        ]
    built_spelled (make p args) u h c =
        elim (Contains-append_cases (built_in_each values leaves args) _ u c) [
          | inl l ↦ each_spelled args u h l
          | inr r ↦ value_made (value_of values leaves (make p args)) u (value-fine values leaves all each (make p args) h) r
        ]

    pub each_spelled : (es : Expressions) (u : Tree) → AreAllLiteralsSpelled es → Contains (built_in_each values leaves es) u → IsSpelled u
    each_spelled no_more u h c = absurd (no_member u c)
    each_spelled (and_more e es) u h c =
        elim (Contains-append_cases (built_in values leaves e) (built_in_each values leaves es) u c) [
          | inl l ↦ built_spelled e u h.0 l
          | inr r ↦ each_spelled es u h.1 r
        ]

module _ (g : Grammar) (parts : List Partition) (literals : HasSpelledLiterals g) where
  literals_at : (n : ℕ) (q : Production) (e : Equation) → slice_get g.prods n ≡ Some q → Contains q.equations e → AreLiteralsSpelled (expression e.expr)
  literals_at n q e there c =
      All-contains (λ (e : Equation). AreLiteralsSpelled (expression e.expr)) q.equations e
      (All-contains (λ (p : Production). All (λ (e : Equation). AreLiteralsSpelled (expression e.expr)) p.equations) g.prods q literals (member_slice g.prods n q there)) c

  start_spelled : (q : Production) (c : Call) → IsSpelledCall c → IsSpelledHeld (held_at_start g parts q c)
  start_spelled q c h =
      holding_spelled (handed_in g.sorts parts q c.visit) (map value c.inherited ++ flat_map data_list c.bindings) nothing_held
      (fine_append IsSpelledDatum (map value c.inherited) (flat_map data_list c.bindings)
      (fine_map IsSpelled IsSpelledDatum value c.inherited (λ t k. k) h.inherited)
      (fine_flat AreSpelledData IsSpelledDatum data_list c.bindings list_spelled h.bindings))
      (λ x. tt)

  module _ (n : ℕ) (q : Production) (kids : Trees) (there : slice_get g.prods n ≡ Some q) (below : EachNameBelow IsSpelledName kids) (m : Held) (held : IsSpelledHeld m) where
    occurrences_spelled : AllByRecursion IsSpelled (values_in g q m)
    occurrences_spelled =
        fine_each IsSpelled (λ o. value_in (m (b.Value o))) (range_with_len 0 (length (occurrences_of g.sorts q))) (λ o. value_spelled (m (b.Value o)) (held (b.Value o)))

    equation_literals : (o : ℕ) (e : Equation) → equation_of q o ≡ Some e → AreLiteralsSpelled (expression e.expr)
    equation_literals o e is = literals_at n q e there (found_there (λ (x : Equation). x.target == o) q.equations e is).0

    evaluated_spelled : (o : ℕ) (t : Tree) → evaluated g q kids m o ≡ Some t → IsSpelled t
    evaluated_spelled o t e =
        let found = bound_by (λ (x : Equation). value_of (values_in g q m) (leaf_in q.kids kids) (expression x.expr)) (equation_of q o) t e in
        let fine = value-fine (values_in g q m) (leaf_in q.kids kids) occurrences_spelled (λ i. leaf_spelled q.kids kids i below) (expression found.0.expr) (equation_literals o found.0 found.1) in
        subst (λ o. IfSome o IsSpelled) found.2 fine

    tree_spelled : (s : ℕ) → IsSpelled (tree_at g q kids m s)
    tree_spelled s = over (symbol_at g.sorts q s).tree
      where
        over : (o : Option ℕ) → IsSpelled (option_map_or (λ x. value_in (m (b.Value x))) o (slice_index_or (symbol_trees q.kids kids) s no_tree))
        over None = fine_at IsSpelled (symbol_trees q.kids kids) s no_tree (symbols_spelled q.kids kids below) tt
        over (Some x) = value_spelled (m (b.Value x)) (held (b.Value x))

    call_spelled : (s v : ℕ) → IsSpelledCall (call_of g parts q kids m s v)
    call_spelled s v = record {
      tree = tree_spelled s;
      inherited = fine_each IsSpelled (λ x. value_in (m x)) (values_of_visit g.sorts parts true (symbol_at g.sorts q s).sort (symbol_at g.sorts q s).start v) (λ x. value_spelled (m x) (held x));
      bindings = fine_each AreSpelledData (λ u. binding_in (m (b.Kid s u v))) (range_with_len 1 (v - 1)) (λ u. binding_spelled (m (b.Kid s u v)) (held (b.Kid s u v)));
    }

  result_given : (r : Result) → IsSpelledResult r → AllByRecursion IsSpelledDatum (given_by r).made
  result_given r h =
      fine_append IsSpelledDatum (map value r.synthesised) (map binding r.bindings)
      (fine_map IsSpelled IsSpelledDatum value r.synthesised (λ t k. k) h.synthesised)
      (fine_map AreSpelledData IsSpelledDatum binding r.bindings (λ ds k. k) h.bindings)

  -- what a visit at the end holds is its result's
  end_spelled : (q : Production) (v : ℕ) (w : Walked) → IsSpelledHeld w.held → IsSpelledResult (result_of g parts q v w)
  end_spelled q v w held = record {
    synthesised = fine_each IsSpelled (λ x. value_in (w.held x)) (values_of_visit g.sorts parts false q.left 0 v) (λ x. value_spelled (w.held x) (held x));
    bindings =
        fine_each AreSpelledData (λ u. data_row (map w.held (items_between g.sorts parts q v u))) (range_with_len (v + 1) (visits_of parts q.left - v))
        (λ u. row_spelled (map w.held (items_between g.sorts parts q v u)) (fine_each IsSpelledDatum w.held (items_between g.sorts parts q v u) held));
  }

  -- results of spelled calls are spelled, with so much fuel
  abbrev GivesSpelled : ℕ → Type 0
  GivesSpelled fuel = (c : Call) (r : Result) → IsSpelledCall c → plain_visit g parts fuel c ≡ Some r → IsSpelledResult r

  module _ (fuel : ℕ) (gives : GivesSpelled fuel) where
    step_spelled : (n : ℕ) (q : Production) (kids : Trees) → slice_get g.prods n ≡ Some q → EachNameBelow IsSpelledName kids → (m : Held) (x : Action) (r : Given) → IsSpelledHeld m
        → step g parts (plain_visit g parts fuel) q kids m x ≡ Some r → AllByRecursion IsSpelledDatum r.made
    step_spelled n q kids there below m (a.Eval o) r held e =
        let found = mapped _ (evaluated g q kids m o) r e in
        subst (λ (s : Given). AllByRecursion IsSpelledDatum s.made) found.2 (evaluated_spelled n q kids there below m held o found.0 found.1, tt)
    step_spelled n q kids there below m (a.Visit s v) r held e =
        let call = call_of g parts q kids m s v in
        let inside = where_true (is_of_kind g.prods (tree_at g q kids m s) (k.Sort (symbol_at g.sorts q s).sort)) (option_map given_by (plain_visit g parts fuel call)) r e in
        let found = mapped given_by (plain_visit g parts fuel call) r inside.1 in
        subst (λ (s : Given). AllByRecursion IsSpelledDatum s.made) found.2
        (result_given found.0 (gives call found.0 (call_spelled n q kids there below m held s v) found.1))

    kept : (n : ℕ) (q : Production) (kids : Trees) (c : Call) → slice_get g.prods n ≡ Some q → EachNameBelow IsSpelledName kids → IsSpelledCall c → IsKept g parts IsSpelledHeld fuel c q kids
    kept n q kids c there below h = record {
      start = start_spelled q c h;
      keeps = λ m x r held e. holding_spelled (makes g.sorts parts q x) r.made m (step_spelled n q kids there below m x r held e) held;
    }

    walk_spelled : (n : ℕ) (q : Production) (kids : Trees) → slice_get g.prods n ≡ Some q → EachNameBelow IsSpelledName kids → (xs : List Action) (w v : Walked) → IsSpelledHeld w.held
        → walk (makes g.sorts parts q) (step g parts (plain_visit g parts fuel) q kids) xs w ≡ Some v → IsSpelledHeld v.held
    walk_spelled n q kids there below [] w v held e = subst (λ (u : Walked). IsSpelledHeld u.held) (same_Some w v e) held
    walk_spelled n q kids there below (x ∷ xs) w v held e =
        let one = step g parts (plain_visit g parts fuel) q kids in
        let found = bound_by (λ r. walk (makes g.sorts parts q) one xs (walked_on (makes g.sorts parts q) x w r)) (one w.held x) v e in
        walk_spelled n q kids there below xs (walked_on (makes g.sorts parts q) x w found.0) v
        (holding_spelled (makes g.sorts parts q x) found.0.made w.held (step_spelled n q kids there below w.held x found.0 held found.1) held) found.2

    node_spelled : (n : ℕ) (kids : Trees) (c : Call) (r : Result) → IsSpelledCall c → EachNameBelow IsSpelledName kids → visit_of_tree g parts (plain_visit g parts fuel) (node n kids) c ≡ Some r → IsSpelledResult r
    node_spelled n kids c r h below e =
        let at = bound_by (λ q. visit_of_node g parts (plain_visit g parts fuel) q kids c) (slice_get g.prods n) r e in
        let q = at.0 in
        let run = walk (makes g.sorts parts q) (step g parts (plain_visit g parts fuel) q kids) (segment g.sorts parts q c.visit) (record { height = 0; held = held_at_start g parts q c }) in
        let inside = where_true (is_visited g parts q kids c) (option_map (result_of g parts q c.visit) run) r at.2 in
        let walked = mapped (result_of g parts q c.visit) run r inside.1 in
        subst IsSpelledResult walked.2
        (end_spelled q c.visit walked.0 (walk_spelled n q kids at.1 below (segment g.sorts parts q c.visit) (record { height = 0; held = held_at_start g parts q c }) walked.0 (start_spelled q c h) walked.1))

    visit_spelled : (t : Tree) (c : Call) (r : Result) → IsSpelledCall c → IsSpelled t → visit_of_tree g parts (plain_visit g parts fuel) t c ≡ Some r → IsSpelledResult r
    visit_spelled (int i) c r h k e = absurd (none-some r e)
    visit_spelled (bool x) c r h k e = absurd (none-some r e)
    visit_spelled (name x) c r h k e = absurd (none-some r e)
    visit_spelled (node n kids) c r h k e = node_spelled n kids c r h k e

  pub gives_spelled : (fuel : ℕ) (c : Call) (r : Result) → IsSpelledCall c → plain_visit g parts fuel c ≡ Some r → IsSpelledResult r
  unfolding plain_visit
  gives_spelled zero c r h e = absurd (none-some r e)
  gives_spelled (suc fuel) c r h e = visit_spelled fuel (gives_spelled fuel) c.tree c r h h.tree e

  action_spelled : (fuel n : ℕ) (q : Production) (kids : Trees) (m : Held) (x : Action) (y : Met) → slice_get g.prods n ≡ Some q → EachNameBelow IsSpelledName kids → IsSpelledHeld m
      → ByAction g parts fuel q kids m y x → ((d : Call) → IsSpelledCall d → Contains (reach g parts fuel d) y → IsSpelledMet y) → IsSpelledMet y
  action_spelled fuel n q kids m _ y there below held (made o t e is c same) inside =
      subst IsSpelledMet same
      (built_spelled (values_in g q m) (leaf_in q.kids kids) (occurrences_spelled n q kids there below m held) (λ i. leaf_spelled q.kids kids i below) (expression e.expr) t
      (equation_literals n q kids there below m held o e is) c)
  action_spelled fuel n q kids m _ y there below held (visits s v kind c) inside =
      inside (call_of g parts q kids m s v) (call_spelled n q kids there below m held s v) c

  abbrev below_node : (n : ℕ) (kids : Trees) (t : Tree) → t ≡ node n kids → IsSpelled t → EachNameBelow IsSpelledName kids
  below_node n kids t e h = subst IsSpelled e h

  pub reach_spelled : (fuel : ℕ) (c : Call) → IsSpelledCall c → (x : Met) → Contains (reach g parts fuel c) x → IsSpelledMet x
  reach_spelled zero c h x member = subst IsSpelledMet (reach_none g parts c x member) h
  reach_spelled (suc fuel) c h x member =
      elim (reached g parts IsSpelledHeld fuel c x (λ n kids q e there. kept fuel (gives_spelled fuel) n q kids c there (below_node n kids c.tree e h.tree) h) member) [
        | itself same ↦ subst IsSpelledMet same h
        | own r e same ↦ subst IsSpelledMet same (gives_spelled (suc fuel) c r h e)
        | inner i ↦
            action_spelled fuel i.number i.production i.kids i.held i.action x i.is_there (below_node i.number i.kids c.tree i.tree h.tree) i.fine
            (by_action g parts fuel i.production i.kids i.held x i.action i.member) (λ d k there. reach_spelled fuel d k x there)
      ]
