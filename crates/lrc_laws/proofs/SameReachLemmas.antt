-- From the height of a visit on its reach does not depend on the fuel.
use Rattle.std.proofs.Common.{◌≡◌, ℕ, zero, suc, ◌≤◌, cond, List, [], ◌∷◌, ◌++◌, Option, Some, slice_get, refl, sym, ap, ◌∙◌, subst, arith}
use Rattle.std.specs.Option.{option_map_or}
use Rattle.std.proofs.lemmas.Option.{none-some}
use Rattle.lrc_base.specs.declared.grammar.Kind.TheVariants as k
use Rattle.lrc_base.specs.declared.grammar.Production.{Production}
use Rattle.lrc_meaning.specs.Tree.{Tree, int, bool, name, node, Trees}
use Rattle.lrc_meaning.specs.Grammar.{Grammar}
use Rattle.lrc_order_meaning.specs.declared.Partition.{Partition}
use Rattle.lrc_plan_meaning.specs.declared.Action.{Action}
use Rattle.lrc_plan_meaning.specs.declared.Action.TheVariants as a
use Rattle.lrc_plan_meaning.specs.declared.Bound.{Bound}
use Rattle.lrc_plan_meaning.specs.Items.{symbol_at, makes}
use Rattle.lrc_plan_meaning.specs.Sequences.{segment}
use Rattle.lrc_visit_meaning.specs.Values.{Call, Result}
use Rattle.lrc_visit_meaning.specs.Visits.{Held, Given, Walked, walked_on, walk, is_of_kind, is_visited, tree_at, call_of, given_by, held_at_start, result_of, step, visit_of_node, visit_of_tree, one_visit, plain_visit}
use Rattle.lrc_visit_meaning.specs.Demand.{Met, called, answered, walk_met, action_met, node_met, tree_met, reach}
use Rattle.lrc_laws.proofs.FuelLemmas.{mapped, bound_by, where_true, max_right, walk_rises, visit_some, visit_same, step_same}

module _ (makes_of : Action → List Bound) (one other : Held → Action → Option Given) (met also : Held → Action → List Met) (n : ℕ)
    (same_step : (m : Held) (x : Action) (r : Given) → one m x ≡ Some r → r.height ≤ n → other m x ≡ Some r)
    (same_met : (m : Held) (x : Action) (r : Given) → one m x ≡ Some r → r.height ≤ n → met m x ≡ also m x) where
  walk_met_same : (xs : List Action) (w v : Walked) → walk makes_of one xs w ≡ Some v → v.height ≤ n → walk_met makes_of one met xs w ≡ walk_met makes_of other also xs w
  walk_met_same [] w v e le = refl
  walk_met_same (x ∷ xs) w v e le =
      let found = bound_by (λ r. walk makes_of one xs (walked_on makes_of x w r)) (one w.held x) v e in
      let r = found.0 in
      let next = walked_on makes_of x w r in
      let rise = walk_rises makes_of one other xs next v found.2 in
      let up = max_right w.height r.height in
      let low : r.height ≤ n = omega (arith, rise, up, le) in
      ap (λ ms. ms ++ option_map_or (λ (r : Given). walk_met makes_of one met xs (walked_on makes_of x w r)) (one w.held x) []) (same_met w.held x r found.1 low)
      ∙ ap (λ o. also w.held x ++ option_map_or (λ (r : Given). walk_met makes_of one met xs (walked_on makes_of x w r)) o []) found.1
      ∙ ap (λ ms. also w.held x ++ ms) (walk_met_same xs next v found.2 le)
      ∙ ap (λ o. also w.held x ++ option_map_or (λ (r : Given). walk_met makes_of other also xs (walked_on makes_of x w r)) o []) (sym (same_step w.held x r found.1 low))

module _ (g : Grammar) (parts : List Partition) where
  module _ (n : ℕ) (one other : Call → Option Result) (met also : Call → List Met) (same : (c : Call) (r : Result) → one c ≡ Some r → r.height ≤ n → other c ≡ Some r)
      (same_reach : (c : Call) (r : Result) → one c ≡ Some r → r.height ≤ n → met c ≡ also c) where
    action_same : (p : Production) (kids : Trees) (m : Held) (x : Action) (r : Given) → step g parts one p kids m x ≡ Some r → r.height ≤ n
        → action_met g parts met p kids m x ≡ action_met g parts also p kids m x
    action_same p kids m (a.Eval o) r e le = refl
    action_same p kids m (a.Visit s v) r e le =
        let inside = where_true (is_of_kind g.prods (tree_at g p kids m s) (k.Sort (symbol_at g.sorts p s).sort)) _ r e in
        let found = mapped given_by (one (call_of g parts p kids m s v)) r inside.1 in
        let low : found.0.height ≤ n = subst (λ (q : Given). q.height ≤ n) (sym found.2) le in
        ap (λ ms. cond (is_of_kind g.prods (tree_at g p kids m s) (k.Sort (symbol_at g.sorts p s).sort)) ms []) (same_reach (call_of g parts p kids m s v) found.0 found.1 low)

    node_met_same : (p : Production) (kids : Trees) (c : Call) (r : Result) → visit_of_node g parts one p kids c ≡ Some r → r.height ≤ suc n
        → node_met g parts one met p kids c ≡ node_met g parts other also p kids c
    node_met_same p kids c r e le =
        let inside = where_true (is_visited g parts p kids c) _ r e in
        let found = mapped (result_of g parts p c.visit) _ r inside.1 in
        let up : suc found.0.height ≤ suc n = subst (λ (q : Result). q.height ≤ suc n) (sym found.2) le in
        ap (λ ms. cond (is_visited g parts p kids c) ms [])
        (walk_met_same (makes g.sorts parts p) (step g parts one p kids) (step g parts other p kids) (action_met g parts met p kids) (action_met g parts also p kids) n
        (step_same g parts n one other same p kids) (action_same p kids) (segment g.sorts parts p c.visit) (record { height = 0; held = held_at_start g parts p c }) found.0 found.1 (omega (arith, up)))

    tree_met_same : (t : Tree) (c : Call) (r : Result) → visit_of_tree g parts one t c ≡ Some r → r.height ≤ suc n → tree_met g parts one met t c ≡ tree_met g parts other also t c
    tree_met_same (int i) c r e le = refl
    tree_met_same (bool x) c r e le = refl
    tree_met_same (name x) c r e le = refl
    tree_met_same (node p kids) c r e le =
        let found = bound_by (λ q. visit_of_node g parts one q kids c) (slice_get g.prods p) r e in
        ap (λ o. option_map_or (λ q. node_met g parts one met q kids c) o []) found.1
        ∙ node_met_same found.0 kids c r found.2 le
        ∙ ap (λ o. option_map_or (λ q. node_met g parts other also q kids c) o []) (sym found.1)

  pub reach_same : (fuel other : ℕ) (c : Call) (r : Result) → plain_visit g parts fuel c ≡ Some r → r.height ≤ other → reach g parts fuel c ≡ reach g parts other c
  unfolding plain_visit reach
  reach_same zero other c r e le = absurd (none-some r e)
  reach_same (suc n) zero c r e le = let some = visit_some g parts (suc n) c r e in absurd (omega (arith, le, some))
  reach_same (suc n) (suc m) c r e le =
      ap (λ ms. called c ∷ (ms ++ option_map_or (λ r. answered r ∷ []) (one_visit g parts (plain_visit g parts n) c) []))
      (tree_met_same m (plain_visit g parts n) (plain_visit g parts m) (reach g parts n) (reach g parts m) (λ d q f l. visit_same g parts n m d q f l) (λ d q f l. reach_same n m d q f l) c.tree c r e le)
      ∙ ap (λ o. called c ∷ (tree_met g parts (plain_visit g parts m) (reach g parts m) c.tree c ++ option_map_or (λ r. answered r ∷ []) o [])) (e ∙ sym (visit_same g parts (suc n) (suc m) c r e le))
