-- A visit is no higher than its fuel, and from its height on fuel does not matter.
use Rattle.std.proofs.Common.{◌≡◌, ℕ, zero, suc, ◌+◌, ◌<◌, ◌≤◌, max, Bool, true, false, cond, List, [], ◌∷◌, Option, Some, None, refl, sym, ap, ◌∙◌, subst, arith, slice_get}
use Rattle.std.specs.Option.{option_map, option_and_then}
use Rattle.std.proofs.lemmas.Option.{none-some, same_Some}
use Rattle.lrc_base.specs.declared.grammar.Kind.TheVariants as k
use Rattle.lrc_base.specs.declared.grammar.Production.{Production}
use Rattle.lrc_meaning.specs.Tree.{Tree, int, bool, name, node, Trees}
use Rattle.lrc_meaning.specs.Grammar.{Grammar}
use Rattle.lrc_order_meaning.specs.declared.Partition.{Partition}
use Rattle.lrc_plan_meaning.specs.declared.Action.{Action}
use Rattle.lrc_plan_meaning.specs.declared.Action.TheVariants as a
use Rattle.lrc_plan_meaning.specs.declared.Bound.{Bound}
use Rattle.lrc_plan_meaning.specs.Items.{symbol_at, makes}
use Rattle.lrc_plan_meaning.specs.Sequences.{segment}
use Rattle.lrc_visit_meaning.specs.Values.{Call, Result}
pub use Rattle.lrc_visit_meaning.specs.Visits.{walked_on}
use Rattle.lrc_visit_meaning.specs.Visits.{Held, Given, Walked, walk, is_of_kind, is_visited, tree_at, call_of, given_by, held_at_start, result_of, evaluated, step, visit_of_node, visit_of_tree, plain_visit}

-- what an option is made of, where it is there
pub mapped : {A B : Type 0} (f : A → B) (o : Option A) (y : B) → option_map f o ≡ Some y → (x : A) × (o ≡ Some x) × (f x ≡ y)
mapped f None y e = absurd (none-some y e)
mapped f (Some x) y e = (x, refl, same_Some (f x) y e)

pub bound_by : {A B : Type 0} (f : A → Option B) (o : Option A) (y : B) → option_and_then f o ≡ Some y → (x : A) × (o ≡ Some x) × (f x ≡ Some y)
bound_by f None y e = absurd (none-some y e)
bound_by f (Some x) y e = (x, refl, e)

pub where_true : {A : Type 0} (b : Bool) (o : Option A) (y : A) → cond b o None ≡ Some y → (b ≡ true) × (o ≡ Some y)
where_true true o y e = (refl, e)
where_true false o y e = absurd (none-some y e)

pub max_left : (m n : ℕ) → m ≤ max m n
max_left m n = omega arith

pub max_right : (m n : ℕ) → n ≤ max m n
max_right m n = omega arith

module _ (makes_of : Action → List Bound) (one other : Held → Action → Option Given) where
  pub walk_rises : (xs : List Action) (w v : Walked) → walk makes_of one xs w ≡ Some v → w.height ≤ v.height
  walk_rises [] w v e = let same = same_Some w v e in subst (λ (u : Walked). w.height ≤ u.height) same (omega arith)
  walk_rises (x ∷ xs) w v e =
      let found = bound_by _ (one w.held x) v e in
      let rest = walk_rises xs _ v found.2 in
      let up = max_left w.height found.0.height in
      omega (arith, rest, up)

  pub walk_bounded : (n : ℕ) (xs : List Action) (w v : Walked) → ((m : Held) (x : Action) (r : Given) → one m x ≡ Some r → r.height ≤ n)
      → walk makes_of one xs w ≡ Some v → w.height ≤ n → v.height ≤ n
  walk_bounded n [] w v h e le = let same = same_Some w v e in subst (λ (u : Walked). u.height ≤ n) same le
  walk_bounded n (x ∷ xs) w v h e le =
      let found = bound_by _ (one w.held x) v e in
      let up = h w.held x found.0 found.1 in
      walk_bounded n xs _ v h found.2 (omega (arith, le, up))

  pub walk_same : (n : ℕ) (xs : List Action) (w v : Walked) → ((m : Held) (x : Action) (r : Given) → one m x ≡ Some r → r.height ≤ n → other m x ≡ Some r)
      → walk makes_of one xs w ≡ Some v → v.height ≤ n → walk makes_of other xs w ≡ Some v
  walk_same n [] w v h e le = e
  walk_same n (x ∷ xs) w v h e le =
      let found = bound_by _ (one w.held x) v e in
      let rise = walk_rises xs _ v found.2 in
      let up = max_right w.height found.0.height in
      let same = h w.held x found.0 found.1 (omega (arith, le, rise, up)) in
      ap (option_and_then (λ r. walk makes_of other xs (walked_on makes_of x w r))) same ∙ walk_same n xs (walked_on makes_of x w found.0) v h found.2 le

module _ (g : Grammar) (parts : List Partition) where
  step_bounded : (n : ℕ) (visit : Call → Option Result) → ((c : Call) (r : Result) → visit c ≡ Some r → r.height ≤ n)
      → (p : Production) (kids : Trees) (m : Held) (x : Action) (r : Given) → step g parts visit p kids m x ≡ Some r → r.height ≤ n
  step_bounded n visit h p kids m (a.Eval o) r e =
      let found = mapped _ (evaluated g p kids m o) r e in
      subst (λ (q : Given). q.height ≤ n) found.2 (omega arith)
  step_bounded n visit h p kids m (a.Visit s v) r e =
      let inside = where_true (is_of_kind g.prods (tree_at g p kids m s) (k.Sort (symbol_at g.sorts p s).sort)) _ r e in
      let found = mapped given_by (visit (call_of g parts p kids m s v)) r inside.1 in
      subst (λ (q : Given). q.height ≤ n) found.2 (h _ found.0 found.1)

  pub step_same : (n : ℕ) (one other : Call → Option Result) → ((c : Call) (r : Result) → one c ≡ Some r → r.height ≤ n → other c ≡ Some r)
      → (p : Production) (kids : Trees) (m : Held) (x : Action) (r : Given) → step g parts one p kids m x ≡ Some r → r.height ≤ n → step g parts other p kids m x ≡ Some r
  step_same n one other h p kids m (a.Eval o) r e le = e
  step_same n one other h p kids m (a.Visit s v) r e le =
      let inside = where_true (is_of_kind g.prods (tree_at g p kids m s) (k.Sort (symbol_at g.sorts p s).sort)) _ r e in
      let found = mapped given_by (one (call_of g parts p kids m s v)) r inside.1 in
      let low : found.0.height ≤ n = subst (λ (q : Given). q.height ≤ n) (sym found.2) le in
      ap (λ b. cond b (option_map given_by (other (call_of g parts p kids m s v))) None) inside.0
      ∙ ap (option_map given_by) (h _ found.0 found.1 low)
      ∙ ap Some found.2

  node_bounded : (n : ℕ) (visit : Call → Option Result) → ((c : Call) (r : Result) → visit c ≡ Some r → r.height ≤ n)
      → (p : Production) (kids : Trees) (c : Call) (r : Result) → visit_of_node g parts visit p kids c ≡ Some r → r.height ≤ suc n
  node_bounded n visit h p kids c r e =
      let inside = where_true (is_visited g parts p kids c) _ r e in
      let found = mapped (result_of g parts p c.visit) _ r inside.1 in
      let low = walk_bounded (makes g.sorts parts p) (step g parts visit p kids) (step g parts visit p kids) n (segment g.sorts parts p c.visit) _ found.0
      (step_bounded n visit h p kids) found.1 (omega arith) in
      subst (λ (q : Result). q.height ≤ suc n) found.2 (omega (arith, low))

  node_same : (n : ℕ) (one other : Call → Option Result) → ((c : Call) (r : Result) → one c ≡ Some r → r.height ≤ n → other c ≡ Some r)
      → (p : Production) (kids : Trees) (c : Call) (r : Result) → visit_of_node g parts one p kids c ≡ Some r → r.height ≤ suc n → visit_of_node g parts other p kids c ≡ Some r
  node_same n one other h p kids c r e le =
      let inside = where_true (is_visited g parts p kids c) _ r e in
      let found = mapped (result_of g parts p c.visit) _ r inside.1 in
      let up : suc found.0.height ≤ suc n = subst (λ (q : Result). q.height ≤ suc n) (sym found.2) le in
      let low : found.0.height ≤ n = omega (arith, up) in
      let same = walk_same (makes g.sorts parts p) (step g parts one p kids) (step g parts other p kids) n (segment g.sorts parts p c.visit) _ found.0
      (step_same n one other h p kids) found.1 low in
      ap (λ b. cond b (option_map (result_of g parts p c.visit) (walk (makes g.sorts parts p) (step g parts other p kids) (segment g.sorts parts p c.visit) (record { height = 0; held = held_at_start g parts p c }))) None) inside.0
      ∙ ap (option_map (result_of g parts p c.visit)) same
      ∙ ap Some found.2

  tree_bounded : (n : ℕ) (visit : Call → Option Result) → ((c : Call) (r : Result) → visit c ≡ Some r → r.height ≤ n)
      → (t : Tree) (c : Call) (r : Result) → visit_of_tree g parts visit t c ≡ Some r → r.height ≤ suc n
  tree_bounded n visit h (int i) c r e = absurd (none-some r e)
  tree_bounded n visit h (bool b) c r e = absurd (none-some r e)
  tree_bounded n visit h (name m) c r e = absurd (none-some r e)
  tree_bounded n visit h (node p kids) c r e =
      let found = bound_by (λ q. visit_of_node g parts visit q kids c) (slice_get g.prods p) r e in
      node_bounded n visit h found.0 kids c r found.2

  tree_same : (n : ℕ) (one other : Call → Option Result) → ((c : Call) (r : Result) → one c ≡ Some r → r.height ≤ n → other c ≡ Some r)
      → (t : Tree) (c : Call) (r : Result) → visit_of_tree g parts one t c ≡ Some r → r.height ≤ suc n → visit_of_tree g parts other t c ≡ Some r
  tree_same n one other h (int i) c r e le = absurd (none-some r e)
  tree_same n one other h (bool b) c r e le = absurd (none-some r e)
  tree_same n one other h (name m) c r e le = absurd (none-some r e)
  tree_same n one other h (node p kids) c r e le =
      let found = bound_by (λ q. visit_of_node g parts one q kids c) (slice_get g.prods p) r e in
      ap (option_and_then (λ q. visit_of_node g parts other q kids c)) found.1
      ∙ node_same n one other h found.0 kids c r found.2 le

  -- a node has a height of one at least
  node_some : (visit : Call → Option Result) (p : Production) (kids : Trees) (c : Call) (r : Result) → visit_of_node g parts visit p kids c ≡ Some r → 1 ≤ r.height
  node_some visit p kids c r e =
      let inside = where_true (is_visited g parts p kids c) _ r e in
      let found = mapped (result_of g parts p c.visit) _ r inside.1 in
      subst (λ (q : Result). 1 ≤ q.height) found.2 (omega arith)

  tree_some : (visit : Call → Option Result) (t : Tree) (c : Call) (r : Result) → visit_of_tree g parts visit t c ≡ Some r → 1 ≤ r.height
  tree_some visit (int i) c r e = absurd (none-some r e)
  tree_some visit (bool b) c r e = absurd (none-some r e)
  tree_some visit (name m) c r e = absurd (none-some r e)
  tree_some visit (node p kids) c r e =
      let found = bound_by (λ q. visit_of_node g parts visit q kids c) (slice_get g.prods p) r e in
      node_some visit found.0 kids c r found.2

  pub visit_bounded : (fuel : ℕ) (c : Call) (r : Result) → plain_visit g parts fuel c ≡ Some r → r.height ≤ fuel
  unfolding plain_visit
  visit_bounded zero c r e = absurd (none-some r e)
  visit_bounded (suc n) c r e = tree_bounded n (plain_visit g parts n) (visit_bounded n) c.tree c r e

  pub visit_some : (fuel : ℕ) (c : Call) (r : Result) → plain_visit g parts fuel c ≡ Some r → 1 ≤ r.height
  unfolding plain_visit
  visit_some zero c r e = absurd (none-some r e)
  visit_some (suc n) c r e = tree_some (plain_visit g parts n) c.tree c r e

  pub visit_same : (fuel other : ℕ) (c : Call) (r : Result) → plain_visit g parts fuel c ≡ Some r → r.height ≤ other → plain_visit g parts other c ≡ Some r
  unfolding plain_visit
  visit_same zero other c r e le = absurd (none-some r e)
  visit_same (suc n) zero c r e le = let one = visit_some (suc n) c r e in absurd (omega (arith, le, one))
  visit_same (suc n) (suc m) c r e le =
      tree_same m (plain_visit g parts n) (plain_visit g parts m) (λ d q f l. visit_same n m d q f l) c.tree c r e le

  pub none_below : (fuel other : ℕ) (c : Call) (r : Result) → plain_visit g parts fuel c ≡ Some r → other < r.height → plain_visit g parts other c ≡ None
  none_below fuel other c r e less = over (plain_visit g parts other c) refl
    where
      over : (o : Option Result) → plain_visit g parts other c ≡ o → o ≡ None
      over None is = refl
      over (Some q) is =
          let low = visit_bounded other c q is in
          let big : q.height ≤ fuel + other = omega (arith, low) in
          let high = visit_bounded fuel c r e in
          let more : r.height ≤ fuel + other = omega (arith, high) in
          let here = visit_same other (fuel + other) c q is big in
          let there = visit_same fuel (fuel + other) c r e more in
          let same : q ≡ r = same_Some q r (sym here ∙ there) in
          let height : q.height ≡ r.height = ap (λ (x : Result). x.height) same in
          absurd (omega (arith, low, less, height))
