-- What the walk of a visit meets, besides its own call and result, is met by an action of its segment.
use Rattle.std.proofs.Common.{◌≡◌, ℕ, suc, ◌<◌, ◌≤◌, Bool, true, false, cond, List, [], ◌∷◌, ◌++◌, Contains, Option, Some, None, inl, inr, slice_get, refl, sym, ap, ◌∙◌, subst, arith}
use Rattle.std.specs.Option.{option_map, option_map_or, option_and_then}
use Rattle.std.proofs.lemmas.List.Elements.{Contains-append_left, Contains-append_right, Contains-append_cases}
use Rattle.lrc_base.specs.declared.grammar.Equation.{Equation}
use Rattle.lrc_base.specs.declared.grammar.Kind.TheVariants as k
use Rattle.lrc_base.specs.declared.grammar.Production.{Production}
use Rattle.lrc_meaning.specs.Expression.{expression}
use Rattle.lrc_meaning.specs.Tree.{Tree, int, bool, name, node, Trees}
use Rattle.lrc_meaning.specs.Grammar.{Grammar}
use Rattle.lrc_order_meaning.specs.declared.Partition.{Partition}
use Rattle.lrc_plan_meaning.specs.declared.Action.{Action}
use Rattle.lrc_plan_meaning.specs.declared.Action.TheVariants as a
use Rattle.lrc_plan_meaning.specs.declared.Bound.{Bound}
use Rattle.lrc_plan_meaning.specs.Items.{symbol_at, makes}
use Rattle.lrc_plan_meaning.specs.Sequences.{segment}
use Rattle.lrc_visit_meaning.specs.Values.{Call, Result}
use Rattle.lrc_visit_meaning.specs.Visits.{Held, Given, Walked, walked_on, holding, walk, is_of_kind, is_visited, tree_at, call_of, held_at_start, leaf_in, equation_of, values_in, result_of, step, visit_of_node, visit_of_tree, plain_visit}
use Rattle.lrc_visit_meaning.specs.Demand.{Met, called, answered, built, built_in, equation_met, walk_met, action_met, node_met, tree_met, reach}
use Rattle.lrc_order_meaning.proofs.MemberLemmas.{member_first, member_later, member_cases, no_member, member_of_map}
use Rattle.lrc_laws.proofs.FuelLemmas.{mapped, bound_by, where_true, max_right, walk_rises}

pub member_where : {X : Type 0} (b : Bool) (xs : List X) (x : X) → Contains (cond b xs []) x → (b ≡ true) × Contains xs x
member_where true xs x c = (refl, c)
member_where false xs x c = absurd (no_member x c)

module _ (makes_of : Action → List Bound) (one : Held → Action → Option Given) (met : Held → Action → List Met) (Fine : Held → Type 0) where
  -- an action of a walk meets x, over what is held there
  pub record IsMetBy (xs : List Action) (w : Walked) (x : Met) : Type 0 where
    pub held : Held
    pub fine : Fine held
    pub action : Action
    pub there : Contains xs action
    pub member : Contains (met held action) x
    pub within : (y : Met) → Contains (met held action) y → Contains (walk_met makes_of one met xs w) y
    pub lower : (v : Walked) → walk makes_of one xs w ≡ Some v → (r : Given) × (one held action ≡ Some r) × (r.height ≤ v.height)

  abbrev rest_met : List Action → Action → Walked → Option Given → List Met
  rest_met xs y w o = option_map_or (λ (r : Given). walk_met makes_of one met xs (walked_on makes_of y w r)) o []

  here_met : (xs : List Action) (y : Action) (w : Walked) (x : Met) → Fine w.held → Contains (met w.held y) x → IsMetBy (y ∷ xs) w x
  here_met xs y w x h c = record {
    held = w.held;
    fine = h;
    action = y;
    there = member_first y xs;
    member = c;
    within = λ z d. Contains-append_left (met w.held y) (rest_met xs y w (one w.held y)) z d;
    lower = λ v e.
        let found = bound_by (λ r. walk makes_of one xs (walked_on makes_of y w r)) (one w.held y) v e in
        let rise = walk_rises makes_of one one xs (walked_on makes_of y w found.0) v found.2 in
        let up = max_right w.height found.0.height in
        (found.0, found.1, omega (arith, rise, up));
  }

  later_met : (xs : List Action) (y : Action) (w : Walked) (x : Met) (o : Option Given) → one w.held y ≡ o → Contains (rest_met xs y w o) x
      → ((r : Given) → one w.held y ≡ Some r → Contains (walk_met makes_of one met xs (walked_on makes_of y w r)) x → IsMetBy xs (walked_on makes_of y w r) x)
      → IsMetBy (y ∷ xs) w x
  later_met xs y w x None is c rest = absurd (no_member x c)
  later_met xs y w x (Some r) is c rest =
      let inner = rest r is c in
      record {
        held = inner.held;
        fine = inner.fine;
        action = inner.action;
        there = member_later y xs inner.action inner.there;
        member = inner.member;
        within = λ z d. Contains-append_right (met w.held y) (rest_met xs y w (one w.held y)) z (subst (λ o. Contains (rest_met xs y w o) z) (sym is) (inner.within z d));
        lower = λ v e. inner.lower v (sym (ap (option_and_then (λ r. walk makes_of one xs (walked_on makes_of y w r))) is) ∙ e);
      }

  -- what a walk meets is met by one of its actions; what is held is fine at each of them where each keeps it so
  pub met_by : ((m : Held) (y : Action) (r : Given) → Fine m → one m y ≡ Some r → Fine (holding (makes_of y) r.made m))
      → (xs : List Action) (w : Walked) (x : Met) → Fine w.held → Contains (walk_met makes_of one met xs w) x → IsMetBy xs w x
  met_by keeps [] w x h c = absurd (no_member x c)
  met_by keeps (y ∷ xs) w x h c =
      elim (Contains-append_cases (met w.held y) (rest_met xs y w (one w.held y)) x c) [
        | inl here ↦ here_met xs y w x h here
        | inr later ↦
            later_met xs y w x (one w.held y) refl later
            (λ r is d. met_by keeps xs (walked_on makes_of y w r) x (keeps w.held y r h is) d)
      ]

module _ (g : Grammar) (parts : List Partition) where
  abbrev own_result : ℕ → Call → List Met
  own_result fuel c = option_map_or (λ r. answered r ∷ []) (plain_visit g parts (suc fuel) c) []

  -- what the actions meet is in the reach
  reach_tree : (fuel : ℕ) (c : Call) (x : Met) → Contains (tree_met g parts (plain_visit g parts fuel) (reach g parts fuel) c.tree c) x → Contains (reach g parts (suc fuel) c) x
  unfolding reach
  reach_tree fuel c x h =
      let inner = tree_met g parts (plain_visit g parts fuel) (reach g parts fuel) c.tree c in
      member_later (called c) (inner ++ own_result fuel c) x (Contains-append_left inner (own_result fuel c) x h)

  -- the call itself is met
  pub call_met : (fuel : ℕ) (c : Call) → Contains (reach g parts (suc fuel) c) (called c)
  unfolding reach
  call_met fuel c = member_first (called c) (tree_met g parts (plain_visit g parts fuel) (reach g parts fuel) c.tree c ++ own_result fuel c)

  -- with no fuel only the call is met
  pub reach_none : (c : Call) (x : Met) → Contains (reach g parts 0 c) x → called c ≡ x
  unfolding reach
  reach_none c x h = elim (member_cases (called c) [] x h) [ inl e ↦ e | inr later ↦ absurd (no_member x later) ]

  -- an action makes trees, or visits a call
  pub data ByAction (fuel : ℕ) (q : Production) (kids : Trees) (m : Held) (x : Met) : Action → Type 0 where
    made : (o : ℕ) (t : Tree) (e : Equation) → equation_of q o ≡ Some e → Contains (built_in (values_in g q m) (leaf_in q.kids kids) (expression e.expr)) t → built t ≡ x
        → ByAction fuel q kids m x (a.Eval o)
    visits : (s v : ℕ) → is_of_kind g.prods (tree_at g q kids m s) (k.Sort (symbol_at g.sorts q s).sort) ≡ true → Contains (reach g parts fuel (call_of g parts q kids m s v)) x
        → ByAction fuel q kids m x (a.Visit s v)

  eval_made : (fuel : ℕ) (q : Production) (kids : Trees) (m : Held) (x : Met) (o : ℕ) (found : Option Equation) → equation_of q o ≡ found
      → Contains (option_map_or (equation_met g (values_in g q m) (leaf_in q.kids kids)) found []) x → ByAction fuel q kids m x (a.Eval o)
  eval_made fuel q kids m x o None is h = absurd (no_member x h)
  eval_made fuel q kids m x o (Some e) is h =
      let r = member_of_map built (built_in (values_in g q m) (leaf_in q.kids kids) (expression e.expr)) x h in
      made o r.0 e is r.1 r.2

  pub by_action : (fuel : ℕ) (q : Production) (kids : Trees) (m : Held) (x : Met) (y : Action) → Contains (action_met g parts (reach g parts fuel) q kids m y) x → ByAction fuel q kids m x y
  by_action fuel q kids m x (a.Eval o) h = eval_made fuel q kids m x o (equation_of q o) refl h
  by_action fuel q kids m x (a.Visit s v) h =
      let inside = member_where (is_of_kind g.prods (tree_at g q kids m s) (k.Sort (symbol_at g.sorts q s).sort)) (reach g parts fuel (call_of g parts q kids m s v)) x h in
      visits s v inside.0 inside.1

module _ (g : Grammar) (parts : List Partition) (Fine : Held → Type 0) where
  -- what is held is fine at the start of a visit of this node, and each action of it keeps it so
  pub record IsKept (fuel : ℕ) (c : Call) (q : Production) (kids : Trees) : Type 0 where
    pub start : Fine (held_at_start g parts q c)
    pub keeps : (m : Held) (y : Action) (r : Given) → Fine m → step g parts (plain_visit g parts fuel) q kids m y ≡ Some r → Fine (holding (makes g.sorts parts q y) r.made m)

  -- an action of the visit of a call meets x, with so much fuel left
  pub record IsInner (fuel : ℕ) (c : Call) (x : Met) : Type 0 where
    pub number : ℕ
    pub kids : Trees
    pub production : Production
    pub tree : c.tree ≡ node number kids
    pub is_there : slice_get g.prods number ≡ Some production
    pub visited : is_visited g parts production kids c ≡ true
    pub held : Held
    pub fine : Fine held
    pub action : Action
    pub in_segment : Contains (segment g.sorts parts production c.visit) action
    pub member : Contains (action_met g parts (reach g parts fuel) production kids held action) x
    pub within : (y : Met) → Contains (action_met g parts (reach g parts fuel) production kids held action) y → Contains (reach g parts (suc fuel) c) y
    pub lower : (r : Result) → plain_visit g parts (suc fuel) c ≡ Some r
        → (given : Given) × (step g parts (plain_visit g parts fuel) production kids held action ≡ Some given) × (given.height < r.height)

  node_inner : (fuel : ℕ) (c : Call) (n : ℕ) (kids : Trees) (q : Production) (x : Met) → c.tree ≡ node n kids → slice_get g.prods n ≡ Some q → IsKept fuel c q kids
      → Contains (node_met g parts (plain_visit g parts fuel) (reach g parts fuel) q kids c) x → IsInner fuel c x
  unfolding plain_visit
  node_inner fuel c n kids q x tree there kept h =
      let one = step g parts (plain_visit g parts fuel) q kids in
      let met = action_met g parts (reach g parts fuel) q kids in
      let start : Walked = record { height = 0; held = held_at_start g parts q c } in
      let seg = segment g.sorts parts q c.visit in
      let inside = member_where (is_visited g parts q kids c) (walk_met (makes g.sorts parts q) one met seg start) x h in
      let by = met_by (makes g.sorts parts q) one met Fine kept.keeps seg start x kept.start inside.1 in
      let whole : tree_met g parts (plain_visit g parts fuel) (reach g parts fuel) c.tree c ≡ walk_met (makes g.sorts parts q) one met seg start =
      ap (λ t. tree_met g parts (plain_visit g parts fuel) (reach g parts fuel) t c) tree
      ∙ ap (λ o. option_map_or (λ q. node_met g parts (plain_visit g parts fuel) (reach g parts fuel) q kids c) o []) there
      ∙ ap (λ b. cond b (walk_met (makes g.sorts parts q) one met seg start) []) inside.0 in
      record {
        number = n;
        kids = kids;
        production = q;
        tree = tree;
        is_there = there;
        visited = inside.0;
        held = by.held;
        fine = by.fine;
        action = by.action;
        in_segment = by.there;
        member = by.member;
        within = λ y d. reach_tree g parts fuel c y (subst (λ ms. Contains ms y) (sym whole) (by.within y d));
        lower = λ r e.
            let at_node : visit_of_node g parts (plain_visit g parts fuel) q kids c ≡ Some r =
            sym (ap (λ t. visit_of_tree g parts (plain_visit g parts fuel) t c) tree ∙ ap (option_and_then (λ q. visit_of_node g parts (plain_visit g parts fuel) q kids c)) there) ∙ e in
            let run = where_true (is_visited g parts q kids c) (option_map (result_of g parts q c.visit) (walk (makes g.sorts parts q) one seg start)) r at_node in
            let walked = mapped (result_of g parts q c.visit) (walk (makes g.sorts parts q) one seg start) r run.1 in
            let up : suc walked.0.height ≡ r.height = ap (λ (s : Result). s.height) walked.2 in
            let low = by.lower walked.0 walked.1 in
            let most = low.2 in
            (low.0, low.1, omega (arith, up, most));
      }

  found_inner : (fuel : ℕ) (c : Call) (n : ℕ) (kids : Trees) (o : Option Production) (x : Met) → c.tree ≡ node n kids → slice_get g.prods n ≡ o
      → ((q : Production) → slice_get g.prods n ≡ Some q → IsKept fuel c q kids)
      → Contains (option_map_or (λ q. node_met g parts (plain_visit g parts fuel) (reach g parts fuel) q kids c) o []) x → IsInner fuel c x
  found_inner fuel c n kids None x tree is kept h = absurd (no_member x h)
  found_inner fuel c n kids (Some q) x tree is kept h = node_inner fuel c n kids q x tree is (kept q is) h

  -- each node that a call may visit keeps what is held fine
  abbrev pub AreKept : ℕ → Call → Type 0
  AreKept fuel c = (n : ℕ) (kids : Trees) (q : Production) → c.tree ≡ node n kids → slice_get g.prods n ≡ Some q → IsKept fuel c q kids

  tree_inner : (fuel : ℕ) (c : Call) (t : Tree) (x : Met) → c.tree ≡ t → AreKept fuel c → Contains (tree_met g parts (plain_visit g parts fuel) (reach g parts fuel) t c) x → IsInner fuel c x
  tree_inner fuel c (int i) x is kept h = absurd (no_member x h)
  tree_inner fuel c (bool b) x is kept h = absurd (no_member x h)
  tree_inner fuel c (name m) x is kept h = absurd (no_member x h)
  tree_inner fuel c (node n kids) x is kept h = found_inner fuel c n kids (slice_get g.prods n) x is refl (λ q. kept n kids q is) h

  -- what is in the reach of a call: the call, what its actions meet, and its result
  pub data Reached (fuel : ℕ) (c : Call) (x : Met) : Type 0 where
    itself : called c ≡ x → Reached fuel c x
    inner : IsInner fuel c x → Reached fuel c x
    own : (r : Result) → plain_visit g parts (suc fuel) c ≡ Some r → answered r ≡ x → Reached fuel c x

  own_reached : (fuel : ℕ) (c : Call) (o : Option Result) (x : Met) → plain_visit g parts (suc fuel) c ≡ o → Contains (option_map_or (λ r. answered r ∷ []) o []) x → Reached fuel c x
  own_reached fuel c None x is h = absurd (no_member x h)
  own_reached fuel c (Some r) x is h = elim (member_cases (answered r) [] x h) [ inl e ↦ own r is e | inr later ↦ absurd (no_member x later) ]

  pub reached : (fuel : ℕ) (c : Call) (x : Met) → AreKept fuel c → Contains (reach g parts (suc fuel) c) x → Reached fuel c x
  unfolding reach
  reached fuel c x kept h =
      let walked = tree_met g parts (plain_visit g parts fuel) (reach g parts fuel) c.tree c in
      elim (member_cases (called c) (walked ++ own_result g parts fuel c) x h) [
        | inl e ↦ itself e
        | inr later ↦
            elim (Contains-append_cases walked (own_result g parts fuel c) x later) [
              | inl there ↦ inner (tree_inner fuel c c.tree x refl kept there)
              | inr last ↦ own_reached fuel c (plain_visit g parts (suc fuel) c) x refl last
            ]
      ]
