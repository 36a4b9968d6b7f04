-- The plain visit: what a visit of a tree computes, over plain values, with so much fuel.
--
-- A visit interprets the segment of its node's production: Kastens, Ordered Attributed Grammars (1980). What earlier
-- visits hand on comes in bindings: Pennings, Generating Incremental Attribute Evaluators (1994). The tree of a
-- nonterminal attribute is visited as children are: Vogt, Swierstra and Kuiper, Higher-Order Attribute Grammars (1989).
use Rattle.std.specs.Prelude.{ℕ, zero, suc, ◌+◌, ◌-◌, max, Bool, true, false, ◌&&◌, ◌==◌, nat_le, cond, List, [], ◌∷◌, ◌++◌, map, flat_map, find, length, Option, Some, None, option_map, option_and_then, slice_get, slice_index_or}
use Rattle.std.specs.Option.{option_map_or}
use Rattle.std.specs.List.{range_with_len}
use Rattle.lrc_base.specs.declared.grammar.Kind.{Kind}
use Rattle.lrc_base.specs.declared.grammar.Kind.TheVariants as k
use Rattle.lrc_base.specs.declared.grammar.Kid.{Kid}
use Rattle.lrc_base.specs.declared.grammar.Equation.{Equation}
use Rattle.lrc_base.specs.declared.grammar.Production.{Production}
use Rattle.lrc_meaning.specs.Tree.{Tree, int, bool, name, node, Trees, none, more, is_sort, same_kind, kind_of, in_order}
use Rattle.lrc_meaning.specs.Expression.{expression, value_of}
use Rattle.lrc_meaning.specs.Grammar.{Grammar, occurrences_of}
use Rattle.lrc_order_meaning.specs.declared.Partition.{Partition}
use Rattle.lrc_plan_meaning.specs.declared.Action.{Action}
use Rattle.lrc_plan_meaning.specs.declared.Action.TheVariants as a
use Rattle.lrc_plan_meaning.specs.declared.Bound.{Bound}
use Rattle.lrc_plan_meaning.specs.declared.Bound.TheVariants as b
use Rattle.lrc_plan_meaning.specs.Items.{same_item, visits_of, attrs_of_visit, values_of_visit, symbol_at, makes}
use Rattle.lrc_plan_meaning.specs.Sequences.{segment}
use Rattle.lrc_plan_meaning.specs.Bindings.{binding as items_between}
use Rattle.lrc_plan_meaning.specs.Sound.{handed_in}
use Rattle.lrc_visit_meaning.specs.Values.{Datum, value, binding, no_data, Data, data_row, data_list, no_tree, value_in, binding_in, Call, Result}

-- What each item of a node holds. What an item holds that is not available yet is of no account.
abbrev pub Held : Type 0
Held = Bound → Datum

abbrev pub nothing_held : Held
nothing_held x = binding no_data

-- the same, but that these items hold these data
abbrev pub holding : List Bound → List Datum → Held → Held
holding [] ds m = m
holding (x ∷ xs) [] m = m
holding (x ∷ xs) (d ∷ ds) m = holding xs ds (λ y. cond (same_item x y) d (m y))

-- the tree is a leaf or a node of this kind
abbrev pub is_of_kind : List Production → Tree → Kind → Bool
is_of_kind prods t kind = option_map_or (λ x. same_kind x kind) (kind_of prods t) false

abbrev pub are_of_kinds : List Production → Trees → List Kid → Bool
are_of_kinds prods none [] = true
are_of_kinds prods none (kid ∷ kids) = false
are_of_kinds prods (more t ts) [] = false
are_of_kinds prods (more t ts) (kid ∷ kids) = is_of_kind prods t kid.kind && are_of_kinds prods ts kids

-- the child of this number, where it is a leaf
abbrev pub leaf_in : List Kid → Trees → ℕ → Option Tree
leaf_in kids ts i =
    option_and_then (λ (kid : Kid). cond (is_sort kid.kind) None (slice_get (in_order ts) i)) (slice_get kids i)

-- the children whose kind is a sort
abbrev pub symbol_trees : List Kid → Trees → List Tree
symbol_trees [] ts = []
symbol_trees (kid ∷ kids) none = []
symbol_trees (kid ∷ kids) (more t ts) = cond (is_sort kid.kind) (t ∷ symbol_trees kids ts) (symbol_trees kids ts)

-- so many bindings, each of so many items
abbrev pub are_of_lengths : List Data → List ℕ → Bool
are_of_lengths [] [] = true
are_of_lengths [] (n ∷ ns) = false
are_of_lengths (ds ∷ rows) [] = false
are_of_lengths (ds ∷ rows) (n ∷ ns) = (length (data_list ds) == n) && are_of_lengths rows ns

-- what an action gives: a height, that of a visit or 0, and what the items that it makes hold
pub record Given : Type 0 where
  pub height : ℕ
  pub made : List Datum

-- the height of the highest visit so far, and what is held
pub record Walked : Type 0 where
  pub height : ℕ
  pub held : Held

-- what is held behind an action
abbrev pub walked_on : (Action → List Bound) → Action → Walked → Given → Walked
walked_on makes_of x w r = record { height = max w.height r.height; held = holding (makes_of x) r.made w.held }

-- The actions of a segment one after another, each by what the actions before it made.
abbrev pub walk : (Action → List Bound) → (Held → Action → Option Given) → List Action → Walked → Option Walked
walk makes_of step [] w = Some w
walk makes_of step (x ∷ xs) w = option_and_then (λ (r : Given). walk makes_of step xs (walked_on makes_of x w r)) (step w.held x)

-- the equation that defines the occurrence
abbrev pub equation_of : Production → ℕ → Option Equation
equation_of p o = find (λ (e : Equation). e.target == o) p.equations

-- the values of these items
abbrev pub values_at : Held → List Bound → List Tree
values_at m items = map (λ x. value_in (m x)) items

abbrev pub given_by : Result → Given
given_by r = record { height = r.height; made = map value r.synthesised ++ map binding r.bindings }

module _ (g : Grammar) where
  -- the values of a node's occurrences, by number
  abbrev pub values_in : Production → Held → List Tree
  values_in p m = map (λ o. value_in (m (b.Value o))) (range_with_len 0 (length (occurrences_of g.sorts p)))

  -- the value of the occurrence by its equation
  abbrev pub evaluated : Production → Trees → Held → ℕ → Option Tree
  evaluated p kids m o =
      option_and_then (λ (e : Equation). value_of (values_in p m) (leaf_in p.kids kids) (expression e.expr)) (equation_of p o)

  -- the tree of a symbol: the value of its nonterminal attribute, or the child
  abbrev pub tree_at : Production → Trees → Held → ℕ → Tree
  tree_at p kids m s =
      option_map_or (λ x. value_in (m (b.Value x))) (symbol_at g.sorts p s).tree (slice_index_or (symbol_trees p.kids kids) s no_tree)

  module _ (parts : List Partition) where
    -- Whether a call has the form of one of a node of production p: its visit is one of the left side's, and it has as many
    -- inherited values, as many bindings, and as many items in each, as that visit takes. Nothing else is asked of a call.
    unfoldable pub is_call : Production → Call → Bool
    is_call p c =
        (nat_le 1 c.visit && nat_le c.visit (visits_of parts p.left))
        && ((length c.inherited == length (attrs_of_visit g.sorts parts true p.left c.visit))
        && are_of_lengths c.bindings (map (λ u. length (items_between g.sorts parts p u c.visit)) (range_with_len 1 (c.visit - 1))))

    -- whether the call visits a node of production p with these children: it has its form, and they are of their kinds
    abbrev pub is_visited : Production → Trees → Call → Bool
    is_visited p kids c = is_call p c && are_of_kinds g.prods kids p.kids

    -- the call of visit v of a symbol
    abbrev pub call_of : Production → Trees → Held → ℕ → ℕ → Call
    call_of p kids m s v = let place = symbol_at g.sorts p s in record {
      tree = tree_at p kids m s;
      visit = v;
      inherited = values_at m (values_of_visit g.sorts parts true place.sort place.start v);
      bindings = map (λ u. binding_in (m (b.Kid s u v))) (range_with_len 1 (v - 1));
    }

    -- what the items of a call hold at the start of the visit
    abbrev pub held_at_start : Production → Call → Held
    held_at_start p c =
        holding (handed_in g.sorts parts p c.visit) (map value c.inherited ++ flat_map data_list c.bindings) nothing_held

    -- the result of visit v at its end
    abbrev pub result_of : Production → ℕ → Walked → Result
    result_of p v w = record {
      height = suc w.height;
      synthesised = values_at w.held (values_of_visit g.sorts parts false p.left 0 v);
      bindings = map (λ u. data_row (map w.held (items_between g.sorts parts p v u))) (range_with_len (v + 1) (visits_of parts p.left - v));
    }

    module _ (visit : Call → Option Result) where
      -- An action: the value of an occurrence; or a visit of a symbol's tree, where that is a node of the symbol's sort.
      abbrev pub step : Production → Trees → Held → Action → Option Given
      step p kids m (a.Eval o) = option_map (λ t. record { height = 0; made = value t ∷ [] }) (evaluated p kids m o)
      step p kids m (a.Visit s v) =
          cond (is_of_kind g.prods (tree_at p kids m s) (k.Sort (symbol_at g.sorts p s).sort))
          (option_map given_by (visit (call_of p kids m s v))) None

      -- a visit of a node of production p
      abbrev pub visit_of_node : Production → Trees → Call → Option Result
      visit_of_node p kids c =
          cond (is_visited p kids c)
          (option_map (result_of p c.visit) (walk (makes g.sorts parts p) (step p kids) (segment g.sorts parts p c.visit) (record { height = 0; held = held_at_start p c })))
          None

      abbrev pub visit_of_tree : Tree → Call → Option Result
      visit_of_tree (int i) c = None
      visit_of_tree (bool b) c = None
      visit_of_tree (name n) c = None
      visit_of_tree (node p kids) c = option_and_then (λ q. visit_of_node q kids c) (slice_get g.prods p)

      -- one visit, which makes the visits of its segment by `visit`
      abbrev pub one_visit : Call → Option Result
      one_visit c = visit_of_tree c.tree c

    -- The visit of a call with so much fuel: a visit takes one, and hands on the rest. None where the fuel runs out, where the
    -- call does not have the form of one, where a visit of the segment has none, or where something that is needed is not there or
    -- is of another kind.
    unfoldable pub plain_visit : ℕ → Call → Option Result
    plain_visit zero c = None
    plain_visit (suc fuel) c = one_visit (plain_visit fuel) c
