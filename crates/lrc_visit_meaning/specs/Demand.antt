-- Demand, which is what an attribution is made of, and reach, which is what the walk of a visit meets.
--
-- Of the two the first is read off a decorated tree and the second off the plain visit. After the shared terms and calls
-- of visits of Pennings, Generating Incremental Attribute Evaluators (1994).
use Rattle.std.specs.Prelude.{ℕ, zero, suc, cond, List, [], ◌∷◌, ◌++◌, map, flat_map, Option, option_and_then, slice_get}
use Rattle.std.specs.Option.{option_map_or}
use Rattle.std.specs.List.{range_with_len}
use Rattle.lrc_base.specs.declared.grammar.Kind.TheVariants as k
use Rattle.lrc_base.specs.declared.grammar.Equation.{Equation}
use Rattle.lrc_base.specs.declared.grammar.Production.{Production}
use Rattle.lrc_meaning.specs.Tree.{Tree, int, bool, name, node, Trees}
use Rattle.lrc_meaning.specs.Expression.{Expression, literal, occurrence, leaf, binary, choice, make, Expressions, no_more, and_more, expression, bool_in, value_of}
use Rattle.lrc_meaning.specs.Grammar.{Grammar}
use Rattle.lrc_meaning.specs.Attribution.{Decorated, at_node, Parts, end, symbol, bare, occurrence_values, leaf_at}
use Rattle.lrc_meaning.specs.Attribution as m
use Rattle.lrc_order_meaning.specs.declared.Partition.{Partition}
use Rattle.lrc_plan_meaning.specs.declared.Action.{Action}
use Rattle.lrc_plan_meaning.specs.declared.Action.TheVariants as a
use Rattle.lrc_plan_meaning.specs.declared.Bound.{Bound}
use Rattle.lrc_plan_meaning.specs.Items.{symbol_at, makes, visits_of}
use Rattle.lrc_plan_meaning.specs.Sequences.{segment}
use Rattle.lrc_visit_meaning.specs.Values.{Call, Result}
use Rattle.lrc_visit_meaning.specs.Visits.{Held, Given, Walked, walked_on, is_of_kind, leaf_in, equation_of, values_in, tree_at, is_visited, call_of, held_at_start, step, plain_visit}
use Rattle.lrc_visit_meaning.specs.Shown.{asked, answer, visit_height, face_of}

-- A visit that is called, a result of one, and a tree or name that an expression makes.
pub data Met : Type 0 where
  called : Call → Met
  answered : Result → Met
  built : Tree → Met

abbrev pub name_literal : Tree → List Tree
name_literal (int i) = []
name_literal (bool b) = []
name_literal (name n) = name n ∷ []
name_literal (node p kids) = []

-- The constructor applications and the name literals that are evaluated: of a choice only those of the branch taken.
module _ (values : List Tree) (leaves : ℕ → Option Tree) where
  abbrev mutual
    pub built_in : Expression → List Tree
    built_in (literal t) = name_literal t
    built_in (occurrence i) = []
    built_in (leaf i) = []
    built_in (binary op x y) = built_in x ++ built_in y
    built_in (choice c x y) =
        built_in c ++ option_map_or (λ taken. cond taken (built_in x) (built_in y)) (option_and_then bool_in (value_of values leaves c)) []
    built_in (make p args) = built_in_each args ++ option_map_or (λ t. t ∷ []) (value_of values leaves (make p args)) []

    pub built_in_each : Expressions → List Tree
    built_in_each no_more = []
    built_in_each (and_more e es) = built_in e ++ built_in_each es

-- what the actions of a segment meet, up to the first that gives nothing
abbrev pub walk_met : (Action → List Bound) → (Held → Action → Option Given) → (Held → Action → List Met) → List Action → Walked → List Met
walk_met makes_of step met [] w = []
walk_met makes_of step met (x ∷ xs) w =
    met w.held x ++ option_map_or (λ (r : Given). walk_met makes_of step met xs (walked_on makes_of x w r)) (step w.held x) []

module _ (g : Grammar) where
  abbrev pub equation_met : List Tree → (ℕ → Option Tree) → Equation → List Met
  equation_met values leaves e = map built (built_in values leaves (expression e.expr))

  module _ (parts : List Partition) where
    -- what an action meets
    abbrev pub action_met : (Call → List Met) → Production → Trees → Held → Action → List Met
    action_met met p kids m (a.Eval o) = option_map_or (equation_met (values_in g p m) (leaf_in p.kids kids)) (equation_of p o) []
    action_met met p kids m (a.Visit s v) =
        cond (is_of_kind g.prods (tree_at g p kids m s) (k.Sort (symbol_at g.sorts p s).sort)) (met (call_of g parts p kids m s v)) []

    abbrev pub node_met : (Call → Option Result) → (Call → List Met) → Production → Trees → Call → List Met
    node_met visit met p kids c =
        cond (is_visited g parts p kids c)
        (walk_met (makes g.sorts parts p) (step g parts visit p kids) (action_met met p kids) (segment g.sorts parts p c.visit) (record { height = 0; held = held_at_start g parts p c })) []

    abbrev pub tree_met : (Call → Option Result) → (Call → List Met) → Tree → Call → List Met
    tree_met visit met (int i) c = []
    tree_met visit met (bool b) c = []
    tree_met visit met (name n) c = []
    tree_met visit met (node n kids) c = option_map_or (λ q. node_met visit met q kids c) (slice_get g.prods n) []

    -- The reach of a call with so much fuel: the call, what its walk meets, and its result where it has one. A call with no
    -- fuel left is met, and so is what does not have the form of one.
    unfoldable pub reach : ℕ → Call → List Met
    reach zero c = called c ∷ []
    reach (suc fuel) c =
        called c ∷ (tree_met (plain_visit g parts fuel) (reach fuel) c.tree c ++ option_map_or (λ r. answered r ∷ []) (plain_visit g parts (suc fuel) c) [])

    -- visit v of a decorated tree of sort s
    abbrev pub visit_met : Decorated → ℕ → ℕ → List Met
    visit_met d s v = called (asked g parts (face_of g parts d) s (bare d) v) ∷ answered (answer g parts (face_of g parts d) s v (visit_height g parts d v)) ∷ []

    -- the visits and the equations of a decorated node
    abbrev pub own_met : ℕ → List Tree → Parts → Parts → Production → List Met
    own_met n own kids extras q =
        flat_map (visit_met (at_node n own kids extras) q.left) (range_with_len 1 (visits_of parts q.left))
        ++ flat_map (equation_met (occurrence_values own kids extras) (leaf_at kids)) q.equations

    -- The demand of an attribution: at each node, those of attached trees included, its visits and what its equations make.
    abbrev mutual
      pub demand : Decorated → List Met
      demand (at_node n own kids extras) = option_map_or (own_met n own kids extras) (slice_get g.prods n) [] ++ (demands kids ++ demands extras)

      pub demands : Parts → List Met
      demands end = []
      demands (m.value v rest) = demands rest
      demands (symbol d rest) = demand d ++ demands rest
