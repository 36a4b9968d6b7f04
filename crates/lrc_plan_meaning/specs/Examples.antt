-- A worked example: the visit sequences of the declarations grammar.
use Rattle.std.specs.Prelude.{true, false, pos, List, [], ◌∷◌, codes}
use Rattle.lrc_base.specs.declared.grammar.Kind.TheVariants as k
use Rattle.lrc_base.specs.declared.grammar.Production.{Production}
use Rattle.lrc_base.specs.declared.expr.Expr.TheVariants as e
use Rattle.lrc_base.specs.declared.expr.Op.TheVariants as o
use Rattle.lrc_meaning.specs.Examples.{production, kid, equals}
use Rattle.lrc_graph.specs.Pairs.{Pairs}
use Rattle.lrc_order_meaning.specs.declared.Partition.{Partition}
use Rattle.lrc_plan_meaning.specs.declared.Action.{Action}
use Rattle.lrc_plan_meaning.specs.declared.Action.TheVariants as a
use Rattle.lrc_plan_meaning.specs.declared.Bound.{Bound}
use Rattle.lrc_plan_meaning.specs.declared.Bound.TheVariants as b

-- the program's attribute is alone; of the items, decls comes before env, and env before bad
abbrev pub alone : Pairs
alone = record { points = 1; rows = (false ∷ []) ∷ [] }

abbrev pub in_turn : Pairs
in_turn = record { points = 3; rows = (false ∷ true ∷ true ∷ []) ∷ (false ∷ false ∷ true ∷ []) ∷ (false ∷ false ∷ false ∷ []) ∷ [] }

abbrev pub partitions : List Partition
partitions =
    record { visits = 1; visit_of = 1 ∷ []; before = alone }
    ∷ record { visits = 2; visit_of = 1 ∷ 2 ∷ 2 ∷ []; before = in_turn }
    ∷ []

-- prod Top: Prog (b: Items) { b.env = b.decls; bad = b.bad; }
abbrev pub top : Production
top = production (codes "Top") 0 (kid (codes "b") (k.Sort 1) ∷ []) [] (equals 2 (e.Occ 1) ∷ equals 0 (e.Occ 3) ∷ [])

-- prod Decl: Items (n: Int, rest: Items) {
--   local mine: Int = n * 10;
--   decls = mine + rest.decls;
--   rest.env = env;
--   bad = if env == mine then rest.bad else rest.bad + 1;
-- }
abbrev pub declaration : Production
declaration = production (codes "Decl") 1 (kid (codes "n") k.Int ∷ kid (codes "rest") (k.Sort 1) ∷ [])
    (record { name = codes "mine"; attached = false; kind = k.Int } ∷ [])
    (equals 6 (e.Op o.Mul (e.Leaf 0) (e.Int (pos 10)))
    ∷ equals 0 (e.Op o.Add (e.Occ 6) (e.Occ 3))
    ∷ equals 4 (e.Occ 1)
    ∷ equals 2 (e.If (e.Op o.Equal (e.Occ 1) (e.Occ 6)) (e.Occ 5) (e.Op o.Add (e.Occ 5) (e.Int (pos 1))))
    ∷ [])

-- visit b 1; eval b.env; visit b 2; eval bad
abbrev pub top_segments : List (List Action)
top_segments = (a.Visit 0 1 ∷ a.Eval 2 ∷ a.Visit 0 2 ∷ a.Eval 0 ∷ []) ∷ []

-- eval mine; visit rest 1; eval decls
-- eval rest.env; visit rest 2; eval bad
abbrev pub declaration_segments : List (List Action)
declaration_segments =
    (a.Eval 6 ∷ a.Visit 0 1 ∷ a.Eval 0 ∷ [])
    ∷ (a.Eval 4 ∷ a.Visit 0 2 ∷ a.Eval 2 ∷ [])
    ∷ []

-- mine; rest 1 2
abbrev pub handed : List Bound
handed = b.Value 6 ∷ b.Kid 0 1 2 ∷ []
