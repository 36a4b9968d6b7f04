-- Worked examples: the endless grammar, results of visits, and what is no call.
use Rattle.std.specs.Prelude.{ℕ, true, false, pos, List, [], ◌∷◌, codes}
use Rattle.lrc_base.specs.declared.grammar.Kind.TheVariants as k
use Rattle.lrc_base.specs.declared.expr.Expr.TheVariants as e
use Rattle.lrc_meaning.specs.Tree.{Tree, int, node, none, more}
use Rattle.lrc_meaning.specs.Grammar.{Grammar}
use Rattle.lrc_meaning.specs.Examples.{attr, equals, production}
use Rattle.lrc_order_meaning.specs.declared.Partition.{Partition}
use Rattle.lrc_plan_meaning.specs.Examples.{alone}
use Rattle.lrc_visit_meaning.specs.Values.{value, binding, Data, data_row, Call, Result}

-- sort S { syn v: Int; }
-- prod Loop: S () { attach a: S = Loop(); v = a.v; }
-- prod One: S () { v = 1; }
abbrev pub endless : Grammar
endless = record {
  sorts = record { name = codes "S"; attrs = attr (codes "v") false ∷ [] } ∷ [];
  prods = production (codes "Loop") 0 [] (record { name = codes "a"; attached = true; kind = k.Sort 0 } ∷ []) (equals 1 (e.Make 0 []) ∷ equals 0 (e.Occ 2) ∷ [])
      ∷ production (codes "One") 0 [] [] (equals 0 (e.Int (pos 1)) ∷ [])
      ∷ [];
  start = 0;
}

abbrev pub endless_partitions : List Partition
endless_partitions = record { visits = 1; visit_of = 1 ∷ []; before = alone } ∷ []

-- Loop() and One()
abbrev pub loop : Tree
loop = node 0 none

abbrev pub one : Tree
one = node 1 none

-- a call of `One()`, where this is one; its sort has one visit, with nothing inherited and nothing bound
abbrev pub call_of_one : ℕ → List Tree → List Data → Call
call_of_one visit inherited bindings = record { tree = one; visit = visit; inherited = inherited; bindings = bindings }

-- a result with one number and no bindings
abbrev pub number_result : ℕ → ℕ → Result
number_result height n = record { height = height; synthesised = int (pos n) ∷ []; bindings = [] }

-- None(), Decl(2, None()) and Decl(1, Decl(2, None())) of the declarations grammar
abbrev pub no_items : Tree
no_items = node 1 none

abbrev pub second_item : Tree
second_item = node 2 (more (int (pos 2)) (more no_items none))

abbrev pub both_items : Tree
both_items = node 2 (more (int (pos 1)) (more second_item none))

-- the first visit of items, and the second, with the environment 30 and the binding from the first
abbrev pub first_call : Tree → Call
first_call t = record { tree = t; visit = 1; inherited = []; bindings = [] }

abbrev pub second_call : Tree → Data → Call
second_call t handed = record { tree = t; visit = 2; inherited = int (pos 30) ∷ []; bindings = handed ∷ [] }

-- what the first visit gives, and the second
abbrev pub first_result : ℕ → ℕ → Data → Result
first_result height decls handed = record { height = height; synthesised = int (pos decls) ∷ []; bindings = handed ∷ [] }

-- the binding of a declaration: `mine`, and the binding of the rest
abbrev pub declaration_binding : ℕ → Data → Data
declaration_binding mine rest = data_row (value (int (pos mine)) ∷ binding rest ∷ [])
