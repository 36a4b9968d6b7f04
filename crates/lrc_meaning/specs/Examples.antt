-- Worked examples: two grammars, a tree of each, and its decorated tree.
use Rattle.std.specs.Prelude.{ℕ, Bool, true, false, pos, List, [], ◌∷◌, None, codes}
use Rattle.lrc_base.specs.declared.grammar.Kind.TheVariants as k
use Rattle.lrc_base.specs.declared.grammar.Kind.{Kind}
use Rattle.lrc_base.specs.declared.grammar.Attr.{Attr}
use Rattle.lrc_base.specs.declared.grammar.Kid.{Kid}
use Rattle.lrc_base.specs.declared.grammar.Extra.{Extra}
use Rattle.lrc_base.specs.declared.grammar.Equation.{Equation}
use Rattle.lrc_base.specs.declared.grammar.Production.{Production}
use Rattle.lrc_base.specs.declared.expr.Op.TheVariants as o
use Rattle.lrc_base.specs.declared.expr.Expr.{Expr}
use Rattle.lrc_base.specs.declared.expr.Expr.TheVariants as e
use Rattle.lrc_meaning.specs.Tree.{Tree, int, node, none, more}
use Rattle.lrc_meaning.specs.Grammar.{Grammar}
use Rattle.lrc_meaning.specs.Attribution.{Decorated, at_node, end, value, symbol}

abbrev pub attr : List ℕ → Bool → Attr
attr n inherited = record { name = n; inherited = inherited; kind = k.Int }

abbrev pub kid : List ℕ → Kind → Kid
kid n kind = record { name = n; kind = kind }

abbrev pub equals : ℕ → Expr → Equation
equals target expr = record { target = target; expr = expr }

abbrev pub production : List ℕ → ℕ → List Kid → List Extra → List Equation → Production
production n left kids extras equations =
    record { name = n; left = left; kids = kids; extras = extras; equations = equations; pattern = None }

-- sort Exp { syn val: Int; }
-- prod Num: Exp (n: Int) { val = n; }
-- prod Add: Exp (l: Exp, r: Exp) { val = l.val + r.val; }
abbrev pub sums : Grammar
sums = record {
  sorts = record { name = codes "Exp"; attrs = attr (codes "val") false ∷ [] } ∷ [];
  prods = production (codes "Num") 0 (kid (codes "n") k.Int ∷ []) [] (equals 0 (e.Leaf 0) ∷ [])
      ∷ production (codes "Add") 0 (kid (codes "l") (k.Sort 0) ∷ kid (codes "r") (k.Sort 0) ∷ []) [] (equals 0 (e.Op o.Add (e.Occ 1) (e.Occ 2)) ∷ [])
      ∷ [];
  start = 0;
}

-- Num(n)
abbrev pub num : ℕ → Tree
num n = node 0 (more (int (pos n)) none)

-- Add(Num(1), Num(2))
abbrev pub one_and_two : Tree
one_and_two = node 1 (more (num 1) (more (num 2) none))

abbrev pub decorated_num : ℕ → Decorated
decorated_num n = at_node 0 (int (pos n) ∷ []) (value (int (pos n)) end) end

-- Add(Num(1), Num(2)), where the value of the sum is said to be n
abbrev pub decorated_sum : ℕ → Decorated
decorated_sum n =
    at_node 1 (int (pos n) ∷ []) (symbol (decorated_num 1) (symbol (decorated_num 2) end)) end

-- sort Prog { syn bad: Int; }
-- sort Items { syn decls: Int; inh env: Int; syn bad: Int; }
-- prod Top: Prog (b: Items) { b.env = b.decls; bad = b.bad; }
-- prod None: Items () { decls = 0; bad = 0; }
-- prod Decl: Items (n: Int, rest: Items) {
--   local mine: Int = n * 10;
--   decls = mine + rest.decls;
--   rest.env = env;
--   bad = if env == mine then rest.bad else rest.bad + 1;
-- }
abbrev pub declarations : Grammar
declarations = record {
  sorts = record { name = codes "Prog"; attrs = attr (codes "bad") false ∷ [] }
      ∷ record { name = codes "Items"; attrs = attr (codes "decls") false ∷ attr (codes "env") true ∷ attr (codes "bad") false ∷ [] }
      ∷ [];
  prods = production (codes "Top") 0 (kid (codes "b") (k.Sort 1) ∷ []) [] (equals 2 (e.Occ 1) ∷ equals 0 (e.Occ 3) ∷ [])
      ∷ production (codes "None") 1 [] [] (equals 0 (e.Int (pos 0)) ∷ equals 2 (e.Int (pos 0)) ∷ [])
      ∷ production (codes "Decl") 1 (kid (codes "n") k.Int ∷ kid (codes "rest") (k.Sort 1) ∷ [])
      (record { name = codes "mine"; attached = false; kind = k.Int } ∷ [])
      (equals 6 (e.Op o.Mul (e.Leaf 0) (e.Int (pos 10)))
      ∷ equals 0 (e.Op o.Add (e.Occ 6) (e.Occ 3))
      ∷ equals 4 (e.Occ 1)
      ∷ equals 2 (e.If (e.Op o.Equal (e.Occ 1) (e.Occ 6)) (e.Occ 5) (e.Op o.Add (e.Occ 5) (e.Int (pos 1))))
      ∷ [])
      ∷ [];
  start = 0;
}

-- Top(Decl(1, Decl(2, None())))
abbrev pub two_declarations : Tree
two_declarations =
    node 0 (more (node 2 (more (int (pos 1)) (more (node 2 (more (int (pos 2)) (more (node 1 none) none))) none))) none)

-- decls, env and bad of an item
abbrev pub item_values : ℕ → ℕ → ℕ → List Tree
item_values decls env bad = int (pos decls) ∷ int (pos env) ∷ int (pos bad) ∷ []

-- a declaration of n, with the local `mine`
abbrev pub decorated_decl : ℕ → List Tree → ℕ → Decorated → Decorated
decorated_decl n own mine rest = at_node 2 own (value (int (pos n)) (symbol rest end)) (value (int (pos mine)) end)

abbrev pub decorated_declarations : Decorated
decorated_declarations =
    at_node 0 (int (pos 2) ∷ [])
    (symbol (decorated_decl 1 (item_values 30 30 2) 10 (decorated_decl 2 (item_values 20 30 1) 20 (at_node 1 (item_values 0 30 0) end end))) end) end
