-- The grammar of generated jobs:
--
-- lrc 1
-- sort Prog { syn val: Int; }
-- sort Exp { inh env: Env; syn val: Int; }
-- sort Env { inh key: Name; syn found: Int; }
-- prod Root: Prog (e: Exp) { e.env = Empty(); val = e.val; text e; }
-- prod Num: Exp (n: Int) { val = n; text n; }
-- prod Var: Exp (x: Name) { attach look: Env = env; look.key = x; val = look.found; text x; }
-- prod Add: Exp (l: Exp, r: Exp) { l.env = env; r.env = env; val = l.val + r.val; text "(" l " + " r ")"; }
-- prod Neg: Exp (e: Exp) { e.env = env; val = 0 - e.val; text "-" e; }
-- prod Let: Exp (x: Name, e: Exp, b: Exp) { e.env = env; b.env = Bind(x, e.val, env); val = b.val; text "let " x " = " e " in " b; }
-- prod Empty: Env () { found = 0; }
-- prod Bind: Env (k: Name, v: Int, rest: Env) { rest.key = key; found = if k == key then v else rest.found; }
-- start Prog;
use Rattle.std.specs.Prelude.{ℕ, true, false, pos, List, [], ◌∷◌, ◌++◌, codes}
use Rattle.lrc_base.specs.declared.expr.Op.TheVariants as o
use Rattle.lrc_base.specs.declared.raw.RawKind.{RawKind}
use Rattle.lrc_base.specs.declared.raw.RawKind.TheVariants as k
use Rattle.lrc_base.specs.declared.raw.RawAttr.{RawAttr}
use Rattle.lrc_base.specs.declared.raw.RawSort.{RawSort}
use Rattle.lrc_base.specs.declared.raw.RawKid.{RawKid}
use Rattle.lrc_base.specs.declared.raw.RawPiece.TheVariants as piece
use Rattle.lrc_base.specs.declared.raw.RawExpr.{RawExpr}
use Rattle.lrc_base.specs.declared.raw.RawExpr.TheVariants as x
use Rattle.lrc_base.specs.declared.raw.RawItem.{RawItem}
use Rattle.lrc_base.specs.declared.raw.RawItem.TheVariants as item
use Rattle.lrc_base.specs.declared.raw.RawProd.{RawProd}
use Rattle.lrc_base.specs.declared.raw.RawGrammar.{RawGrammar}

abbrev pub inh : List ℕ → RawKind → RawAttr
inh n kind = record { name = n; inherited = true; kind = kind }

abbrev pub syn : List ℕ → RawKind → RawAttr
syn n kind = record { name = n; inherited = false; kind = kind }

abbrev pub kid : List ℕ → RawKind → RawKid
kid n kind = record { name = n; kind = kind }

abbrev pub of_sort : List ℕ → RawKind
of_sort n = k.Named n

-- ---- sorts

unfoldable pub prog_sort : RawSort
prog_sort = record { name = codes "Prog"; attrs = syn (codes "val") k.Int ∷ [] }

unfoldable pub exp_sort : RawSort
exp_sort = record { name = codes "Exp"; attrs = inh (codes "env") (of_sort (codes "Env")) ∷ syn (codes "val") k.Int ∷ [] }

unfoldable pub env_sort : RawSort
env_sort = record { name = codes "Env"; attrs = inh (codes "key") k.Name ∷ syn (codes "found") k.Int ∷ [] }

-- ---- productions

-- the inherited environment is handed on to a child
abbrev pub hands_on : List ℕ → RawItem
hands_on c = item.OfKid c (codes "env") (x.One (codes "env"))

unfoldable pub root_items : List RawItem
root_items = item.OfKid (codes "e") (codes "env") (x.Make (codes "Empty") [])
    ∷ item.Own (codes "val") (x.Two (codes "e") (codes "val"))
    ∷ item.Pattern (piece.Kid (codes "e") ∷ [])
    ∷ []

unfoldable pub root_prod : RawProd
root_prod = record {
  name = codes "Root";
  left = codes "Prog";
  kids = kid (codes "e") (of_sort (codes "Exp")) ∷ [];
  items = root_items;
}

unfoldable pub num_items : List RawItem
num_items = item.Own (codes "val") (x.One (codes "n")) ∷ item.Pattern (piece.Kid (codes "n") ∷ []) ∷ []

unfoldable pub num_prod : RawProd
num_prod = record { name = codes "Num"; left = codes "Exp"; kids = kid (codes "n") k.Int ∷ []; items = num_items }

unfoldable pub var_items : List RawItem
var_items = item.Attach (codes "look") (codes "Env") (x.One (codes "env"))
    ∷ item.OfKid (codes "look") (codes "key") (x.One (codes "x"))
    ∷ item.Own (codes "val") (x.Two (codes "look") (codes "found"))
    ∷ item.Pattern (piece.Kid (codes "x") ∷ [])
    ∷ []

unfoldable pub var_prod : RawProd
var_prod = record { name = codes "Var"; left = codes "Exp"; kids = kid (codes "x") k.Name ∷ []; items = var_items }

unfoldable pub add_pattern : RawItem
add_pattern = item.Pattern (piece.Text (codes "(") ∷ piece.Kid (codes "l") ∷ piece.Text (codes " + ") ∷ piece.Kid (codes "r") ∷ piece.Text (codes ")") ∷ [])

unfoldable pub add_items : List RawItem
add_items = hands_on (codes "l")
    ∷ hands_on (codes "r")
    ∷ item.Own (codes "val") (x.Op o.Add (x.Two (codes "l") (codes "val")) (x.Two (codes "r") (codes "val")))
    ∷ add_pattern
    ∷ []

unfoldable pub add_prod : RawProd
add_prod = record {
  name = codes "Add";
  left = codes "Exp";
  kids = kid (codes "l") (of_sort (codes "Exp")) ∷ kid (codes "r") (of_sort (codes "Exp")) ∷ [];
  items = add_items;
}

unfoldable pub neg_pattern : RawItem
neg_pattern = item.Pattern (piece.Text (codes "-") ∷ piece.Kid (codes "e") ∷ [])

unfoldable pub neg_items : List RawItem
neg_items = hands_on (codes "e")
    ∷ item.Own (codes "val") (x.Op o.Sub (x.Int (pos 0)) (x.Two (codes "e") (codes "val")))
    ∷ neg_pattern
    ∷ []

unfoldable pub neg_prod : RawProd
neg_prod = record {
  name = codes "Neg";
  left = codes "Exp";
  kids = kid (codes "e") (of_sort (codes "Exp")) ∷ [];
  items = neg_items;
}

unfoldable pub let_pattern : RawItem
let_pattern =
    item.Pattern (piece.Text (codes "let ") ∷ piece.Kid (codes "x") ∷ piece.Text (codes " = ") ∷ piece.Kid (codes "e") ∷ piece.Text (codes " in ") ∷ piece.Kid (codes "b") ∷ [])

-- the environment with one name more
unfoldable pub bound : RawExpr
bound = x.Make (codes "Bind") (x.One (codes "x") ∷ x.Two (codes "e") (codes "val") ∷ x.One (codes "env") ∷ [])

unfoldable pub let_items : List RawItem
let_items = hands_on (codes "e")
    ∷ item.OfKid (codes "b") (codes "env") bound
    ∷ item.Own (codes "val") (x.Two (codes "b") (codes "val"))
    ∷ let_pattern
    ∷ []

unfoldable pub let_prod : RawProd
let_prod = record {
  name = codes "Let";
  left = codes "Exp";
  kids = kid (codes "x") k.Name ∷ kid (codes "e") (of_sort (codes "Exp")) ∷ kid (codes "b") (of_sort (codes "Exp")) ∷ [];
  items = let_items;
}

unfoldable pub empty_prod : RawProd
empty_prod = record {
  name = codes "Empty";
  left = codes "Env";
  kids = [];
  items = item.Own (codes "found") (x.Int (pos 0)) ∷ [];
}

-- the value of the nearest name that equals the key
unfoldable pub found : RawExpr
found = x.If (x.Op o.Equal (x.One (codes "k")) (x.One (codes "key"))) (x.One (codes "v")) (x.Two (codes "rest") (codes "found"))

unfoldable pub bind_items : List RawItem
bind_items = item.OfKid (codes "rest") (codes "key") (x.One (codes "key")) ∷ item.Own (codes "found") found ∷ []

unfoldable pub bind_prod : RawProd
bind_prod = record {
  name = codes "Bind";
  left = codes "Env";
  kids = kid (codes "k") k.Name ∷ kid (codes "v") k.Int ∷ kid (codes "rest") (of_sort (codes "Env")) ∷ [];
  items = bind_items;
}

-- ---- the whole

unfoldable pub sorts : List RawSort
sorts = prog_sort ∷ exp_sort ∷ env_sort ∷ []

-- the productions of programs and expressions
unfoldable pub tree_prods : List RawProd
tree_prods = root_prod ∷ num_prod ∷ var_prod ∷ add_prod ∷ neg_prod ∷ let_prod ∷ []

unfoldable pub prods : List RawProd
prods = tree_prods ++ (empty_prod ∷ bind_prod ∷ [])

unfoldable pub lets : RawGrammar
lets = record { sorts = sorts; prods = prods; start = codes "Prog" }
