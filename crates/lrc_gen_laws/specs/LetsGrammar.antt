-- The grammar of generated jobs by numbers. Sorts, productions, children, and the occurrences of a production each have
-- their numbers in order of declaration, from 0; above each production stand its occurrences.
use Rattle.std.specs.Prelude.{ℕ, true, false, pos, List, [], ◌∷◌, codes, Some, None}
use Rattle.lrc_base.specs.declared.expr.Op.TheVariants as o
use Rattle.lrc_base.specs.declared.expr.Expr.TheVariants as e
use Rattle.lrc_base.specs.declared.grammar.Kind.{Kind}
use Rattle.lrc_base.specs.declared.grammar.Kind.TheVariants as k
use Rattle.lrc_base.specs.declared.grammar.Attr.{Attr}
use Rattle.lrc_base.specs.declared.grammar.Sort.{Sort}
use Rattle.lrc_base.specs.declared.grammar.Piece.TheVariants as piece
use Rattle.lrc_base.specs.declared.grammar.Production.{Production}
use Rattle.lrc_meaning.specs.Grammar.{Grammar}
use Rattle.lrc_meaning.specs.Examples.{kid, equals}

abbrev pub inh : List ℕ → Kind → Attr
inh n kind = record { name = n; inherited = true; kind = kind }

abbrev pub syn : List ℕ → Kind → Attr
syn n kind = record { name = n; inherited = false; kind = kind }

-- ---- sorts: 0, 1 and 2

abbrev pub prog_sort : Sort
prog_sort = record { name = codes "Prog"; attrs = syn (codes "val") k.Int ∷ [] }

abbrev pub exp_sort : Sort
exp_sort = record { name = codes "Exp"; attrs = inh (codes "env") (k.Sort 2) ∷ syn (codes "val") k.Int ∷ [] }

abbrev pub env_sort : Sort
env_sort = record { name = codes "Env"; attrs = inh (codes "key") k.Name ∷ syn (codes "found") k.Int ∷ [] }

-- ---- productions: 0 to 7

-- val, e.env, e.val
abbrev pub root : Production
root = record {
  name = codes "Root";
  left = 0;
  kids = kid (codes "e") (k.Sort 1) ∷ [];
  extras = [];
  equations = equals 1 (e.Make 6 []) ∷ equals 0 (e.Occ 2) ∷ [];
  pattern = Some (piece.Kid 0 ∷ []);
}

-- env, val
abbrev pub num : Production
num = record {
  name = codes "Num";
  left = 1;
  kids = kid (codes "n") k.Int ∷ [];
  extras = [];
  equations = equals 1 (e.Leaf 0) ∷ [];
  pattern = Some (piece.Kid 0 ∷ []);
}

-- env, val, look, look.key, look.found
abbrev pub var : Production
var = record {
  name = codes "Var";
  left = 1;
  kids = kid (codes "x") k.Name ∷ [];
  extras = record { name = codes "look"; attached = true; kind = k.Sort 2 } ∷ [];
  equations = equals 2 (e.Occ 0) ∷ equals 3 (e.Leaf 0) ∷ equals 1 (e.Occ 4) ∷ [];
  pattern = Some (piece.Kid 0 ∷ []);
}

-- env, val, l.env, l.val, r.env, r.val
abbrev pub add : Production
add = record {
  name = codes "Add";
  left = 1;
  kids = kid (codes "l") (k.Sort 1) ∷ kid (codes "r") (k.Sort 1) ∷ [];
  extras = [];
  equations = equals 2 (e.Occ 0) ∷ equals 4 (e.Occ 0) ∷ equals 1 (e.Op o.Add (e.Occ 3) (e.Occ 5)) ∷ [];
  pattern = Some (piece.Text (codes "(") ∷ piece.Kid 0 ∷ piece.Text (codes " + ") ∷ piece.Kid 1 ∷ piece.Text (codes ")") ∷ []);
}

-- env, val, e.env, e.val
abbrev pub neg : Production
neg = record {
  name = codes "Neg";
  left = 1;
  kids = kid (codes "e") (k.Sort 1) ∷ [];
  extras = [];
  equations = equals 2 (e.Occ 0) ∷ equals 1 (e.Op o.Sub (e.Int (pos 0)) (e.Occ 3)) ∷ [];
  pattern = Some (piece.Text (codes "-") ∷ piece.Kid 0 ∷ []);
}

-- env, val, e.env, e.val, b.env, b.val
abbrev pub let_in : Production
let_in = record {
  name = codes "Let";
  left = 1;
  kids = kid (codes "x") k.Name ∷ kid (codes "e") (k.Sort 1) ∷ kid (codes "b") (k.Sort 1) ∷ [];
  extras = [];
  equations = equals 2 (e.Occ 0) ∷ equals 4 (e.Make 7 (e.Leaf 0 ∷ e.Occ 3 ∷ e.Occ 0 ∷ [])) ∷ equals 1 (e.Occ 5) ∷ [];
  pattern = Some (piece.Text (codes "let ") ∷ piece.Kid 0 ∷ piece.Text (codes " = ") ∷ piece.Kid 1 ∷ piece.Text (codes " in ") ∷ piece.Kid 2 ∷ []);
}

-- key, found
abbrev pub empty : Production
empty = record { name = codes "Empty"; left = 2; kids = []; extras = []; equations = equals 1 (e.Int (pos 0)) ∷ []; pattern = None }

-- key, found, rest.key, rest.found
abbrev pub bind : Production
bind = record {
  name = codes "Bind";
  left = 2;
  kids = kid (codes "k") k.Name ∷ kid (codes "v") k.Int ∷ kid (codes "rest") (k.Sort 2) ∷ [];
  extras = [];
  equations = equals 2 (e.Occ 0) ∷ equals 1 (e.If (e.Op o.Equal (e.Leaf 0) (e.Occ 0)) (e.Leaf 1) (e.Occ 3)) ∷ [];
  pattern = None;
}

-- ---- the whole

abbrev pub lets_sorts : List Sort
lets_sorts = prog_sort ∷ exp_sort ∷ env_sort ∷ []

abbrev pub lets_prods : List Production
lets_prods = root ∷ num ∷ var ∷ add ∷ neg ∷ let_in ∷ empty ∷ bind ∷ []

abbrev pub lets_grammar : Grammar
lets_grammar = record { sorts = lets_sorts; prods = lets_prods; start = 0 }
