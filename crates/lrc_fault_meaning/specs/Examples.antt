-- Worked examples: the sum grammar as it is written, with equations to choose.
use Rattle.std.specs.Prelude.{ℕ, true, false, List, [], ◌∷◌, codes}
use Rattle.lrc_base.specs.declared.expr.Op.TheVariants as op
use Rattle.lrc_base.specs.declared.raw.RawKind.TheVariants as rk
use Rattle.lrc_base.specs.declared.raw.RawItem.{RawItem}
use Rattle.lrc_base.specs.declared.raw.RawItem.TheVariants as item
use Rattle.lrc_base.specs.declared.raw.RawGrammar.{RawGrammar}
use Rattle.lrc_base.specs.declared.raw.RawExpr.TheVariants as e

-- sort Exp { syn val: Int; }
-- prod Num: Exp (n: Int) { .. }
-- prod Add: Exp (l: Exp, r: Exp) { val = l.val + r.val; }
abbrev pub sums_with : List RawItem → RawGrammar
sums_with items = record {
  sorts = record { name = codes "Exp"; attrs = record { name = codes "val"; inherited = false; kind = rk.Int } ∷ [] } ∷ [];
  prods = record { name = codes "Num"; left = codes "Exp"; kids = record { name = codes "n"; kind = rk.Int } ∷ []; items = items }
      ∷ record {
        name = codes "Add";
        left = codes "Exp";
        kids = record { name = codes "l"; kind = rk.Named (codes "Exp") } ∷ record { name = codes "r"; kind = rk.Named (codes "Exp") } ∷ [];
        items = item.Own (codes "val") (e.Op op.Add (e.Two (codes "l") (codes "val")) (e.Two (codes "r") (codes "val"))) ∷ [];
      }
      ∷ [];
  start = codes "Exp";
}

-- val = name;
abbrev pub val_is : List ℕ → List RawItem
val_is name = item.Own (codes "val") (e.One name) ∷ []

-- val = name; val = name;
abbrev pub val_is_twice : List ℕ → List RawItem
val_is_twice name = item.Own (codes "val") (e.One name) ∷ val_is name

-- val = true;
abbrev pub val_is_true : List RawItem
val_is_true = item.Own (codes "val") (e.Bool true) ∷ []

-- val = x.val;
abbrev pub val_is_of_nothing : List RawItem
val_is_of_nothing = item.Own (codes "val") (e.Two (codes "x") (codes "val")) ∷ []

-- local n: Int = n; val = n;
abbrev pub local_called_as_a_child : List RawItem
local_called_as_a_child = item.Local (codes "n") rk.Int (e.One (codes "n")) ∷ val_is (codes "n")

-- sort Prog { syn v: Int; }
-- sort Exp { inh i: Int; syn v: Int; }
-- prod Top: Prog (e: Exp) { v = e.v; }
-- prod Leaf: Exp () { v = i; }
abbrev pub inheriting_from : List ℕ → RawGrammar
inheriting_from start = record {
  sorts = record { name = codes "Prog"; attrs = record { name = codes "v"; inherited = false; kind = rk.Int } ∷ [] }
      ∷ record { name = codes "Exp"; attrs = record { name = codes "i"; inherited = true; kind = rk.Int } ∷ record { name = codes "v"; inherited = false; kind = rk.Int } ∷ [] }
      ∷ [];
  prods = record {
    name = codes "Top";
    left = codes "Prog";
    kids = record { name = codes "e"; kind = rk.Named (codes "Exp") } ∷ [];
    items = item.Own (codes "v") (e.Two (codes "e") (codes "v")) ∷ [];
  }
      ∷ record { name = codes "Leaf"; left = codes "Exp"; kids = []; items = item.Own (codes "v") (e.One (codes "i")) ∷ [] }
      ∷ [];
  start = start;
}
