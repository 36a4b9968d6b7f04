-- The node over which the tests evaluate expressions, and what these may read.
use Rattle.std.specs.Prelude.{◌≡◌, List, [], ◌∷◌, pos}
use Rattle.lrc_base.specs.declared.grammar.Kind.TheVariants as k
use Rattle.lrc_base.specs.declared.grammar.Kid.{Kid}
use Rattle.lrc_meaning.specs.Tree.{Tree, int, node, none, more}
use Rattle.lrc_meaning.specs.Expression.{Expression}
use Rattle.lrc_order_meaning.specs.Needs.{reads}
use Rattle.lrc_eval.specs.Evaluating.{Inputs, FitsNode}

-- `Num(5)`: a node of production 0 over a number
abbrev pub num_five : Tree
num_five = node 0 (more (int (pos 5)) none)

-- its child is declared as a number
abbrev pub num_kids : List Kid
num_kids = record { name = []; kind = k.Int } ∷ []

-- what is evaluated over that node, and over no values
abbrev pub over_five : Inputs
over_five = record { values = []; production = 0; trees = more (int (pos 5)) none; kids = num_kids }

-- the expression reads no occurrence, and no leaf but the number
pub record ReadsNum (e : Expression) : Type 0 where
  pub no_occurrence : reads e ≡ []
  pub fits : FitsNode num_kids e
