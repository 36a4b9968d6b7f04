-- The equations of `expression`, one for each variant.
use Rattle.std.proofs.Common.{◌≡◌, ℕ, ℤ, Bool, List, map, sym, ap, ◌∙◌}
use Rattle.lrc_meaning.specs.Tree.{int, bool, name}
use Rattle.lrc_meaning.specs.Expression.{Expression, literal, occurrence, leaf, binary, choice, make, expression_row, expression, expression_step}
use Rattle.lrc_base.specs.declared.expr.Op.{Op}
use Rattle.lrc_base.specs.declared.expr.Expr.{Expr, Expr-F, fold-roll-Expr}
use Rattle.lrc_base.specs.declared.expr.Expr.TheVariants as v

pub expression-Int : (i : ℤ) → expression (v.Int i) ≡ literal (int i)
unfolding expression
expression-Int i = ap expression (sym (v.rolls-Int i)) ∙ fold-roll-Expr Expression expression_step (Expr-F.Int i)

pub expression-Bool : (b : Bool) → expression (v.Bool b) ≡ literal (bool b)
unfolding expression
expression-Bool b = ap expression (sym (v.rolls-Bool b)) ∙ fold-roll-Expr Expression expression_step (Expr-F.Bool b)

pub expression-Name : (n : List ℕ) → expression (v.Name n) ≡ literal (name n)
unfolding expression
expression-Name n = ap expression (sym (v.rolls-Name n)) ∙ fold-roll-Expr Expression expression_step (Expr-F.Name n)

pub expression-Occ : (i : ℕ) → expression (v.Occ i) ≡ occurrence i
unfolding expression
expression-Occ i = ap expression (sym (v.rolls-Occ i)) ∙ fold-roll-Expr Expression expression_step (Expr-F.Occ i)

pub expression-Leaf : (i : ℕ) → expression (v.Leaf i) ≡ leaf i
unfolding expression
expression-Leaf i = ap expression (sym (v.rolls-Leaf i)) ∙ fold-roll-Expr Expression expression_step (Expr-F.Leaf i)

pub expression-Op : (op : Op) (a b : Expr) → expression (v.Op op a b) ≡ binary op (expression a) (expression b)
unfolding expression
expression-Op op a b = ap expression (sym (v.rolls-Op op a b)) ∙ fold-roll-Expr Expression expression_step (Expr-F.Op op a b)

pub expression-If : (c a b : Expr) → expression (v.If c a b) ≡ choice (expression c) (expression a) (expression b)
unfolding expression
expression-If c a b = ap expression (sym (v.rolls-If c a b)) ∙ fold-roll-Expr Expression expression_step (Expr-F.If c a b)

pub expression-Make : (p : ℕ) (args : List Expr) → expression (v.Make p args) ≡ make p (expression_row (map expression args))
unfolding expression
expression-Make p args = ap expression (sym (v.rolls-Make p args)) ∙ fold-roll-Expr Expression expression_step (Expr-F.Make p args)

pub ruleset expression_equations = (expression-Int, expression-Bool, expression-Name, expression-Occ, expression-Leaf, expression-Op, expression-If, expression-Make)
