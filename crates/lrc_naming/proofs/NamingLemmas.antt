-- The equations of `named_expr` and `named_tree`, one for each variant.
use Rattle.std.proofs.Common.{◌≡◌, ℕ, ℤ, Bool, List, map, Option, Some, None, sym, ap, ◌∙◌}
use Rattle.std.specs.Prelude.{option_map, option_and_then}
use Rattle.lrc_base.specs.declared.grammar.Production.{Production}
use Rattle.lrc_base.specs.declared.expr.Op.{Op}
use Rattle.lrc_base.specs.declared.expr.Expr.{Expr}
use Rattle.lrc_base.specs.declared.expr.Expr.TheVariants as e
use Rattle.lrc_base.specs.declared.raw.RawExpr.{RawExpr, RawExpr-F, fold-roll-RawExpr}
use Rattle.lrc_base.specs.declared.raw.RawExpr.TheVariants as x
use Rattle.lrc_base.specs.declared.raw_term.RawTermTree.{RawTermTree, RawTermTree-F, fold-roll-RawTermTree}
use Rattle.lrc_base.specs.declared.raw_term.RawTermTree.TheVariants as t
use Rattle.lrc_meaning.specs.Tree.{Tree, int, bool, name, node, row}
use Rattle.lrc_meaning.specs.Naming.{Known, named_step, named_expr, or_leaf, occurrence_number, written_number, named_tree_step, named_tree, production_number, each_some}

module _ (known : Known) where
  pub named_expr-Int : (i : ℤ) →
      named_expr known (x.Int i) ≡ Some (e.Int i)
  unfolding named_expr
  named_expr-Int i = ap (named_expr known) (sym (x.rolls-Int i)) ∙ fold-roll-RawExpr (Option Expr) (named_step known) (RawExpr-F.Int i)

  pub named_expr-Bool : (b : Bool) →
      named_expr known (x.Bool b) ≡ Some (e.Bool b)
  unfolding named_expr
  named_expr-Bool b = ap (named_expr known) (sym (x.rolls-Bool b)) ∙ fold-roll-RawExpr (Option Expr) (named_step known) (RawExpr-F.Bool b)

  pub named_expr-Name : (n : List ℕ) →
      named_expr known (x.Name n) ≡ Some (e.Name n)
  unfolding named_expr
  named_expr-Name n = ap (named_expr known) (sym (x.rolls-Name n)) ∙ fold-roll-RawExpr (Option Expr) (named_step known) (RawExpr-F.Name n)

  pub named_expr-One : (n : List ℕ) →
      named_expr known (x.One n) ≡ or_leaf known.kids n (occurrence_number known.occurrences None n)
  unfolding named_expr
  named_expr-One n = ap (named_expr known) (sym (x.rolls-One n)) ∙ fold-roll-RawExpr (Option Expr) (named_step known) (RawExpr-F.One n)

  pub named_expr-Two : (c a : List ℕ) →
      named_expr known (x.Two c a) ≡ option_map e.Occ (occurrence_number known.occurrences (Some c) a)
  unfolding named_expr
  named_expr-Two c a = ap (named_expr known) (sym (x.rolls-Two c a)) ∙ fold-roll-RawExpr (Option Expr) (named_step known) (RawExpr-F.Two c a)

  pub named_expr-Op : (op : Op) (a b : RawExpr) →
      named_expr known (x.Op op a b) ≡ option_and_then (λ y. option_map (λ z. e.Op op y z) (named_expr known b)) (named_expr known a)
  unfolding named_expr
  named_expr-Op op a b = ap (named_expr known) (sym (x.rolls-Op op a b)) ∙ fold-roll-RawExpr (Option Expr) (named_step known) (RawExpr-F.Op op a b)

  pub named_expr-If : (c a b : RawExpr) →
      named_expr known (x.If c a b) ≡ option_and_then (λ x. option_and_then (λ y. option_map (λ z. e.If x y z) (named_expr known b)) (named_expr known a)) (named_expr known c)
  unfolding named_expr
  named_expr-If c a b = ap (named_expr known) (sym (x.rolls-If c a b)) ∙ fold-roll-RawExpr (Option Expr) (named_step known) (RawExpr-F.If c a b)

  pub named_expr-Make : (n : List ℕ) (args : List RawExpr) →
      named_expr known (x.Make n args) ≡ option_and_then (λ p. option_map (λ xs. e.Make p xs) (each_some (map (named_expr known) args))) (written_number known.prods n)
  unfolding named_expr
  named_expr-Make n args = ap (named_expr known) (sym (x.rolls-Make n args)) ∙ fold-roll-RawExpr (Option Expr) (named_step known) (RawExpr-F.Make n args)

pub ruleset named_expr_equations = (named_expr-Int, named_expr-Bool, named_expr-Name, named_expr-One, named_expr-Two, named_expr-Op, named_expr-If, named_expr-Make)

module _ (prods : List Production) where
  pub named_tree-Int : (i : ℤ) → named_tree prods (t.Int i) ≡ Some (int i)
  unfolding named_tree
  named_tree-Int i = ap (named_tree prods) (sym (t.rolls-Int i)) ∙ fold-roll-RawTermTree (Option Tree) (named_tree_step prods) (RawTermTree-F.Int i)

  pub named_tree-Bool : (b : Bool) → named_tree prods (t.Bool b) ≡ Some (bool b)
  unfolding named_tree
  named_tree-Bool b = ap (named_tree prods) (sym (t.rolls-Bool b)) ∙ fold-roll-RawTermTree (Option Tree) (named_tree_step prods) (RawTermTree-F.Bool b)

  pub named_tree-Name : (n : List ℕ) → named_tree prods (t.Name n) ≡ Some (name n)
  unfolding named_tree
  named_tree-Name n = ap (named_tree prods) (sym (t.rolls-Name n)) ∙ fold-roll-RawTermTree (Option Tree) (named_tree_step prods) (RawTermTree-F.Name n)

  pub named_tree-Node : (n : List ℕ) (kids : List RawTermTree) →
      named_tree prods (t.Node n kids) ≡ option_and_then (λ p. option_map (λ ts. node p (row ts)) (each_some (map (named_tree prods) kids))) (production_number prods n)
  unfolding named_tree
  named_tree-Node n kids = ap (named_tree prods) (sym (t.rolls-Node n kids)) ∙ fold-roll-RawTermTree (Option Tree) (named_tree_step prods) (RawTermTree-F.Node n kids)

pub ruleset named_tree_equations = (named_tree-Int, named_tree-Bool, named_tree-Name, named_tree-Node)
