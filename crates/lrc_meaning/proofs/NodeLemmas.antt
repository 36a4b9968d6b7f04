-- The equations of `written_nodes`, one for each variant.
use Rattle.std.proofs.Common.{◌≡◌, ℕ, ℤ, suc, ◌+◌, Bool, List, sum_by, sym, ap, ◌∙◌}
use Rattle.std.proofs.lemmas.List.Sums.{sum-map}
use Rattle.lrc_base.specs.declared.expr.Op.{Op}
use Rattle.lrc_base.specs.declared.raw.RawExpr.{RawExpr, RawExpr-F, fold-roll-RawExpr}
use Rattle.lrc_base.specs.declared.raw.RawExpr.TheVariants as v
use Rattle.lrc_meaning.specs.Limits.{written_nodes_step, written_nodes}

pub written_nodes-Int : (i : ℤ) → written_nodes (v.Int i) ≡ 1
unfolding written_nodes
written_nodes-Int i = ap written_nodes (sym (v.rolls-Int i)) ∙ fold-roll-RawExpr ℕ written_nodes_step (RawExpr-F.Int i)

pub written_nodes-Bool : (b : Bool) → written_nodes (v.Bool b) ≡ 1
unfolding written_nodes
written_nodes-Bool b = ap written_nodes (sym (v.rolls-Bool b)) ∙ fold-roll-RawExpr ℕ written_nodes_step (RawExpr-F.Bool b)

pub written_nodes-Name : (n : List ℕ) → written_nodes (v.Name n) ≡ 1
unfolding written_nodes
written_nodes-Name n = ap written_nodes (sym (v.rolls-Name n)) ∙ fold-roll-RawExpr ℕ written_nodes_step (RawExpr-F.Name n)

pub written_nodes-One : (n : List ℕ) → written_nodes (v.One n) ≡ 1
unfolding written_nodes
written_nodes-One n = ap written_nodes (sym (v.rolls-One n)) ∙ fold-roll-RawExpr ℕ written_nodes_step (RawExpr-F.One n)

pub written_nodes-Two : (c a : List ℕ) → written_nodes (v.Two c a) ≡ 1
unfolding written_nodes
written_nodes-Two c a = ap written_nodes (sym (v.rolls-Two c a)) ∙ fold-roll-RawExpr ℕ written_nodes_step (RawExpr-F.Two c a)

pub written_nodes-Op : (op : Op) (a b : RawExpr) → written_nodes (v.Op op a b) ≡ suc (written_nodes a + written_nodes b)
unfolding written_nodes
written_nodes-Op op a b = ap written_nodes (sym (v.rolls-Op op a b)) ∙ fold-roll-RawExpr ℕ written_nodes_step (RawExpr-F.Op op a b)

pub written_nodes-If : (c a b : RawExpr) → written_nodes (v.If c a b) ≡ suc (written_nodes c + (written_nodes a + written_nodes b))
unfolding written_nodes
written_nodes-If c a b = ap written_nodes (sym (v.rolls-If c a b)) ∙ fold-roll-RawExpr ℕ written_nodes_step (RawExpr-F.If c a b)

pub written_nodes-Make : (n : List ℕ) (args : List RawExpr) → written_nodes (v.Make n args) ≡ suc (sum_by written_nodes args)
unfolding written_nodes
written_nodes-Make n args = ap written_nodes (sym (v.rolls-Make n args)) ∙ fold-roll-RawExpr ℕ written_nodes_step (RawExpr-F.Make n args) ∙ ap suc (sum-map written_nodes args)
