-- The equations of `found_of`, one for each variant that an example has.
use Rattle.std.proofs.Common.{◌≡◌, sym, ap, ◌∙◌}
use Rattle.lrc_base.specs.declared.expr.Op.{Op}
use Rattle.lrc_base.specs.declared.raw.RawProd.{RawProd}
use Rattle.lrc_base.specs.declared.raw.RawGrammar.{RawGrammar}
use Rattle.lrc_base.specs.declared.raw.RawExpr.{RawExpr, RawExpr-F, fold-roll-RawExpr}
use Rattle.lrc_base.specs.declared.raw.RawExpr.TheVariants as v
use Rattle.lrc_fault_meaning.specs.Faults.{Name, Fault, Found, found_step, found_of}

module _ (g : RawGrammar) (p : RawProd) (wrong : Fault) where
  pub found_of-Int : (i : _) → found_of g p wrong (v.Int i) ≡ found_step g p wrong (RawExpr-F.Int i)
  unfolding found_of
  found_of-Int i = ap (found_of g p wrong) (sym (v.rolls-Int i)) ∙ fold-roll-RawExpr Found (found_step g p wrong) (RawExpr-F.Int i)

  pub found_of-Bool : (b : _) → found_of g p wrong (v.Bool b) ≡ found_step g p wrong (RawExpr-F.Bool b)
  unfolding found_of
  found_of-Bool b = ap (found_of g p wrong) (sym (v.rolls-Bool b)) ∙ fold-roll-RawExpr Found (found_step g p wrong) (RawExpr-F.Bool b)

  pub found_of-One : (n : Name) → found_of g p wrong (v.One n) ≡ found_step g p wrong (RawExpr-F.One n)
  unfolding found_of
  found_of-One n = ap (found_of g p wrong) (sym (v.rolls-One n)) ∙ fold-roll-RawExpr Found (found_step g p wrong) (RawExpr-F.One n)

  pub found_of-Two : (c a : Name) → found_of g p wrong (v.Two c a) ≡ found_step g p wrong (RawExpr-F.Two c a)
  unfolding found_of
  found_of-Two c a = ap (found_of g p wrong) (sym (v.rolls-Two c a)) ∙ fold-roll-RawExpr Found (found_step g p wrong) (RawExpr-F.Two c a)

  pub found_of-Op : (op : Op) (a b : RawExpr) → found_of g p wrong (v.Op op a b) ≡ found_step g p wrong (RawExpr-F.Op op (found_of g p wrong a) (found_of g p wrong b))
  unfolding found_of
  found_of-Op op a b = ap (found_of g p wrong) (sym (v.rolls-Op op a b)) ∙ fold-roll-RawExpr Found (found_step g p wrong) (RawExpr-F.Op op a b)

pub ruleset found_of_equations = (found_of-Int, found_of-Bool, found_of-One, found_of-Two, found_of-Op)
