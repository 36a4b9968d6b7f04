-- The equations of `found_of`, one for each variant.
use Rattle.std.proofs.Common.{◌≡◌, Bool, List, [], map, Some, None, sym, ap, ◌∙◌}
use Rattle.std.specs.Prelude.{find}
use Rattle.std.specs.Str.{bytes_eq}
use Rattle.lrc_base.specs.declared.raw.RawKind.TheVariants as rk
use Rattle.lrc_base.specs.declared.expr.Op.{Op}
use Rattle.lrc_base.specs.declared.raw.RawProd.{RawProd}
use Rattle.lrc_base.specs.declared.raw.RawGrammar.{RawGrammar}
use Rattle.lrc_base.specs.declared.raw.RawExpr.{RawExpr, RawExpr-F, fold-roll-RawExpr}
use Rattle.lrc_base.specs.declared.raw.RawExpr.TheVariants as v
use Rattle.lrc_fault_meaning.specs.Faults.{Name, Fault, fault, unknown, Found, at_fault, behind, checked, are_right, constructed, found_step, found_of}
use Rattle.lrc_check.proofs.ArgumentLemmas.{faults_of}

module _ (g : RawGrammar) (p : RawProd) (wrong : Fault) where
  pub found_Int : (i : _) → found_of g p wrong (v.Int i) ≡ found_step g p wrong (RawExpr-F.Int i)
  unfolding found_of
  found_Int i = ap (found_of g p wrong) (sym (v.rolls-Int i)) ∙ fold-roll-RawExpr Found (found_step g p wrong) (RawExpr-F.Int i)

  pub found_Bool : (b : _) → found_of g p wrong (v.Bool b) ≡ found_step g p wrong (RawExpr-F.Bool b)
  unfolding found_of
  found_Bool b = ap (found_of g p wrong) (sym (v.rolls-Bool b)) ∙ fold-roll-RawExpr Found (found_step g p wrong) (RawExpr-F.Bool b)

  pub found_Name : (n : Name) → found_of g p wrong (v.Name n) ≡ found_step g p wrong (RawExpr-F.Name n)
  unfolding found_of
  found_Name n = ap (found_of g p wrong) (sym (v.rolls-Name n)) ∙ fold-roll-RawExpr Found (found_step g p wrong) (RawExpr-F.Name n)

  pub found_One : (n : Name) → found_of g p wrong (v.One n) ≡ found_step g p wrong (RawExpr-F.One n)
  unfolding found_of
  found_One n = ap (found_of g p wrong) (sym (v.rolls-One n)) ∙ fold-roll-RawExpr Found (found_step g p wrong) (RawExpr-F.One n)

  pub found_Two : (c a : Name) → found_of g p wrong (v.Two c a) ≡ found_step g p wrong (RawExpr-F.Two c a)
  unfolding found_of
  found_Two c a = ap (found_of g p wrong) (sym (v.rolls-Two c a)) ∙ fold-roll-RawExpr Found (found_step g p wrong) (RawExpr-F.Two c a)

  pub found_Op : (op : Op) (a b : RawExpr) → found_of g p wrong (v.Op op a b) ≡ found_step g p wrong (RawExpr-F.Op op (found_of g p wrong a) (found_of g p wrong b))
  unfolding found_of
  found_Op op a b = ap (found_of g p wrong) (sym (v.rolls-Op op a b)) ∙ fold-roll-RawExpr Found (found_step g p wrong) (RawExpr-F.Op op a b)

  pub found_If : (c a b : RawExpr) → found_of g p wrong (v.If c a b) ≡ found_step g p wrong (RawExpr-F.If (found_of g p wrong c) (found_of g p wrong a) (found_of g p wrong b))
  unfolding found_of
  found_If c a b = ap (found_of g p wrong) (sym (v.rolls-If c a b)) ∙ fold-roll-RawExpr Found (found_step g p wrong) (RawExpr-F.If c a b)

  pub found_Make : (n : Name) (args : List RawExpr) → found_of g p wrong (v.Make n args) ≡ found_step g p wrong (RawExpr-F.Make n (map (found_of g p wrong) args))
  unfolding found_of
  found_Make n args = ap (found_of g p wrong) (sym (v.rolls-Make n args)) ∙ fold-roll-RawExpr Found (found_step g p wrong) (RawExpr-F.Make n args)

  pub Make_unknown : (n : Name) (args : List RawExpr) → faults_of (map (found_of g p wrong) args) ≡ [] → find (λ (q : RawProd). bytes_eq q.name n) g.prods ≡ None →
      found_of g p wrong (v.Make n args) ≡ at_fault (fault unknown p.name n)
  Make_unknown n args none e =
      found_Make n args
      ∙ (ap (λ fs. behind fs (constructed wrong p.name n (map (found_of g p wrong) args) (find (λ (q : RawProd). bytes_eq q.name n) g.prods))) none
      ∙ ap (λ q. behind [] (constructed wrong p.name n (map (found_of g p wrong) args) q)) e)

  pub Make_known : (n : Name) (args : List RawExpr) (q : RawProd) (right : Bool) → faults_of (map (found_of g p wrong) args) ≡ [] → find (λ (q' : RawProd). bytes_eq q'.name n) g.prods ≡ Some q → right ≡ are_right (map (found_of g p wrong) args) q.kids →
      found_of g p wrong (v.Make n args) ≡ checked wrong right (rk.Named q.left)
  Make_known n args q right none e same =
      found_Make n args
      ∙ (ap (λ fs. behind fs (constructed wrong p.name n (map (found_of g p wrong) args) (find (λ (q' : RawProd). bytes_eq q'.name n) g.prods))) none
      ∙ (ap (λ o. behind [] (constructed wrong p.name n (map (found_of g p wrong) args) o)) e
      ∙ ap (λ r. checked wrong r (rk.Named q.left)) (sym same)))

pub ruleset found_equations = (found_Int, found_Bool, found_Name, found_One, found_Two, found_Op, found_If, found_Make)
