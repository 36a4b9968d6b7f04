-- Expressions over the node `Num(5)`: what reads no occurrence needs no values, and a whole reads no more than its parts.
use Rattle.std.proofs.Common.{◌≡◌, ◌∙◌, ℕ, ◌<◌, ℤ, pos, Bool, List, [], ◌∷◌, ◌++◌, length, Some, refl, sym, ap, subst, arith}
use Rattle.std.proofs.lemmas.List.Elements.{All-from_recursion, All-contains}
use Rattle.lrc_base.specs.declared.expr.Op.{Op}
use Rattle.lrc_base.specs.declared.expr.Op.TheVariants as o
use Rattle.lrc_base.specs.declared.expr.Expr.{Expr}
use Rattle.lrc_base.specs.declared.expr.Expr.TheVariants as v
use Rattle.lrc_base.specs.declared.grammar.Kind.{Kind}
use Rattle.lrc_meaning.specs.Tree.{Tree, int, bool, name}
use Rattle.lrc_meaning.specs.Expression.{Expression, literal, occurrence, leaf, binary, expression}
use Rattle.lrc_meaning.specs.Grammar.{expression_kind}
use Rattle.lrc_meaning.proofs.ExpressionLemmas.{expression-Int, expression-Bool, expression-Name, expression-Leaf, expression-Op, expression-If, expression-Make}
use Rattle.lrc_order_meaning.specs.Needs.{reads}
use Rattle.lrc_store.specs.Standing.{Standing}
use Rattle.lrc_store.specs.declared.cells.Handle.{Handle}
use Rattle.lrc_eval.specs.declared.values.Val.TheVariants as val
use Rattle.lrc_eval.specs.Evaluating.{Inputs, IsSet, IsNode, AreGiven}
use Rattle.lrc_eval.specs.Kinds.{AreGivenOfKinds}
use Rattle.lrc_visit_tests.specs.Nodes.{num_kids, over_five, ReadsNum}

-- ---- what is given

-- the same node, over one value
abbrev pub over_value : ℤ → Inputs
over_value n = record { values = int n ∷ []; production = 0; trees = over_five.trees; kids = num_kids }

-- no occurrence is read
no-occurrence : (e : Expression) → ReadsNum e → (n : ℕ) → n < length (reads e) → ⊥
no-occurrence e r n within = let none : length (reads e) ≡ 0 = ap length r.no_occurrence in absurd (omega (arith, none, within))

-- no value is needed where no occurrence is read
pub nothing-read : (s : Standing) (handle : Handle) (e : Expression) → IsNode s handle over_five → ReadsNum e → AreGiven s [] handle over_five e
nothing-read s handle e at r = record { node = at; set = λ i h. absurd (no-occurrence e r h.0 h.1); fits = r.fits }

-- and so of an expression of a kind
pub nothing-read-of-kind : (s : Standing) (handle : Handle) (e : Expression) (kind : Kind) → IsNode s handle over_five → ReadsNum e → expression_kind [] [] num_kids e ≡ Some kind →
    AreGivenOfKinds s [] handle [] [] over_five e kind
nothing-read-of-kind s handle e kind at r whole = record {
  kinds = record { whole = whole; values = λ i own h. absurd (no-occurrence e r h.0 h.1); children = refl };
  node = at;
  set = λ i h. absurd (no-occurrence e r h.0 h.1);
  few = omega arith;
}

-- the value of one occurrence is given
pub value-given : (s : Standing) (handle : Handle) (n : ℤ) → IsNode s handle over_five → AreGiven s (val.Int n ∷ []) handle (over_value n) (occurrence 0)
value-given s handle n at = record {
  node = record { stands = at.stands; spelled = at.spelled; count = at.count };
  set = λ i h. All-contains IsThere (0 ∷ []) i (All-from_recursion IsThere (0 ∷ []) (first, tt)) h;
  fits = tt;
} where
  IsThere : ℕ → Type 0
  IsThere i = IsSet s (val.Int n ∷ []) (int n ∷ []) i

  first : IsThere 0
  first = record { value = val.Int n; tree = int n; is_there = refl; of_tree = refl; meant = record { means = refl; spelled = tt } }

-- ---- what is read

-- nothing is read by two that read nothing
none-read : (xs ys : List ℕ) → xs ≡ [] → ys ≡ [] → xs ++ ys ≡ []
none-read xs ys e f = ap (λ us. us ++ ys) e ∙ f

-- an equal expression reads the same
pub reads-same : (a b : Expr) → a ≡ b → ReadsNum (expression b) → ReadsNum (expression a)
reads-same a b e x = subst (λ o. ReadsNum (expression o)) (sym e) x

reads-literal : (t : Tree) → ReadsNum (literal t)
reads-literal t = record { no_occurrence = refl; fits = tt }

-- of the sum of the leaf and 2
pub reads-sum : ReadsNum (binary o.Add (leaf 0) (literal (int (pos 2))))
reads-sum = record { no_occurrence = refl; fits = (refl, tt) }

pub reads-Int : (i : ℤ) → ReadsNum (expression (v.Int i))
reads-Int i = subst ReadsNum (sym (expression-Int i)) (reads-literal (int i))

pub reads-Bool : (b : Bool) → ReadsNum (expression (v.Bool b))
reads-Bool b = subst ReadsNum (sym (expression-Bool b)) (reads-literal (bool b))

pub reads-Name : (n : List ℕ) → ReadsNum (expression (v.Name n))
reads-Name n = subst ReadsNum (sym (expression-Name n)) (reads-literal (name n))

pub reads-Leaf : ReadsNum (expression (v.Leaf 0))
reads-Leaf = subst ReadsNum (sym (expression-Leaf 0)) (record { no_occurrence = refl; fits = refl })

pub reads-Op : (op : Op) (a b : Expr) → ReadsNum (expression a) → ReadsNum (expression b) → ReadsNum (expression (v.Op op a b))
reads-Op op a b x y = subst ReadsNum (sym (expression-Op op a b)) (record {
  no_occurrence = none-read (reads (expression a)) (reads (expression b)) x.no_occurrence y.no_occurrence;
  fits = (x.fits, y.fits);
})

pub reads-If : (c a b : Expr) → ReadsNum (expression c) → ReadsNum (expression a) → ReadsNum (expression b) → ReadsNum (expression (v.If c a b))
reads-If c a b x y z = subst ReadsNum (sym (expression-If c a b)) (record {
  no_occurrence = none-read (reads (expression c)) (reads (expression a) ++ reads (expression b)) x.no_occurrence
      (none-read (reads (expression a)) (reads (expression b)) y.no_occurrence z.no_occurrence);
  fits = (x.fits, y.fits, z.fits);
})

-- a node of one argument, and one of two
pub reads-Make-one : (p : ℕ) (a : Expr) (args : List Expr) → args ≡ a ∷ [] → p < 65280 → ReadsNum (expression a) → ReadsNum (expression (v.Make p args))
reads-Make-one p a args is below x = subst (λ es. ReadsNum (expression (v.Make p es))) (sym is) (subst ReadsNum (sym (expression-Make p (a ∷ []))) (record {
  no_occurrence = none-read (reads (expression a)) [] x.no_occurrence refl;
  fits = (below, (x.fits, tt));
}))

pub reads-Make-two : (p : ℕ) (a b : Expr) (args : List Expr) → args ≡ a ∷ b ∷ [] → p < 65280 → ReadsNum (expression a) → ReadsNum (expression b) → ReadsNum (expression (v.Make p args))
reads-Make-two p a b args is below x y = subst (λ es. ReadsNum (expression (v.Make p es))) (sym is) (subst ReadsNum (sym (expression-Make p (a ∷ b ∷ []))) (record {
  no_occurrence = none-read (reads (expression a)) (reads (expression b) ++ []) x.no_occurrence (none-read (reads (expression b)) [] y.no_occurrence refl);
  fits = (below, (x.fits, (y.fits, tt)));
}))
