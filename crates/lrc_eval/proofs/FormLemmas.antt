-- The forms of expressions as they are read, and a measure of them that falls from a form to its parts.
use Rattle.std.proofs.Common.{◌≡◌, ℕ, ◌+◌, List, map, sym, ◌∙◌, ap, subst, Option}
use Rattle.std.specs.Prelude.{Result, Ok}
use Rattle.lrc_base.specs.declared.expr.Op.{Op}
use Rattle.lrc_base.specs.declared.expr.Expr.{Expr}
use Rattle.lrc_base.specs.declared.expr.Expr.TheVariants as w
use Rattle.lrc_meaning.specs.Expression.{Expression, literal, occurrence, leaf, binary, choice, make, Expressions, no_more, and_more, expression, expression_row}
use Rattle.lrc_meaning.proofs.ExpressionLemmas.{expression-Op, expression-If, expression-Make}
use Rattle.lrc_store.specs.Standing.{Standing}
use Rattle.lrc_store.specs.declared.cells.Handle.{Handle}
use Rattle.lrc_store.specs.declared.stores.Full.{Full}
use Rattle.lrc_eval.specs.declared.values.Val.{Val}
use Rattle.lrc_eval.specs.Evaluating.{Inputs, AreGiven, AreGivenForEach, Evaluates, EvaluatesEach}

-- the number of forms in an expression, with one more for what each is made of
abbrev mutual
  pub weight : Expression → ℕ
  weight (literal t) = 0
  weight (occurrence i) = 0
  weight (leaf i) = 0
  weight (binary op a b) = 2 + (weight a + weight b)
  weight (choice c a b) = 2 + (weight c + (weight a + weight b))
  weight (make p args) = 2 + weight_of_each args

  pub weight_of_each : Expressions → ℕ
  weight_of_each no_more = 0
  weight_of_each (and_more e es) = 1 + (weight e + weight_of_each es)

pub op-form : (x : Expr) (op : Op) (a b l r : Expr) → x ≡ w.Op op a b → l ≡ a → r ≡ b → expression x ≡ binary op (expression l) (expression r)
op-form x op a b l r e f g =
    ap expression e ∙ expression-Op op a b
    ∙ ap (λ (y : Expr). binary op (expression y) (expression b)) (sym f)
    ∙ ap (λ (y : Expr). binary op (expression l) (expression y)) (sym g)

pub if-form : (x : Expr) (c a b k l r : Expr) → x ≡ w.If c a b → k ≡ c → l ≡ a → r ≡ b → expression x ≡ choice (expression k) (expression l) (expression r)
if-form x c a b k l r e f g h =
    ap expression e ∙ expression-If c a b
    ∙ ap (λ (y : Expr). choice (expression y) (expression a) (expression b)) (sym f)
    ∙ ap (λ (y : Expr). choice (expression k) (expression y) (expression b)) (sym g)
    ∙ ap (λ (y : Expr). choice (expression k) (expression l) (expression y)) (sym h)

pub make-form : (x : Expr) (p : ℕ) (args read : List Expr) → x ≡ w.Make p args → read ≡ args → expression x ≡ make p (expression_row (map expression read))
make-form x p args read e f =
    ap expression e ∙ expression-Make p args ∙ ap (λ (ys : List Expr). make p (expression_row (map expression ys))) (sym f)

pub given-as : (s : Standing) (values : List Val) (handle : Handle) (x : Inputs) (e f : Expression) → e ≡ f → AreGiven s values handle x e → AreGiven s values handle x f
given-as s values handle x e f same g = subst (AreGiven s values handle x) same g

pub each-given-as : (s : Standing) (values : List Val) (handle : Handle) (x : Inputs) (es fs : Expressions) → es ≡ fs → AreGivenForEach s values handle x es → AreGivenForEach s values handle x fs
each-given-as s values handle x es fs same g = subst (AreGivenForEach s values handle x) same g

pub evaluates-as : (s t : Standing) (x : Inputs) (e f : Expression) (answer : Result (Option Val) Full) → e ≡ f → Evaluates s t x f answer → Evaluates s t x e answer
evaluates-as s t x e f answer same h = subst (λ d. Evaluates s t x d answer) (sym same) h

pub each-evaluates-as : (s t : Standing) (x : Inputs) (es fs : Expressions) (answer : Result (Option Handle) Full) → es ≡ fs → EvaluatesEach s t x fs answer → EvaluatesEach s t x es answer
each-evaluates-as s t x es fs answer same h = subst (λ d. EvaluatesEach s t x d answer) (sym same) h

-- the answer at what was found
pub evaluates-at : (s t : Standing) (x : Inputs) (e : Expression) (a b : Option Val) → a ≡ b → Evaluates s t x e (Ok a) → Evaluates s t x e (Ok b)
evaluates-at s t x e a b same h = subst (λ o. Evaluates s t x e (Ok o)) same h

pub each-evaluates-at : (s t : Standing) (x : Inputs) (es : Expressions) (a b : Option Handle) → a ≡ b → EvaluatesEach s t x es (Ok a) → EvaluatesEach s t x es (Ok b)
each-evaluates-at s t x es a b same h = subst (λ o. EvaluatesEach s t x es (Ok o)) same h
