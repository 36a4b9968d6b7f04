-- Expressions on the right side of equations, and their values.
use Rattle.std.specs.Prelude.{ℕ, Bool, ℤ, ◌+ℤ◌, ◌-ℤ◌, ◌*ℤ◌, int_lt, List, [], ◌∷◌, Option, Some, None, option_map, option_and_then, slice_get, cond}
use Rattle.std.specs.Int.{int_wrap, w64}
use Rattle.lrc_base.specs.declared.expr.Op.{Op}
use Rattle.lrc_base.specs.declared.expr.Op.TheVariants as o
use Rattle.lrc_base.specs.declared.expr.Expr.{Expr}
use Rattle.lrc_base.specs.declared.expr.Expr.TheOpen.{Expr-F}
use Rattle.lrc_base.specs.declared.expr.Expr.TheFolds.{fold-Expr}
use Rattle.lrc_meaning.specs.Tree.{Tree, int, bool, name, node, Trees, none, more, same_tree}

mutual
  pub data Expression : Type 0 where
    -- a number, a truth value or a name
    literal : Tree → Expression
    -- the value of the occurrence of this number
    occurrence : ℕ → Expression
    -- the child of this number, whose kind is no sort
    leaf : ℕ → Expression
    binary : Op → Expression → Expression → Expression
    -- a condition, and what is chosen where it is true and where it is false
    choice : Expression → Expression → Expression → Expression
    -- a tree of this production
    make : ℕ → Expressions → Expression

  pub data Expressions : Type 0 where
    no_more : Expressions
    and_more : Expression → Expressions → Expressions

abbrev pub expression_row : List Expression → Expressions
expression_row [] = no_more
expression_row (e ∷ es) = and_more e (expression_row es)

-- one node, with the expressions of its parts in their places
abbrev pub expression_step : Expr-F Expression → Expression
expression_step (Expr-F.Int i) = literal (int i)
expression_step (Expr-F.Bool b) = literal (bool b)
expression_step (Expr-F.Name n) = literal (name n)
expression_step (Expr-F.Occ i) = occurrence i
expression_step (Expr-F.Leaf i) = leaf i
expression_step (Expr-F.Op op a b) = binary op a b
expression_step (Expr-F.If c a b) = choice c a b
expression_step (Expr-F.Make p args) = make p (expression_row args)

-- the expression that an `Expr` is
unfoldable pub expression : Expr → Expression
expression = fold-Expr Expression expression_step

abbrev pub int_in : Tree → Option ℤ
int_in (int i) = Some i
int_in (bool b) = None
int_in (name n) = None
int_in (node p kids) = None

abbrev pub bool_in : Tree → Option Bool
bool_in (int i) = None
bool_in (bool b) = Some b
bool_in (name n) = None
bool_in (node p kids) = None

abbrev pub on_ints : (ℤ → ℤ → Tree) → Tree → Tree → Option Tree
on_ints f x y = option_and_then (λ a. option_map (f a) (int_in y)) (int_in x)

-- What an operator gives: numbers wrap at 64 bits, and any two values can be compared for equality.
abbrev pub operated : Op → Tree → Tree → Option Tree
operated o.Add x y = on_ints (λ a b. int (int_wrap w64 (a +ℤ b))) x y
operated o.Sub x y = on_ints (λ a b. int (int_wrap w64 (a -ℤ b))) x y
operated o.Mul x y = on_ints (λ a b. int (int_wrap w64 (a *ℤ b))) x y
operated o.Equal x y = Some (bool (same_tree x y))
operated o.Less x y = on_ints (λ a b. bool (int_lt a b)) x y

abbrev pub chosen : Bool → Option Tree → Option Tree → Option Tree
chosen c x y = cond c x y

-- The value of an expression, over the values of the occurrences by number and of the leaves by number of
-- child; none where something that it needs is not there or is of another kind. Of a choice only the branch
-- that is taken counts.
module _ (values : List Tree) (leaves : ℕ → Option Tree) where
  abbrev mutual
    pub value_of : Expression → Option Tree
    value_of (literal t) = Some t
    value_of (occurrence i) = slice_get values i
    value_of (leaf i) = leaves i
    value_of (binary op a b) = option_and_then (λ x. option_and_then (operated op x) (value_of b)) (value_of a)
    value_of (choice c a b) = option_and_then (λ x. option_and_then (λ t. chosen t (value_of a) (value_of b)) (bool_in x)) (value_of c)
    value_of (make p args) = option_map (node p) (values_of args)

    pub values_of : Expressions → Option Trees
    values_of no_more = Some none
    values_of (and_more e es) = option_and_then (λ x. option_map (more x) (values_of es)) (value_of e)
