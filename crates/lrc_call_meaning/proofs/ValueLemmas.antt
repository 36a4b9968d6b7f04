-- Values of expressions are spelled where their literals are.
use Rattle.std.proofs.Common.{ℕ, zero, suc, ℤ, Bool, true, false, List, [], ◌∷◌, Option, Some, None}
use Rattle.std.specs.Prelude.{slice_get}
use Rattle.std.specs.Option.{IfSome, option_map, option_and_then}
use Rattle.std.specs.List.{AllByRecursion}
use Rattle.lrc_base.specs.declared.expr.Op.{Op}
use Rattle.lrc_base.specs.declared.expr.Op.TheVariants as o
use Rattle.lrc_meaning.specs.Tree.{Tree, node, more}
use Rattle.lrc_meaning.specs.Expression.{Expression, literal, occurrence, leaf, binary, choice, make, Expressions, no_more, and_more, int_in, bool_in, on_ints, operated, chosen, value_of, values_of}
use Rattle.lrc_code.specs.Forms.{EachNameBelow}
use Rattle.lrc_call_meaning.specs.Spelled.{IsSpelledName, IsSpelled, AreLiteralsSpelled, AreAllLiteralsSpelled}

and_then-fine : {A B : Type 0} (Q : A → Type 0) (P : B → Type 0) (f : A → Option B) (found : Option A) → IfSome found Q → ((x : A) → Q x → IfSome (f x) P) → IfSome (option_and_then f found) P
and_then-fine Q P f None h g = tt
and_then-fine Q P f (Some x) h g = g x h

map-fine : {A B : Type 0} (Q : A → Type 0) (P : B → Type 0) (f : A → B) (found : Option A) → IfSome found Q → ((x : A) → Q x → P (f x)) → IfSome (option_map f found) P
map-fine Q P f None h g = tt
map-fine Q P f (Some x) h g = g x h

abbrev Any : {A : Type 0} → A → Type 0
Any x = Unit {0}

any-fine : {A : Type 0} (found : Option A) → IfSome found Any
any-fine None = tt
any-fine (Some x) = tt

-- an item of a spelled list
pub item-fine : (values : List Tree) (i : ℕ) → AllByRecursion IsSpelled values → IfSome (slice_get values i) IsSpelled
item-fine [] i h = tt
item-fine (v ∷ vs) zero h = h.0
item-fine (v ∷ vs) (suc i) h = item-fine vs i h.1

on_ints-fine : (f : ℤ → ℤ → Tree) → ((a b : ℤ) → IsSpelled (f a b)) → (x y : Tree) → IfSome (on_ints f x y) IsSpelled
on_ints-fine f g x y =
    and_then-fine Any IsSpelled (λ a. option_map (f a) (int_in y)) (int_in x) (any-fine (int_in x))
    (λ a _. map-fine Any IsSpelled (f a) (int_in y) (any-fine (int_in y)) (λ b _. g a b))

operated-fine : (op : Op) (x y : Tree) → IfSome (operated op x y) IsSpelled
operated-fine o.Add x y = on_ints-fine _ (λ a b. tt) x y
operated-fine o.Sub x y = on_ints-fine _ (λ a b. tt) x y
operated-fine o.Mul x y = on_ints-fine _ (λ a b. tt) x y
operated-fine o.Equal x y = tt
operated-fine o.Less x y = on_ints-fine _ (λ a b. tt) x y

chosen-fine : (taken : Bool) (a b : Option Tree) → IfSome a IsSpelled → IfSome b IsSpelled → IfSome (chosen taken a b) IsSpelled
chosen-fine true a b h k = h
chosen-fine false a b h k = k

module _ (values : List Tree) (leaves : ℕ → Option Tree) (all : AllByRecursion IsSpelled values) (each : (i : ℕ) → IfSome (leaves i) IsSpelled) where
  mutual
    pub value-fine : (e : Expression) → AreLiteralsSpelled e → IfSome (value_of values leaves e) IsSpelled
    value-fine (literal t) h = h
    value-fine (occurrence i) h = item-fine values i all
    value-fine (leaf i) h = each i
    value-fine (binary op a b) h =
        and_then-fine Any IsSpelled (λ x. option_and_then (operated op x) (value_of values leaves b)) (value_of values leaves a) (any-fine (value_of values leaves a))
        (λ x _. and_then-fine Any IsSpelled (operated op x) (value_of values leaves b) (any-fine (value_of values leaves b)) (λ y _. operated-fine op x y))
    value-fine (choice c a b) h =
        and_then-fine Any IsSpelled (λ x. option_and_then (λ taken. chosen taken (value_of values leaves a) (value_of values leaves b)) (bool_in x)) (value_of values leaves c) (any-fine (value_of values leaves c))
        (λ x _. and_then-fine Any IsSpelled (λ taken. chosen taken (value_of values leaves a) (value_of values leaves b)) (bool_in x) (any-fine (bool_in x))
        (λ taken _. chosen-fine taken (value_of values leaves a) (value_of values leaves b) (value-fine a h.1) (value-fine b h.2)))
    value-fine (make p args) h = map-fine (λ ts. EachNameBelow IsSpelledName ts) IsSpelled (node p) (values_of values leaves args) (values-fine args h) (λ ts k. k)

    values-fine : (es : Expressions) → AreAllLiteralsSpelled es → IfSome (values_of values leaves es) (λ ts. EachNameBelow IsSpelledName ts)
    values-fine no_more h = tt
    values-fine (and_more e es) h =
        and_then-fine IsSpelled (λ ts. EachNameBelow IsSpelledName ts) (λ x. option_map (more x) (values_of values leaves es)) (value_of values leaves e) (value-fine e h.0)
        (λ x k. map-fine (λ ts. EachNameBelow IsSpelledName ts) (λ ts. EachNameBelow IsSpelledName ts) (more x) (values_of values leaves es) (values-fine es h.1) (λ ts l. (k, l)))
