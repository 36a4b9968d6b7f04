-- An expression by numbers has as many nodes as the one that is written.
use Rattle.std.proofs.Common.{◌≡◌, ℕ, suc, ◌+◌, ◌≤◌, List, [], ◌∷◌, All, map, sum_by, Option, Some, None, refl, sym, ap, ◌∙◌, subst, arith}
use Rattle.std.specs.Prelude.{option_map, option_and_then}
use Rattle.std.specs.List.{AllByRecursion}
use Rattle.std.proofs.lemmas.List.Elements.{All-nil, All-cons}
use Rattle.std.proofs.lemmas.List.Sums.{sum_by-cons}
use Rattle.lrc_base.specs.declared.limits.TheConstants.{NODE_LIMIT}
use Rattle.lrc_base.specs.declared.expr.Op.{Op}
use Rattle.lrc_base.specs.declared.expr.Expr.{Expr}
use Rattle.lrc_base.specs.declared.expr.Expr.TheVariants as e
use Rattle.lrc_base.specs.declared.grammar.Equation.{Equation}
use Rattle.lrc_base.specs.declared.grammar.Kid.{Kid}
use Rattle.lrc_base.specs.declared.raw.RawExpr.{RawExpr}
use Rattle.lrc_base.specs.declared.raw.RawExpr.TheVariants as v
use Rattle.lrc_base.specs.declared.raw.RawItem.{RawItem}
use Rattle.lrc_base.specs.declared.raw.RawItem.TheVariants as item
use Rattle.lrc_meaning.specs.Expression.{expression, expression_row}
use Rattle.lrc_meaning.specs.Limits.{written_nodes, nodes_of, nodes_among, item_nodes}
use Rattle.lrc_meaning.specs.Naming.{Known, each_some, or_leaf, leaf_number, occurrence_number, written_number, named_expr, named_equation, named_equations}
use Rattle.lrc_meaning.proofs.ExpressionLemmas.{expression-Int, expression-Bool, expression-Name, expression-Occ, expression-Leaf, expression-Op, expression-If, expression-Make}
use Rattle.lrc_meaning.proofs.NodeLemmas.{written_nodes-Int, written_nodes-Bool, written_nodes-Name, written_nodes-One, written_nodes-Two, written_nodes-Op, written_nodes-If, written_nodes-Make}
use Rattle.lrc_naming.proofs.NamingLemmas.{named_expr-Int, named_expr-Bool, named_expr-Name, named_expr-One, named_expr-Two, named_expr-Op, named_expr-If, named_expr-Make}
use Rattle.lrc_fault_laws.proofs.Lists.{Every}
use Rattle.lrc_fault_laws.proofs.Expressions.{by_variant}

-- the expression, where there is one, has so many nodes
abbrev Has : Option Expr → ℕ → Type 0
Has o n = (y : Expr) → o ≡ Some y → nodes_of (expression y) ≡ n

just : (u : Expr) (n : ℕ) → nodes_of (expression u) ≡ n → Has (Some u) n
just u n h y e = let same : u ≡ y = cc in subst (λ w. nodes_of (expression w) ≡ n) same h

of_leaf : (o : Option ℕ) → Has (option_map e.Leaf o) 1
of_leaf (Some i) y h = just (e.Leaf i) 1 (ap nodes_of (expression-Leaf i)) y h
of_leaf None y h = absurd (cc)

of_one : (kids : List Kid) (n : List ℕ) (o : Option ℕ) → Has (or_leaf kids n o) 1
of_one kids n (Some i) = just (e.Occ i) 1 (ap nodes_of (expression-Occ i))
of_one kids n None = of_leaf (leaf_number kids n)

of_two : (o : Option ℕ) → Has (option_map e.Occ o) 1
of_two (Some i) y h = just (e.Occ i) 1 (ap nodes_of (expression-Occ i)) y h
of_two None y h = absurd (cc)

of_op : (op : Op) (a b : Option Expr) (m n : ℕ) → Has a m → Has b n → Has (option_and_then (λ x. option_map (λ y. e.Op op x y) b) a) (suc (m + n))
of_op op (Some x) (Some y) m n f g z h =
    let all : nodes_of (expression (e.Op op x y)) ≡ suc (nodes_of (expression x) + nodes_of (expression y)) = ap nodes_of (expression-Op op x y) in
    let left = f x refl in
    let right = g y refl in
    just (e.Op op x y) (suc (m + n)) (omega (arith, all, left, right)) z h
of_op op (Some x) None m n f g z h = absurd (cc)
of_op op None b m n f g z h = absurd (cc)

of_if : (c a b : Option Expr) (l m n : ℕ) → Has c l → Has a m → Has b n →
    Has (option_and_then (λ x. option_and_then (λ y. option_map (λ z. e.If x y z) b) a) c) (suc (l + (m + n)))
of_if (Some x) (Some y) (Some z) l m n f g h w k =
    let all : nodes_of (expression (e.If x y z)) ≡ suc (nodes_of (expression x) + (nodes_of (expression y) + nodes_of (expression z))) = ap nodes_of (expression-If x y z) in
    let first = f x refl in
    let second = g y refl in
    let third = h z refl in
    just (e.If x y z) (suc (l + (m + n))) (omega (arith, all, first, second, third)) w k
of_if (Some x) (Some y) None l m n f g h w k = absurd (cc)
of_if (Some x) None b l m n f g h w k = absurd (cc)
of_if None a b l m n f g h w k = absurd (cc)

-- the same of arguments
abbrev HaveAll : Option (List Expr) → ℕ → Type 0
HaveAll o n = (ys : List Expr) → o ≡ Some ys → nodes_among (expression_row (map expression ys)) ≡ n

more_args : (o : Option Expr) (r : Option (List Expr)) (m n : ℕ) → Has o m → HaveAll r n → HaveAll (option_and_then (λ a. option_map (λ as'. a ∷ as') r) o) (m + n)
more_args (Some x) (Some xs) m n f g ys h =
    let same : x ∷ xs ≡ ys = cc in
    let first = f x refl in
    let rest = g xs refl in
    subst (λ zs. nodes_among (expression_row (map expression zs)) ≡ m + n) same (omega (arith, first, rest))
more_args (Some x) None m n f g ys h = absurd (cc)
more_args None r m n f g ys h = absurd (cc)

of_make : (q : Option ℕ) (r : Option (List Expr)) (n : ℕ) → HaveAll r n → Has (option_and_then (λ p. option_map (λ xs. e.Make p xs) r) q) (suc n)
of_make (Some p) (Some xs) n f y h =
    let all : nodes_of (expression (e.Make p xs)) ≡ suc (nodes_among (expression_row (map expression xs))) = ap nodes_of (expression-Make p xs) in
    let parts = f xs refl in
    just (e.Make p xs) (suc n) (omega (arith, all, parts)) y h
of_make (Some p) None n f y h = absurd (cc)
of_make None r n f y h = absurd (cc)

module _ (known : Known) where
  abbrev Named : RawExpr → Type 0
  Named x = Has (named_expr known x) (written_nodes x)

  is_named : (x : RawExpr) (o : Option Expr) (n : ℕ) → named_expr known x ≡ o → written_nodes x ≡ n → Has o n → Named x
  is_named x o n named count has y h = has y (sym named ∙ h) ∙ sym count

  args_named : (args : List RawExpr) → Every Named args → HaveAll (each_some (map (named_expr known) args)) (sum_by written_nodes args)
  args_named [] every ys h = let same : [] ≡ ys = cc in subst (λ zs. nodes_among (expression_row (map expression zs)) ≡ 0) same refl
  args_named (x ∷ args) every ys h =
      subst (HaveAll (each_some (map (named_expr known) (x ∷ args)))) (sym (sum_by-cons written_nodes x args))
      (more_args (named_expr known x) (each_some (map (named_expr known) args)) (written_nodes x) (sum_by written_nodes args) every.0 (args_named args every.1)) ys h

  pub named_nodes : (x : RawExpr) → Named x
  named_nodes = by_variant Named (record {
    at_int = λ i. is_named (v.Int i) (Some (e.Int i)) 1 (named_expr-Int known i) (written_nodes-Int i) (just (e.Int i) 1 (ap nodes_of (expression-Int i)));
    at_bool = λ b. is_named (v.Bool b) (Some (e.Bool b)) 1 (named_expr-Bool known b) (written_nodes-Bool b) (just (e.Bool b) 1 (ap nodes_of (expression-Bool b)));
    at_name = λ n. is_named (v.Name n) (Some (e.Name n)) 1 (named_expr-Name known n) (written_nodes-Name n) (just (e.Name n) 1 (ap nodes_of (expression-Name n)));
    at_one = λ n.
        is_named (v.One n) (or_leaf known.kids n (occurrence_number known.occurrences None n)) 1 (named_expr-One known n) (written_nodes-One n)
        (of_one known.kids n (occurrence_number known.occurrences None n));
    at_two = λ c a.
        is_named (v.Two c a) (option_map e.Occ (occurrence_number known.occurrences (Some c) a)) 1 (named_expr-Two known c a) (written_nodes-Two c a)
        (of_two (occurrence_number known.occurrences (Some c) a));
    at_op = λ op a b f g.
        is_named (v.Op op a b) _ _ (named_expr-Op known op a b) (written_nodes-Op op a b)
        (of_op op (named_expr known a) (named_expr known b) (written_nodes a) (written_nodes b) f g);
    at_if = λ c a b f g h.
        is_named (v.If c a b) _ _ (named_expr-If known c a b) (written_nodes-If c a b)
        (of_if (named_expr known c) (named_expr known a) (named_expr known b) (written_nodes c) (written_nodes a) (written_nodes b) f g h);
    at_make = λ n args every.
        is_named (v.Make n args) _ _ (named_expr-Make known n args) (written_nodes-Make n args)
        (of_make (written_number known.prods n) (each_some (map (named_expr known) args)) (sum_by written_nodes args) (args_named args every));
  })

  -- ---- equations

  abbrev IsFewNodes : Equation → Type 0
  IsFewNodes q = nodes_of (expression q.expr) ≤ NODE_LIMIT

  few_target : (x : RawExpr) → written_nodes x ≤ NODE_LIMIT → (o : Option ℕ) (r : Option Expr) → Has r (written_nodes x) → (q : Equation) →
      option_and_then (λ target. option_map (λ y. record { target = target; expr = y }) r) o ≡ Some q → IsFewNodes q
  few_target x few (Some target) (Some y) has q h =
      let made : record { target = target; expr = y } ≡ q = cc in
      let count = has y refl in
      subst IsFewNodes made (omega (arith, count, few))
  few_target x few (Some target) None has q h = absurd (cc)
  few_target x few None r has q h = absurd (cc)

  few_then : (o : Option Equation) (r : Option (List Equation)) → ((q : Equation) → o ≡ Some q → IsFewNodes q) → ((qs : List Equation) → r ≡ Some qs → All IsFewNodes qs) →
      (qs : List Equation) → option_and_then (λ a. option_map (λ as'. a ∷ as') r) o ≡ Some qs → All IsFewNodes qs
  few_then (Some q) (Some rest) f g qs h = let same : q ∷ rest ≡ qs = cc in subst (All IsFewNodes) same (All-cons IsFewNodes q rest (f q refl) (g rest refl))
  few_then (Some q) None f g qs h = absurd (cc)
  few_then None r f g qs h = absurd (cc)

  one_few : (owner : Option (List ℕ)) (n : List ℕ) (x : RawExpr) (r : Option (List Equation)) → written_nodes x ≤ NODE_LIMIT →
      ((qs : List Equation) → r ≡ Some qs → All IsFewNodes qs) → (qs : List Equation) →
      option_and_then (λ a. option_map (λ as'. a ∷ as') r) (option_and_then (λ target. option_map (λ y. record { target = target; expr = y }) (named_expr known x)) (occurrence_number known.occurrences owner n)) ≡ Some qs →
      All IsFewNodes qs
  one_few owner n x r few g =
      few_then (option_and_then (λ target. option_map (λ y. record { target = target; expr = y }) (named_expr known x)) (occurrence_number known.occurrences owner n)) r
      (few_target x few (occurrence_number known.occurrences owner n) (named_expr known x) (named_nodes x)) g

  pub few_equations : (items : List RawItem) → AllByRecursion (λ (i : RawItem). item_nodes i ≤ NODE_LIMIT) items → (qs : List Equation) → named_equations known items ≡ Some qs →
      All IsFewNodes qs
  few_equations [] few qs h = let same : [] ≡ qs = cc in subst (All IsFewNodes) same (All-nil IsFewNodes)
  few_equations (item.Local n kind x ∷ items) few qs h = one_few None n x (named_equations known items) few.0 (few_equations items few.1) qs h
  few_equations (item.Attach n sort x ∷ items) few qs h = one_few None n x (named_equations known items) few.0 (few_equations items few.1) qs h
  few_equations (item.Own n x ∷ items) few qs h = one_few None n x (named_equations known items) few.0 (few_equations items few.1) qs h
  few_equations (item.OfKid c n x ∷ items) few qs h = one_few (Some c) n x (named_equations known items) few.0 (few_equations items few.1) qs h
  few_equations (item.Pattern pieces ∷ items) few qs h = few_equations items few.1 qs h
