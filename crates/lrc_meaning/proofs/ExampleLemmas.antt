-- The nodes of the worked examples are right.
use Rattle.std.proofs.Common.{◌≡◌, ℕ, refl, pos, [], ◌∷◌, Some, sym, subst, arith, codes}
use Rattle.std.specs.Int.{int_wrap}
use Rattle.lrc_base.specs.declared.grammar.Kind.TheVariants as k
use Rattle.lrc_base.specs.declared.grammar.Production.{Production}
use Rattle.lrc_base.specs.declared.expr.Op.TheVariants as o
use Rattle.lrc_base.specs.declared.expr.Expr.TheVariants as e
use Rattle.lrc_meaning.proofs.ExpressionLemmas.{expression_equations}
use Rattle.lrc_meaning.specs.Tree.{int}
use Rattle.lrc_meaning.specs.Attribution.{at_node, symbol, end, IsRight, IsNodeRight, IsAttribution}
use Rattle.lrc_meaning.specs.Examples.{sums, declarations, production, kid, equals, decorated_num, decorated_sum, decorated_decl, decorated_declarations, one_and_two, item_values}

abbrev add : Production
add = production (codes "Add") 0 (kid (codes "l") (k.Sort 0) ∷ kid (codes "r") (k.Sort 0) ∷ []) [] (equals 0 (e.Op o.Add (e.Occ 1) (e.Occ 2)) ∷ [])

pub num_is_right : (n : ℕ) → IsRight sums (decorated_num n)
num_is_right n = (
  record {
    production = _;
    is_there = refl;
    is_right = record { owns = refl; has_kids = refl; has_extras = refl; equations = (record { given = int (pos n); of_target = refl; of_expression = simp expression_equations refl }, tt) };
  },
  tt,
  tt,
)

pub sum_is_right : IsRight sums (decorated_sum 3)
unfolding int_wrap
sum_is_right = (
  record {
    production = _;
    is_there = refl;
    is_right = record { owns = refl; has_kids = refl; has_extras = refl; equations = (record { given = int (pos 3); of_target = refl; of_expression = simp expression_equations refl }, tt) };
  },
  (num_is_right 1, (num_is_right 2, tt)),
  tt,
)

none_is_right : (env : ℕ) → IsRight declarations (at_node 1 (item_values 0 env 0) end end)
none_is_right env = (
  record {
    production = _;
    is_there = refl;
    is_right = record { owns = refl; has_kids = refl; has_extras = refl; equations = (record { given = int (pos 0); of_target = refl; of_expression = simp expression_equations refl }, (record { given = int (pos 0); of_target = refl; of_expression = simp expression_equations refl }, tt)) };
  },
  tt,
  tt,
)

inner_is_right : IsRight declarations (decorated_decl 2 (item_values 20 30 1) 20 (at_node 1 (item_values 0 30 0) end end))
unfolding int_wrap
inner_is_right = (
  record {
    production = _;
    is_there = refl;
    is_right = record {
      owns = refl;
      has_kids = refl;
      has_extras = refl;
      equations = (
        record { given = int (pos 20); of_target = refl; of_expression = simp expression_equations refl },
        (
          record { given = int (pos 20); of_target = refl; of_expression = simp expression_equations refl },
          (
            record { given = int (pos 30); of_target = refl; of_expression = simp expression_equations refl },
            (record { given = int (pos 1); of_target = refl; of_expression = simp expression_equations refl }, tt),
          ),
        ),
      );
    };
  },
  (none_is_right 30, tt),
  tt,
)

outer_is_right : IsRight declarations (decorated_decl 1 (item_values 30 30 2) 10 (decorated_decl 2 (item_values 20 30 1) 20 (at_node 1 (item_values 0 30 0) end end)))
unfolding int_wrap
outer_is_right = (
  record {
    production = _;
    is_there = refl;
    is_right = record {
      owns = refl;
      has_kids = refl;
      has_extras = refl;
      equations = (
        record { given = int (pos 10); of_target = refl; of_expression = simp expression_equations refl },
        (
          record { given = int (pos 30); of_target = refl; of_expression = simp expression_equations refl },
          (
            record { given = int (pos 30); of_target = refl; of_expression = simp expression_equations refl },
            (record { given = int (pos 2); of_target = refl; of_expression = simp expression_equations refl }, tt),
          ),
        ),
      );
    };
  },
  (inner_is_right, tt),
  tt,
)

pub declarations_are_right : IsRight declarations decorated_declarations
declarations_are_right = (
  record {
    production = _;
    is_there = refl;
    is_right = record {
      owns = refl;
      has_kids = refl;
      has_extras = refl;
      equations = (
        record { given = int (pos 30); of_target = refl; of_expression = simp expression_equations refl },
        (record { given = int (pos 2); of_target = refl; of_expression = simp expression_equations refl }, tt),
      );
    };
  },
  (outer_is_right, tt),
  tt,
)

-- the root of the sum, read off its production
no_four : (p : Production) → Some add ≡ Some p → IsNodeRight sums p (int (pos 4) ∷ []) (symbol (decorated_num 1) (symbol (decorated_num 2) end)) end → ⊥
unfolding int_wrap
no_four p is_there h =
    let same : add ≡ p = cc in
    let r = subst (λ (q : Production). IsNodeRight sums q (int (pos 4) ∷ []) (symbol (decorated_num 1) (symbol (decorated_num 2) end)) end) (sym same) h in
    let target = r.equations.0.of_target in
    let found = simp expression_equations at r.equations.0.of_expression in
    let four_is_three : ◌≡◌ {A = ℕ} 4 3 = cc in
    absurd (omega (arith, four_is_three))

pub wrong_sum_is_none : IsAttribution sums one_and_two (decorated_sum 4) → ⊥
wrong_sum_is_none a = no_four a.is_right.0.production a.is_right.0.is_there a.is_right.0.is_right
