-- What expressions read, part by part.
use Rattle.std.proofs.Common.{◌≡◌, ℕ, ◌+◌, ◌<◌, ◌⊎◌, inl, inr, ℤ, Bool, append-nil, append_assoc, sym, List, [], ◌∷◌, ◌++◌, map, length, drop, get_or, refl, ap, ◌∙◌}
use Rattle.std.proofs.lemmas.List.{map-append}
use Rattle.std.proofs.lemmas.List.FromFn.{map-range_with_len_more}
use Rattle.std.specs.List.{range_with_len}
use Rattle.lrc_base.specs.declared.expr.Op.{Op}
use Rattle.lrc_base.specs.declared.expr.Expr.{Expr}
use Rattle.lrc_base.specs.declared.expr.Expr.TheVariants as v
use Rattle.lrc_meaning.proofs.ExpressionLemmas.{expression-Int, expression-Bool, expression-Name, expression-Leaf, expression-Occ, expression-Op, expression-If, expression-Make}
use Rattle.lrc_order_meaning.specs.declared.Need.{Need}
use Rattle.lrc_meaning.specs.Expression.{expression, expression_row}
use Rattle.lrc_order_meaning.specs.Needs.{need, reads, reads_of_each}
use Rattle.lrc_grammar.proofs.ListLemmas.{next_left}

pub next_reads : (args : List Expr) (i : ℕ) (e : Expr) → i < length args → e ≡ get_or args i e
    → reads_of_each (expression_row (map expression (drop i args)))
    ≡ reads (expression e) ++ reads_of_each (expression_row (map expression (drop (i + 1) args)))
next_reads args i e h p = ap (λ es. reads_of_each (expression_row (map expression es))) (next_left args i e h p)

module _ (target : ℕ) (xs : List Need) where
  abbrev pub targeted : List ℕ → List Need
  targeted os = map (λ o. need o target) os

  pub reads_none : (e : Expr) → reads (expression e) ≡ [] → xs ≡ xs ++ targeted (reads (expression e))
  reads_none e h = rw h (sym (append-nil xs))

  pub read_int : (i : ℤ) → xs ≡ xs ++ targeted (reads (expression (v.Int i)))
  read_int i = reads_none (v.Int i) (ap reads (expression-Int i))

  pub read_bool : (b : Bool) → xs ≡ xs ++ targeted (reads (expression (v.Bool b)))
  read_bool b = reads_none (v.Bool b) (ap reads (expression-Bool b))

  pub read_name : (n : List ℕ) → xs ≡ xs ++ targeted (reads (expression (v.Name n)))
  read_name n = reads_none (v.Name n) (ap reads (expression-Name n))

  pub read_leaf : (i : ℕ) → xs ≡ xs ++ targeted (reads (expression (v.Leaf i)))
  read_leaf i = reads_none (v.Leaf i) (ap reads (expression-Leaf i))

  pub read_occurrence : (i : ℕ) → xs ++ need i target ∷ [] ≡ xs ++ targeted (reads (expression (v.Occ i)))
  read_occurrence i = ap (λ e. xs ++ targeted (reads e)) (sym (expression-Occ i))

  pub read_both : (op : Op) (a b : Expr) → (xs ++ targeted (reads (expression a))) ++ targeted (reads (expression b)) ≡ xs ++ targeted (reads (expression (v.Op op a b)))
  read_both op a b =
      append_assoc xs (targeted (reads (expression a))) (targeted (reads (expression b)))
      ∙ ap (λ ys. xs ++ ys) (sym (map-append (λ o. need o target) (reads (expression a)) (reads (expression b))))
      ∙ ap (λ e. xs ++ targeted (reads e)) (sym (expression-Op op a b))

  pub read_choice : (c a b : Expr)
      → ((xs ++ targeted (reads (expression c))) ++ targeted (reads (expression a))) ++ targeted (reads (expression b)) ≡ xs ++ targeted (reads (expression (v.If c a b)))
  read_choice c a b =
      append_assoc (xs ++ targeted (reads (expression c))) (targeted (reads (expression a))) (targeted (reads (expression b)))
      ∙ append_assoc xs (targeted (reads (expression c))) (targeted (reads (expression a)) ++ targeted (reads (expression b)))
      ∙ ap (λ ys. xs ++ (targeted (reads (expression c)) ++ ys)) (sym (map-append (λ o. need o target) (reads (expression a)) (reads (expression b))))
      ∙ ap (λ ys. xs ++ ys) (sym (map-append (λ o. need o target) (reads (expression c)) (reads (expression a) ++ reads (expression b))))
      ∙ ap (λ e. xs ++ targeted (reads e)) (sym (expression-If c a b))

  pub read_made : (p : ℕ) (args : List Expr) → xs ++ targeted (reads_of_each (expression_row (map expression args))) ≡ xs ++ targeted (reads (expression (v.Make p args)))
  read_made p args = ap (λ e. xs ++ targeted (reads e)) (sym (expression-Make p args))

  pub read_next : (args : List Expr) (i : ℕ) (e : Expr) → i < length args → e ≡ get_or args i e
      → (xs ++ targeted (reads (expression e))) ++ targeted (reads_of_each (expression_row (map expression (drop (i + 1) args))))
      ≡ xs ++ targeted (reads_of_each (expression_row (map expression (drop i args))))
  read_next args i e h p =
      append_assoc xs (targeted (reads (expression e))) (targeted (reads_of_each (expression_row (map expression (drop (i + 1) args)))))
      ∙ ap (λ ys. xs ++ ys) (sym (map-append (λ o. need o target) (reads (expression e)) (reads_of_each (expression_row (map expression (drop (i + 1) args))))))
      ∙ ap (λ ys. xs ++ targeted ys) (sym (next_reads args i e h p))

  -- one more of a row
  pub row_more : (first start n : ℕ) → (xs ++ map (need first) (range_with_len start n)) ++ need first (start + n) ∷ [] ≡ xs ++ map (need first) (range_with_len start (n + 1))
  row_more first start n =
      append_assoc xs (map (need first) (range_with_len start n)) (need first (start + n) ∷ [])
      ∙ ap (λ ys. xs ++ ys) (sym (map-range_with_len_more (need first) start n (start + n) refl))

  -- the same as the code finds it: an expression that is a variant, and the lists after each call
  pub nothing_read : (e : Expr)
      → ((i : ℤ) × (e ≡ v.Int i)) ⊎ (((b : Bool) × (e ≡ v.Bool b)) ⊎ (((n : List ℕ) × (e ≡ v.Name n)) ⊎ ((i : ℕ) × (e ≡ v.Leaf i))))
      → xs ≡ xs ++ targeted (reads (expression e))
  nothing_read e is =
      elim is [
        | inl r ↦ rw r.1 (read_int r.0)
        | inr (inl r) ↦ rw r.1 (read_bool r.0)
        | inr (inr (inl r)) ↦ rw r.1 (read_name r.0)
        | inr (inr (inr r)) ↦ rw r.1 (read_leaf r.0)
      ]

  pub both_read : (e : Expr) (op : Op) (a b left right : Expr) (one two : List Need) → e ≡ v.Op op a b → left ≡ a → right ≡ b
      → one ≡ xs ++ targeted (reads (expression left)) → two ≡ one ++ targeted (reads (expression right)) → two ≡ xs ++ targeted (reads (expression e))
  both_read e op a b left right one two is l r first second = rw (second, first, is, l, r) (read_both op a b)

  pub choice_read : (e a b c condition chosen otherwise : Expr) (one two three : List Need) → e ≡ v.If a b c → condition ≡ a → chosen ≡ b → otherwise ≡ c
      → one ≡ xs ++ targeted (reads (expression condition)) → two ≡ one ++ targeted (reads (expression chosen))
      → three ≡ two ++ targeted (reads (expression otherwise)) → three ≡ xs ++ targeted (reads (expression e))
  choice_read e a b c condition chosen otherwise one two three is x y z first second third =
      rw (third, second, first, is, x, y, z) (read_choice a b c)

  pub made_read : (e : Expr) (p : ℕ) (args given : List Expr) (one : List Need) → e ≡ v.Make p args → given ≡ args
      → one ≡ xs ++ targeted (reads_of_each (expression_row (map expression given))) → one ≡ xs ++ targeted (reads (expression e))
  made_read e p args given one is same first = rw (first, is, same) (read_made p args)

  pub occurrence_read : (e : Expr) (i : ℕ) (one : List Need) → e ≡ v.Occ i → one ≡ xs ++ need i target ∷ [] → one ≡ xs ++ targeted (reads (expression e))
  occurrence_read e i one is first = rw (first, is) (read_occurrence i)
