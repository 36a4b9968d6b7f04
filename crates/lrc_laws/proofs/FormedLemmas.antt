-- What a well-formed grammar says of its productions.
use Rattle.std.proofs.Common.{◌≡◌, ℕ, zero, suc, ◌+◌, ◌≤◌, Bool, true, false, not, ◌&&◌, ◌||◌, ◌==◌, IsTrue, cond, List, [], ◌∷◌, length, Option, Some, None, slice_get, refl, sym, ap, ◌∙◌, arith}
use Rattle.std.specs.Prelude.{nat_eq}
use Rattle.std.specs.Option.{option_map_or}
use Rattle.std.specs.List.{list_all, find, count_by}
use Rattle.std.proofs.lemmas.Bool.{and_parts, false≢true, cond-true, eqb-true}
use Rattle.std.proofs.lemmas.Option.{none-some, slice_get_within}
use Rattle.std.proofs.lemmas.List.Sums.{sum_by-cons}
use Rattle.lrc_base.specs.declared.grammar.Equation.{Equation}
use Rattle.lrc_base.specs.declared.grammar.Production.{Production}
use Rattle.lrc_meaning.specs.Expression.{expression}
use Rattle.lrc_meaning.specs.Tree.{same_kind}
use Rattle.lrc_meaning.specs.Grammar.{Grammar, Occurrence, occurrences_of, expression_kind, is_equation_right, is_defined_once, is_production_right, is_well_formed}
use Rattle.lrc_meaning.proofs.ListLemmas.{list_all-at, list_all-range}
use Rattle.lrc_plan_meaning.specs.Sequences.{is_defined}
use Rattle.lrc_visit_meaning.specs.Visits.{equation_of}

module _ {X : Type 0} (p : X → Bool) where
  count_by-step : (x : X) (xs : List X) (n : ℕ) → count_by p (x ∷ xs) ≡ n → cond (p x) 1 0 + count_by p xs ≡ n
  count_by-step x xs n e = sym (sum_by-cons (λ y. cond (p y) 1 0) x xs) ∙ e

  find_over : (b : Bool) (x : X) (xs : List X) → cond b 1 0 + count_by p xs ≡ 1 → (count_by p xs ≡ 1 → (y : X) × (find p xs ≡ Some y)) → (y : X) × (cond b (Some x) (find p xs) ≡ Some y)
  find_over true x xs e f = (x, refl)
  find_over false x xs e f = f (omega arith)

  -- what is counted once is found
  pub find_there : (xs : List X) → count_by p xs ≡ 1 → (y : X) × (find p xs ≡ Some y)
  find_there [] e = absurd (omega arith)
  find_there (x ∷ xs) e = find_over (p x) x xs (count_by-step x xs 1 e) (find_there xs)

  counted_here : (b : Bool) (n m : ℕ) → cond b 1 0 + n ≡ m → b ≡ true → 1 ≤ m
  counted_here true n m e h = omega arith
  counted_here false n m e h = absurd (false≢true h)

  counted_later : (b : Bool) (n m : ℕ) → cond b 1 0 + n ≡ m → 1 ≤ n → 1 ≤ m
  counted_later b n m e h = omega arith

  counted : (xs : List X) (i : ℕ) (x : X) → slice_get xs i ≡ Some x → p x ≡ true → 1 ≤ count_by p xs
  counted [] i x e h = absurd (none-some x e)
  counted (y ∷ ys) zero x e h = let s : y ≡ x = cc in counted_here (p y) (count_by p ys) _ (count_by-step y ys _ refl) (ap p s ∙ h)
  counted (y ∷ ys) (suc i) x e h = counted_later (p y) (count_by p ys) _ (count_by-step y ys _ refl) (counted ys i x e h)

  find_past : (b : Bool) (y : X) (ys : List X) (x : X) → cond b 1 0 + count_by p ys ≡ 1 → 1 ≤ count_by p ys → (count_by p ys ≡ 1 → find p ys ≡ Some x) → cond b (Some y) (find p ys) ≡ Some x
  find_past true y ys x e m f = absurd (omega arith)
  find_past false y ys x e m f = f (omega arith)

  -- the one that passes is what is found
  pub find_one : (xs : List X) (i : ℕ) (x : X) → count_by p xs ≡ 1 → slice_get xs i ≡ Some x → p x ≡ true → find p xs ≡ Some x
  find_one [] i x c e h = absurd (none-some x e)
  find_one (y ∷ ys) zero x c e h = let s : y ≡ x = cc in cond-true (p y) _ _ (ap p s ∙ h) ∙ ap Some s
  find_one (y ∷ ys) (suc i) x c e h =
      find_past (p y) y ys x (count_by-step y ys 1 c) (counted ys i x e h) (λ d. find_one ys i x d e h)

pub defined_over : (o : Option Occurrence) → option_map_or (λ (x : Occurrence). x.is_defined) o false ≡ true → (x : Occurrence) × (o ≡ Some x) × (x.is_defined ≡ true)
defined_over None h = absurd (false≢true h)
defined_over (Some x) h = (x, refl, h)

not_or : (d c : Bool) → (not d || c) ≡ true → d ≡ true → c ≡ true
not_or true c h e = h
not_or false c h e = absurd (false≢true e)

module _ (g : Grammar) (formed : IsTrue (is_well_formed g)) (n : ℕ) (p : Production) (there : slice_get g.prods n ≡ Some p) where
  pub production_right : is_production_right g.sorts g.prods p ≡ true
  production_right = list_all-at (is_production_right g.sorts g.prods) g.prods n p ((and_parts _ _ (and_parts _ _ formed).0).1) there

  -- an occurrence that is to be defined has exactly one equation
  pub one_equation : (o : ℕ) → IsTrue (is_defined (occurrences_of g.sorts p) o) → count_by (λ (e : Equation). e.target == o) p.equations ≡ 1
  one_equation o h =
      let at : o ≡ 0 + o = omega arith in
      let x = defined_over (slice_get (occurrences_of g.sorts p) o) h in
      let within = slice_get_within (occurrences_of g.sorts p) o x.0 x.1 in
      let once : is_defined_once p (occurrences_of g.sorts p) ≡ true = (and_parts _ _ (and_parts _ _ production_right).0).1 in
      let test = list_all-range (λ i. option_map_or (λ (x : Occurrence). not x.is_defined || nat_eq (count_by (λ (e : Equation). e.target == i) p.equations) 1) (slice_get (occurrences_of g.sorts p) i) true)
      0 (length (occurrences_of g.sorts p)) o o once within at in
      eqb-true _ 1 (not_or x.0.is_defined _ (ap (λ (q : Option Occurrence). option_map_or (λ (x : Occurrence). not x.is_defined || nat_eq (count_by (λ (e : Equation). e.target == o) p.equations) 1) q true) (sym x.1) ∙ test) x.2)

  pub equation_there : (o : ℕ) → IsTrue (is_defined (occurrences_of g.sorts p) o) → (e : Equation) × (equation_of p o ≡ Some e)
  equation_there o h = find_there (λ (e : Equation). e.target == o) p.equations (one_equation o h)

  target_over : (e : Equation) (o : Option Occurrence) → option_map_or (λ (target : Occurrence). target.is_defined && option_map_or (same_kind target.kind) (expression_kind g.prods (occurrences_of g.sorts p) p.kids (expression e.expr)) false) o false ≡ true
      → option_map_or (λ (x : Occurrence). x.is_defined) o false ≡ true
  target_over e None h = absurd (false≢true h)
  target_over e (Some x) h = (and_parts x.is_defined _ h).0

  -- the target of each equation is to be defined
  pub target_defined : (i : ℕ) (e : Equation) → slice_get p.equations i ≡ Some e → IsTrue (is_defined (occurrences_of g.sorts p) e.target)
  target_defined i e h =
      let rights : list_all (is_equation_right g.sorts g.prods p) p.equations ≡ true = (and_parts _ _ (and_parts _ _ (and_parts _ _ production_right).0).0).1 in
      target_over e (slice_get (occurrences_of g.sorts p) e.target) (list_all-at (is_equation_right g.sorts g.prods p) p.equations i e rights h)
