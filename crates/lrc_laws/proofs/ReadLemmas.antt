-- An action reads what it needs, and nothing else.
use Rattle.std.proofs.Common.{◌≡◌, ℕ, zero, suc, ◌+◌, ◌-◌, Bool, true, false, cond, List, [], ◌∷◌, ◌++◌, map, length, Contains, Option, Some, None, slice_get, refl, sym, ap, ◌∙◌, subst, arith}
use Rattle.std.specs.Prelude.{filter, flat_map, find, ◌==◌, slice_index_or}
use Rattle.std.specs.Option.{option_map, option_map_or, option_and_then}
use Rattle.std.specs.List.{range_with_len}
use Rattle.std.proofs.lemmas.Option.{none-some, same_Some, slice_get-map}
use Rattle.std.proofs.lemmas.List.Elements.{Contains-append_left, Contains-append_right}
use Rattle.lrc_base.specs.declared.grammar.Kind.TheVariants as k
use Rattle.lrc_base.specs.declared.grammar.Equation.{Equation}
use Rattle.lrc_base.specs.declared.grammar.Production.{Production}
use Rattle.lrc_meaning.specs.Tree.{Tree, Trees, more, node}
use Rattle.lrc_meaning.specs.Expression.{Expression, literal, occurrence, leaf, binary, choice, make, Expressions, no_more, and_more, expression, value_of, values_of, operated, chosen, bool_in}
use Rattle.lrc_meaning.specs.Grammar.{Grammar, occurrences_of}
use Rattle.lrc_order_meaning.specs.declared.Need.{Need}
use Rattle.lrc_order_meaning.specs.declared.Place.{Place}
use Rattle.lrc_order_meaning.specs.declared.Partition.{Partition}
use Rattle.lrc_order_meaning.specs.Needs.{need, reads, reads_of_each, equation_needs}
use Rattle.lrc_plan_meaning.specs.declared.Action.TheVariants as a
use Rattle.lrc_plan_meaning.specs.declared.Bound.{Bound}
use Rattle.lrc_plan_meaning.specs.declared.Bound.TheVariants as b
use Rattle.lrc_plan_meaning.specs.Items.{symbol_at, needs, tree_of, values_of_visit, firsts_of}
use Rattle.lrc_visit_meaning.specs.Values.{value, value_in, binding_in, Call, Result, no_tree}
use Rattle.lrc_visit_meaning.specs.Visits.{Held, values_in, leaf_in, equation_of, values_at, tree_at, call_of, given_by, is_of_kind, symbol_trees, step}
use Rattle.lrc_order_meaning.proofs.MemberLemmas.{member_first, member_later, member_map, member_flat, member_filter}
use Rattle.lrc_plan.proofs.ListLemmas.{map_agree}
use Rattle.lrc_laws.proofs.HeldLemmas.{Agree, agree_left, agree_right, ReadsNeeds}

module _ (vs ws : List Tree) (leaves others : ℕ → Option Tree) (same_leaves : (i : ℕ) → leaves i ≡ others i) where
  abbrev Same : List ℕ → Type 0
  Same is = (i : ℕ) → Contains is i → slice_get vs i ≡ slice_get ws i

  left : (xs ys : List ℕ) → Same (xs ++ ys) → Same xs
  left xs ys h i c = h i (Contains-append_left xs ys i c)

  right : (xs ys : List ℕ) → Same (xs ++ ys) → Same ys
  right xs ys h i c = h i (Contains-append_right xs ys i c)

  mutual
    -- an expression has the same value where what it reads is the same
    pub value_same : (e : Expression) → Same (reads e) → value_of vs leaves e ≡ value_of ws others e
    value_same (literal t) h = refl
    value_same (occurrence i) h = h i (member_first i [])
    value_same (leaf i) h = same_leaves i
    value_same (binary op x y) h =
        ap (λ o. option_and_then (λ u. option_and_then (operated op u) (value_of vs leaves y)) o) (value_same x (left (reads x) (reads y) h))
        ∙ ap (λ o. option_and_then (λ u. option_and_then (operated op u) o) (value_of ws others x)) (value_same y (right (reads x) (reads y) h))
    value_same (choice c x y) h =
        let branches = right (reads c) (reads x ++ reads y) h in
        ap (λ o. option_and_then (λ u. option_and_then (λ t. chosen t (value_of vs leaves x) (value_of vs leaves y)) (bool_in u)) o) (value_same c (left (reads c) (reads x ++ reads y) h))
        ∙ ap (λ o. option_and_then (λ u. option_and_then (λ t. chosen t o (value_of vs leaves y)) (bool_in u)) (value_of ws others c)) (value_same x (left (reads x) (reads y) branches))
        ∙ ap (λ o. option_and_then (λ u. option_and_then (λ t. chosen t (value_of ws others x) o) (bool_in u)) (value_of ws others c)) (value_same y (right (reads x) (reads y) branches))
    value_same (make p args) h = ap (option_map (node p)) (values_same args h)

    pub values_same : (es : Expressions) → Same (reads_of_each es) → values_of vs leaves es ≡ values_of ws others es
    values_same no_more h = refl
    values_same (and_more e es) h =
        ap (λ o. option_and_then (λ u. option_map (more u) (values_of vs leaves es)) o) (value_same e (left (reads e) (reads_of_each es) h))
        ∙ ap (λ o. option_and_then (λ u. option_map (more u) o) (value_of ws others e)) (values_same es (right (reads e) (reads_of_each es) h))

pub range_slice : (a n i j : ℕ) → slice_get (range_with_len a n) i ≡ Some j → j ≡ a + i
range_slice a zero i j e = absurd (none-some j e)
range_slice a (suc n) zero j e = let s : a ≡ j = same_Some a j e in omega arith
range_slice a (suc n) (suc i) j e = let r = range_slice (a + 1) n i j e in omega (arith, r)

slice_same_over : (f g : ℕ → Tree) (o : Option ℕ) → ((j : ℕ) → o ≡ Some j → f j ≡ g j) → option_map f o ≡ option_map g o
slice_same_over f g None h = refl
slice_same_over f g (Some j) h = ap Some (h j refl)

-- what is read at one number of a list by numbers
pub slice_same : (f g : ℕ → Tree) (n i : ℕ) → f i ≡ g i → slice_get (map f (range_with_len 0 n)) i ≡ slice_get (map g (range_with_len 0 n)) i
slice_same f g n i e =
    slice_get-map f (range_with_len 0 n) i
    ∙ slice_same_over f g (slice_get (range_with_len 0 n) i)
    (λ j is. let r = range_slice 0 n i j is in let s : i ≡ j = omega (arith, r) in subst (λ x. f x ≡ g x) s e)
    ∙ sym (slice_get-map g (range_with_len 0 n) i)

found_over : {X : Type 0} (test : X → Bool) (y : X) (ys : List X) (x : X) (c : Bool) → test y ≡ c → cond c (Some y) (find test ys) ≡ Some x
    → (find test ys ≡ Some x → Contains ys x × (test x ≡ true)) → Contains (y ∷ ys) x × (test x ≡ true)
found_over test y ys x true is e rest = let s : y ≡ x = same_Some y x e in ((0, omega arith, s), ap test (sym s) ∙ is)
found_over test y ys x false is e rest = let r = rest e in (member_later y ys x r.0, r.1)

-- what is found is there, and passes
pub found_there : {X : Type 0} (test : X → Bool) (xs : List X) (x : X) → find test xs ≡ Some x → Contains xs x × (test x ≡ true)
found_there test [] x e = absurd (none-some x e)
found_there test (y ∷ ys) x e = found_over test y ys x (test y) refl e (found_there test ys x)

-- what an equation of an occurrence reads is among what its evaluation needs
pub read_needed : (equations : List Equation) (e : Equation) (o i : ℕ) → Contains equations e → (e.target == o) ≡ true → Contains (reads (expression e.expr)) i
    → Contains (firsts_of (flat_map equation_needs equations) o) (b.Value i)
read_needed equations e o i there target c =
    let one = member_map (λ j. need j e.target) (reads (expression e.expr)) i c in
    let all = member_flat equation_needs equations e (need i e.target) there one in
    member_map (λ (n : Need). b.Value n.first) (filter (λ (n : Need). n.then == o) (flat_map equation_needs equations)) (need i e.target)
    (member_filter (λ (n : Need). n.then == o) (flat_map equation_needs equations) (need i e.target) all target)

module _ (g : Grammar) (parts : List Partition) (visit : Call → Option Result) (p : Production) (kids : Trees) where
  module _ (m n : Held) where
    eval_over : (o : ℕ) → Agree (needs g.sorts parts p (a.Eval o)) m n → (found : Option Equation) → equation_of p o ≡ found
        → option_and_then (λ (e : Equation). value_of (values_in g p m) (leaf_in p.kids kids) (expression e.expr)) found
        ≡ option_and_then (λ (e : Equation). value_of (values_in g p n) (leaf_in p.kids kids) (expression e.expr)) found
    eval_over o agrees None is = refl
    eval_over o agrees (Some e) is =
        let there = found_there (λ (x : Equation). x.target == o) p.equations e is in
        value_same (values_in g p m) (values_in g p n) (leaf_in p.kids kids) (leaf_in p.kids kids) (λ i. refl) (expression e.expr)
        (λ i c.
        slice_same (λ j. value_in (m (b.Value j))) (λ j. value_in (n (b.Value j))) (length (occurrences_of g.sorts p)) i
        (ap value_in (agrees (b.Value i) (read_needed p.equations e o i there.0 there.1 c))))

    tree_over : (found : Option ℕ) (d : Tree) → Agree (option_map_or (λ x. b.Value x ∷ []) found []) m n
        → option_map_or (λ x. value_in (m (b.Value x))) found d ≡ option_map_or (λ x. value_in (n (b.Value x))) found d
    tree_over None d agrees = refl
    tree_over (Some x) d agrees = ap value_in (agrees (b.Value x) (member_first (b.Value x) []))

    module _ (s v : ℕ) (agrees : Agree (needs g.sorts parts p (a.Visit s v)) m n) where
      abbrev pub place : Place
      place = symbol_at g.sorts p s

      abbrev values : List Bound
      values = values_of_visit g.sorts parts true place.sort place.start v

      abbrev bounds : List Bound
      bounds = map (λ u. b.Kid s u v) (range_with_len 1 (v - 1))

      pub same_tree_at : tree_at g p kids m s ≡ tree_at g p kids n s
      same_tree_at = tree_over place.tree (slice_index_or (symbol_trees p.kids kids) s no_tree) (agree_left (tree_of place) (values ++ bounds) m n agrees)

      same_values : values_at m values ≡ values_at n values
      same_values =
          let held = agree_left values bounds m n (agree_right (tree_of place) (values ++ bounds) m n agrees) in
          map_agree (λ x. value_in (m x)) (λ x. value_in (n x)) values (λ x c. ap value_in (held x c))

      same_bounds : map (λ u. binding_in (m (b.Kid s u v))) (range_with_len 1 (v - 1)) ≡ map (λ u. binding_in (n (b.Kid s u v))) (range_with_len 1 (v - 1))
      same_bounds =
          let held = agree_right values bounds m n (agree_right (tree_of place) (values ++ bounds) m n agrees) in
          map_agree (λ u. binding_in (m (b.Kid s u v))) (λ u. binding_in (n (b.Kid s u v))) (range_with_len 1 (v - 1))
          (λ u c. ap binding_in (held (b.Kid s u v) (member_map (λ u. b.Kid s u v) (range_with_len 1 (v - 1)) u c)))

      pub same_call : call_of g parts p kids m s v ≡ call_of g parts p kids n s v
      same_call =
          ap (λ t. record { tree = t; visit = v; inherited = values_at m values; bindings = map (λ u. binding_in (m (b.Kid s u v))) (range_with_len 1 (v - 1)) }) same_tree_at
          ∙ ap (λ vs. record { tree = tree_at g p kids n s; visit = v; inherited = vs; bindings = map (λ u. binding_in (m (b.Kid s u v))) (range_with_len 1 (v - 1)) }) same_values
          ∙ ap (λ bs. record { tree = tree_at g p kids n s; visit = v; inherited = values_at n values; bindings = bs }) same_bounds

      same_visit : step g parts visit p kids m (a.Visit s v) ≡ step g parts visit p kids n (a.Visit s v)
      same_visit =
          ap (λ t. cond (is_of_kind g.prods t (k.Sort place.sort)) (option_map given_by (visit (call_of g parts p kids m s v))) None) same_tree_at
          ∙ ap (λ c. cond (is_of_kind g.prods (tree_at g p kids n s) (k.Sort place.sort)) (option_map given_by (visit c)) None) same_call

  pub step_reads : ReadsNeeds g.sorts parts p (step g parts visit p kids)
  step_reads m n (a.Eval o) agrees =
      ap (option_map (λ t. record { height = 0; made = value t ∷ [] })) (eval_over m n o agrees (equation_of p o) refl)
  step_reads m n (a.Visit s v) agrees = same_visit m n s v agrees
