-- What actions and walks meet, by what is held.
use Rattle.std.proofs.Common.{◌≡◌, ℕ, max, cond, List, [], ◌∷◌, ◌++◌, map, length, Contains, Option, Some, None, slice_get, refl, sym, ap, ◌∙◌, subst, arith}
use Rattle.std.specs.Prelude.{flat_map, ◌==◌}
use Rattle.std.specs.Option.{option_map_or, option_and_then}
use Rattle.std.proofs.lemmas.Option.{same_Some}
use Rattle.std.proofs.lemmas.List.Elements.{Contains-append_left, Contains-append_right}
use Rattle.lrc_base.specs.declared.grammar.Kind.TheVariants as k
use Rattle.lrc_base.specs.declared.grammar.Equation.{Equation}
use Rattle.lrc_base.specs.declared.grammar.Sort.{Sort}
use Rattle.lrc_base.specs.declared.grammar.Production.{Production}
use Rattle.lrc_meaning.specs.Tree.{Tree, Trees}
use Rattle.lrc_meaning.specs.Expression.{Expression, literal, occurrence, leaf, binary, choice, make, Expressions, no_more, and_more, expression, bool_in, value_of}
use Rattle.lrc_meaning.specs.Grammar.{Grammar, occurrences_of}
use Rattle.lrc_order_meaning.specs.declared.Partition.{Partition}
use Rattle.lrc_order_meaning.specs.Needs.{reads, reads_of_each}
use Rattle.lrc_plan_meaning.specs.declared.Action.{Action}
use Rattle.lrc_plan_meaning.specs.declared.Action.TheVariants as a
use Rattle.lrc_plan_meaning.specs.declared.Bound.{Bound}
use Rattle.lrc_plan_meaning.specs.declared.Bound.TheVariants as b
use Rattle.lrc_plan_meaning.specs.Items.{symbol_at, needs, makes}
use Rattle.lrc_plan_meaning.specs.Sound.{AreReady}
use Rattle.lrc_visit_meaning.specs.Values.{value_in, Call, Result}
use Rattle.lrc_visit_meaning.specs.Visits.{Held, Given, Walked, walked_on, holding, walk, values_in, leaf_in, equation_of, tree_at, call_of, is_of_kind}
use Rattle.lrc_visit_meaning.specs.Demand.{Met, built, built_in, built_in_each, walk_met, equation_met, action_met}
use Rattle.lrc_order_meaning.proofs.MemberLemmas.{member_first, member_later}
use Rattle.lrc_laws.proofs.HeldLemmas.{Agree, agree_part, agree_held, ReadsNeeds, AreMade}
use Rattle.lrc_laws.proofs.ReadLemmas.{value_same, slice_same, found_there, read_needed, same_tree_at, same_call}

module _ (vs ws : List Tree) (leaves others : ℕ → Option Tree) (same_leaves : (i : ℕ) → leaves i ≡ others i) where
  abbrev Same : List ℕ → Type 0
  Same is = (i : ℕ) → Contains is i → slice_get vs i ≡ slice_get ws i

  left : (xs ys : List ℕ) → Same (xs ++ ys) → Same xs
  left xs ys h i c = h i (Contains-append_left xs ys i c)

  right : (xs ys : List ℕ) → Same (xs ++ ys) → Same ys
  right xs ys h i c = h i (Contains-append_right xs ys i c)

  mutual
    -- an expression makes the same where what it reads is the same
    pub built_same : (e : Expression) → Same (reads e) → built_in vs leaves e ≡ built_in ws others e
    built_same (literal t) h = refl
    built_same (occurrence i) h = refl
    built_same (leaf i) h = refl
    built_same (binary op x y) h =
        ap (λ ts. ts ++ built_in vs leaves y) (built_same x (left (reads x) (reads y) h)) ∙ ap (λ ts. built_in ws others x ++ ts) (built_same y (right (reads x) (reads y) h))
    built_same (choice c x y) h =
        let branches = right (reads c) (reads x ++ reads y) h in
        let test = left (reads c) (reads x ++ reads y) h in
        ap (λ ts. ts ++ option_map_or (λ taken. cond taken (built_in vs leaves x) (built_in vs leaves y)) (option_and_then bool_in (value_of vs leaves c)) []) (built_same c test)
        ∙ ap (λ ts. built_in ws others c ++ option_map_or (λ taken. cond taken ts (built_in vs leaves y)) (option_and_then bool_in (value_of vs leaves c)) []) (built_same x (left (reads x) (reads y) branches))
        ∙ ap (λ ts. built_in ws others c ++ option_map_or (λ taken. cond taken (built_in ws others x) ts) (option_and_then bool_in (value_of vs leaves c)) []) (built_same y (right (reads x) (reads y) branches))
        ∙ ap (λ o. built_in ws others c ++ option_map_or (λ taken. cond taken (built_in ws others x) (built_in ws others y)) (option_and_then bool_in o) []) (value_same vs ws leaves others same_leaves c test)
    built_same (make p args) h =
        ap (λ ts. ts ++ option_map_or (λ t. t ∷ []) (value_of vs leaves (make p args)) []) (each_same args h)
        ∙ ap (λ o. built_in_each ws others args ++ option_map_or (λ t. t ∷ []) o []) (value_same vs ws leaves others same_leaves (make p args) h)

    pub each_same : (es : Expressions) → Same (reads_of_each es) → built_in_each vs leaves es ≡ built_in_each ws others es
    each_same no_more h = refl
    each_same (and_more e es) h =
        ap (λ ts. ts ++ built_in_each vs leaves es) (built_same e (left (reads e) (reads_of_each es) h)) ∙ ap (λ ts. built_in ws others e ++ ts) (each_same es (right (reads e) (reads_of_each es) h))

module _ (g : Grammar) (parts : List Partition) (visit : Call → Option Result) (met : Call → List Met) (p : Production) (kids : Trees) (m n : Held) where
  eval_over : (o : ℕ) → Agree (needs g.sorts parts p (a.Eval o)) m n → (found : Option Equation) → equation_of p o ≡ found
      → option_map_or (equation_met g (values_in g p m) (leaf_in p.kids kids)) found [] ≡ option_map_or (equation_met g (values_in g p n) (leaf_in p.kids kids)) found []
  eval_over o agrees None is = refl
  eval_over o agrees (Some e) is =
      let there = found_there (λ (x : Equation). x.target == o) p.equations e is in
      ap (map built)
      (built_same (values_in g p m) (values_in g p n) (leaf_in p.kids kids) (leaf_in p.kids kids) (λ i. refl) (expression e.expr)
      (λ i c.
      slice_same (λ j. value_in (m (b.Value j))) (λ j. value_in (n (b.Value j))) (length (occurrences_of g.sorts p)) i
      (ap value_in (agrees (b.Value i) (read_needed p.equations e o i there.0 there.1 c)))))

  -- what an action meets depends on what it needs alone
  pub met_reads : (x : Action) → Agree (needs g.sorts parts p x) m n → action_met g parts met p kids m x ≡ action_met g parts met p kids n x
  met_reads (a.Eval o) agrees = eval_over o agrees (equation_of p o) refl
  met_reads (a.Visit s v) agrees =
      ap (λ t. cond (is_of_kind g.prods t (k.Sort (symbol_at g.sorts p s).sort)) (met (call_of g parts p kids m s v)) []) (same_tree_at g parts visit p kids m n s v agrees)
      ∙ ap (λ c. cond (is_of_kind g.prods (tree_at g p kids n s) (k.Sort (symbol_at g.sorts p s).sort)) (met c) []) (same_call g parts visit p kids m n s v agrees)

-- the greatest of these heights
abbrev pub greatest : (Action → ℕ) → List Action → ℕ
greatest height [] = 0
greatest height (x ∷ xs) = max (height x) (greatest height xs)

max_nothing : (m : ℕ) → m ≡ max m 0
max_nothing m = omega arith

max_turn : (m n o : ℕ) → max (max m n) o ≡ max m (max n o)
max_turn m n o = omega arith

module _ (sorts : List Sort) (parts : List Partition) (p : Production) (step : Held → Action → Option Given) (met : Held → Action → List Met)
    (reads : ReadsNeeds sorts parts p step) (meets : (m n : Held) (x : Action) → Agree (needs sorts parts p x) m n → met m x ≡ met n x) (height : Action → ℕ) where
  -- where all is made on n, a walk meets what its actions meet there, and is as high as the highest of them
  pub walk_meets : (xs : List Action) (w v : Walked) (available : List Bound) (n : Held) → walk (makes sorts parts p) step xs w ≡ Some v → Agree available w.held n → AreReady sorts parts p available xs
      → (made : AreMade sorts parts p step n xs) → ((x : Action) (c : Contains xs x) → (made x c).given.height ≡ height x)
      → (walk_met (makes sorts parts p) step met xs w ≡ flat_map (met n) xs) × (v.height ≡ max w.height (greatest height xs))
  walk_meets [] w v available n e agrees ready made high = (refl, ap (λ (u : Walked). u.height) (sym (same_Some w v e)) ∙ max_nothing w.height)
  walk_meets (x ∷ xs) w v available n e agrees ready made high =
      let m = made x (member_first x xs) in
      let needed = agree_part (needs sorts parts p x) available w.held n ready.0 agrees in
      let same : step w.held x ≡ Some m.given = reads w.held n x needed ∙ m.is_given in
      let next = walked_on (makes sorts parts p) x w m.given in
      let held : Agree (available ++ makes sorts parts p x) next.held n =
      subst (λ ds. Agree (available ++ makes sorts parts p x) (holding (makes sorts parts p x) ds w.held) n) (sym m.made)
      (agree_held available (makes sorts parts p x) w.held n agrees) in
      let behind : walk (makes sorts parts p) step xs next ≡ Some v =
      sym (ap (option_and_then (λ r. walk (makes sorts parts p) step xs (walked_on (makes sorts parts p) x w r))) same) ∙ e in
      let rest = walk_meets xs next v (available ++ makes sorts parts p x) n behind held ready.1 (λ y c. made y (member_later x xs y c)) (λ y c. high y (member_later x xs y c)) in (
        ap (λ ms. ms ++ option_map_or (λ (r : Given). walk_met (makes sorts parts p) step met xs (walked_on (makes sorts parts p) x w r)) (step w.held x) []) (meets w.held n x needed)
            ∙ ap (λ o. met n x ++ option_map_or (λ (r : Given). walk_met (makes sorts parts p) step met xs (walked_on (makes sorts parts p) x w r)) o []) same
            ∙ ap (λ ms. met n x ++ ms) rest.0,
        rest.1 ∙ max_turn w.height m.given.height (greatest height xs) ∙ ap (λ h. max w.height (max h (greatest height xs))) (high x (member_first x xs)),
      )
