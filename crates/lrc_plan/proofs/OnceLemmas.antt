-- No action of a greedy plan is done twice, and each is one of the production's actions.
use Rattle.std.proofs.Common.{◌≡◌, ℕ, zero, suc, ◌+◌, ◌-◌, ◌<◌, ◌≤◌, Bool, true, false, cond, IsTrue, List, [], ◌∷◌, ◌++◌, map, length, get_or, Contains, Option, Some, None, ◌⊎◌, inl, inr, refl, sym, ◌∙◌, subst, arith, append_assoc, append-nil}
use Rattle.std.specs.Prelude.{filter, flat_map, AllPairs}
use Rattle.std.specs.Option.{option_map, option_map_or}
use Rattle.std.specs.List.{range_with_len}
use Rattle.std.proofs.lemmas.Bool.{cases_order}
use Rattle.std.proofs.lemmas.Option.{none-some, same_Some}
use Rattle.std.proofs.lemmas.List.{get_or_default}
use Rattle.std.proofs.lemmas.List.Elements.{Contains-append_left, Contains-append_right, Contains-append_cases}
use Rattle.lrc_base.specs.declared.grammar.Sort.{Sort}
use Rattle.lrc_base.specs.declared.grammar.Production.{Production}
use Rattle.lrc_meaning.specs.Grammar.{occurrences_of}
use Rattle.lrc_order_meaning.specs.declared.Partition.{Partition}
use Rattle.lrc_order_meaning.specs.Needs.{symbols_of}
use Rattle.lrc_plan_meaning.specs.declared.Action.{Action}
use Rattle.lrc_plan_meaning.specs.declared.Action.TheVariants as a
use Rattle.lrc_plan_meaning.specs.Items.{visits_of, symbol_at}
use Rattle.lrc_plan_meaning.specs.Sequences.{is_defined, visits_at, actions_of, State, pick, is_ready, did, greedy, entered, segments_from, segments_of, segment}
use Rattle.lrc_order_meaning.proofs.MemberLemmas.{member_first, member_later, member_cases, no_member, member_of_map, member_of_flat, member_of_filter, member_of_range}
use Rattle.lrc_plan.proofs.DistinctLemmas.{Distinct, distinct_left, distinct_right, apart}

abbrev pub Within : {X : Type 0} → List X → List X → Type 0
Within {X} xs ys = (x : X) → Contains xs x → Contains ys x

pub join_distinct : {X : Type 0} (xs ys : List X) → Distinct xs → Distinct ys → ((x : X) → Contains xs x → ¬ Contains ys x) → Distinct (xs ++ ys)
join_distinct [] ys one other h = other
join_distinct (x ∷ xs) ys one other h = (
  λ c. elim (Contains-append_cases xs ys x c) [ inl l ↦ one.0 l | inr r ↦ h x (member_first x xs) r ],
  join_distinct xs ys one.1 other (λ y c. h y (member_later x xs y c)),
)

pub distinct_map : {X Y : Type 0} (f : X → Y) (xs : List X) → ((x y : X) → f x ≡ f y → x ≡ y) → Distinct xs → Distinct (map f xs)
distinct_map f [] inj h = tt
distinct_map f (x ∷ xs) inj h = (
  λ c. let r = member_of_map f xs (f x) c in h.0 (subst (Contains xs) (inj r.0 x r.2) r.1),
  distinct_map f xs inj h.1,
)

pub distinct_filter : {X : Type 0} (p : X → Bool) (xs : List X) → Distinct xs → Distinct (filter p xs)
distinct_filter p [] h = tt
distinct_filter p (x ∷ xs) h = over (p x) (distinct_filter p xs h.1)
  where
    over : (b : Bool) → Distinct (filter p xs) → Distinct (cond b (x ∷ filter p xs) (filter p xs))
    over true rest = (λ c. h.0 (member_of_filter p xs x c).0, rest)
    over false rest = rest

pub distinct_range : (c n : ℕ) → Distinct (range_with_len c n)
distinct_range c zero = tt
distinct_range c (suc n) = (λ d. let low = (member_of_range (c + 1) n c d).0 in absurd (omega (arith, low)), distinct_range (c + 1) n)

pub distinct_flat : {X Y : Type 0} (f : X → List Y) (xs : List X) → Distinct xs → ((x : X) → Contains xs x → Distinct (f x))
    → ((x y : X) → Contains xs x → Contains xs y → ¬ (x ≡ y) → (z : Y) → Contains (f x) z → ¬ Contains (f y) z) → Distinct (flat_map f xs)
distinct_flat f [] h each disjoint = tt
distinct_flat f (x ∷ xs) h each disjoint =
    join_distinct (f x) (flat_map f xs) (each x (member_first x xs))
    (distinct_flat f xs h.1 (λ y c. each y (member_later x xs y c)) (λ y z c d. disjoint y z (member_later x xs y c) (member_later x xs z d)))
    (λ z c d.
    let r = member_of_flat f xs z d in
    disjoint x r.0 (member_first x xs) (member_later x xs r.0 r.1) (λ e. h.0 (subst (Contains xs) (sym e) r.1)) z c r.2)

pub pairs_of_distinct : {X : Type 0} (xs : List X) → Distinct xs → AllPairs (λ x y. ¬ (x ≡ y)) xs
pairs_of_distinct [] h i j d less within = absurd (omega arith)
pairs_of_distinct (x ∷ xs) h zero zero d less within = absurd (omega arith)
pairs_of_distinct (x ∷ xs) h zero (suc j) d less within =
    λ e. let l : j < length xs = omega arith in h.0 (j, l, get_or_default xs j x d l ∙ sym e)
pairs_of_distinct (x ∷ xs) h (suc i) zero d less within = absurd (omega arith)
pairs_of_distinct (x ∷ xs) h (suc i) (suc j) d less within = pairs_of_distinct xs h.1 i j d (omega arith) (omega arith)

-- lists among distinct joined lists
at_list : {X : Type 0} (xss : List (List X)) (i : ℕ) (x : X) → Contains (get_or xss i []) x → Contains (flat_map (λ xs. xs) xss) x
at_list [] i x c = absurd (no_member x c)
at_list (xs ∷ xss) zero x c = Contains-append_left xs (flat_map (λ xs. xs) xss) x c
at_list (xs ∷ xss) (suc i) x c = Contains-append_right xs (flat_map (λ xs. xs) xss) x (at_list xss i x c)

distinct_list : {X : Type 0} (xss : List (List X)) (i : ℕ) → Distinct (flat_map (λ xs. xs) xss) → Distinct (get_or xss i [])
distinct_list [] i h = tt
distinct_list (xs ∷ xss) zero h = distinct_left xs (flat_map (λ xs. xs) xss) h
distinct_list (xs ∷ xss) (suc i) h = distinct_list xss i (distinct_right xs (flat_map (λ xs. xs) xss) h)

apart_lists : {X : Type 0} (xss : List (List X)) (i j : ℕ) → Distinct (flat_map (λ xs. xs) xss) → i < j → (x : X) → Contains (get_or xss i []) x → ¬ Contains (get_or xss j []) x
apart_lists [] i j h less x c d = no_member x c
apart_lists (xs ∷ xss) i zero h less x c d = absurd (omega arith)
apart_lists (xs ∷ xss) zero (suc j) h less x c d = apart xs (flat_map (λ xs. xs) xss) h x c (at_list xss j x d)
apart_lists (xs ∷ xss) (suc i) (suc j) h less x c d = apart_lists xss i j (distinct_right xs (flat_map (λ xs. xs) xss) h) (omega arith) x c d

pub same_eval : (x y : ℕ) → a.Eval x ≡ a.Eval y → x ≡ y
same_eval x y e = cc

pub same_visit : (s t v w : ℕ) → a.Visit s v ≡ a.Visit t w → (s ≡ t) × (v ≡ w)
same_visit s t v w e = (cc, cc)

pub no_eval_visit : (o s v : ℕ) → a.Eval o ≡ a.Visit s v → ⊥
no_eval_visit o s v e = absurd (cc)

-- what is picked stood in the list once, and the others stay
record Picks (xs : List Action) (x : Action) (rest : List Action) : Type 0 where
  within : Within rest xs
  member : Contains xs x
  once : Distinct xs → (¬ Contains rest x) × Distinct rest

pick_over : (test : Action → Bool) (y : Action) (ys : List Action) (found : Action × List Action) (b : Bool) → cond b (Some (y, ys)) (option_map (λ (f : Action × List Action). (f.0, y ∷ f.1)) (pick test ys)) ≡ Some found
    → ((f : Action × List Action) → pick test ys ≡ Some f → Picks ys f.0 f.1) → Picks (y ∷ ys) found.0 found.1
pick_over test y ys found true e below =
    let same : (y, ys) ≡ found = same_Some (y, ys) found e in
    subst (λ (f : Action × List Action). Picks (y ∷ ys) f.0 f.1) same (record { within = λ x c. member_later y ys x c; member = member_first y ys; once = λ h. h })
pick_over test y ys found false e below = inner (pick test ys) refl e
  where
    inner : (o : Option (Action × List Action)) → pick test ys ≡ o → option_map (λ (f : Action × List Action). (f.0, y ∷ f.1)) o ≡ Some found → Picks (y ∷ ys) found.0 found.1
    inner None is e = absurd (none-some found e)
    inner (Some f) is e =
        let p = below f is in
        let same : (f.0, y ∷ f.1) ≡ found = same_Some (f.0, y ∷ f.1) found e in
        subst (λ (g : Action × List Action). Picks (y ∷ ys) g.0 g.1) same
        (record {
          within = λ x c. elim (member_cases y f.1 x c) [ inl s ↦ (0, omega arith, s) | inr later ↦ member_later y ys x (p.within x later) ];
          member = member_later y ys f.0 p.member;
          once = λ h.
              let o = p.once h.1 in (
                λ c. elim (member_cases y f.1 f.0 c) [ inl s ↦ h.0 (subst (Contains ys) (sym s) p.member) | inr later ↦ o.0 later ],
                (λ c. h.0 (p.within y c), o.1),
              );
        })

picks : (test : Action → Bool) (xs : List Action) (found : Action × List Action) → pick test xs ≡ Some found → Picks xs found.0 found.1
picks test [] found e = absurd (none-some found e)
picks test (y ∷ ys) found e = pick_over test y ys found (test y) e (λ f is. picks test ys f is)

module _ (sorts : List Sort) (parts : List Partition) (p : Production) where
  record Keeps (s t : State) : Type 0 where
    new : List Action
    done : t.done ≡ s.done ++ new
    within : Within (new ++ t.left) s.left
    once : Distinct s.left → Distinct (new ++ t.left)

  stays : (s : State) → Keeps s s
  stays s = record { new = []; done = sym (append-nil s.done); within = λ x c. c; once = λ h. h }

  after_pick : (s t : State) (found : Action × List Action) → Picks s.left found.0 found.1 → Keeps (did sorts parts p s found) t → Keeps s t
  after_pick s t found pk rest = record {
    new = found.0 ∷ rest.new;
    done = rest.done ∙ append_assoc s.done (found.0 ∷ []) rest.new;
    within = λ x c.
        elim (member_cases found.0 (rest.new ++ t.left) x c) [
          | inl e ↦ subst (Contains s.left) e pk.member
          | inr later ↦ pk.within x (rest.within x later)
        ];
    once = λ h. let o = pk.once h in (λ c. o.0 (rest.within found.0 c), rest.once o.1);
  }

  greedy_keeps : (n : ℕ) (s : State) → Keeps s (greedy sorts parts p n s)
  greedy_keeps zero s = stays s
  greedy_keeps (suc n) s = over (pick (is_ready sorts parts p s.available) s.left) refl (λ t. greedy_keeps n t)
    where
      over : (o : Option (Action × List Action)) → pick (is_ready sorts parts p s.available) s.left ≡ o → ((t : State) → Keeps t (greedy sorts parts p n t))
          → Keeps s (option_map_or (λ found. greedy sorts parts p n (did sorts parts p s found)) o s)
      over None is below = stays s
      over (Some found) is below =
          after_pick s (greedy sorts parts p n (did sorts parts p s found)) found (picks (is_ready sorts parts p s.available) s.left found is) (below (did sorts parts p s found))

  -- the segments have each action once, of those that are left
  segments_once : (n v : ℕ) (s : State) → Distinct s.left
      → Distinct (flat_map (λ xs. xs) (segments_from sorts parts p n v s)) × Within (flat_map (λ xs. xs) (segments_from sorts parts p n v s)) s.left
  segments_once zero v s h = (tt, λ x c. absurd (no_member x c))
  segments_once (suc n) v s h =
      let start = entered sorts parts p v s in
      let after = greedy sorts parts p (length s.left) start in
      let kept = greedy_keeps (length s.left) start in
      let once = kept.once h in
      let rest = segments_once n (v + 1) after (distinct_right kept.new after.left once) in
      let later = flat_map (λ xs. xs) (segments_from sorts parts p n (v + 1) after) in (
        subst (λ d. Distinct (d ++ later)) (sym kept.done)
            (join_distinct kept.new later (distinct_left kept.new after.left once) rest.0 (λ x c d. apart kept.new after.left once x c (rest.1 x d))),
        λ x c.
            elim (Contains-append_cases after.done later x c) [
              | inl l ↦ kept.within x (Contains-append_left kept.new after.left x (subst (λ d. Contains d x) kept.done l))
              | inr r ↦ kept.within x (Contains-append_right kept.new after.left x (rest.1 x r))
            ],
      )

  -- the actions of a production are distinct
  evaluation_of : (x : Action) → Contains (map a.Eval (filter (is_defined (occurrences_of sorts p)) (range_with_len 0 (length (occurrences_of sorts p))))) x
      → (o : ℕ) × (x ≡ a.Eval o) × IsTrue (is_defined (occurrences_of sorts p) o)
  evaluation_of x c =
      let r = member_of_map a.Eval (filter (is_defined (occurrences_of sorts p)) (range_with_len 0 (length (occurrences_of sorts p)))) x c in
      (r.0, sym r.2, (member_of_filter (is_defined (occurrences_of sorts p)) (range_with_len 0 (length (occurrences_of sorts p))) r.0 r.1).1)

  visit_in : (s : ℕ) (x : Action) → Contains (visits_at sorts parts p s) x → (v : ℕ) × (x ≡ a.Visit s v) × (1 ≤ v) × (v ≤ visits_of parts (symbol_at sorts p s).sort)
  visit_in s x c =
      let r = member_of_map (a.Visit s) (range_with_len 1 (visits_of parts (symbol_at sorts p s).sort)) x c in
      let b = member_of_range 1 (visits_of parts (symbol_at sorts p s).sort) r.0 r.1 in
      let high = b.1 in
      (r.0, sym r.2, b.0, omega (arith, high))

  -- an action is the evaluation of an occurrence that is to be defined, or a visit of a symbol
  pub record IsVisitOf (x : Action) : Type 0 where
    pub symbol : ℕ
    pub visit : ℕ
    pub is : x ≡ a.Visit symbol visit
    pub there : symbol < length (symbols_of sorts p)
    pub first : 1 ≤ visit
    pub last : visit ≤ visits_of parts (symbol_at sorts p symbol).sort

  pub action_cases : (x : Action) → Contains (actions_of sorts parts p) x → ((o : ℕ) × (x ≡ a.Eval o) × IsTrue (is_defined (occurrences_of sorts p) o)) ⊎ IsVisitOf x
  action_cases x c =
      let evals = map a.Eval (filter (is_defined (occurrences_of sorts p)) (range_with_len 0 (length (occurrences_of sorts p)))) in
      elim (Contains-append_cases evals (flat_map (visits_at sorts parts p) (range_with_len 0 (length (symbols_of sorts p)))) x c) [
        | inl e ↦ inl (evaluation_of x e)
        | inr w ↦
            let r = member_of_flat (visits_at sorts parts p) (range_with_len 0 (length (symbols_of sorts p))) x w in
            let v = visit_in r.0 x r.2 in
            let b = member_of_range 0 (length (symbols_of sorts p)) r.0 r.1 in
            let high = b.1 in
            inr (record { symbol = r.0; visit = v.0; is = v.1; there = omega (arith, high); first = v.2; last = v.3 })
      ]

  actions_distinct : Distinct (actions_of sorts parts p)
  actions_distinct =
      let occurrences = occurrences_of sorts p in
      let evals = map a.Eval (filter (is_defined occurrences) (range_with_len 0 (length occurrences))) in
      let all_visits = flat_map (visits_at sorts parts p) (range_with_len 0 (length (symbols_of sorts p))) in
      join_distinct evals all_visits
      (distinct_map a.Eval (filter (is_defined occurrences) (range_with_len 0 (length occurrences))) (λ x y e. same_eval x y e) (distinct_filter (is_defined occurrences) (range_with_len 0 (length occurrences)) (distinct_range 0 (length occurrences))))
      (distinct_flat (visits_at sorts parts p) (range_with_len 0 (length (symbols_of sorts p))) (distinct_range 0 (length (symbols_of sorts p)))
      (λ s c. distinct_map (a.Visit s) (range_with_len 1 (visits_of parts (symbol_at sorts p s).sort)) (λ x y e. (same_visit s s x y e).1) (distinct_range 1 (visits_of parts (symbol_at sorts p s).sort)))
      (λ s t c d differ z e f. let one = visit_in s z e in let two = visit_in t z f in differ (same_visit s t one.0 two.0 (sym one.1 ∙ two.1)).0))
      (λ x c d.
      let one = evaluation_of x c in
      let r = member_of_flat (visits_at sorts parts p) (range_with_len 0 (length (symbols_of sorts p))) x d in
      let two = visit_in r.0 x r.2 in
      no_eval_visit one.0 r.0 two.0 (sym one.1 ∙ two.1))

  all_once : Distinct (flat_map (λ xs. xs) (segments_of sorts parts p)) × Within (flat_map (λ xs. xs) (segments_of sorts parts p)) (actions_of sorts parts p)
  all_once = segments_once (visits_of parts p.left) 1 (record { done = []; left = actions_of sorts parts p; available = [] }) actions_distinct

  -- no segment has an action twice, no two share one, and each is one of the production's
  pub segment_once : (v : ℕ) → Distinct (segment sorts parts p v)
  segment_once v = distinct_list (segments_of sorts parts p) (v - 1) all_once.0

  pub segments_apart : (u v : ℕ) → 1 ≤ u → u < v → (x : Action) → Contains (segment sorts parts p u) x → ¬ Contains (segment sorts parts p v) x
  segments_apart u v low less x c d = apart_lists (segments_of sorts parts p) (u - 1) (v - 1) all_once.0 (omega arith) x c d

  pub segment_actions : (v : ℕ) (x : Action) → Contains (segment sorts parts p v) x → Contains (actions_of sorts parts p) x
  segment_actions v x c = all_once.1 x (at_list (segments_of sorts parts p) (v - 1) x c)

  -- Each action of a greedy plan is made once.
  pub plan_once : AllPairs (λ x y. ¬ (x ≡ y)) (flat_map (segment sorts parts p) (range_with_len 1 (visits_of parts p.left)))
  plan_once =
      let visits = range_with_len 1 (visits_of parts p.left) in
      pairs_of_distinct (flat_map (segment sorts parts p) visits)
      (distinct_flat (segment sorts parts p) visits (distinct_range 1 (visits_of parts p.left)) (λ v c. segment_once v)
      (λ u v c d differ x e f.
      let bu = member_of_range 1 (visits_of parts p.left) u c in
      let bv = member_of_range 1 (visits_of parts p.left) v d in
      elim (cases_order u v) [
        | inl same ↦ differ same
        | inr other ↦ elim other [ inl below ↦ segments_apart u v bu.0 below x e f | inr above ↦ segments_apart v u bv.0 above x f e ]
      ]))
