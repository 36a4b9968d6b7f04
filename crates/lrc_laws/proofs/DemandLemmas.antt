-- Demand read off an attribution is the reach of its visits.
use Rattle.std.proofs.Common.{◌≡◌, ℕ, zero, suc, ◌≤◌, max, IsTrue, cond, List, [], ◌∷◌, ◌++◌, length, Contains, Option, Some, None, ◌⊎◌, inl, inr, slice_get, refl, sym, ap, ◌∙◌, subst, arith}
use Rattle.std.specs.Prelude.{flat_map, slice_index_or}
use Rattle.std.specs.Option.{option_map, option_map_or, option_and_then}
use Rattle.std.proofs.lemmas.Option.{same_Some}
use Rattle.lrc_base.specs.declared.grammar.Kind.TheVariants as k
use Rattle.lrc_base.specs.declared.grammar.Production.{Production}
use Rattle.lrc_meaning.specs.Tree.{Tree, node, is_left}
use Rattle.lrc_meaning.specs.Grammar.{Grammar, attrs_of_sort, is_well_formed}
use Rattle.lrc_meaning.specs.Attribution.{Decorated, at_node, Parts, bare, bare_kids, production_of, occurrence_values, IsNodeRight, IsRight, AreRight, height, highest}
use Rattle.lrc_meaning.proofs.KindLemmas.{left_kind}
use Rattle.lrc_order_meaning.specs.declared.Partition.{Partition}
use Rattle.lrc_plan_meaning.specs.declared.Action.{Action}
use Rattle.lrc_plan_meaning.specs.declared.Action.TheVariants as a
use Rattle.lrc_plan_meaning.specs.Items.{symbol_at, makes, visits_of}
use Rattle.lrc_plan_meaning.specs.Sequences.{segment}
use Rattle.lrc_plan_meaning.specs.Sound.{IsDone, IsSound, handed_in}
use Rattle.lrc_visit_meaning.specs.Values.{value, Call, Result}
use Rattle.lrc_visit_meaning.specs.Visits.{Held, Given, Walked, walk, evaluated, tree_at, call_of, given_by, is_of_kind, held_at_start, result_of, step, visit_of_node, one_visit, plain_visit}
use Rattle.lrc_visit_meaning.specs.Shown.{no_height, highest_visit, answer, visit_height, heights_of}
use Rattle.lrc_visit_meaning.specs.Demand.{called, answered, walk_met, action_met, node_met, reach}
use Rattle.lrc_laws.proofs.FuelLemmas.{mapped, where_true, max_left, max_right}
use Rattle.lrc_laws.proofs.HeldLemmas.{Agree, IsMade}
use Rattle.lrc_laws.proofs.ReadLemmas.{step_reads}
use Rattle.lrc_laws.proofs.NodeLemmas.{asked, Serves, own_face, symbol_face, AllMade, AreAlike, same_asked, start_agrees, call_asks}
use Rattle.lrc_laws.proofs.PartLemmas.{symbols_in, symbols_right, symbols_low}
use Rattle.lrc_laws.proofs.DecoratedLemmas.{face_of, node_held, held_proper, IsSymbol, symbol_is, node_made, own_alike, right_serves, serves, AreSound, sort_same, bounds_of}
use Rattle.lrc_laws.proofs.BackLemmas.{Served, served_visit}
use Rattle.lrc_laws.proofs.MetLemmas.{met_reads, greatest, walk_meets}

max_zero : (n : ℕ) → max 0 n ≡ n
max_zero n = omega arith

action_height : List (ℕ → ℕ) → Action → ℕ
action_height hs (a.Eval o) = 0
action_height hs (a.Visit s v) = slice_index_or hs s no_height v

greatest_visit : (hs : List (ℕ → ℕ)) (xs : List Action) → greatest (action_height hs) xs ≡ highest_visit hs xs
unfolding action_height
greatest_visit hs [] = refl
greatest_visit hs (a.Eval o ∷ xs) = max_zero (greatest (action_height hs) xs) ∙ greatest_visit hs xs
greatest_visit hs (a.Visit s v ∷ xs) = ap (max (slice_index_or hs s no_height v)) (greatest_visit hs xs)

module _ (g : Grammar) (parts : List Partition) (formed : IsTrue (is_well_formed g)) (sound : AreSound g parts) where
  -- what is known of the visits of decorated trees below this height
  abbrev pub Exact : ℕ → Type 0
  Exact fuel = (d : Decorated) (s : ℕ) → IsRight g d → height d ≤ fuel → IsTrue (is_left g.prods (production_of d) (k.Sort s)) → (v : ℕ) → 1 ≤ v → v ≤ visits_of parts s
      → plain_visit g parts fuel (asked g parts (face_of g parts d) s (bare d) v) ≡ Some (answer g parts (face_of g parts d) s v (visit_height g parts d v))

  module _ (fuel : ℕ) (exact : Exact fuel) (n : ℕ) (q : Production) (own : List Tree) (kids extras : Parts) (there : slice_get g.prods n ≡ Some q)
      (right : IsNodeRight g q own kids extras) (kids_right : AreRight g kids) (extras_right : AreRight g extras) (kids_low : highest kids ≤ fuel) (extras_low : highest extras ≤ fuel) where
    abbrev visit : Call → Option Result
    visit = plain_visit g parts fuel

    abbrev whole : List Tree
    whole = occurrence_values own kids extras

    abbrev held : Held
    held = node_held g parts own kids extras

    abbrev tree : Decorated
    tree = at_node n own kids extras

    abbrev heights : List (ℕ → ℕ)
    heights = heights_of g parts kids ++ heights_of g parts extras

    abbrev plan : IsSound g.sorts parts q
    plan = sound n q there

    pub among_right : (d : Decorated) → Contains (symbols_in kids) d ⊎ Contains (symbols_in extras) d → IsRight g d × (height d ≤ fuel)
    among_right d (inl c) = let l = symbols_low kids d c in (symbols_right g kids kids_right d c, omega (arith, l, kids_low))
    among_right d (inr c) = let l = symbols_low extras d c in (symbols_right g extras extras_right d c, omega (arith, l, extras_low))

    served : (d : Decorated) (s : ℕ) → Contains (symbols_in kids) d ⊎ Contains (symbols_in extras) d → IsTrue (is_left g.prods (production_of d) (k.Sort s)) → Serves g parts visit (face_of g parts d) s (bare d)
    served d s among left = let r = among_right d among in serves g parts formed sound fuel d s r.0 r.1 left

    made : AllMade g parts visit q (bare_kids kids) held
    made = node_made g parts q own kids extras right kids_right extras_right visit n there formed plan served

    abbrev Symbol : ℕ → Decorated → Type 0
    Symbol s d = IsSymbol g parts q own kids extras right kids_right extras_right s d

    -- the call of a symbol's visit is that of its decorated tree
    pub call_is : (s v : ℕ) (d : Decorated) → Symbol s d → call_of g parts q (bare_kids kids) held s v ≡ asked g parts (face_of g parts d) (symbol_at g.sorts q s).sort (bare d) v
    call_is s v d is =
        let place = symbol_at g.sorts q s in
        let alike : AreAlike (length (attrs_of_sort g.sorts place.sort)) (symbol_face g parts q held s) (face_of g parts d) = record {
          attr = λ x less. is.attrs x less;
          bound = λ u w. ap (λ f. f u w) is.bound;
        } in
        call_asks g parts visit q (bare_kids kids) held s v
        ∙ ap (λ t. asked g parts (symbol_face g parts q held s) place.sort t v) is.tree
        ∙ same_asked g parts place.sort (symbol_face g parts q held s) (face_of g parts d) alike (bare d) v

    -- a made action is as high as its visit
    made_high : (x : Action) → IsDone g.sorts parts q x → (h : IsMade g.sorts parts q (step g parts visit q (bare_kids kids)) held x) → h.given.height ≡ action_height heights x
    unfolding action_height
    made_high (a.Eval o) done h =
        let found = mapped (λ t. record { height = 0; made = value t ∷ [] }) (evaluated g q (bare_kids kids) held o) h.given h.is_given in
        ap (λ (r : Given). r.height) (sym found.2)
    made_high (a.Visit s v) done h =
        let place = symbol_at g.sorts q s in
        let at = (plan.complete.visits s v).1 done in
        let symbol = symbol_is g parts q own kids extras right kids_right extras_right s at.symbol in
        let d = symbol.0 in
        let good = among_right d symbol.1.among in
        let inside = where_true (is_of_kind g.prods (tree_at g q (bare_kids kids) held s) (k.Sort place.sort)) _ h.given h.is_given in
        let found = mapped given_by (visit (call_of g parts q (bare_kids kids) held s v)) h.given inside.1 in
        let e = exact d place.sort good.0 good.1 symbol.1.of_sort v at.first at.last in
        let same : found.0 ≡ answer g parts (face_of g parts d) place.sort v (visit_height g parts d v) =
        same_Some _ _ (sym found.1 ∙ ap visit (call_is s v d symbol.1) ∙ e) in
        ap (λ (r : Given). r.height) (sym found.2) ∙ ap (λ (r : Result). r.height) same ∙ ap (λ f. f v) (sym symbol.1.height)

    module _ (v : ℕ) (first : 1 ≤ v) (last : v ≤ visits_of parts q.left) where
      abbrev root : Call
      root = asked g parts (face_of g parts tree) q.left (bare tree) v

      abbrev start : Walked
      start = record { height = 0; held = held_at_start g parts q root }

      abbrev seg : List Action
      seg = segment g.sorts parts q v

      alike_own : AreAlike (length (attrs_of_sort g.sorts q.left)) (own_face g parts q held) (face_of g parts tree)
      alike_own = own_alike g parts q own kids extras right kids_right extras_right visit n there formed plan served

      start_held : Agree (handed_in g.sorts parts q v) start.held held
      start_held =
          subst (λ c. Agree (handed_in g.sorts parts q v) (held_at_start g parts q c) held)
          (same_asked g parts q.left (own_face g parts q held) (face_of g parts tree) alike_own (node n (bare_kids kids)) v)
          (start_agrees g parts visit q (bare_kids kids) held (held_proper whole (bounds_of g parts kids ++ bounds_of g parts extras)) n v)

      here : Served g parts visit (face_of g parts tree) q n (bare_kids kids) v
      here =
          served_visit g parts visit (face_of g parts tree) q n (bare_kids kids) v there
          (right_serves g parts q own kids extras right kids_right extras_right visit n there formed plan served v first last)

      met_here : (walk_met (makes g.sorts parts q) (step g parts visit q (bare_kids kids)) (action_met g parts (reach g parts fuel) q (bare_kids kids)) seg start
          ≡ flat_map (action_met g parts (reach g parts fuel) q (bare_kids kids) held) seg)
          × (here.walked.height ≡ max 0 (greatest (action_height heights) seg))
      met_here =
          walk_meets g.sorts parts q (step g parts visit q (bare_kids kids)) (action_met g parts (reach g parts fuel) q (bare_kids kids)) (step_reads g parts visit q (bare_kids kids))
          (λ l r x agrees. met_reads g parts visit (reach g parts fuel) q (bare_kids kids) l r x agrees) (action_height heights) seg start here.walked (handed_in g.sorts parts q v) held
          here.is_walked start_held (plan.runs.ready v first last) (λ x c. made x (v, first, last, c)) (λ x c. made_high x (v, first, last, c) (made x (v, first, last, c)))

      high_here : suc here.walked.height ≡ visit_height g parts tree v
      high_here =
          ap suc (met_here.1 ∙ max_zero (greatest (action_height heights) seg) ∙ greatest_visit heights seg
          ∙ ap (λ o. highest_visit heights (option_map_or (λ p. segment g.sorts parts p v) o [])) (sym there))

      -- a visit answers what the decorated tree shows
      pub visit_exact : one_visit g parts visit root ≡ Some (answer g parts (face_of g parts tree) q.left v (visit_height g parts tree v))
      visit_exact =
          ap (option_and_then (λ p. visit_of_node g parts visit p (bare_kids kids) root)) there
          ∙ ap (λ c. cond c (option_map (result_of g parts q v) (walk (makes g.sorts parts q) (step g parts visit q (bare_kids kids)) seg start)) None) here.visited
          ∙ ap (option_map (result_of g parts q v)) here.is_walked
          ∙ ap Some
          (ap (λ h. record { height = h; synthesised = (result_of g parts q v here.walked).synthesised; bindings = (result_of g parts q v here.walked).bindings }) high_here
          ∙ ap (λ vs. record { height = visit_height g parts tree v; synthesised = vs; bindings = (result_of g parts q v here.walked).bindings }) here.answers.synthesised
          ∙ ap (λ bs. record { height = visit_height g parts tree v; synthesised = (answer g parts (face_of g parts tree) q.left v 0).synthesised; bindings = bs }) here.answers.bindings)

      -- and its reach is its call, what its actions meet, and its result
      pub reach_is : reach g parts (suc fuel) root
          ≡ called root ∷ (flat_map (action_met g parts (reach g parts fuel) q (bare_kids kids) held) seg ++ answered (answer g parts (face_of g parts tree) q.left v (visit_height g parts tree v)) ∷ [])
      unfolding reach plain_visit
      reach_is =
          ap (λ ms. called root ∷ (ms ++ option_map_or (λ r. answered r ∷ []) (one_visit g parts visit root) []))
          (ap (λ o. option_map_or (λ p. node_met g parts visit (reach g parts fuel) p (bare_kids kids) root) o []) there
          ∙ ap (λ c. cond c (walk_met (makes g.sorts parts q) (step g parts visit q (bare_kids kids)) (action_met g parts (reach g parts fuel) q (bare_kids kids)) seg start) []) here.visited
          ∙ met_here.0)
          ∙ ap (λ o. called root ∷ (flat_map (action_met g parts (reach g parts fuel) q (bare_kids kids) held) seg ++ option_map_or (λ r. answered r ∷ []) o [])) visit_exact

  -- the visits of an attribution answer what it shows
  pub all_exact : (fuel : ℕ) → Exact fuel
  unfolding plain_visit
  all_exact zero (at_node n own kids extras) s r low left v first last = absurd (omega arith)
  all_exact (suc fuel) (at_node n own kids extras) s r low left v first last =
      let q = r.0.production in
      let found = left_kind g.prods n (k.Sort s) left in
      let same : q ≡ found.0 = same_Some q found.0 (sym r.0.is_there ∙ found.1) in
      let sort : q.left ≡ s = sort_same q.left s (ap (λ (x : Production). k.Sort x.left) same ∙ found.2) in
      let k1 = max_left (highest kids) (highest extras) in
      let k2 = max_right (highest kids) (highest extras) in
      subst (λ z. one_visit g parts (plain_visit g parts fuel) (asked g parts (face_of g parts (at_node n own kids extras)) z (node n (bare_kids kids)) v)
      ≡ Some (answer g parts (face_of g parts (at_node n own kids extras)) z v (visit_height g parts (at_node n own kids extras) v))) sort
      (visit_exact fuel (all_exact fuel) n q own kids extras r.0.is_there r.0.is_right r.1 r.2 (omega (arith, k1, low)) (omega (arith, k2, low)) v first
      (subst (λ z. v ≤ visits_of parts z) (sym sort) last))
