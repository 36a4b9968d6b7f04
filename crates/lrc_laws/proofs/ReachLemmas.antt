-- The demand of an attribution has exactly what the reaches of its visits have.
use Rattle.std.proofs.Common.{◌≡◌, ℕ, zero, suc, ◌+◌, ◌<◌, ◌≤◌, true, not, ◌&&◌, IsTrue, ◌==◌, cond, List, [], ◌∷◌, ◌++◌, map, length, Contains, Some, inl, inr, slice_get, refl, sym, ap, ◌∙◌, subst, arith, length-append}
use Rattle.std.specs.Prelude.{flat_map}
use Rattle.std.specs.Option.{option_map_or}
use Rattle.std.specs.List.{range_with_len}
use Rattle.std.proofs.lemmas.Bool.{eq-eqb, and_parts, false≢true, not-true}
use Rattle.std.proofs.lemmas.Option.{same_Some, slice_get_within}
use Rattle.std.proofs.lemmas.List.Elements.{Contains-append_left, Contains-append_right, Contains-append_cases}
use Rattle.lrc_base.specs.declared.grammar.Kind.TheVariants as k
use Rattle.lrc_base.specs.declared.grammar.Extra.{Extra}
use Rattle.lrc_base.specs.declared.grammar.Equation.{Equation}
use Rattle.lrc_base.specs.declared.grammar.Production.{Production}
use Rattle.lrc_meaning.specs.Tree.{Tree, is_left}
use Rattle.lrc_meaning.specs.Expression.{expression}
use Rattle.lrc_meaning.specs.Grammar.{Grammar, extra_occurrences, is_well_formed}
use Rattle.lrc_meaning.specs.Attribution.{Decorated, at_node, Parts, end, symbol, bare, bare_kids, production_of, occurrence_values, leaf_at, extras_agree, IsNodeRight, IsRight, AreRight, height, highest}
use Rattle.lrc_meaning.specs.Attribution as m
use Rattle.lrc_meaning.proofs.KindLemmas.{left_kind}
use Rattle.lrc_order_meaning.specs.declared.Partition.{Partition}
use Rattle.lrc_order_meaning.specs.Needs.{symbol_of, extra_symbols, symbols_of, own_end, kids_end, kid_symbols}
use Rattle.lrc_plan_meaning.specs.declared.Action.{Action}
use Rattle.lrc_plan_meaning.specs.declared.Action.TheVariants as a
use Rattle.lrc_plan_meaning.specs.Items.{symbol_at, visits_of}
use Rattle.lrc_plan_meaning.specs.Sequences.{segment}
use Rattle.lrc_plan_meaning.specs.Sound.{IsDone, IsSound}
use Rattle.lrc_visit_meaning.specs.Visits.{leaf_in, equation_of, values_in, tree_at, call_of, is_of_kind}
use Rattle.lrc_visit_meaning.specs.Shown.{answer, visit_height}
use Rattle.lrc_visit_meaning.specs.Demand.{Met, called, answered, built, equation_met, action_met, reach, visit_met, own_met, demand, demands}
use Rattle.lrc_order_meaning.proofs.MemberLemmas.{member_first, member_later, member_cases, no_member, member_flat, member_of_flat, member_range, member_of_range, slice_of_member}
use Rattle.lrc_laws.proofs.FuelLemmas.{max_left, max_right}
use Rattle.lrc_laws.proofs.ReadLemmas.{found_there}
use Rattle.lrc_laws.proofs.NodeLemmas.{asked}
use Rattle.lrc_laws.proofs.PartLemmas.{symbols_in, bare_of_kind, leaf_same, kid_counts}
use Rattle.lrc_laws.proofs.FormedLemmas.{equation_there, one_equation, find_one, target_defined}
use Rattle.lrc_laws.proofs.DecoratedLemmas.{face_of, node_held, IsSymbol, symbol_is, values_are, AreSound, sort_same}
use Rattle.lrc_laws.proofs.MetLemmas.{built_same}
use Rattle.lrc_laws.proofs.DemandLemmas.{Exact, all_exact, among_right, call_is, reach_is}

module _ (g : Grammar) where
  -- as many nonterminal attributes as attached trees
  extra_symbols_count : (xs : List Extra) (ps : Parts) (start : ℕ) → IsTrue (extras_agree g.prods xs ps) → length (extra_symbols g.sorts start xs) ≡ length (symbols_in ps)
  extra_symbols_count [] end start h = refl
  extra_symbols_count [] (m.value v rest) start h = absurd (false≢true h)
  extra_symbols_count [] (symbol d rest) start h = absurd (false≢true h)
  extra_symbols_count (x ∷ xs) end start h = absurd (false≢true h)
  extra_symbols_count (x ∷ xs) (m.value v rest) start h =
      let both = and_parts (not x.attached) (extras_agree g.prods xs rest) h in
      ap (λ c. length (cond c (symbol_of x.kind (start + 1) (Some start)) [] ++ extra_symbols g.sorts (start + length (extra_occurrences g.sorts x)) xs)) (not-true x.attached both.0)
      ∙ extra_symbols_count xs rest (start + length (extra_occurrences g.sorts x)) both.1
  extra_symbols_count (x ∷ xs) (symbol d rest) start h =
      let three = and_parts (x.attached && is_left g.prods (production_of d) x.kind) (extras_agree g.prods xs rest) h in
      let two = and_parts x.attached (is_left g.prods (production_of d) x.kind) three.0 in
      let q = left_kind g.prods (production_of d) x.kind two.1 in
      ap (λ c. length (cond c (symbol_of x.kind (start + 1) (Some start)) [] ++ extra_symbols g.sorts (start + length (extra_occurrences g.sorts x)) xs)) two.0
      ∙ ap (λ kd. length (symbol_of kd (start + 1) (Some start) ++ extra_symbols g.sorts (start + length (extra_occurrences g.sorts x)) xs)) (sym q.2)
      ∙ ap suc (extra_symbols_count xs rest (start + length (extra_occurrences g.sorts x)) three.1)

module _ (g : Grammar) (parts : List Partition) where
  demands_of : (ps : Parts) (x : Met) → Contains (demands g parts ps) x → (d : Decorated) × Contains (symbols_in ps) d × Contains (demand g parts d) x
  demands_of end x c = absurd (no_member x c)
  demands_of (m.value v rest) x c = demands_of rest x c
  demands_of (symbol d rest) x c =
      elim (Contains-append_cases (demand g parts d) (demands g parts rest) x c) [
        | inl here ↦ (d, member_first d (symbols_in rest), here)
        | inr later ↦ let r = demands_of rest x later in (r.0, member_later d (symbols_in rest) r.0 r.1, r.2)
      ]

  of_demands : (ps : Parts) (x : Met) (d : Decorated) → Contains (symbols_in ps) d → Contains (demand g parts d) x → Contains (demands g parts ps) x
  of_demands end x d c h = absurd (no_member d c)
  of_demands (m.value v rest) x d c h = of_demands rest x d c h
  of_demands (symbol e rest) x d c h =
      elim (member_cases e (symbols_in rest) d c) [
        | inl same ↦ Contains-append_left (demand g parts e) (demands g parts rest) x (subst (λ w. Contains (demand g parts w) x) (sym same) h)
        | inr later ↦ Contains-append_right (demand g parts e) (demands g parts rest) x (of_demands rest x d later h)
      ]

  -- in the reach of one of the visits
  pub record InReach (fuel : ℕ) (d : Decorated) (s : ℕ) (x : Met) : Type 0 where
    pub visit : ℕ
    pub first : 1 ≤ visit
    pub last : visit ≤ visits_of parts s
    pub member : Contains (reach g parts fuel (asked g parts (face_of g parts d) s (bare d) visit)) x

  pub record BothWays (fuel : ℕ) (d : Decorated) (s : ℕ) (x : Met) : Type 0 where
    pub there : Contains (demand g parts d) x → InReach fuel d s x
    pub back : InReach fuel d s x → Contains (demand g parts d) x

  abbrev Law : ℕ → Type 0
  Law fuel = (d : Decorated) (s : ℕ) → IsRight g d → height d ≤ fuel → IsTrue (is_left g.prods (production_of d) (k.Sort s)) → (x : Met) → BothWays fuel d s x

  module _ (formed : IsTrue (is_well_formed g)) (sound : AreSound g parts) where
    module _ (fuel : ℕ) (below : Law fuel) (n : ℕ) (q : Production) (own : List Tree) (kids extras : Parts) (there : slice_get g.prods n ≡ Some q)
        (right : IsNodeRight g q own kids extras) (kids_right : AreRight g kids) (extras_right : AreRight g extras) (kids_low : highest kids ≤ fuel) (extras_low : highest extras ≤ fuel) where
      abbrev exact : Exact g parts formed sound fuel
      exact = all_exact g parts formed sound fuel

      abbrev tree : Decorated
      tree = at_node n own kids extras

      abbrev acts : Action → List Met
      acts = action_met g parts (reach g parts fuel) q (bare_kids kids) (node_held g parts own kids extras)

      abbrev plan : IsSound g.sorts parts q
      plan = sound n q there

      abbrev Symbol : ℕ → Decorated → Type 0
      Symbol s d = IsSymbol g parts q own kids extras right kids_right extras_right s d

      demand_is : demand g parts tree ≡ own_met g parts n own kids extras q ++ (demands g parts kids ++ demands g parts extras)
      demand_is = ap (λ o. option_map_or (own_met g parts n own kids extras) o [] ++ (demands g parts kids ++ demands g parts extras)) there

      -- what an action of a visit meets is in the reach of the visit
      act_reached : (y : Action) (x : Met) → IsDone g.sorts parts q y → Contains (acts y) x → InReach (suc fuel) tree q.left x
      act_reached y x done c =
          let v = done.0 in
          let all = reach_is g parts formed sound fuel exact n q own kids extras there right kids_right extras_right kids_low extras_low v done.1 done.2 in
          let seg = segment g.sorts parts q v in
          let root = asked g parts (face_of g parts tree) q.left (bare tree) v in
          let last = answered (answer g parts (face_of g parts tree) q.left v (visit_height g parts tree v)) ∷ [] in
          record {
            visit = v;
            first = done.1;
            last = done.2;
            member =
                subst (λ ms. Contains ms x) (sym all)
                (member_later (called root) (flat_map acts seg ++ last) x (Contains-append_left (flat_map acts seg) last x (member_flat acts seg y x done.3 c)));
          }

      -- what evaluating an occurrence meets is what its equation makes
      eval_acts : (o : ℕ) (e : Equation) → equation_of q o ≡ Some e → acts (a.Eval o) ≡ equation_met g (occurrence_values own kids extras) (leaf_at kids) e
      eval_acts o e is =
          ap (λ f. option_map_or (equation_met g (values_in g q (node_held g parts own kids extras)) (leaf_in q.kids (bare_kids kids))) f []) is
          ∙ ap (map built)
          (built_same (values_in g q (node_held g parts own kids extras)) (occurrence_values own kids extras) (leaf_in q.kids (bare_kids kids)) (leaf_at kids)
          (leaf_same g.prods q.kids kids right.has_kids) (expression e.expr)
          (λ i c. ap (λ vs. slice_get vs i) (values_are g parts q own kids extras right kids_right extras_right)))

      -- what visiting a symbol meets is the reach of its decorated tree's visit
      visit_acts : (s v : ℕ) (d : Decorated) → Symbol s d → acts (a.Visit s v) ≡ reach g parts fuel (asked g parts (face_of g parts d) (symbol_at g.sorts q s).sort (bare d) v)
      visit_acts s v d is =
          let place = symbol_at g.sorts q s in
          let held = node_held g parts own kids extras in
          let kind : is_of_kind g.prods (tree_at g q (bare_kids kids) held s) (k.Sort place.sort) ≡ true =
          ap (λ t. is_of_kind g.prods t (k.Sort place.sort)) is.tree ∙ bare_of_kind g.prods d (k.Sort place.sort) ∙ is.of_sort in
          ap (λ c. cond c (reach g parts fuel (call_of g parts q (bare_kids kids) held s v)) []) kind
          ∙ ap (reach g parts fuel) (call_is g parts formed sound fuel exact n q own kids extras there right kids_right extras_right kids_low extras_low s v d is)

      -- each decorated tree among the parts is a symbol
      index_of : (d : Decorated) → Contains (symbols_in kids ++ symbols_in extras) d → (s : ℕ) × (s < length (symbols_of g.sorts q)) × Symbol s d
      index_of d c =
          let at = slice_of_member (symbols_in kids ++ symbols_in extras) d c in
          let within = slice_get_within (symbols_in kids ++ symbols_in extras) at.0 d at.1 in
          let one = (kid_counts g q.kids kids (own_end g.sorts q) right.has_kids kids_right).0 in
          let two = extra_symbols_count g q.extras extras (kids_end g.sorts q) right.has_extras in
          let places = length-append (kid_symbols g.sorts (own_end g.sorts q) q.kids) (extra_symbols g.sorts (kids_end g.sorts q) q.extras) in
          let trees = length-append (symbols_in kids) (symbols_in extras) in
          let less : at.0 < length (symbols_of g.sorts q) = omega (arith, within, one, two, places, trees) in
          let found = symbol_is g parts q own kids extras right kids_right extras_right at.0 less in
          let same : found.0 ≡ d = same_Some found.0 d (sym found.1.listed ∙ at.1) in
          (at.0, less, subst (λ w. Symbol at.0 w) same found.1)

      equation_reached : (x : Met) (e : Equation) → Contains q.equations e → Contains (equation_met g (occurrence_values own kids extras) (leaf_at kids) e) x → InReach (suc fuel) tree q.left x
      equation_reached x e c h =
          let at = slice_of_member q.equations e c in
          let target = target_defined g formed n q there at.0 e at.1 in
          let found : equation_of q e.target ≡ Some e =
          find_one (λ (y : Equation). y.target == e.target) q.equations at.0 e (one_equation g formed n q there e.target target) at.1 (eq-eqb e.target e.target refl) in
          act_reached (a.Eval e.target) x ((plan.complete.evaluates e.target).0 target) (subst (λ ms. Contains ms x) (sym (eval_acts e.target e found)) h)

      symbol_reached : (x : Met) (d : Decorated) → Contains (symbols_in kids ++ symbols_in extras) d → Contains (demand g parts d) x → InReach (suc fuel) tree q.left x
      symbol_reached x d c h =
          let at = index_of d c in
          let place = symbol_at g.sorts q at.0 in
          let good = among_right g parts formed sound fuel exact n q own kids extras there right kids_right extras_right kids_low extras_low d at.2.among in
          let reached = (below d place.sort good.0 good.1 at.2.of_sort x).there h in
          act_reached (a.Visit at.0 reached.visit) x ((plan.complete.visits at.0 reached.visit).0 (record { symbol = at.1; first = reached.first; last = reached.last }))
          (subst (λ ms. Contains ms x) (sym (visit_acts at.0 reached.visit d at.2)) reached.member)

      visit_reached : (x : Met) (v : ℕ) → Contains (range_with_len 1 (visits_of parts q.left)) v → Contains (visit_met g parts tree q.left v) x → InReach (suc fuel) tree q.left x
      visit_reached x v c h =
          let bounds = member_of_range 1 (visits_of parts q.left) v c in
          let low = bounds.0 in
          let high = bounds.1 in
          let last : v ≤ visits_of parts q.left = omega (arith, high) in
          let all = reach_is g parts formed sound fuel exact n q own kids extras there right kids_right extras_right kids_low extras_low v low last in
          let seg = segment g.sorts parts q v in
          let root = asked g parts (face_of g parts tree) q.left (bare tree) v in
          let end_met = answered (answer g parts (face_of g parts tree) q.left v (visit_height g parts tree v)) ∷ [] in
          record {
            visit = v;
            first = low;
            last = last;
            member =
                subst (λ ms. Contains ms x) (sym all)
                (elim (member_cases (called root) end_met x h) [
                  | inl e ↦ subst (λ y. Contains (called root ∷ (flat_map acts seg ++ end_met)) y) e (member_first (called root) (flat_map acts seg ++ end_met))
                  | inr later ↦ member_later (called root) (flat_map acts seg ++ end_met) x (Contains-append_right (flat_map acts seg) end_met x later)
                ]);
          }

      node_there : (x : Met) → Contains (demand g parts tree) x → InReach (suc fuel) tree q.left x
      node_there x c =
          let visits = flat_map (visit_met g parts tree q.left) (range_with_len 1 (visits_of parts q.left)) in
          let equations = flat_map (equation_met g (occurrence_values own kids extras) (leaf_at kids)) q.equations in
          elim (Contains-append_cases (visits ++ equations) (demands g parts kids ++ demands g parts extras) x (subst (λ ms. Contains ms x) demand_is c)) [
            | inl own_c ↦
                elim (Contains-append_cases visits equations x own_c) [
                  | inl v ↦ let f = member_of_flat (visit_met g parts tree q.left) (range_with_len 1 (visits_of parts q.left)) x v in visit_reached x f.0 f.1 f.2
                  | inr e ↦ let f = member_of_flat (equation_met g (occurrence_values own kids extras) (leaf_at kids)) q.equations x e in equation_reached x f.0 f.1 f.2
                ]
            | inr parts_c ↦
                elim (Contains-append_cases (demands g parts kids) (demands g parts extras) x parts_c) [
                  | inl l ↦ let f = demands_of kids x l in symbol_reached x f.0 (Contains-append_left (symbols_in kids) (symbols_in extras) f.0 f.1) f.2
                  | inr r ↦ let f = demands_of extras x r in symbol_reached x f.0 (Contains-append_right (symbols_in kids) (symbols_in extras) f.0 f.1) f.2
                ]
          ]

      own_demanded : (x : Met) → Contains (own_met g parts n own kids extras q) x → Contains (demand g parts tree) x
      own_demanded x c = subst (λ ms. Contains ms x) (sym demand_is) (Contains-append_left (own_met g parts n own kids extras q) (demands g parts kids ++ demands g parts extras) x c)

      act_demanded : (y : Action) (x : Met) → IsDone g.sorts parts q y → Contains (acts y) x → Contains (demand g parts tree) x
      act_demanded (a.Eval o) x done c =
          let e = equation_there g formed n q there o ((plan.complete.evaluates o).1 done) in
          let found = found_there (λ (y : Equation). y.target == o) q.equations e.0 e.1 in
          own_demanded x
          (Contains-append_right (flat_map (visit_met g parts tree q.left) (range_with_len 1 (visits_of parts q.left))) (flat_map (equation_met g (occurrence_values own kids extras) (leaf_at kids)) q.equations) x
          (member_flat (equation_met g (occurrence_values own kids extras) (leaf_at kids)) q.equations e.0 x found.0 (subst (λ ms. Contains ms x) (eval_acts o e.0 e.1) c)))
      act_demanded (a.Visit s v) x done c =
          let at = (plan.complete.visits s v).1 done in
          let found = symbol_is g parts q own kids extras right kids_right extras_right s at.symbol in
          let d = found.0 in
          let place = symbol_at g.sorts q s in
          let good = among_right g parts formed sound fuel exact n q own kids extras there right kids_right extras_right kids_low extras_low d found.1.among in
          let h = (below d place.sort good.0 good.1 found.1.of_sort x).back (record { visit = v; first = at.first; last = at.last; member = subst (λ ms. Contains ms x) (visit_acts s v d found.1) c }) in
          subst (λ ms. Contains ms x) (sym demand_is)
          (Contains-append_right (own_met g parts n own kids extras q) (demands g parts kids ++ demands g parts extras) x
          (elim found.1.among [
            | inl l ↦ Contains-append_left (demands g parts kids) (demands g parts extras) x (of_demands kids x d l h)
            | inr r ↦ Contains-append_right (demands g parts kids) (demands g parts extras) x (of_demands extras x d r h)
          ]))

      visit_demanded : (x : Met) (v : ℕ) → 1 ≤ v → v ≤ visits_of parts q.left → Contains (visit_met g parts tree q.left v) x → Contains (demand g parts tree) x
      visit_demanded x v low last c =
          own_demanded x
          (Contains-append_left (flat_map (visit_met g parts tree q.left) (range_with_len 1 (visits_of parts q.left))) (flat_map (equation_met g (occurrence_values own kids extras) (leaf_at kids)) q.equations) x
          (member_flat (visit_met g parts tree q.left) (range_with_len 1 (visits_of parts q.left)) v x (member_range 1 (visits_of parts q.left) v low (omega (arith, last))) c))

      node_back : (x : Met) → InReach (suc fuel) tree q.left x → Contains (demand g parts tree) x
      node_back x r =
          let v = r.visit in
          let all = reach_is g parts formed sound fuel exact n q own kids extras there right kids_right extras_right kids_low extras_low v r.first r.last in
          let seg = segment g.sorts parts q v in
          let root = asked g parts (face_of g parts tree) q.left (bare tree) v in
          let end_met = answered (answer g parts (face_of g parts tree) q.left v (visit_height g parts tree v)) ∷ [] in
          elim (member_cases (called root) (flat_map acts seg ++ end_met) x (subst (λ ms. Contains ms x) all r.member)) [
            | inl e ↦ visit_demanded x v r.first r.last (subst (λ y. Contains (called root ∷ end_met) y) e (member_first (called root) end_met))
            | inr later ↦
                elim (Contains-append_cases (flat_map acts seg) end_met x later) [
                  | inl met ↦ let f = member_of_flat acts seg x met in act_demanded f.0 x (v, r.first, r.last, f.1) f.2
                  | inr last ↦ visit_demanded x v r.first r.last (member_later (called root) end_met x last)
                ]
          ]

    -- Demand and reach have the same members.
    pub demand_reach : (fuel : ℕ) → Law fuel
    demand_reach zero (at_node n own kids extras) s r low left x = absurd (omega arith)
    demand_reach (suc fuel) (at_node n own kids extras) s r low left x =
        let q = r.0.production in
        let found = left_kind g.prods n (k.Sort s) left in
        let same : q ≡ found.0 = same_Some q found.0 (sym r.0.is_there ∙ found.1) in
        let sort : q.left ≡ s = sort_same q.left s (ap (λ (p : Production). k.Sort p.left) same ∙ found.2) in
        let k1 = max_left (highest kids) (highest extras) in
        let k2 = max_right (highest kids) (highest extras) in
        let kl : highest kids ≤ fuel = omega (arith, k1, low) in
        let el : highest extras ≤ fuel = omega (arith, k2, low) in
        subst (λ z. BothWays (suc fuel) (at_node n own kids extras) z x) sort
        (record {
          there = node_there fuel (demand_reach fuel) n q own kids extras r.0.is_there r.0.is_right r.1 r.2 kl el x;
          back = node_back fuel (demand_reach fuel) n q own kids extras r.0.is_there r.0.is_right r.1 r.2 kl el x;
        })
