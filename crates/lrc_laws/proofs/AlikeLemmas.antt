-- Two on which all actions of a plan are made, from the same inherited values, hold the same at each occurrence.
use Rattle.std.proofs.Common.{◌≡◌, ℕ, zero, suc, ◌+◌, ◌-◌, ◌<◌, ◌≤◌, Bool, true, false, not, ◌&&◌, ◌==◌, IsTrue, cond, List, [], ◌++◌, map, length, Contains, Option, Some, inl, inr, slice_get, refl, sym, ap, ◌∙◌, subst, arith}
use Rattle.std.specs.Prelude.{flat_map}
use Rattle.std.specs.Option.{option_map_or}
use Rattle.std.specs.List.{range_with_len}
use Rattle.std.proofs.lemmas.Bool.{cases_Bool, and_parts, and_from, eq-eqb}
use Rattle.std.proofs.lemmas.Option.{slice_get_within, get_or_from_slice_get}
use Rattle.std.proofs.lemmas.List.Elements.{Contains-append_left, Contains-append_right}
use Rattle.lrc_base.specs.declared.grammar.Attr.{Attr}
use Rattle.lrc_base.specs.declared.grammar.Sort.{Sort}
use Rattle.lrc_base.specs.declared.grammar.Production.{Production}
use Rattle.lrc_meaning.specs.Tree.{Trees}
use Rattle.lrc_meaning.specs.Grammar.{Grammar, Occurrence, attrs_of_sort, occurrences_of}
use Rattle.lrc_order_meaning.specs.declared.Place.{Place}
use Rattle.lrc_order_meaning.specs.declared.Partition.{Partition}
use Rattle.lrc_order_meaning.specs.Needs.{symbols_of, left_place}
use Rattle.lrc_plan_meaning.specs.declared.Action.{Action}
use Rattle.lrc_plan_meaning.specs.declared.Action.TheVariants as a
use Rattle.lrc_plan_meaning.specs.declared.Bound.{Bound}
use Rattle.lrc_plan_meaning.specs.declared.Bound.TheVariants as b
use Rattle.lrc_plan_meaning.specs.Items.{is_among, is_of, visit_of, visits_of, attrs_of_visit, values_of_visit, symbol_at, makes}
use Rattle.lrc_plan_meaning.specs.Sequences.{is_defined, segment}
use Rattle.lrc_plan_meaning.specs.Bindings.{items_of, gained, used, binding as items_between}
use Rattle.lrc_plan_meaning.specs.Sound.{handed_in, IsDone, IsSound, IsVisitThere}
use Rattle.lrc_plan_meaning.proofs.ItemLemmas.{contained}
use Rattle.lrc_visit_meaning.specs.Values.{Call, Result}
use Rattle.lrc_visit_meaning.specs.Visits.{Held, step}
use Rattle.lrc_order_meaning.proofs.MemberLemmas.{member_map, member_flat, member_of_flat, member_filter, member_of_filter, member_range, member_of_range, member_first}
use Rattle.lrc_laws.proofs.HeldLemmas.{Agree, agree_both, agree_right, made_alike}
use Rattle.lrc_laws.proofs.ReadLemmas.{step_reads}
use Rattle.lrc_laws.proofs.NodeLemmas.{AllMade}
use Rattle.lrc_laws.proofs.OccurrenceLemmas.{occurrence_cases}

-- each attribute of a sort is taken or given in one of its visits
abbrev pub AreVisited : Grammar → List Partition → Type 0
AreVisited g parts = (s x : ℕ) → x < length (attrs_of_sort g.sorts s) → (1 ≤ visit_of parts s x) × (visit_of parts s x ≤ visits_of parts s)

attr_over : (o : Option Attr) (attr : Attr) (inherited : Bool) → o ≡ Some attr → attr.inherited ≡ inherited
    → option_map_or (λ (attr : Attr). cond inherited attr.inherited (not attr.inherited)) o false ≡ true
attr_over o attr true is e = ap (λ q. option_map_or (λ (attr : Attr). attr.inherited) q false) is ∙ e
attr_over o attr false is e = ap (λ q. option_map_or (λ (attr : Attr). not attr.inherited) q false) is ∙ ap not e

-- what is in a binding became available in its earlier visit
pub bound_gained : (sorts : List Sort) (parts : List Partition) (p : Production) (u v : ℕ) (x : Bound) → Contains (items_between sorts parts p u v) x → Contains (gained sorts parts p u (segment sorts parts p u)) x
bound_gained sorts parts p u v x c =
    let from = gained sorts parts p u (segment sorts parts p u) in
    let to = used sorts parts p v (segment sorts parts p v) in
    let kept = member_of_filter (λ y. is_among from y && is_among to y) (items_of sorts parts p) x c in
    contained from x (and_parts (is_among from x) (is_among to x) kept.1).0

module _ (g : Grammar) (parts : List Partition) (p : Production) where
  -- an attribute is among those of its visit
  pub attr_of_visit : (s x : ℕ) (attr : Attr) (inherited : Bool) → slice_get (attrs_of_sort g.sorts s) x ≡ Some attr → attr.inherited ≡ inherited
      → Contains (attrs_of_visit g.sorts parts inherited s (visit_of parts s x)) x
  attr_of_visit s x attr inherited there is =
      let within = slice_get_within (attrs_of_sort g.sorts s) x attr there in
      member_filter (λ y. is_of (attrs_of_sort g.sorts s) inherited y && (visit_of parts s y == visit_of parts s x)) (range_with_len 0 (length (attrs_of_sort g.sorts s))) x
      (member_range 0 (length (attrs_of_sort g.sorts s)) x (omega arith) (omega (arith, within)))
      (and_from (is_of (attrs_of_sort g.sorts s) inherited x) (visit_of parts s x == visit_of parts s x)
      (attr_over (slice_get (attrs_of_sort g.sorts s) x) attr inherited there is) (eq-eqb (visit_of parts s x) (visit_of parts s x) refl))

  -- what a done action makes became available in one of the visits
  pub made_gained : (x : Action) (y : Bound) (done : IsDone g.sorts parts p x) → Contains (makes g.sorts parts p x) y → Contains (gained g.sorts parts p done.0 (segment g.sorts parts p done.0)) y
  made_gained x y done c =
      Contains-append_right (values_of_visit g.sorts parts true p.left 0 done.0) (flat_map (makes g.sorts parts p) (segment g.sorts parts p done.0)) y
      (member_flat (makes g.sorts parts p) (segment g.sorts parts p done.0) x y done.3 c)

  module _ (visit : Call → Option Result) (kids : Trees) (m n : Held) (sound : IsSound g.sorts parts p) (one : AllMade g parts visit p kids m) (other : AllMade g parts visit p kids n)
      (inherited : (v : ℕ) → Agree (values_of_visit g.sorts parts true p.left 0 v) m n) where
    abbrev AgreeIn : ℕ → Type 0
    AgreeIn v = Agree (gained g.sorts parts p v (segment g.sorts parts p v)) m n

    handed_alike : (v : ℕ) → ((u : ℕ) → 1 ≤ u → u < v → AgreeIn u) → Agree (handed_in g.sorts parts p v) m n
    handed_alike v earlier =
        agree_both (values_of_visit g.sorts parts true p.left 0 v) (flat_map (λ u. items_between g.sorts parts p u v) (range_with_len 1 (v - 1))) m n (inherited v)
        (λ x c.
        let found = member_of_flat (λ u. items_between g.sorts parts p u v) (range_with_len 1 (v - 1)) x c in
        let u = found.0 in
        let bounds = member_of_range 1 (v - 1) u found.1 in
        let low = bounds.0 in
        let high = bounds.1 in
        earlier u low (omega (arith, low, high)) x (bound_gained g.sorts parts p u v x found.2))

    alike_in : (v : ℕ) → 1 ≤ v → v ≤ visits_of parts p.left → ((u : ℕ) → 1 ≤ u → u < v → AgreeIn u) → AgreeIn v
    alike_in v first last earlier =
        let seg = segment g.sorts parts p v in
        let all = made_alike g.sorts parts p (step g parts visit p kids) (step_reads g parts visit p kids) seg (handed_in g.sorts parts p v) m n
        (handed_alike v earlier) (sound.runs.ready v first last) (λ x c. one x (v, first, last, c)) (λ x c. other x (v, first, last, c)) in
        agree_both (values_of_visit g.sorts parts true p.left 0 v) (flat_map (makes g.sorts parts p) seg) m n (inherited v)
        (agree_right (handed_in g.sorts parts p v) (flat_map (makes g.sorts parts p) seg) m n all)

    -- in each visit they agree
    pub alike_below : (k v : ℕ) → v < k → 1 ≤ v → v ≤ visits_of parts p.left → AgreeIn v
    alike_below zero v less first last = absurd (omega arith)
    alike_below (suc k) v less first last =
        alike_in v first last (λ u low high. alike_below k u (omega arith) low (omega (arith, high, last)))

    done_alike : (x : Action) (y : Bound) → IsDone g.sorts parts p x → Contains (makes g.sorts parts p x) y → m y ≡ n y
    done_alike x y done c = alike_below (suc done.0) done.0 (omega arith) done.1 done.2 y (made_gained x y done c)

    module _ (visited : AreVisited g parts) where
      eval_alike : (o : ℕ) → IsTrue (is_defined (occurrences_of g.sorts p) o) → m (b.Value o) ≡ n (b.Value o)
      eval_alike o h = done_alike (a.Eval o) (b.Value o) ((sound.complete.evaluates o).0 h) (member_first (b.Value o) [])

      -- a synthesised attribute of a symbol
      symbol_alike : (s x : ℕ) (place : Place) (attr : Attr) → slice_get (symbols_of g.sorts p) s ≡ Some place → slice_get (attrs_of_sort g.sorts place.sort) x ≡ Some attr → attr.inherited ≡ false
          → m (b.Value (place.start + x)) ≡ n (b.Value (place.start + x))
      symbol_alike s x place attr there has is =
          let at : symbol_at g.sorts p s ≡ place = get_or_from_slice_get (symbols_of g.sorts p) s place (left_place p) there in
          let v = visit_of parts place.sort x in
          let bounds = visited place.sort x (slice_get_within (attrs_of_sort g.sorts place.sort) x attr has) in
          let visit_there : IsVisitThere g.sorts parts p s v = record {
            symbol = slice_get_within (symbols_of g.sorts p) s place there;
            first = bounds.0;
            last = subst (λ (pl : Place). v ≤ visits_of parts pl.sort) (sym at) bounds.1;
          } in
          let member = member_map (λ y. b.Value (place.start + y)) (attrs_of_visit g.sorts parts false place.sort v) x (attr_of_visit place.sort x attr false has is) in
          done_alike (a.Visit s v) (b.Value (place.start + x)) ((sound.complete.visits s v).0 visit_there)
          (subst (λ (pl : Place). Contains (values_of_visit g.sorts parts false pl.sort pl.start v ++ map (λ w. b.Kid s v w) (range_with_len (v + 1) (visits_of parts pl.sort - v))) (b.Value (place.start + x))) (sym at)
          (Contains-append_left (values_of_visit g.sorts parts false place.sort place.start v) (map (λ w. b.Kid s v w) (range_with_len (v + 1) (visits_of parts place.sort - v))) (b.Value (place.start + x)) member))

      own_alike : (o : ℕ) (attr : Attr) → slice_get (attrs_of_sort g.sorts p.left) o ≡ Some attr → attr.inherited ≡ true → m (b.Value o) ≡ n (b.Value o)
      own_alike o attr has is =
          let v = visit_of parts p.left o in
          let member = member_map (λ y. b.Value (0 + y)) (attrs_of_visit g.sorts parts true p.left v) o (attr_of_visit p.left o attr true has is) in
          let at : 0 + o ≡ o = omega arith in
          subst (λ i. m (b.Value i) ≡ n (b.Value i)) at (inherited v (b.Value (0 + o)) member)

      defined_there : (o : ℕ) (x : Occurrence) → slice_get (occurrences_of g.sorts p) o ≡ Some x → x.is_defined ≡ true → IsTrue (is_defined (occurrences_of g.sorts p) o)
      defined_there o x e h = ap (λ q. option_map_or (λ (x : Occurrence). x.is_defined) q false) e ∙ h

      -- They hold the same value at each occurrence.
      pub occurrence_alike : (o : ℕ) (x : Occurrence) → slice_get (occurrences_of g.sorts p) o ≡ Some x → m (b.Value o) ≡ n (b.Value o)
      occurrence_alike o x e =
          elim (occurrence_cases g.sorts p o x e) [
            | inl own ↦
                elim (cases_Bool own.attr.inherited) [
                  | inl takes ↦ own_alike o own.attr own.has_attr takes
                  | inr gives ↦ eval_alike o (defined_there o x e (ap (λ (y : Occurrence). y.is_defined) (sym own.is) ∙ ap not gives))
                ]
            | inr others ↦
                elim others [
                  | inl defined ↦ eval_alike o (defined_there o x e defined)
                  | inr of ↦
                      elim (cases_Bool of.attr.inherited) [
                        | inl defined ↦ eval_alike o (defined_there o x e (ap (λ (y : Occurrence). y.is_defined) (sym of.is) ∙ defined))
                        | inr gives ↦ subst (λ i. m (b.Value i) ≡ n (b.Value i)) (sym of.at) (symbol_alike of.symbol of.attribute of.place of.attr of.is_there of.has_attr gives)
                      ]
                ]
          ]
