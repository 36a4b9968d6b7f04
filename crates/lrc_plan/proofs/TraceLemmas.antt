-- What is not available leads back to an inherited attribute of the left side of a later visit.
use Rattle.std.proofs.Common.{◌≡◌, ℕ, zero, suc, ◌+◌, ◌-◌, ◌<◌, ◌≤◌, Bool, true, false, not, ◌&&◌, ◌==◌, cond, List, [], ◌∷◌, ◌++◌, length, map, get_or, slice_get, Contains, Option, Some, None, ◌⊎◌, inl, inr, refl, sym, ap, ◌∙◌, subst, arith}
use Rattle.std.specs.Prelude.{filter, flat_map}
use Rattle.std.specs.Option.{option_map_or}
use Rattle.std.specs.List.{range_with_len}
use Rattle.std.proofs.lemmas.Bool.{and_parts, eqb-true, eq-eqb, true≢false}
use Rattle.std.proofs.lemmas.Option.{slice_get_within}
use Rattle.std.proofs.lemmas.List.Elements.{All-contains, Contains-append_left, Contains-append_right, Contains-append_cases}
use Rattle.lrc_base.specs.declared.grammar.Attr.{Attr}
use Rattle.lrc_base.specs.declared.grammar.Sort.{Sort}
use Rattle.lrc_base.specs.declared.grammar.Production.{Production}
use Rattle.lrc_meaning.specs.Grammar.{attrs_of_sort, occurrences_of}
use Rattle.lrc_order_meaning.specs.declared.Need.{Need}
use Rattle.lrc_order_meaning.specs.declared.Partition.{Partition}
use Rattle.lrc_order_meaning.specs.declared.Place.{Place}
use Rattle.lrc_order_meaning.specs.Needs.{symbols_of}
use Rattle.lrc_plan_meaning.specs.declared.Action.{Action}
use Rattle.lrc_plan_meaning.specs.declared.Action.TheVariants as a
use Rattle.lrc_plan_meaning.specs.declared.Bound.{Bound}
use Rattle.lrc_plan_meaning.specs.declared.Bound.TheVariants as b
use Rattle.lrc_plan_meaning.specs.Items.{is_among, visits_of, visit_of, is_of, attrs_of_visit, values_of_visit, tree_of, given_back, extended_of, symbol_at, awaits}
use Rattle.lrc_plan_meaning.specs.Sequences.{State, is_ready, is_defined, visits_at, actions_of}
use Rattle.lrc_plan_meaning.proofs.ItemLemmas.{among}
use Rattle.lrc_order_meaning.proofs.MemberLemmas.{member_first, member_map, member_flat, member_filter, member_range, member_of_map, member_of_filter, member_of_range}
use Rattle.lrc_plan.proofs.EndLemmas.{fails_at, IsKept, AllDone}

-- the attribute is of the direction
of_direction : (attrs : List Attr) (inherited : Bool) (x : ℕ) (o : Option Attr) → slice_get attrs x ≡ o
    → option_map_or (λ (attr : Attr). cond inherited attr.inherited (not attr.inherited)) o false ≡ true → (attr : Attr) × (slice_get attrs x ≡ Some attr) × (attr.inherited ≡ inherited)
of_direction attrs inherited x None e h = absurd (true≢false (sym h))
of_direction attrs true x (Some attr) e h = (attr, e, h)
of_direction attrs false x (Some attr) e h = (attr, e, negated attr.inherited h)
  where
    negated : (c : Bool) → not c ≡ true → c ≡ false
    negated true q = absurd (true≢false (sym q))
    negated false q = refl

is_direction : (attrs : List Attr) (inherited : Bool) (x : ℕ) (attr : Attr) → slice_get attrs x ≡ Some attr → attr.inherited ≡ inherited → is_of attrs inherited x ≡ true
is_direction attrs true x attr e d = ap (λ o. option_map_or (λ (y : Attr). y.inherited) o false) e ∙ d
is_direction attrs false x attr e d = ap (λ o. option_map_or (λ (y : Attr). not y.inherited) o false) e ∙ ap not d

module _ (sorts : List Sort) (parts : List Partition) where
  pub in_values : (inherited : Bool) (s start v x : ℕ) (attr : Attr) → slice_get (attrs_of_sort sorts s) x ≡ Some attr → attr.inherited ≡ inherited → visit_of parts s x ≡ v
      → Contains (values_of_visit sorts parts inherited s start v) (b.Value (start + x))
  in_values inherited s start v x attr is direction visit =
      let attrs = attrs_of_sort sorts s in
      let one = is_direction attrs inherited x attr is direction in
      let two : (visit_of parts s x == v) ≡ true = eq-eqb (visit_of parts s x) v visit in
      member_map (λ y. b.Value (start + y)) (attrs_of_visit sorts parts inherited s v) x
      (member_filter (λ y. is_of attrs inherited y && (visit_of parts s y == v)) (range_with_len 0 (length attrs)) x
      (member_range 0 (length attrs) x (omega arith) (let l = slice_get_within attrs x attr is in omega arith)) (rw (one, two) refl))

  -- an attribute among those of a visit
  pub record FromValues (inherited : Bool) (s start v : ℕ) (y : Bound) : Type 0 where
    pub number : ℕ
    pub attr : Attr
    pub is_attr : slice_get (attrs_of_sort sorts s) number ≡ Some attr
    pub direction : attr.inherited ≡ inherited
    pub visit : visit_of parts s number ≡ v
    pub is : b.Value (start + number) ≡ y

  pub from_values : (inherited : Bool) (s start v : ℕ) (y : Bound) → Contains (values_of_visit sorts parts inherited s start v) y → FromValues inherited s start v y
  from_values inherited s start v y m =
      let attrs = attrs_of_sort sorts s in
      let at = member_of_map (λ x. b.Value (start + x)) (attrs_of_visit sorts parts inherited s v) y m in
      let passes = member_of_filter (λ x. is_of attrs inherited x && (visit_of parts s x == v)) (range_with_len 0 (length attrs)) at.0 at.1 in
      let both = and_parts (is_of attrs inherited at.0) (visit_of parts s at.0 == v) passes.1 in
      let attr = of_direction attrs inherited at.0 (slice_get attrs at.0) refl both.0 in
      record { number = at.0; attr = attr.0; is_attr = attr.1; direction = attr.2; visit = eqb-true (visit_of parts s at.0) v both.1; is = at.2 }

  module _ (p : Production) (t : State) (kept : IsKept sorts parts p t) (ended : AllDone sorts parts p t) where
    abbrev pub Absent : Bound → Type 0
    Absent y = is_among t.available y ≡ false

    pub not_absent : (y : Bound) → Contains t.available y → ¬ Absent y
    not_absent y m h = true≢false (sym (among t.available y m) ∙ h)

    abbrev pub symbols : List Place
    symbols = symbols_of sorts p

    pub visit_there : (s j : ℕ) → s < length symbols → 1 ≤ j → j ≤ visits_of parts (symbol_at sorts p s).sort → Contains (actions_of sorts parts p) (a.Visit s j)
    visit_there s j there one le =
        let n = visits_of parts (symbol_at sorts p s).sort in
        Contains-append_right (map a.Eval (filter (is_defined (occurrences_of sorts p)) (range_with_len 0 (length (occurrences_of sorts p))))) (flat_map (visits_at sorts parts p) (range_with_len 0 (length symbols))) (a.Visit s j)
        (member_flat (visits_at sorts parts p) (range_with_len 0 (length symbols)) s (a.Visit s j) (member_range 0 (length symbols) s (omega arith) (omega arith))
        (member_map (a.Visit s) (range_with_len 1 n) j (member_range 1 n j one (omega arith))))

    pub eval_there : (o : ℕ) → o < length (occurrences_of sorts p) → is_defined (occurrences_of sorts p) o ≡ true → Contains (actions_of sorts parts p) (a.Eval o)
    eval_there o less defined =
        Contains-append_left (map a.Eval (filter (is_defined (occurrences_of sorts p)) (range_with_len 0 (length (occurrences_of sorts p))))) (flat_map (visits_at sorts parts p) (range_with_len 0 (length symbols))) (a.Eval o)
        (member_map a.Eval (filter (is_defined (occurrences_of sorts p)) (range_with_len 0 (length (occurrences_of sorts p)))) o
        (member_filter (is_defined (occurrences_of sorts p)) (range_with_len 0 (length (occurrences_of sorts p))) o (member_range 0 (length (occurrences_of sorts p)) o (omega arith) (omega arith)) defined))

    -- why an action that is left is not ready
    pub awaits_absent : (x : Action) → Contains t.left x → (y : Bound) × Contains (awaits sorts parts p x) y × Absent y
    awaits_absent x left = fails_at (is_among t.available) (awaits sorts parts p x) (All-contains (λ z. is_ready sorts parts p t.available z ≡ false) t.left x ended left)

    -- an occurrence that is absent keeps a visit back
    pub record Blocks (s j o : ℕ) : Type 0 where
      pub absent : Absent (b.Value o)
      pub why : ((symbol_at sorts p s).tree ≡ Some o)
          ⊎ ((x : ℕ) × (attr : Attr) × (o ≡ (symbol_at sorts p s).start + x) × (slice_get (attrs_of_sort sorts (symbol_at sorts p s).sort) x ≡ Some attr) × (attr.inherited ≡ true) × (visit_of parts (symbol_at sorts p s).sort x ≤ j))

    tree_member : (tree : Option ℕ) (y : Bound) → Contains (option_map_or (λ o. b.Value o ∷ []) tree []) y → (o : ℕ) × (tree ≡ Some o) × (b.Value o ≡ y)
    tree_member None y m = let l = m.1 in absurd (omega arith)
    tree_member (Some o) y m = (o, refl, only m.0 m.1 m.2)
      where
        only : (k : ℕ) → k < length (b.Value o ∷ []) → get_or (b.Value o ∷ []) k y ≡ y → b.Value o ≡ y
        only zero less is = is
        only (suc k) less is = absurd (omega arith)

    later_block : (s i j o : ℕ) → i ≤ j → Blocks s i o → Blocks s j o
    later_block s i j o le h = record {
      absent = h.absent;
      why = elim h.why [ inl e ↦ inl e | inr w ↦ let few = w.5 in inr (w.0, w.1, w.2, w.3, w.4, omega arith) ];
    }

    blocked : (m s j : ℕ) → j ≤ m → s < length symbols → 1 ≤ j → j ≤ visits_of parts (symbol_at sorts p s).sort → Contains t.left (a.Visit s j) → (o : ℕ) × Blocks s j o
    blocked zero s j few there one le left = absurd (omega arith)
    blocked (suc m) s j few there one le left =
        let place = symbol_at sorts p s in
        let y = awaits_absent (a.Visit s j) left in
        elim (Contains-append_cases (tree_of place) (values_of_visit sorts parts true place.sort place.start j ++ map (λ u. b.Kid s u j) (range_with_len 1 (j - 1))) y.0 y.1) [
          | inl tree ↦
              let r = tree_member place.tree y.0 tree in
              (r.0, record { absent = subst Absent (sym r.2) y.2; why = inl r.1 })
          | inr rest ↦
              elim (Contains-append_cases (values_of_visit sorts parts true place.sort place.start j) (map (λ u. b.Kid s u j) (range_with_len 1 (j - 1))) y.0 rest) [
                | inl value ↦
                    let r = from_values true place.sort place.start j y.0 value in
                    let v = r.visit in
                    (place.start + r.number, record { absent = subst Absent (sym r.is) y.2; why = inr (r.number, r.attr, refl, r.is_attr, r.direction, omega arith) })
                | inr kid ↦
                    let u = member_of_map (λ k. b.Kid s k j) (range_with_len 1 (j - 1)) y.0 kid in
                    let range = member_of_range 1 (j - 1) u.0 u.1 in
                    let low = range.0 in
                    let high = range.1 in
                    let n = visits_of parts place.sort in
                    elim (kept.kept (a.Visit s u.0) (visit_there s u.0 there low (omega arith))) [
                      | inl still ↦
                          let r = blocked m s u.0 (omega arith) there low (omega arith) still in
                          (r.0, later_block s u.0 j r.0 (omega arith) r.1)
                      | inr made ↦
                          let there_now = All-contains (Contains t.available) (given_back sorts parts place s u.0) (b.Kid s u.0 j) made
                          (Contains-append_right (values_of_visit sorts parts false place.sort place.start u.0) (map (λ w. b.Kid s u.0 w) (range_with_len (u.0 + 1) (n - u.0))) (b.Kid s u.0 j)
                          (member_map (λ w. b.Kid s u.0 w) (range_with_len (u.0 + 1) (n - u.0)) j (member_range (u.0 + 1) (n - u.0) j (omega arith) (omega arith)))) in
                          absurd (not_absent (b.Kid s u.0 j) there_now (subst Absent (sym u.2) y.2))
                    ]
              ]
        ]

    pub visit_blocked : (s j : ℕ) → s < length symbols → 1 ≤ j → j ≤ visits_of parts (symbol_at sorts p s).sort → Contains t.left (a.Visit s j) → (o : ℕ) × Blocks s j o
    visit_blocked s j there one le left = blocked j s j (omega arith) there one le left

    -- an absent value that the visit makes keeps the visit left
    pub still_visit : (s j : ℕ) (y : Bound) → s < length symbols → 1 ≤ j → j ≤ visits_of parts (symbol_at sorts p s).sort → Absent y → Contains (given_back sorts parts (symbol_at sorts p s) s j) y → Contains t.left (a.Visit s j)
    still_visit s j y there one le absent makes_it =
        elim (kept.kept (a.Visit s j) (visit_there s j there one le)) [
          | inl left ↦ left
          | inr made ↦ absurd (not_absent y (All-contains (Contains t.available) (given_back sorts parts (symbol_at sorts p s) s j) y made makes_it) absent)
        ]

    -- and so does an absent value that an equation defines
    pub still_eval : (o : ℕ) → o < length (occurrences_of sorts p) → is_defined (occurrences_of sorts p) o ≡ true → Absent (b.Value o)
        → (n : Need) × Contains (extended_of sorts parts p) n × (n.then ≡ o) × Absent (b.Value n.first)
    still_eval o less defined absent =
        elim (kept.kept (a.Eval o) (eval_there o less defined)) [
          | inr made ↦ absurd (not_absent (b.Value o) (All-contains (Contains t.available) (b.Value o ∷ []) (b.Value o) made (member_first (b.Value o) [])) absent)
          | inl left ↦
              let y = awaits_absent (a.Eval o) left in
              let n = member_of_map (λ (m : Need). b.Value m.first) (filter (λ (m : Need). m.then == o) (extended_of sorts parts p)) y.0 y.1 in
              let passes = member_of_filter (λ (m : Need). m.then == o) (extended_of sorts parts p) n.0 n.1 in
              (n.0, passes.0, eqb-true n.0.then o passes.1, subst Absent (sym n.2) y.2)
        ]
