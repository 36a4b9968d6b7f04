-- Items that are given what is of their sorts hold that: at the start of a visit, and behind each of its actions.
use Rattle.std.proofs.Common.{◌≡◌, ℕ, ◌+◌, ◌-◌, ◌≤◌, true, false, IsTrue, ◌==◌, ◌&&◌, nat_le, cond, List, [], ◌∷◌, ◌++◌, map, length, Contains, Some, ◌⊎◌, inl, inr, refl, sym, ap, ◌∙◌, subst, arith}
use Rattle.std.specs.Prelude.{flat_map, ⊤}
use Rattle.std.specs.List.{range_with_len}
use Rattle.std.proofs.lemmas.Bool.{cases_Bool, false≢true, and_parts, eqb-true, leb-true}
use Rattle.std.proofs.lemmas.List.{length-map}
use Rattle.std.proofs.lemmas.List.Elements.{Contains-append_left}
use Rattle.lrc_base.specs.declared.grammar.Kind.TheVariants as k
use Rattle.lrc_base.specs.declared.grammar.Production.{Production}
use Rattle.lrc_meaning.specs.Tree.{Tree, Trees}
use Rattle.lrc_meaning.specs.Grammar.{Grammar}
use Rattle.lrc_order_meaning.specs.declared.Partition.{Partition}
use Rattle.lrc_plan_meaning.specs.declared.Action.{Action}
use Rattle.lrc_plan_meaning.specs.declared.Action.TheVariants as a
use Rattle.lrc_plan_meaning.specs.declared.Bound.{Bound}
use Rattle.lrc_plan_meaning.specs.declared.Bound.TheVariants as b
use Rattle.lrc_plan_meaning.specs.Items.{same_item, visits_of, attrs_of_visit, values_of_visit, symbol_at, makes}
use Rattle.lrc_plan_meaning.specs.Sequences.{segment}
use Rattle.lrc_plan_meaning.specs.Bindings.{binding as items_between}
use Rattle.lrc_plan_meaning.specs.Sound.{IsSound}
use Rattle.lrc_visit_meaning.specs.Values as plain
use Rattle.lrc_visit_meaning.specs.Values.{Datum, value, Data, data_list, Call, Result}
use Rattle.lrc_visit_meaning.specs.Visits.{Held, nothing_held, holding, Given, are_of_kinds, is_of_kind, is_call, is_visited, tree_at, call_of, given_by, held_at_start, evaluated, step, plain_visit}
use Rattle.lrc_frames.specs.Steps.{IsProper}
use Rattle.lrc_order_meaning.proofs.MemberLemmas.{member_cases, no_member, member_of_flat, member_of_range}
use Rattle.lrc_laws.proofs.FuelLemmas.{mapped, where_true}
use Rattle.lrc_laws.proofs.HeldLemmas.{holding_other}
use Rattle.lrc_laws.proofs.AlikeLemmas.{bound_gained}
use Rattle.lrc_laws.proofs.BackLemmas.{plain_whole}
use Rattle.lrc_laws.proofs.FreshLemmas.{gained_once}
use Rattle.lrc_plan_meaning.proofs.ItemLemmas.{item_itself, same_items}

-- data behind one list of items, and then behind another
holding_both : (xs ys : List Bound) (ds es : List Datum) (m : Held) → length ds ≡ length xs → holding (xs ++ ys) (ds ++ es) m ≡ holding ys es (holding xs ds m)
holding_both [] ys [] es m e = refl
holding_both [] ys (d ∷ ds) es m e = absurd (omega arith)
holding_both (x ∷ xs) ys [] es m e = absurd (omega arith)
holding_both (x ∷ xs) ys (d ∷ ds) es m e = holding_both xs ys ds es (λ y. cond (same_item x y) d (m y)) (omega arith)

module _ (g : Grammar) (parts : List Partition) where
  -- as many data as items, and each is of its item's sort
  abbrev pub AreProper : List Bound → List Datum → Type 0
  AreProper [] [] = ⊤
  AreProper [] (d ∷ ds) = ⊥
  AreProper (x ∷ xs) [] = ⊥
  AreProper (x ∷ xs) (d ∷ ds) = IsProper x d × AreProper xs ds

  pub proper_both : (xs ys : List Bound) (ds es : List Datum) → AreProper xs ds → AreProper ys es → AreProper (xs ++ ys) (ds ++ es)
  proper_both [] ys [] es h l = l
  proper_both [] ys (d ∷ ds) es h l = absurd h
  proper_both (x ∷ xs) ys [] es h l = absurd h
  proper_both (x ∷ xs) ys (d ∷ ds) es h l = (h.0, proper_both xs ys ds es h.1 l)

  pub proper_values : (start : ℕ) (xs : List ℕ) (vs : List Tree) → length vs ≡ length xs → AreProper (map (λ x. b.Value (start + x)) xs) (map value vs)
  proper_values start [] [] e = tt
  proper_values start [] (v ∷ vs) e = absurd (omega arith)
  proper_values start (x ∷ xs) [] e = absurd (omega arith)
  proper_values start (x ∷ xs) (v ∷ vs) e = ((v, refl), proper_values start xs vs (omega arith))

  pub proper_bindings : (s v : ℕ) (ws : List ℕ) (bs : List Data) → length bs ≡ length ws → AreProper (map (λ w. b.Kid s v w) ws) (map plain.binding bs)
  proper_bindings s v [] [] e = tt
  proper_bindings s v [] (d ∷ ds) e = absurd (omega arith)
  proper_bindings s v (w ∷ ws) [] e = absurd (omega arith)
  proper_bindings s v (w ∷ ws) (d ∷ ds) e = ((d, refl), proper_bindings s v ws ds (omega arith))

  proper_at : (x y : Bound) (d e : Datum) → IsProper x d → (x ≡ y) ⊎ IsProper y e → IsProper y (cond (same_item x y) d e)
  proper_at x y d e h k =
      elim (cases_Bool (same_item x y)) [
        | inl same ↦ subst (λ t. IsProper y (cond t d e)) (sym same) (subst (λ z. IsProper z d) (same_items x y same) h)
        | inr differ ↦
            subst (λ t. IsProper y (cond t d e)) (sym differ)
            (elim k [
              | inl same ↦ absurd (false≢true (sym differ ∙ ap (same_item x) (sym same) ∙ item_itself x))
              | inr proper ↦ proper
            ])
      ]

  -- an item that held what is of its sort, or is given it, holds it
  pub holding_proper : (xs : List Bound) (ds : List Datum) (m : Held) (y : Bound) → AreProper xs ds → Contains xs y ⊎ IsProper y (m y) → IsProper y (holding xs ds m y)
  holding_proper [] [] m y h (inl c) = absurd (no_member y c)
  holding_proper [] [] m y h (inr proper) = proper
  holding_proper [] (d ∷ ds) m y h k = absurd h
  holding_proper (x ∷ xs) [] m y h k = absurd h
  holding_proper (x ∷ xs) (d ∷ ds) m y h (inl c) =
      holding_proper xs ds (λ z. cond (same_item x z) d (m z)) y h.1
      (elim (member_cases x xs y c) [
        | inl same ↦ inr (proper_at x y d (m y) h.0 (inl same))
        | inr later ↦ inl later
      ])
  holding_proper (x ∷ xs) (d ∷ ds) m y h (inr proper) =
      holding_proper xs ds (λ z. cond (same_item x z) d (m z)) y h.1 (inr (proper_at x y d (m y) h.0 (inr proper)))

  -- what is inherited in a visit was not handed on by an earlier one
  inherited_new : (p : Production) → IsSound g.sorts parts p → (v : ℕ) → 1 ≤ v → v ≤ visits_of parts p.left → (y : Bound) → Contains (values_of_visit g.sorts parts true p.left 0 v) y
      → ¬ Contains (flat_map (λ u. items_between g.sorts parts p u v) (range_with_len 1 (v - 1))) y
  inherited_new p sound v first last y c handed =
      let found = member_of_flat (λ u. items_between g.sorts parts p u v) (range_with_len 1 (v - 1)) y handed in
      let u = found.0 in
      let bounds = member_of_range 1 (v - 1) u found.1 in
      let low = bounds.0 in
      let high = bounds.1 in
      let same = gained_once g.sorts parts p sound u v low (omega (arith, low, high, last)) first last y (bound_gained g.sorts parts p u v y found.2)
      (Contains-append_left (values_of_visit g.sorts parts true p.left 0 v) (flat_map (makes g.sorts parts p) (segment g.sorts parts p v)) y c) in
      absurd (omega (arith, low, high, same))

  -- a call's visit is one of the left side's, and it has the inherited values of that
  pub record IsCalled (p : Production) (c : Call) : Type 0 where
    pub first : 1 ≤ c.visit
    pub last : c.visit ≤ visits_of parts p.left
    pub values : length c.inherited ≡ length (attrs_of_visit g.sorts parts true p.left c.visit)

  pub called : (p : Production) (kids : Trees) (c : Call) → IsTrue (is_visited g parts p kids c) → IsCalled p c
  unfolding is_call
  called p kids c h =
      let form = (and_parts (is_call g parts p c) (are_of_kinds g.prods kids p.kids) h).0 in
      let two = and_parts (nat_le 1 c.visit && nat_le c.visit (visits_of parts p.left)) _ form in
      let visit = and_parts (nat_le 1 c.visit) (nat_le c.visit (visits_of parts p.left)) two.0 in
      let lists = and_parts (length c.inherited == length (attrs_of_visit g.sorts parts true p.left c.visit)) _ two.1 in
      record {
        first = leb-true 1 c.visit visit.0;
        last = leb-true c.visit (visits_of parts p.left) visit.1;
        values = eqb-true (length c.inherited) (length (attrs_of_visit g.sorts parts true p.left c.visit)) lists.0;
      }

  -- at the start of a visit each inherited attribute holds a value
  pub start_proper : (p : Production) (c : Call) → IsSound g.sorts parts p → IsCalled p c → (y : Bound) → Contains (values_of_visit g.sorts parts true p.left 0 c.visit) y
      → IsProper y (held_at_start g parts p c y)
  start_proper p c sound is y member =
      let xs = values_of_visit g.sorts parts true p.left 0 c.visit in
      let ys = flat_map (λ u. items_between g.sorts parts p u c.visit) (range_with_len 1 (c.visit - 1)) in
      let ds = map value c.inherited in
      let es = flat_map data_list c.bindings in
      let attrs = attrs_of_visit g.sorts parts true p.left c.visit in
      let size : length ds ≡ length xs = length-map c.inherited value ∙ is.values ∙ sym (length-map attrs (λ x. b.Value (0 + x))) in
      let here = holding_proper xs ds nothing_held y (proper_values 0 attrs c.inherited is.values) (inl member) in
      let old : holding ys es (holding xs ds nothing_held) y ≡ holding xs ds nothing_held y =
      holding_other ys es (holding xs ds nothing_held) y (inherited_new p sound c.visit is.first is.last y member) in
      subst (IsProper y) (sym (ap (λ (m : Held). m y) (holding_both xs ys ds es nothing_held size) ∙ old)) here

  -- an action gives what is of the sorts of the items that it makes
  pub step_proper : (fuel : ℕ) (p : Production) (kids : Trees) (m : Held) (x : Action) (r : Given) → step g parts (plain_visit g parts fuel) p kids m x ≡ Some r
      → AreProper (makes g.sorts parts p x) r.made
  step_proper fuel p kids m (a.Eval o) r e =
      let found = mapped (λ t. record { height = 0; made = value t ∷ [] }) (evaluated g p kids m o) r e in
      subst (λ (q : Given). AreProper (b.Value o ∷ []) q.made) found.2 ((found.0, refl), tt)
  step_proper fuel p kids m (a.Visit s v) r e =
      let place = symbol_at g.sorts p s in
      let inside = where_true (is_of_kind g.prods (tree_at g p kids m s) (k.Sort place.sort)) _ r e in
      let found = mapped given_by (plain_visit g parts fuel (call_of g parts p kids m s v)) r inside.1 in
      let whole = plain_whole g parts fuel (call_of g parts p kids m s v) place.sort found.0 inside.0 found.1 in
      let attrs = attrs_of_visit g.sorts parts false place.sort v in
      let later = range_with_len (v + 1) (visits_of parts place.sort - v) in
      subst (λ (q : Given). AreProper (makes g.sorts parts p (a.Visit s v)) q.made) found.2
      (proper_both (map (λ x. b.Value (place.start + x)) attrs) (map (λ w. b.Kid s v w) later) (map value found.0.synthesised) (map plain.binding found.0.bindings)
      (proper_values place.start attrs found.0.synthesised whole.values) (proper_bindings s v later found.0.bindings whole.bindings))
