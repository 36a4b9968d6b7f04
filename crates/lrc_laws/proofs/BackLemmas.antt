-- From a node that serves all its visits: what it holds, on which all actions of its plan are made.
use Rattle.std.proofs.Common.{◌≡◌, ℕ, zero, suc, ◌+◌, ◌-◌, ◌<◌, ◌≤◌, Bool, true, false, IsTrue, cond, List, [], ◌∷◌, ◌++◌, map, length, get_or, Contains, Option, Some, inl, inr, slice_get, refl, sym, ap, ◌∙◌, subst, arith}
use Rattle.std.specs.Prelude.{flat_map}
use Rattle.std.specs.Option.{option_map_or, option_and_then}
use Rattle.std.specs.List.{range_with_len}
use Rattle.std.proofs.lemmas.Bool.{cases_Bool, true≢false}
use Rattle.std.proofs.lemmas.Option.{none-some, same_Some, slice_get-get_or, slice_get_within}
use Rattle.std.proofs.lemmas.List.{map-append, length-map, length-append}
use Rattle.std.proofs.lemmas.List.Elements.{All-contains, Contains-append_left, Contains-append_right, Contains-append_cases}
use Rattle.lrc_base.specs.declared.grammar.Attr.{Attr}
use Rattle.lrc_base.specs.declared.grammar.Kind.TheVariants as k
use Rattle.lrc_base.specs.declared.grammar.Production.{Production}
use Rattle.lrc_meaning.specs.Tree.{Tree, int, bool, name, node, Trees}
use Rattle.lrc_meaning.specs.Grammar.{Grammar, attrs_of_sort}
use Rattle.lrc_meaning.proofs.KindLemmas.{left_kind}
use Rattle.lrc_order_meaning.specs.declared.Partition.{Partition}
use Rattle.lrc_plan_meaning.specs.declared.Action.{Action}
use Rattle.lrc_plan_meaning.specs.declared.Action.TheVariants as a
use Rattle.lrc_plan_meaning.specs.declared.Bound.{Bound}
use Rattle.lrc_plan_meaning.specs.declared.Bound.TheVariants as b
use Rattle.lrc_plan_meaning.specs.Items.{is_among, visit_of, visits_of, attrs_of_visit, values_of_visit, symbol_at, makes}
use Rattle.lrc_plan_meaning.specs.Sequences.{segment}
use Rattle.lrc_plan_meaning.specs.Bindings.{gained, binding as items_between}
use Rattle.lrc_plan_meaning.specs.Sound.{handed_in, IsSound}
use Rattle.lrc_plan_meaning.proofs.ItemLemmas.{contained, among}
use Rattle.lrc_visit_meaning.specs.Values.{value, binding, no_data, data_row, data_list, value_in, Call, Result}
use Rattle.lrc_visit_meaning.specs.Visits.{Held, nothing_held, holding, Given, Walked, walk, is_visited, is_of_kind, tree_at, call_of, given_by, held_at_start, result_of, evaluated, step, visit_of_node, visit_of_tree, one_visit, plain_visit}
use Rattle.std.proofs.lemmas.List.Folds.{flat_map-map}
use Rattle.std.proofs.lemmas.Simd.{map-map}
use Rattle.lrc_order_meaning.proofs.MemberLemmas.{member_first, member_later, member_cases, no_member, member_map, member_flat, member_of_flat, member_range, member_of_range}
use Rattle.lrc_plan.proofs.ListLemmas.{map_agree, map_told, map_flat, flat_agree}
use Rattle.lrc_laws.proofs.FuelLemmas.{mapped, bound_by, where_true}
use Rattle.lrc_laws.proofs.HeldLemmas.{Agree, holding_agrees, IsMade}
use Rattle.lrc_laws.proofs.ReadLemmas.{step_reads}
use Rattle.lrc_laws.proofs.NodeLemmas.{Face, list_of_row, asked, Answers, ServesOne, Serves, AllMade}
use Rattle.lrc_laws.proofs.PartLemmas.{node_of_kind}
use Rattle.lrc_laws.proofs.DecoratedLemmas.{sort_same}
use Rattle.lrc_laws.proofs.AlikeLemmas.{AreVisited, attr_of_visit, bound_gained}
use Rattle.lrc_laws.proofs.FreshLemmas.{gained_once, segment_fresh, ready_needs, walk_makes, made_on}

module _ (g : Grammar) (parts : List Partition) where
  -- a visit answers as many values and bindings as its plan says
  pub record IsWhole (s v : ℕ) (r : Result) : Type 0 where
    pub values : length r.synthesised ≡ length (attrs_of_visit g.sorts parts false s v)
    pub bindings : length r.bindings ≡ length (range_with_len (v + 1) (visits_of parts s - v))

  abbrev pub AreWhole : (Call → Option Result) → Type 0
  AreWhole visit = (c : Call) (s : ℕ) (r : Result) → IsTrue (is_of_kind g.prods c.tree (k.Sort s)) → visit c ≡ Some r → IsWhole s c.visit r

  node_whole : (visit : Call → Option Result) (p : Production) (kids : Trees) (c : Call) (r : Result) → visit_of_node g parts visit p kids c ≡ Some r → IsWhole p.left c.visit r
  node_whole visit p kids c r e =
      let inside = where_true (is_visited g parts p kids c) _ r e in
      let found = mapped (result_of g parts p c.visit) _ r inside.1 in
      subst (IsWhole p.left c.visit) found.2
      (record {
        values = length-map (values_of_visit g.sorts parts false p.left 0 c.visit) (λ x. value_in (found.0.held x)) ∙ length-map (attrs_of_visit g.sorts parts false p.left c.visit) (λ x. b.Value (0 + x));
        bindings = length-map (range_with_len (c.visit + 1) (visits_of parts p.left - c.visit)) (λ u. data_row (map found.0.held (items_between g.sorts parts p c.visit u)));
      })

  tree_whole : (visit : Call → Option Result) (t : Tree) (c : Call) (s : ℕ) (r : Result) → IsTrue (is_of_kind g.prods t (k.Sort s)) → visit_of_tree g parts visit t c ≡ Some r → IsWhole s c.visit r
  tree_whole visit (int i) c s r h e = absurd (none-some r e)
  tree_whole visit (bool x) c s r h e = absurd (none-some r e)
  tree_whole visit (name x) c s r h e = absurd (none-some r e)
  tree_whole visit (node n kids) c s r h e =
      let found = bound_by (λ q. visit_of_node g parts visit q kids c) (slice_get g.prods n) r e in
      let left = left_kind g.prods n (k.Sort s) (sym (node_of_kind g.prods n kids (k.Sort s)) ∙ h) in
      let same : left.0 ≡ found.0 = same_Some left.0 found.0 (sym left.1 ∙ found.1) in
      let sort : found.0.left ≡ s = sort_same found.0.left s (ap (λ (q : Production). k.Sort q.left) (sym same) ∙ left.2) in
      subst (λ z. IsWhole z c.visit r) sort (node_whole visit found.0 kids c r found.2)

  pub plain_whole : (fuel : ℕ) → AreWhole (plain_visit g parts fuel)
  unfolding plain_visit
  plain_whole zero c s r h e = absurd (none-some r e)
  plain_whole (suc fuel) c s r h e = tree_whole (plain_visit g parts fuel) c.tree c s r h e

  module _ (visit : Call → Option Result) (all_whole : AreWhole visit) (p : Production) (kids : Trees) where
    -- an action gives what each item that it makes holds
    pub gives_all : (m : Held) (x : Action) (r : Given) → step g parts visit p kids m x ≡ Some r → length r.made ≡ length (makes g.sorts parts p x)
    gives_all m (a.Eval o) r e =
        let found = mapped (λ t. record { height = 0; made = value t ∷ [] }) (evaluated g p kids m o) r e in
        ap (λ (q : Given). length q.made) (sym found.2)
    gives_all m (a.Visit s v) r e =
        let place = symbol_at g.sorts p s in
        let inside = where_true (is_of_kind g.prods (tree_at g p kids m s) (k.Sort place.sort)) _ r e in
        let found = mapped given_by (visit (call_of g parts p kids m s v)) r inside.1 in
        let whole = all_whole (call_of g parts p kids m s v) place.sort found.0 inside.0 found.1 in
        let one = whole.values in
        let two = whole.bindings in
        let made = length-append (map value found.0.synthesised) (map binding found.0.bindings) in
        let made_one = length-map found.0.synthesised value in
        let made_two = length-map found.0.bindings binding in
        let asks = length-append (values_of_visit g.sorts parts false place.sort place.start v) (map (λ w. b.Kid s v w) (range_with_len (v + 1) (visits_of parts place.sort - v))) in
        let asks_one = length-map (attrs_of_visit g.sorts parts false place.sort v) (λ x. b.Value (place.start + x)) in
        let asks_two = length-map (range_with_len (v + 1) (visits_of parts place.sort - v)) (λ w. b.Kid s v w) in
        ap (λ (q : Given). length q.made) (sym found.2) ∙ omega (arith, one, two, made, made_one, made_two, asks, asks_one, asks_two)

  -- A served visit of a node: its walk, and what it answers.
  pub record Served (visit : Call → Option Result) (f : Face) (p : Production) (n : ℕ) (kids : Trees) (v : ℕ) : Type 0 where
    pub walked : Walked
    pub is_walked : walk (makes g.sorts parts p) (step g parts visit p kids) (segment g.sorts parts p v) (record { height = 0; held = held_at_start g parts p (asked g parts f p.left (node n kids) v) }) ≡ Some walked
    pub visited : IsTrue (is_visited g parts p kids (asked g parts f p.left (node n kids) v))
    pub answers : Answers g parts f p.left v (result_of g parts p v walked)

  pub served_visit : (visit : Call → Option Result) (f : Face) (p : Production) (n : ℕ) (kids : Trees) (v : ℕ) → slice_get g.prods n ≡ Some p
      → ServesOne g parts (one_visit g parts visit) f p.left (node n kids) v → Served visit f p n kids v
  served_visit visit f p n kids v there one =
      let c = asked g parts f p.left (node n kids) v in
      let e : visit_of_node g parts visit p kids c ≡ Some one.result =
      sym (ap (option_and_then (λ q. visit_of_node g parts visit q kids c)) there) ∙ one.is_result in
      let inside = where_true (is_visited g parts p kids c) _ one.result e in
      let found = mapped (result_of g parts p v) _ one.result inside.1 in
      record {
        walked = found.0;
        is_walked = found.1;
        visited = inside.0;
        answers = subst (Answers g parts f p.left v) (sym found.2) one.answers;
      }

  -- what the visits hold at the items that became available in them
  abbrev pub gathered : (ℕ → List Bound) → (ℕ → Held) → List ℕ → Held
  gathered gains held [] x = binding no_data
  gathered gains held (v ∷ vs) x = cond (is_among (gains v) x) (held v x) (gathered gains held vs x)

  pub gathered_at : (gains : ℕ → List Bound) (held : ℕ → Held) (vs : List ℕ) (x : Bound) (v : ℕ) → ((u : ℕ) → Contains vs u → Contains (gains u) x → u ≡ v) → Contains vs v → Contains (gains v) x
      → gathered gains held vs x ≡ held v x
  gathered_at gains held [] x v once c d = absurd (no_member v c)
  gathered_at gains held (u ∷ us) x v once c d =
      elim (cases_Bool (is_among (gains u) x)) [
        | inl here ↦
            ap (λ z. cond z (held u x) (gathered gains held us x)) here
            ∙ ap (λ w. held w x) (once u (member_first u us) (contained (gains u) x here))
        | inr other ↦
            ap (λ z. cond z (held u x) (gathered gains held us x)) other
            ∙ elim (member_cases u us v c) [
              | inl e ↦ absurd (true≢false (sym (ap (λ w. is_among (gains w) x) e ∙ among (gains v) x d) ∙ other))
              | inr later ↦ gathered_at gains held us x v (λ w e f. once w (member_later u us w e) f) later d
            ]
      ]

  module _ (visit : Call → Option Result) (all_whole : AreWhole visit) (p : Production) (n : ℕ) (kids : Trees) (there : slice_get g.prods n ≡ Some p)
      (sound : IsSound g.sorts parts p) (f : Face) (serves : Serves g parts (one_visit g parts visit) f p.left (node n kids)) where
    abbrev count : ℕ
    count = visits_of parts p.left

    abbrev gains : ℕ → List Bound
    gains v = gained g.sorts parts p v (segment g.sorts parts p v)

    visit_at : (v : ℕ) → 1 ≤ v → v ≤ count → Served visit f p n kids v
    visit_at v first last = served_visit visit f p n kids v there (serves v first last)

    abbrev start_of : ℕ → Walked
    start_of v = record { height = 0; held = held_at_start g parts p (asked g parts f p.left (node n kids) v) }

    -- what visit v holds at its end
    abbrev held_in : ℕ → Held
    held_in v =
        option_map_or (λ (w : Walked). w.held) (walk (makes g.sorts parts p) (step g parts visit p kids) (segment g.sorts parts p v) (start_of v)) nothing_held

    -- What the node holds.
    abbrev pub node_holds : Held
    node_holds = gathered gains held_in (range_with_len 1 count)

    module _ (v : ℕ) (first : 1 ≤ v) (last : v ≤ count) where
      abbrev here : Served visit f p n kids v
      here = visit_at v first last

      held_here : held_in v ≡ here.walked.held
      held_here = ap (λ o. option_map_or (λ (w : Walked). w.held) o nothing_held) here.is_walked

      -- what became available in a visit is held as at its end
      holds_gained : (x : Bound) → Contains (gains v) x → node_holds x ≡ here.walked.held x
      holds_gained x c =
          gathered_at gains held_in (range_with_len 1 count) x v
          (λ u d e.
          let bounds = member_of_range 1 count u d in
          let low = bounds.0 in
          let high = bounds.1 in
          gained_once g.sorts parts p sound u v low (omega (arith, high)) first last x e c)
          (member_range 1 count v first (omega arith)) c
          ∙ ap (λ (m : Held). m x) held_here

      walk_made : Agree (handed_in g.sorts parts p v) here.walked.held (start_of v).held × ((x : Action) → Contains (segment g.sorts parts p v) x → IsMade g.sorts parts p (step g parts visit p kids) here.walked.held x)
      walk_made =
          walk_makes g.sorts parts p (step g parts visit p kids) (step_reads g parts visit p kids) (gives_all visit all_whole p kids) (segment g.sorts parts p v) (start_of v) here.walked
          (handed_in g.sorts parts p v) here.is_walked (sound.runs.ready v first last) (segment_fresh g.sorts parts p sound v first last)

      -- the binding that a later visit is called with
      bound_is : (w : ℕ) → v < w → w ≤ count → f.bound v w ≡ data_row (map here.walked.held (items_between g.sorts parts p v w))
      bound_is w less within =
          sym (map_told (λ u. data_row (map here.walked.held (items_between g.sorts parts p v u))) (λ u. f.bound v u) (range_with_len (v + 1) (count - v)) here.answers.bindings w
          (member_range (v + 1) (count - v) w (omega arith) (omega (arith, within, less))))

    module _ (v : ℕ) (first : 1 ≤ v) (last : v ≤ count) where
      abbrev values : List Bound
      values = values_of_visit g.sorts parts true p.left 0 v

      abbrev bound_items : List Bound
      bound_items = flat_map (λ u. items_between g.sorts parts p u v) (range_with_len 1 (v - 1))

      -- what is handed in: the values that the call inherits, and else what the node holds
      taken_in : Held
      taken_in (b.Value o) = cond (is_among values (b.Value o)) (value (f.attr o)) (node_holds (b.Value o))
      taken_in (b.Kid s i j) = node_holds (b.Kid s i j)

      taken_value : (o : ℕ) → Contains values (b.Value o) → taken_in (b.Value o) ≡ value (f.attr o)
      unfolding taken_in
      taken_value o c = ap (λ z. cond z (value (f.attr o)) (node_holds (b.Value o))) (among values (b.Value o) c)

      taken_other : (y : Bound) → (¬ Contains values y) → taken_in y ≡ node_holds y
      unfolding taken_in
      taken_other (b.Value o) out =
          elim (cases_Bool (is_among values (b.Value o))) [
            | inl inside ↦ absurd (out (contained values (b.Value o) inside))
            | inr outside ↦ ap (λ z. cond z (value (f.attr o)) (node_holds (b.Value o))) outside
          ]
      taken_other (b.Kid s i j) out = refl

      -- an item of a binding from an earlier visit
      earlier_item : (u : ℕ) (y : Bound) → Contains (range_with_len 1 (v - 1)) u → Contains (items_between g.sorts parts p u v) y
          → (lu : 1 ≤ u) × (hu : u ≤ count) × (u < v) × (¬ Contains values y) × (node_holds y ≡ (here u lu hu).walked.held y)
      earlier_item u y c d =
          let bounds = member_of_range 1 (v - 1) u c in
          let low = bounds.0 in
          let high = bounds.1 in
          let less : u < v = omega (arith, low, high) in
          let hu : u ≤ count = omega (arith, less, last) in
          let gained_there = bound_gained g.sorts parts p u v y d in (
            low,
            hu,
            less,
            λ e.
                let same = gained_once g.sorts parts p sound u v low hu first last y gained_there
                (Contains-append_left values (flat_map (makes g.sorts parts p) (segment g.sorts parts p v)) y e) in
                absurd (omega (arith, same, less)),
            holds_gained u low hu y gained_there,
          )

      values_taken : map value (map f.attr (attrs_of_visit g.sorts parts true p.left v)) ≡ map taken_in values
      values_taken =
          let xs = attrs_of_visit g.sorts parts true p.left v in
          map-map value f.attr xs
          ∙ map_agree (λ x. value (f.attr x)) (λ x. taken_in (b.Value (0 + x))) xs
          (λ x c.
          let at : x ≡ 0 + x = omega arith in
          ap (λ i. value (f.attr i)) at ∙ sym (taken_value (0 + x) (member_map (λ y. b.Value (0 + y)) xs x c)))
          ∙ sym (map-map taken_in (λ x. b.Value (0 + x)) xs)

      bindings_taken : flat_map data_list (map (λ u. f.bound u v) (range_with_len 1 (v - 1))) ≡ map taken_in bound_items
      bindings_taken =
          flat_map-map data_list (λ u. f.bound u v) (range_with_len 1 (v - 1))
          ∙ flat_agree (λ u. data_list (f.bound u v)) (λ u. map taken_in (items_between g.sorts parts p u v)) (range_with_len 1 (v - 1))
          (λ u c.
          let bounds = member_of_range 1 (v - 1) u c in
          let low = bounds.0 in
          let high = bounds.1 in
          let less : u < v = omega (arith, low, high) in
          let hu : u ≤ count = omega (arith, less, last) in
          ap data_list (bound_is u low hu v less last)
          ∙ list_of_row (map (here u low hu).walked.held (items_between g.sorts parts p u v))
          ∙ map_agree (here u low hu).walked.held taken_in (items_between g.sorts parts p u v)
          (λ y d.
          let item = earlier_item u y c d in
          sym (holds_gained u low hu y (bound_gained g.sorts parts p u v y d)) ∙ sym (taken_other y item.3)))
          ∙ sym (map_flat taken_in (λ u. items_between g.sorts parts p u v) (range_with_len 1 (v - 1)))

      start_holds : Agree (handed_in g.sorts parts p v) (start_of v).held taken_in
      start_holds x c =
          let taken : map value (map f.attr (attrs_of_visit g.sorts parts true p.left v)) ++ flat_map data_list (map (λ u. f.bound u v) (range_with_len 1 (v - 1))) ≡ map taken_in (handed_in g.sorts parts p v) =
          ap (λ ds. ds ++ flat_map data_list (map (λ u. f.bound u v) (range_with_len 1 (v - 1)))) values_taken
          ∙ ap (λ ds. map taken_in values ++ ds) bindings_taken
          ∙ sym (map-append taken_in values bound_items) in
          ap (λ ds. holding (handed_in g.sorts parts p v) ds nothing_held x) taken
          ∙ holding_agrees (handed_in g.sorts parts p v) nothing_held taken_in x (inr c)

      -- at its end a visit holds what the node holds
      end_holds : Agree (handed_in g.sorts parts p v ++ flat_map (makes g.sorts parts p) (segment g.sorts parts p v)) (here v first last).walked.held node_holds
      end_holds y c =
          elim (Contains-append_cases (handed_in g.sorts parts p v) (flat_map (makes g.sorts parts p) (segment g.sorts parts p v)) y c) [
            | inl handed ↦
                elim (Contains-append_cases values bound_items y handed) [
                  | inl own ↦ sym (holds_gained v first last y (Contains-append_left values (flat_map (makes g.sorts parts p) (segment g.sorts parts p v)) y own))
                  | inr bound ↦
                      let found = member_of_flat (λ u. items_between g.sorts parts p u v) (range_with_len 1 (v - 1)) y bound in
                      let item = earlier_item found.0 y found.1 found.2 in
                      (walk_made v first last).0 y handed ∙ start_holds y handed ∙ taken_other y item.3
                ]
            | inr made ↦ sym (holds_gained v first last y (Contains-append_right values (flat_map (makes g.sorts parts p) (segment g.sorts parts p v)) y made))
          ]

      -- each action of a segment is made on what the node holds
      segment_made : (x : Action) → Contains (segment g.sorts parts p v) x → IsMade g.sorts parts p (step g parts visit p kids) node_holds x
      segment_made x c =
          let w = (here v first last).walked.held in
          made_on g.sorts parts p (step g parts visit p kids) (step_reads g parts visit p kids) w node_holds x
          (λ y d. sym (end_holds y (ready_needs g.sorts parts p (segment g.sorts parts p v) (handed_in g.sorts parts p v) (sound.runs.ready v first last) x c y d)))
          (λ y d. sym (end_holds y (Contains-append_right (handed_in g.sorts parts p v) (flat_map (makes g.sorts parts p) (segment g.sorts parts p v)) y (member_flat (makes g.sorts parts p) (segment g.sorts parts p v) x y c d))))
          ((walk_made v first last).1 x c)

      -- an inherited attribute of the visit
      takes : (x : ℕ) → Contains (attrs_of_visit g.sorts parts true p.left v) x → node_holds (b.Value (0 + x)) ≡ value (f.attr x)
      takes x c =
          let member = member_map (λ y. b.Value (0 + y)) (attrs_of_visit g.sorts parts true p.left v) x c in
          let handed = Contains-append_left values bound_items (b.Value (0 + x)) member in
          let at : 0 + x ≡ x = omega arith in
          holds_gained v first last (b.Value (0 + x)) (Contains-append_left values (flat_map (makes g.sorts parts p) (segment g.sorts parts p v)) (b.Value (0 + x)) member)
          ∙ (walk_made v first last).0 (b.Value (0 + x)) handed ∙ start_holds (b.Value (0 + x)) handed
          ∙ taken_value (0 + x) member ∙ ap (λ i. value (f.attr i)) at

      -- a synthesised attribute of the visit
      gives : (x : ℕ) → Contains (attrs_of_visit g.sorts parts false p.left v) x → value_in (node_holds (b.Value (0 + x))) ≡ f.attr x
      gives x c =
          let outs = values_of_visit g.sorts parts false p.left 0 v in
          let member = member_map (λ y. b.Value (0 + y)) (attrs_of_visit g.sorts parts false p.left v) x c in
          let there = All-contains (Contains (handed_in g.sorts parts p v ++ flat_map (makes g.sorts parts p) (segment g.sorts parts p v))) outs (b.Value (0 + x)) (sound.gives v first last) member in
          let w = (here v first last).walked.held in
          let told : map (λ y. value_in (w (b.Value (0 + y)))) (attrs_of_visit g.sorts parts false p.left v) ≡ map f.attr (attrs_of_visit g.sorts parts false p.left v) =
          sym (map-map (λ y. value_in (w y)) (λ y. b.Value (0 + y)) (attrs_of_visit g.sorts parts false p.left v)) ∙ (here v first last).answers.synthesised in
          ap value_in (sym (end_holds (b.Value (0 + x)) there))
          ∙ map_told (λ y. value_in (w (b.Value (0 + y)))) f.attr (attrs_of_visit g.sorts parts false p.left v) told x c

    -- All is made on what the node holds.
    pub node_all_made : AllMade g parts visit p kids node_holds
    node_all_made x done = segment_made done.0 done.1 done.2 x done.3

    module _ (visited : AreVisited g parts) where
      attr_over : (x : ℕ) (attr : Attr) → slice_get (attrs_of_sort g.sorts p.left) x ≡ Some attr → (inherited : Bool) → attr.inherited ≡ inherited → value_in (node_holds (b.Value (0 + x))) ≡ f.attr x
      attr_over x attr has true is =
          let bounds = visited p.left x (slice_get_within (attrs_of_sort g.sorts p.left) x attr has) in
          ap value_in (takes (visit_of parts p.left x) bounds.0 bounds.1 x (attr_of_visit g parts p p.left x attr true has is))
      attr_over x attr has false is =
          let bounds = visited p.left x (slice_get_within (attrs_of_sort g.sorts p.left) x attr has) in
          gives (visit_of parts p.left x) bounds.0 bounds.1 x (attr_of_visit g parts p p.left x attr false has is)

      -- It shows the values of its attributes.
      pub node_shows : (x : ℕ) → x < length (attrs_of_sort g.sorts p.left) → value_in (node_holds (b.Value (0 + x))) ≡ f.attr x
      node_shows x less =
          let d : Attr = record { name = []; inherited = true; kind = k.Int } in
          let attr = get_or (attrs_of_sort g.sorts p.left) x d in
          attr_over x attr (slice_get-get_or (attrs_of_sort g.sorts p.left) x d less) attr.inherited refl
