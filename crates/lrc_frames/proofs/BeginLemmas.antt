-- A call is read, has no result where it visits no node or does not have the form of one, and hands in what its visit takes.
use Rattle.std.proofs.Common.{◌≡◌, ℕ, ◌+◌, ◌-◌, ◌≤◌, Bool, true, false, ◌&&◌, ◌==◌, cond, List, length, map, Contains, Option, Some, None, slice_get, get_or, refl, sym, ap, ◌∙◌, subst, arith}
use Rattle.std.specs.Prelude.{IfSome, nat_le, flat_map, option_map, option_and_then}
use Rattle.std.specs.List.{range_with_len}
use Rattle.std.proofs.lemmas.Bool.{and_parts, ne_eqb, eq-eqb, le-leb, leb-true}
use Rattle.std.proofs.lemmas.List.{length-map}
use Rattle.std.proofs.lemmas.Option.{get_or_from_slice_get}
use Rattle.lrc_base.specs.declared.grammar.Production.{Production}
use Rattle.lrc_base.specs.declared.signature.Signature.{Signature}
use Rattle.lrc_meaning.specs.Tree.{Tree, Trees, int, bool, name, node}
use Rattle.lrc_meaning.specs.Grammar.{Grammar}
use Rattle.lrc_meaning.specs.Signature.{signature_of}
use Rattle.lrc_meaning.proofs.SignatureLemmas.{signed_count}
use Rattle.lrc_order_meaning.specs.declared.Partition.{Partition}
use Rattle.lrc_order_meaning.proofs.MemberLemmas.{member_map, member_of_map, member_of_filter, member_slice}
use Rattle.lrc_plan_meaning.specs.declared.Bound.{Bound}
use Rattle.lrc_plan_meaning.specs.declared.Bound.TheVariants as b
use Rattle.lrc_plan_meaning.specs.Items.{is_among, visits_of, attrs_of_visit, values_of_visit, makes}
use Rattle.lrc_plan_meaning.specs.Sequences.{segment}
use Rattle.lrc_plan_meaning.specs.Bindings.{items_of, gained, used, binding}
use Rattle.lrc_visit_meaning.specs.Values.{Datum, value, data_list, Call, Result}
use Rattle.lrc_visit_meaning.specs.Visits.{walk, are_of_kinds, are_of_lengths, is_call, is_visited, held_at_start, result_of, step, visit_of_node, visit_of_tree, one_visit}
use Rattle.lrc_store.specs.Cells.{CellTree}
use Rattle.lrc_store.specs.Standing.{Standing, Stands, meant}
use Rattle.lrc_store.specs.Words.{Keeps}
use Rattle.lrc_store.specs.declared.cells.Handle.{Handle}
use Rattle.lrc_store.proofs.Known.{known-stands, stands-meant}
use Rattle.lrc_code.specs.Forms.{tree_cell, call_cell}
use Rattle.lrc_code.specs.Reading.{IsCall, HasCallParts}
use Rattle.lrc_code.specs.declared.calls.CallParts.{CallParts}
use Rattle.lrc_call_meaning.specs.Forms.{values_cell, bindings_cell, call_form}
use Rattle.lrc_call_meaning.specs.Spelled.{IsSpelled, IsSpelledCall}
use Rattle.lrc_eval.specs.declared.values.Val.{Val}
use Rattle.lrc_plan.proofs.ReadLemmas.{in_some}
use Rattle.lrc_functions.specs.declared.function.Function.{Function}
use Rattle.lrc_functions.specs.Numbers.{number, item_count}
use Rattle.lrc_functions.specs.Functions.{function_of}
use Rattle.lrc_functions.proofs.NumberLemmas.{counted}
use Rattle.lrc_frames.specs.declared.body.Body.{Body}
use Rattle.lrc_frames.specs.declared.nodes.Node.{Node}
use Rattle.lrc_frames.specs.declared.reading.Reading.TheVariants as reading
use Rattle.lrc_frames.specs.Frames.{Run, RunsAt, gaining}
use Rattle.lrc_frames.specs.Lists.{IsReadAs, Fills, FillsEach, FilledEachIf}
use Rattle.lrc_frames.specs.Nodes.{IsNode, HasNode}
use Rattle.lrc_frames.specs.Steps.{Begins}
use Rattle.lrc_frames.specs.Beginning.{bare, IsOfNode, HandsIn, HandedIf}
use Rattle.lrc_frames.proofs.FillLemmas.{gaining_then}
use Rattle.lrc_frames.proofs.ItemLemmas.{left_listed, values_numbered, occurrence_below, binding_behind}
use Rattle.lrc_frames.proofs.TakeLemmas.{values_stand, values_spelled}

-- ---- the parts of a call

pub is_call_cell : (s : Standing) (handle : ℕ) (c : Call) → Stands s handle (call_form c) → IsCall (meant s handle)
unfolding call_form
is_call_cell s handle c stands =
    (tree_cell c.tree, c.visit, values_cell c.inherited, bindings_cell c.bindings, stands-meant s handle (call_form c) stands)

-- the tree and the lists stand for those of the call
pub record HasRead (t : Standing) (c : Call) (found : CallParts) : Type 0 where
  pub tree : Stands t found.tree.0 (tree_cell c.tree)
  pub visit : found.visit ≡ c.visit
  pub inherited : Stands t found.inherited.0 (values_cell c.inherited)
  pub bindings : Stands t found.bindings.0 (bindings_cell c.bindings)

module _ (v w : ℕ) (t i b u j d : CellTree) (same : call_cell t v i b ≡ call_cell u w j d) where
  same_visit : v ≡ w
  same_visit = let tags : 32 + v ≡ 32 + w = cc in omega (arith, tags)

  same_tree : t ≡ u
  same_tree = cc

  same_inherited : i ≡ j
  same_inherited = cc

  same_bindings : b ≡ d
  same_bindings = cc

pub call_read : (s t : Standing) (handle : ℕ) (c : Call) (found : CallParts) → Stands s handle (call_form c) → HasCallParts t (meant s handle) found → HasRead t c found
unfolding call_form
call_read s t handle c found stands has =
    let tree = tree_cell c.tree in
    let inherited = values_cell c.inherited in
    let bindings = bindings_cell c.bindings in
    let same : call_cell tree c.visit inherited bindings ≡ call_cell (meant t found.tree.0) found.visit (meant t found.inherited.0) (meant t found.bindings.0) =
    sym (stands-meant s handle (call_form c) stands) ∙ has.whole in
    record {
      tree = known-stands t found.tree.0 has.tree ∙ ap Some (sym (same_tree c.visit found.visit tree inherited bindings (meant t found.tree.0) (meant t found.inherited.0) (meant t found.bindings.0) same));
      visit = sym (same_visit c.visit found.visit tree inherited bindings (meant t found.tree.0) (meant t found.inherited.0) (meant t found.bindings.0) same);
      inherited = known-stands t found.inherited.0 has.inherited
          ∙ ap Some (sym (same_inherited c.visit found.visit tree inherited bindings (meant t found.tree.0) (meant t found.inherited.0) (meant t found.bindings.0) same));
      bindings = known-stands t found.bindings.0 has.bindings
          ∙ ap Some (sym (same_bindings c.visit found.visit tree inherited bindings (meant t found.tree.0) (meant t found.inherited.0) (meant t found.bindings.0) same));
    }

module _ (g : Grammar) (parts : List Partition) where
  -- ---- calls with no result

  pub no_node : (s : Standing) (c : Call) (t : Tree) → HasNode s g.prods t None → (visit : Call → Option Result) → visit_of_tree g parts visit t c ≡ None
  no_node s c (int i) none visit = refl
  no_node s c (bool b) none visit = refl
  no_node s c (name n) none visit = refl
  no_node s c (node p kids) none visit = ap (option_and_then (λ q. visit_of_node g parts visit q kids c)) (none p kids refl)

  pub not_visited : (c : Call) (n : ℕ) (kids : Trees) (p : Production) → c.tree ≡ node n kids → slice_get g.prods n ≡ Some p → is_visited g parts p kids c ≡ false
      → (visit : Call → Option Result) → one_visit g parts visit c ≡ None
  not_visited c n kids p is there none visit =
      ap (λ t. visit_of_tree g parts visit t c) is
      ∙ ap (option_and_then (λ q. visit_of_node g parts visit q kids c)) there
      ∙ ap (λ b. cond b
      (option_map (result_of g parts p c.visit) (walk (makes g.sorts parts p) (step g parts visit p kids) (segment g.sorts parts p c.visit) (record { height = 0; held = held_at_start g parts p c }))) None) none

  module _ (p : Production) (c : Call) where
    abbrev in_range : Bool
    in_range = nat_le 1 c.visit && nat_le c.visit (visits_of parts p.left)

    abbrev inherits : Bool
    inherits = length c.inherited == length (attrs_of_visit g.sorts parts true p.left c.visit)

    abbrev is_handed : Bool
    is_handed = are_of_lengths c.bindings (map (λ u. length (binding g.sorts parts p u c.visit)) (range_with_len 1 (c.visit - 1)))

    no_and : (x : Bool) → (x && false) ≡ false
    no_and true = refl
    no_and false = refl

    range_false : ¬ ((1 ≤ c.visit) × (c.visit ≤ visits_of parts p.left)) → in_range ≡ false
    range_false out = over in_range refl where
      over : (b : Bool) → in_range ≡ b → b ≡ false
      over false e = refl
      over true e = let both = and_parts (nat_le 1 c.visit) (nat_le c.visit (visits_of parts p.left)) e in absurd (out (leb-true 1 c.visit both.0, leb-true c.visit (visits_of parts p.left) both.1))

    pub out_of_range : ¬ ((1 ≤ c.visit) × (c.visit ≤ visits_of parts p.left)) → is_call g parts p c ≡ false
    unfolding is_call
    out_of_range out = ap (λ x. x && (inherits && is_handed)) (range_false out)

    pub inherits_other : ¬ (length c.inherited ≡ length (attrs_of_visit g.sorts parts true p.left c.visit)) → is_call g parts p c ≡ false
    unfolding is_call
    inherits_other differ =
        ap (λ x. in_range && (x && is_handed)) (ne_eqb (length c.inherited) (length (attrs_of_visit g.sorts parts true p.left c.visit)) differ) ∙ no_and in_range

    pub handed_other : is_handed ≡ false → is_call g parts p c ≡ false
    unfolding is_call
    handed_other differ = ap (λ x. in_range && (inherits && x)) differ ∙ ap (λ x. in_range && x) (no_and inherits) ∙ no_and in_range

    pub has_form : 1 ≤ c.visit → c.visit ≤ visits_of parts p.left → length c.inherited ≡ length (attrs_of_visit g.sorts parts true p.left c.visit) → is_handed ≡ true → is_call g parts p c ≡ true
    unfolding is_call
    has_form first last same handed =
        ap (λ x. (x && nat_le c.visit (visits_of parts p.left)) && (inherits && is_handed)) (le-leb 1 c.visit first)
        ∙ ap (λ x. x && (inherits && is_handed)) (le-leb c.visit (visits_of parts p.left) last)
        ∙ ap (λ x. x && is_handed) (eq-eqb (length c.inherited) (length (attrs_of_visit g.sorts parts true p.left c.visit)) same)
        ∙ handed

  -- ---- the node of a call

  module _ (s : Standing) (c : Call) (prods : List Production) (are : prods ≡ g.prods) (found : Node) (of : IsNode s prods c.tree found) (p : Production) (is : p ≡ get_or prods found.production p) where
    declared_is : p ≡ of.declared
    declared_is = is ∙ get_or_from_slice_get prods found.production of.declared p of.there

    there : slice_get g.prods found.production ≡ Some p
    there = ap (λ (ps : List Production). slice_get ps found.production) (sym are) ∙ of.there ∙ ap Some (sym declared_is)

    pub wrong_visit : ¬ ((1 ≤ c.visit) × (c.visit ≤ visits_of parts p.left)) → (visit : Call → Option Result) → one_visit g parts visit c ≡ None
    wrong_visit out = not_visited c found.production of.trees p of.is there (ap (λ x. x && are_of_kinds g.prods of.trees p.kids) (out_of_range p c out))

    pub wrong_kids : are_of_kinds prods of.trees p.kids ≡ false → (visit : Call → Option Result) → one_visit g parts visit c ≡ None
    wrong_kids wrong =
        not_visited c found.production of.trees p of.is there
        (ap (λ (ps : List Production). is_call g parts p c && are_of_kinds ps of.trees p.kids) (sym are) ∙ ap (λ x. is_call g parts p c && x) wrong ∙ no_and p c (is_call g parts p c))

    pub right_node : 1 ≤ c.visit → c.visit ≤ visits_of parts p.left → are_of_kinds prods of.trees p.kids ≡ true → IsOfNode g parts c found.production
    right_node first last right = record {
      production = p;
      kids = of.trees;
      tree = of.is;
      there = there;
      first = first;
      last = last;
      kinds = ap (λ (ps : List Production). are_of_kinds ps of.trees p.kids) (sym are) ∙ right;
    }

  -- ---- what a call hands in

  module _ (s : Standing) (frame : List Val) (body : Body) (p : Production) (kids : Trees) (c : Call) (function : Function) (occurrences : ℕ) (lists : CallParts)
      (hands : HandsIn g parts s frame body p kids c function occurrences lists) where
    abbrev pub values : List Bound
    values = values_of_visit g.sorts parts true p.left 0 c.visit

    abbrev pub given : List Datum
    given = map value c.inherited

    abbrev pub items : ℕ → List Bound
    items u = binding g.sorts parts p u c.visit

    abbrev pub visits : List ℕ
    visits = range_with_len 1 (c.visit - 1)

    pub hands_values : (numbers : List ℕ) → numbers ≡ function.inherited → Fills g parts s frame body (bare p kids) numbers lists.inherited.0 reading.Values values given
    hands_values numbers are = record {
      runs = hands.runs;
      numbered = are ∙ ap (λ (f : Function). f.inherited) hands.is_function ∙ values_numbered g.sorts parts p true p.left 0 c.visit;
      listed = left_listed g.sorts parts p true c.visit;
      list = values_stand s lists.inherited.0 c.inherited hands.inherited;
      spelled = values_spelled c.inherited hands.spelled.inherited;
      read = λ x d k h.
          let at = member_of_map (λ y. b.Value (0 + y)) (attrs_of_visit g.sorts parts true p.left c.visit) x k in
          let of = member_of_map value c.inherited d h in
          ((0 + at.0, sym at.2), (of.0, sym of.2));
    }

    value_counts : length given ≡ length c.inherited
    value_counts = length-map c.inherited value

    item_counts : length values ≡ length (attrs_of_visit g.sorts parts true p.left c.visit)
    item_counts = length-map (attrs_of_visit g.sorts parts true p.left c.visit) (λ x. b.Value (0 + x))

    pub values_differ : ¬ (length given ≡ length values) → is_call g parts p c ≡ false
    values_differ differ = inherits_other p c (λ same. differ (value_counts ∙ same ∙ sym item_counts))

    items_listed : (u : ℕ) (x : Bound) → Contains (items u) x → Contains (items_of g.sorts parts p) x
    items_listed u x k =
        (member_of_filter (λ y. is_among (gained g.sorts parts p u (segment g.sorts parts p u)) y && is_among (used g.sorts parts p c.visit (segment g.sorts parts p c.visit)) y) (items_of g.sorts parts p) x k).0

    items_read : (x : Bound) (d : Datum) → Contains (items_of g.sorts parts p) x → IsReadAs (reading.Either occurrences) (number g.sorts parts p x) x d
    items_read (b.Value o) d k = let count = hands.counted in let below = occurrence_below g.sorts parts p o k in omega (arith, count, below)
    items_read (b.Kid n i j) d k = let count = hands.counted in let behind = binding_behind g.sorts parts p n i j k in omega (arith, count, behind)

    pub hands_bindings : (t : Standing) (after : List Val) (rows : List (List ℕ)) → Keeps s t → RunsAt g parts t after body (gaining (bare p kids) values given) → rows ≡ function.earlier
        → FillsEach g parts t after body (gaining (bare p kids) values given) rows lists.bindings.0 (reading.Either occurrences) items visits c.bindings
    hands_bindings t after rows keeps runs are = record {
      runs = runs;
      numbered = are ∙ ap (λ (f : Function). f.earlier) hands.is_function;
      listed = items_listed;
      list = keeps lists.bindings.0 (bindings_cell c.bindings) hands.bindings;
      spelled = hands.spelled.bindings;
      read = λ u x d k. items_read x d (items_listed u x k);
    }

    pub handed : (t : Standing) (after : List Val) (all : Bool) → length given ≡ length values → FilledEachIf g parts t after body (gaining (bare p kids) values given) items visits c.bindings all
        → HandedIf g parts t after body p kids c all
    handed t after false same filled = handed_other p c filled
    handed t after true same filled = (
      has_form p c hands.first hands.last (sym value_counts ∙ same ∙ item_counts) filled.0,
      subst (λ (q : Run). RunsAt g parts t after body q) (gaining_then (bare p kids) values (flat_map items visits) given (flat_map data_list c.bindings) same) filled.1,
    )

  -- ---- a body at its start

  -- nothing is available in the frame yet
  pub bare_runs : (s : Standing) (frame : List Val) (body : Body) (c : Call) (at : IsOfNode g parts c body.production) → Stands s body.tree.0 (tree_cell c.tree) → IsSpelledCall c
      → length (items_of g.sorts parts at.production) ≤ length frame → RunsAt g parts s frame body (bare at.production at.kids)
  bare_runs s frame body c at stands spelled room = record {
    there = at.there;
    tree = stands ∙ ap (λ (t : Tree). Some (tree_cell t)) at.tree;
    spelled = subst IsSpelled at.tree spelled.tree;
    kinds = at.kinds;
    listed = λ x k. absurd (omega (arith, k.1));
    room = room;
    holds = λ x k. absurd (omega (arith, k.1));
  }

  -- the function of the visit is read, and the occurrences are counted
  pub hands_in : (s t : Standing) (frame : List Val) (body : Body) (c : Call) (at : IsOfNode g parts c body.production) (lists : CallParts) (function : Function) (signature : Signature) (occurrences : ℕ)
      → HasRead s c lists → Keeps s t → body.tree ≡ lists.tree → IsSpelledCall c → length (items_of g.sorts parts at.production) ≤ length frame
      → IfSome (slice_get g.prods body.production) (λ p. function ≡ function_of g.sorts parts p c.visit)
      → IfSome (slice_get g.prods body.production) (λ p. signature ≡ signature_of g.sorts p) → occurrences ≡ length signature.occurrences
      → HandsIn g parts t frame body at.production at.kids c function occurrences lists
  hands_in s t frame body c at lists function signature occurrences read keeps same spelled room is_function is_signature count = record {
    runs = bare_runs t frame body c at
        (subst (λ (h : Handle). Stands t h.0 (tree_cell c.tree)) (sym same) (keeps lists.tree.0 (tree_cell c.tree) read.tree)) spelled room;
    first = at.first;
    last = at.last;
    is_function = in_some (λ p. function ≡ function_of g.sorts parts p c.visit) (slice_get g.prods body.production) at.production at.there is_function;
    counted = count
        ∙ ap (λ (x : Signature). length x.occurrences) (in_some (λ p. signature ≡ signature_of g.sorts p) (slice_get g.prods body.production) at.production at.there is_signature)
        ∙ signed_count g.sorts at.production;
    inherited = keeps lists.inherited.0 (values_cell c.inherited) read.inherited;
    bindings = keeps lists.bindings.0 (bindings_cell c.bindings) read.bindings;
    spelled = spelled;
  }

  -- a frame with room for each count of items has room for these
  pub has_room : (counts : List ℕ) (frame : List Val) (n : ℕ) (p : Production) → counts ≡ map (item_count g.sorts parts) g.prods → ((k : ℕ) → Contains counts k → k ≤ length frame)
      → slice_get g.prods n ≡ Some p → length (items_of g.sorts parts p) ≤ length frame
  has_room counts frame n p are room there =
      let le = room (item_count g.sorts parts p) (subst (λ (ks : List ℕ). Contains ks (item_count g.sorts parts p)) (sym are) (member_map (item_count g.sorts parts) g.prods p (member_slice g.prods n p there))) in
      let same = counted g.sorts parts p in
      omega (arith, le, same)

  pub no_body : (s : Standing) (frame : List Val) (body : Body) (c : Call) (at : IsOfNode g parts c body.production) → HandedIf g parts s frame body at.production at.kids c false
      → (visit : Call → Option Result) → one_visit g parts visit c ≡ None
  no_body s frame body c at none =
      not_visited c body.production at.kids at.production at.tree at.there (ap (λ x. x && are_of_kinds g.prods at.kids at.production.kids) none)

  pub a_body : (s : Standing) (frame : List Val) (body : Body) (c : Call) (at : IsOfNode g parts c body.production) → body.visit ≡ c.visit → HandedIf g parts s frame body at.production at.kids c true
      → Begins g parts s frame c body
  a_body s frame body c at same begun = record {
    production = at.production;
    kids = at.kids;
    tree = at.tree;
    visit = same;
    visited = ap (λ x. x && are_of_kinds g.prods at.kids at.production.kids) begun.0 ∙ at.kinds;
    runs = begun.1;
  }
