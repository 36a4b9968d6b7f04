-- What the items of a run show: the cells that stand for what they hold, one by one and in lists, and that these are spelled.
use Rattle.std.proofs.Common.{◌≡◌, ℕ, ◌+◌, List, [], ◌∷◌, map, Contains, slice_get, refl, sym, ap, ◌∙◌, subst}
use Rattle.std.specs.List.{AllByRecursion}
use Rattle.std.proofs.lemmas.Option.{same_Some}
use Rattle.std.proofs.lemmas.List.{length-map}
use Rattle.lrc_base.specs.declared.grammar.Production.{Production}
use Rattle.lrc_meaning.specs.Tree.{Tree}
use Rattle.lrc_meaning.specs.Grammar.{Grammar}
use Rattle.lrc_order_meaning.specs.declared.Partition.{Partition}
use Rattle.lrc_order_meaning.proofs.MemberLemmas.{member_first, member_later, member_slice}
use Rattle.lrc_plan_meaning.specs.declared.Bound.{Bound}
use Rattle.lrc_plan_meaning.specs.declared.Bound.TheVariants as b
use Rattle.lrc_visit_meaning.specs.Values.{Datum, Data, data_row, value_in, binding_in}
use Rattle.lrc_visit_meaning.specs.Visits.{Held, values_at}
use Rattle.lrc_store.specs.Cells.{CellTree}
use Rattle.lrc_store.specs.Standing.{Standing}
use Rattle.lrc_code.specs.Forms.{more_cell, list_cell, tree_cell}
use Rattle.lrc_call_meaning.specs.Forms.{datum_cell, binding_cell}
use Rattle.lrc_call_meaning.specs.Spelled.{IsSpelled, IsSpelledDatum, AreSpelledData}
use Rattle.lrc_laws.proofs.OccurrenceLemmas.{of_mapped}
use Rattle.lrc_eval.specs.declared.values.Val.{Val}
use Rattle.lrc_eval.specs.declared.values.Val.TheVariants as v
use Rattle.lrc_eval.specs.Values.{Means}
use Rattle.lrc_functions.specs.Numbers.{number}
use Rattle.lrc_frames.specs.Frames.{MeansBinding, Shows, ShowsAt}
use Rattle.lrc_frames.specs.Steps.{IsProper}
use Rattle.lrc_frames.proofs.ItemLemmas.{map_map}
use Rattle.lrc_frames.specs.Writing.{HoldsCell, HoldsAt, AreHeld, AreHeldEach}

-- the cell of what an item shows: an occurrence a value's, and a symbol's binding that of its list
abbrev pub shown_cell : Bound → Datum → CellTree
shown_cell (b.Value o) d = tree_cell (value_in d)
shown_cell (b.Kid n i j) d = binding_cell (binding_in d)

-- ---- one item

means-holds : (s : Standing) (shown : Val) (t : Tree) → Means s shown t → HoldsCell s shown (tree_cell t)
means-holds s (v.Int n) t m = ap tree_cell m
means-holds s (v.Bool c) t m = ap tree_cell m
means-holds s (v.Ref handle) t m = m.1
means-holds s v.Unset t m = m

binding-holds : (s : Standing) (shown : Val) (ds : Data) → MeansBinding s shown ds → HoldsCell s shown (binding_cell ds)
binding-holds s (v.Int n) ds m = absurd m
binding-holds s (v.Bool c) ds m = absurd m
binding-holds s (v.Ref handle) ds m = m.0
binding-holds s v.Unset ds m = m

binding-spelled : (s : Standing) (shown : Val) (ds : Data) → MeansBinding s shown ds → AreSpelledData ds
binding-spelled s (v.Int n) ds m = absurd m
binding-spelled s (v.Bool c) ds m = absurd m
binding-spelled s (v.Ref handle) ds m = m.1
binding-spelled s v.Unset ds m = absurd m

shows-holds : (s : Standing) (shown : Val) (x : Bound) (d : Datum) → Shows s shown x d → HoldsCell s shown (shown_cell x d)
shows-holds s shown (b.Value o) d h = means-holds s shown (value_in d) h.means
shows-holds s shown (b.Kid n i j) d h = binding-holds s shown (binding_in d) h

-- what an item of its sort shows is the whole that it holds
proper-cell : (x : Bound) (d : Datum) → IsProper x d → shown_cell x d ≡ datum_cell d
proper-cell (b.Value o) d h = ap (λ e. tree_cell (value_in e)) h.1 ∙ sym (ap datum_cell h.1)
proper-cell (b.Kid n i j) d h = ap (λ e. binding_cell (binding_in e)) h.1 ∙ sym (ap datum_cell h.1)

proper-spelled : (s : Standing) (shown : Val) (x : Bound) (d : Datum) → Shows s shown x d → IsProper x d → IsSpelledDatum d
proper-spelled s shown (b.Value o) d h p = subst IsSpelledDatum (sym p.1) (subst (λ e. IsSpelled (value_in e)) p.1 h.spelled)
proper-spelled s shown (b.Kid n i j) d h p =
    subst IsSpelledDatum (sym p.1) (subst (λ e. AreSpelledData (binding_in e)) p.1 (binding-spelled s shown (binding_in d) h))

-- ---- many

module _ (g : Grammar) (parts : List Partition) (p : Production) (s : Standing) (frame : List Val) (m : Held) where
  abbrev numbered : Bound → ℕ
  numbered = number g.sorts parts p

  -- what stands at the item's number shows what the item holds
  abbrev pub IsShown : Bound → Type 0
  IsShown x = ShowsAt s frame (numbered x) x (m x)

  abbrev cell_of : Bound → CellTree
  cell_of x = shown_cell x (m x)

  shown-at : (x : Bound) (n : ℕ) (cell : CellTree) → numbered x ≡ n → cell_of x ≡ cell → IsShown x → HoldsAt s frame n cell
  shown-at x n cell e f h = record {
    value = h.value;
    there = ap (slice_get frame) (sym e) ∙ h.there;
    holds = subst (HoldsCell s h.value) f (shows-holds s h.value x (m x) h.shows);
  }

  items-held : (items : List Bound) → ((x : Bound) → Contains items x → IsShown x) → AreHeld s frame (map numbered items) (map cell_of items)
  items-held items shown = record {
    count = length-map items numbered ∙ sym (length-map items cell_of);
    each = λ i n cell e f.
        let one = of_mapped numbered items i n e in
        let other = of_mapped cell_of items i cell f in
        let same : other.0 ≡ one.0 = same_Some other.0 one.0 (sym other.1 ∙ one.1) in
        shown-at one.0 n cell one.2 (ap cell_of (sym same) ∙ other.2) (shown one.0 (member_slice items i one.0 one.1));
  }

  -- ---- values of attributes, and bindings of a symbol

  module _ (start : ℕ) where
    abbrev value_at : ℕ → Bound
    value_at x = b.Value (start + x)

    value-numbers : (attrs : List ℕ) → map numbered (map value_at attrs) ≡ map (λ x. start + x) attrs
    value-numbers attrs = map_map numbered value_at attrs

    value-cells : (attrs : List ℕ) → map cell_of (map value_at attrs) ≡ map tree_cell (values_at m (map value_at attrs))
    value-cells [] = refl
    value-cells (x ∷ xs) = ap (λ cs. tree_cell (value_in (m (value_at x))) ∷ cs) (value-cells xs)

    pub values-held : (attrs : List ℕ) → ((x : Bound) → Contains (map value_at attrs) x → IsShown x) → AreHeld s frame (map (λ x. start + x) attrs) (map tree_cell (values_at m (map value_at attrs)))
    values-held attrs shown =
        subst (λ (ns : List ℕ). AreHeld s frame ns (map tree_cell (values_at m (map value_at attrs)))) (value-numbers attrs)
        (subst (λ (cs : List CellTree). AreHeld s frame (map numbered (map value_at attrs)) cs) (value-cells attrs) (items-held (map value_at attrs) shown))

    pub values-spelled : (attrs : List ℕ) → ((x : Bound) → Contains (map value_at attrs) x → IsShown x) → AllByRecursion IsSpelled (values_at m (map value_at attrs))
    values-spelled [] shown = tt
    values-spelled (x ∷ xs) shown =
        ((shown (value_at x) (member_first (value_at x) (map value_at xs))).shows.spelled, values-spelled xs (λ y c. shown y (member_later (value_at x) (map value_at xs) y c)))

  module _ (n w : ℕ) where
    abbrev bound_at : ℕ → Bound
    bound_at u = b.Kid n u w

    bound-numbers : (us : List ℕ) → map numbered (map bound_at us) ≡ map (λ u. numbered (bound_at u)) us
    bound-numbers us = map_map numbered bound_at us

    bound-cells : (us : List ℕ) → map cell_of (map bound_at us) ≡ map binding_cell (map (λ u. binding_in (m (bound_at u))) us)
    bound-cells [] = refl
    bound-cells (u ∷ us) = ap (λ cs. binding_cell (binding_in (m (bound_at u))) ∷ cs) (bound-cells us)

    pub bounds-held : (us : List ℕ) → ((x : Bound) → Contains (map bound_at us) x → IsShown x) → AreHeld s frame (map (λ u. numbered (bound_at u)) us) (map binding_cell (map (λ u. binding_in (m (bound_at u))) us))
    bounds-held us shown =
        subst (λ (ns : List ℕ). AreHeld s frame ns (map binding_cell (map (λ u. binding_in (m (bound_at u))) us))) (bound-numbers us)
        (subst (λ (cs : List CellTree). AreHeld s frame (map numbered (map bound_at us)) cs) (bound-cells us) (items-held (map bound_at us) shown))

    pub bounds-spelled : (us : List ℕ) → ((x : Bound) → Contains (map bound_at us) x → IsShown x) → AllByRecursion AreSpelledData (map (λ u. binding_in (m (bound_at u))) us)
    bounds-spelled [] shown = tt
    bounds-spelled (u ∷ us) shown =
        let first = shown (bound_at u) (member_first (bound_at u) (map bound_at us)) in
        (binding-spelled s first.value (binding_in (m (bound_at u))) first.shows, bounds-spelled us (λ y c. shown y (member_later (bound_at u) (map bound_at us) y c)))

  -- ---- bindings of the left side, each with its own items

  row-cell : (items : List Bound) → ((x : Bound) → Contains items x → IsProper x (m x)) → list_cell (map cell_of items) ≡ binding_cell (data_row (map m items))
  row-cell [] proper = refl
  row-cell (x ∷ xs) proper =
      ap (λ c. more_cell c (list_cell (map cell_of xs))) (proper-cell x (m x) (proper x (member_first x xs)))
      ∙ ap (more_cell (datum_cell (m x))) (row-cell xs (λ y c. proper y (member_later x xs y c)))

  row-spelled : (items : List Bound) → ((x : Bound) → Contains items x → IsShown x × IsProper x (m x)) → AreSpelledData (data_row (map m items))
  row-spelled [] fine = tt
  row-spelled (x ∷ xs) fine =
      let first = fine x (member_first x xs) in
      (proper-spelled s first.0.value x (m x) first.0.shows first.1, row-spelled xs (λ y c. fine y (member_later x xs y c)))

  module _ (items_of : ℕ → List Bound) (fine : (u : ℕ) (x : Bound) → Contains (items_of u) x → IsShown x × IsProper x (m x)) where
    abbrev pub row_cells : ℕ → List CellTree
    row_cells u = map cell_of (items_of u)

    pub rows-held : (us : List ℕ) → AreHeldEach s frame (map (λ u. map numbered (items_of u)) us) (map row_cells us)
    rows-held us = record {
      count = length-map us (λ u. map numbered (items_of u)) ∙ sym (length-map us row_cells);
      each = λ i numbers cells e f.
          let one = of_mapped (λ u. map numbered (items_of u)) us i numbers e in
          let other = of_mapped row_cells us i cells f in
          let same : other.0 ≡ one.0 = same_Some other.0 one.0 (sym other.1 ∙ one.1) in
          subst (λ (ns : List ℕ). AreHeld s frame ns cells) one.2
          (subst (AreHeld s frame (map numbered (items_of one.0))) (ap row_cells (sym same) ∙ other.2) (items-held (items_of one.0) (λ x c. (fine one.0 x c).0)));
    }

    pub rows-cells : (us : List ℕ) → map list_cell (map row_cells us) ≡ map binding_cell (map (λ u. data_row (map m (items_of u))) us)
    rows-cells [] = refl
    rows-cells (u ∷ us) =
        ap (λ c. c ∷ map list_cell (map row_cells us)) (row-cell (items_of u) (λ x c. (fine u x c).1))
        ∙ ap (λ cs. binding_cell (data_row (map m (items_of u))) ∷ cs) (rows-cells us)

    pub rows-spelled : (us : List ℕ) → AllByRecursion AreSpelledData (map (λ u. data_row (map m (items_of u))) us)
    rows-spelled [] = tt
    rows-spelled (u ∷ us) = (row-spelled (items_of u) (fine u), rows-spelled us)
