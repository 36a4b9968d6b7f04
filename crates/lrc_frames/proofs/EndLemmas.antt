-- A result is made of its lists: its cell is built part by part, and what it gives stands at the numbers of its function.
use Rattle.std.proofs.Common.{◌≡◌, ℕ, suc, ◌+◌, ◌-◌, false, List, map, Contains, refl, sym, ap, ◌∙◌, subst}
use Rattle.std.specs.Prelude.{Result, Ok, Err, IsErr, IfOk}
use Rattle.std.specs.List.{range_with_len}
use lib.IntN.{pos}
use Rattle.lrc_meaning.specs.Grammar.{Grammar}
use Rattle.lrc_order_meaning.specs.declared.Partition.{Partition}
use Rattle.lrc_plan_meaning.specs.declared.Bound.{Bound}
use Rattle.lrc_plan_meaning.specs.declared.Bound.TheVariants as b
use Rattle.lrc_plan_meaning.specs.Items.{visits_of, attrs_of_visit}
use Rattle.lrc_plan_meaning.specs.Bindings.{binding as items_between}
use Rattle.lrc_visit_meaning.specs.Values as plain
use Rattle.lrc_visit_meaning.specs.Visits.{Held, Walked, result_of}
use Rattle.lrc_store.specs.Cells.{CellTree, number, pair, parts as parts_of, IsWithin}
use Rattle.lrc_store.specs.Standing.{Standing, IsKnown, meant}
use Rattle.lrc_store.specs.declared.cells.Handle.{Handle}
use Rattle.lrc_store.specs.declared.stores.Full.{Full}
use Rattle.lrc_store.proofs.Known.{stands-known}
use Rattle.lrc_code.specs.Forms.{list_cell, tree_cell, result_cell}
use Rattle.lrc_code.specs.Building.{Builds}
use Rattle.lrc_code.proofs.Growing.{left-within, right-within, builds-as}
use Rattle.lrc_call_meaning.specs.Forms.{values_cell, bindings_cell, result_form}
use Rattle.lrc_call_meaning.specs.Spelled.{IsSpelledResult}
use Rattle.lrc_eval.specs.declared.values.Val.{Val}
use Rattle.lrc_functions.specs.Numbers.{number as number_of}
use Rattle.lrc_functions.specs.declared.function.Function.{Function}
use Rattle.lrc_frames.specs.Frames.{Run, ShowsAt}
use Rattle.lrc_frames.specs.Steps.{IsProper}
use Rattle.lrc_frames.specs.Writing.{AreHeld, AreHeldEach, CanEnd, Ends}
use Rattle.lrc_frames.proofs.MadeLemmas.{each-lasts, one-stopped, other-stopped, both-built}
use Rattle.lrc_frames.proofs.ShownLemmas.{IsShown, row_cells, values-held, values-spelled, rows-held, rows-cells, rows-spelled}

-- what holds in any case holds where a call succeeds
if-ok : {X : Type 0} (answer : Result Handle Full) → X → IfOk answer (λ _. X)
if-ok (Ok handle) x = x
if-ok (Err e) x = tt

-- ---- the cell

module _ (height : ℕ) (synthesised bindings : CellTree) where
  abbrev whole : CellTree
  whole = result_cell height synthesised bindings

  synthesised-within : IsWithin (parts_of synthesised) (parts_of whole)
  synthesised-within part h = right-within 6 (number (pos height)) (pair 5 synthesised bindings) part (left-within 5 synthesised bindings part h)

  bindings-within : IsWithin (parts_of bindings) (parts_of whole)
  bindings-within part h = right-within 6 (number (pos height)) (pair 5 synthesised bindings) part (right-within 5 synthesised bindings part h)

-- ---- a visit that can end

module _ (g : Grammar) (parts : List Partition) (s : Standing) (frame : List Val) (function : Function) (height : ℕ) (r : Run) (v : ℕ) (w : Walked) (can : CanEnd g parts s frame function height r v w) where
  abbrev outcome : plain.Result
  outcome = result_of g parts r.production v w

  abbrev Shown : Bound → Type 0
  Shown = IsShown g parts r.production s frame w.held

  shown : (x : Bound) → Contains r.available x → Shown x
  shown x c = subst (λ (m : Held). ShowsAt s frame (number_of g.sorts parts r.production x) x (m x)) (sym can.same_held) (can.runs.holds x c)

  abbrev attrs : List ℕ
  attrs = attrs_of_visit g.sorts parts false r.production.left v

  value-shown : (x : Bound) → Contains (map (λ y. b.Value (0 + y)) attrs) x → Shown x
  value-shown x c = shown x (can.done.gives x c)

  abbrev between : ℕ → List Bound
  between = items_between g.sorts parts r.production v

  pub fine : (u : ℕ) (x : Bound) → Contains (between u) x → Shown x × IsProper x (w.held x)
  fine u x c =
      let there = can.done.hands_on u x c in
      (shown x there.0, subst (λ (m : Held). IsProper x (m x)) (sym can.same_held) there.1)

  abbrev later : List ℕ
  later = range_with_len (v + 1) (visits_of parts r.production.left - v)

  abbrev pub handed_cells : List (List CellTree)
  handed_cells = map (row_cells g parts r.production s frame w.held between fine) later

  is-spelled : IsSpelledResult outcome
  is-spelled = record {
    synthesised = values-spelled g parts r.production s frame w.held 0 attrs value-shown;
    bindings = rows-spelled g parts r.production s frame w.held between fine later;
  }

  abbrev lists : CellTree
  lists = list_cell (map list_cell handed_cells)

  lists-are : lists ≡ bindings_cell outcome.bindings
  lists-are = ap list_cell (rows-cells g parts r.production s frame w.held between fine later)

  ended : (t : Standing) (answer : Result Handle Full) → Builds s t (result_cell height (values_cell outcome.synthesised) lists) answer → Ends s t outcome answer
  unfolding result_form
  ended t answer built =
      let same : result_cell height (values_cell outcome.synthesised) lists ≡ result_cell (suc w.height) (values_cell outcome.synthesised) (bindings_cell outcome.bindings) =
      ap (λ n. result_cell n (values_cell outcome.synthesised) lists) can.is_height
      ∙ ap (result_cell (suc w.height) (values_cell outcome.synthesised)) lists-are in
      record { builds = builds-as s t _ _ answer same built; spelled = if-ok answer is-spelled }

  abbrev whole_cell : CellTree
  whole_cell = result_cell height (values_cell outcome.synthesised) lists

  values-in : IsWithin (parts_of (values_cell outcome.synthesised)) (parts_of whole_cell)
  values-in = synthesised-within height (values_cell outcome.synthesised) lists

  lists-in : IsWithin (parts_of lists) (parts_of whole_cell)
  lists-in = bindings-within height (values_cell outcome.synthesised) lists

  -- ---- the steps of its end

  -- what it gives stands at the numbers of its function
  module _ (read : List ℕ) (same : read ≡ function.synthesised) where
    pub values-there : AreHeld s frame read (map tree_cell outcome.synthesised)
    values-there =
        let is : function.synthesised ≡ map (λ x. 0 + x) attrs = ap (λ (f : Function). f.synthesised) can.is_function in
        subst (λ (ns : List ℕ). AreHeld s frame ns (map tree_cell outcome.synthesised)) (sym (same ∙ is)) (values-held g parts r.production s frame w.held 0 attrs value-shown)

    -- what putting its values answers
    abbrev PutsValues : Standing → Result Handle Full → Type 0
    PutsValues t answer = (cells : List CellTree) → AreHeld s frame read cells → Builds s t (list_cell cells) answer

    pub values-stopped : (t : Standing) (e : Full) (answer : Result Handle Full) → IsErr answer → PutsValues t (Err e) → Ends s t outcome answer
    values-stopped t e answer is puts =
        ended t answer (one-stopped (values_cell outcome.synthesised) lists whole_cell values-in lists-in s t e answer is (puts (map tree_cell outcome.synthesised) values-there))

    pub listed : (t : Standing) (one : Handle) → PutsValues t (Ok one) → Builds s t (values_cell outcome.synthesised) (Ok one)
    listed t one puts = puts (map tree_cell outcome.synthesised) values-there

  -- and what it hands on stands there too, once its values are put
  module _ (t : Standing) (one : Handle) (first : Builds s t (values_cell outcome.synthesised) (Ok one)) (read : List (List ℕ)) (same : read ≡ function.later) where
    pub bindings-there : AreHeldEach t frame read handed_cells
    bindings-there =
        let is = ap (λ (f : Function). f.later) can.is_function in
        subst (λ (ns : List (List ℕ)). AreHeldEach t frame ns handed_cells) (sym (same ∙ is))
        (each-lasts s t frame (map (λ u. map (number_of g.sorts parts r.production) (between u)) later) handed_cells first.adds.gains.lasts.known (rows-held g parts r.production s frame w.held between fine later))

    abbrev PutsBindings : Standing → Result Handle Full → Type 0
    PutsBindings u answer = (rows : List (List CellTree)) → AreHeldEach t frame read rows → Builds t u (list_cell (map list_cell rows)) answer

    pub bindings-stopped : (u : Standing) (e : Full) (answer : Result Handle Full) → IsErr answer → PutsBindings u (Err e) → Ends s u outcome answer
    bindings-stopped u e answer is puts =
        ended u answer (other-stopped (values_cell outcome.synthesised) lists whole_cell values-in lists-in s t u one e answer is first (puts handed_cells bindings-there))

    -- and the result is put over both
    module _ (u : Standing) (two : Handle) (puts : PutsBindings u (Ok two)) where
      second : Builds t u lists (Ok two)
      second = puts handed_cells bindings-there

      pub values-known : IsKnown u one.0
      values-known = stands-known u one.0 (values_cell outcome.synthesised) (second.adds.gains.lasts.known one.0 (values_cell outcome.synthesised) first.ok.stands)

      pub bindings-known : IsKnown u two.0
      bindings-known = stands-known u two.0 lists second.ok.stands

      pub ends : (z : Standing) (answer : Result Handle Full) → Builds u z (result_cell height (meant u one.0) (meant u two.0)) answer → Ends s z outcome answer
      ends z answer third =
          ended z answer (both-built (values_cell outcome.synthesised) lists whole_cell values-in lists-in s t u z one two (result_cell height) answer refl first second third)
