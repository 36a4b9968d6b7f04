-- What is read of lists, and what a frame shows when the items of a list were put into it.
use Rattle.std.specs.Prelude.{◌≡◌, ℕ, ◌<◌, ◌≤◌, Bool, true, false, List, [], ◌∷◌, length, map, flat_map, Option, Some, None, Contains}
use Rattle.std.specs.List.{AllByRecursion}
use Rattle.lrc_meaning.specs.Tree.{Tree}
use Rattle.lrc_meaning.specs.Grammar.{Grammar}
use Rattle.lrc_order_meaning.specs.declared.Partition.{Partition}
use Rattle.lrc_plan_meaning.specs.declared.Bound.{Bound}
use Rattle.lrc_plan_meaning.specs.declared.Bound.TheVariants as b
use Rattle.lrc_plan_meaning.specs.Bindings.{items_of}
use Rattle.lrc_visit_meaning.specs.Values.{Datum, value, binding, Data, data_list}
use Rattle.lrc_visit_meaning.specs.Visits.{are_of_lengths}
use Rattle.lrc_store.specs.Cells.{CellTree}
use Rattle.lrc_store.specs.Standing.{Standing, Stands}
use Rattle.lrc_code.specs.Forms.{list_cell}
use Rattle.lrc_call_meaning.specs.Forms.{datum_cell, bindings_cell}
use Rattle.lrc_call_meaning.specs.Spelled.{IsSpelledDatum, AreSpelledData}
use Rattle.lrc_eval.specs.declared.values.Val.{Val}
use Rattle.lrc_functions.specs.Numbers.{number}
use Rattle.lrc_frames.specs.declared.body.Body.{Body}
use Rattle.lrc_frames.specs.declared.lists.Front.{Front}
use Rattle.lrc_frames.specs.declared.reading.Reading.{Reading}
use Rattle.lrc_frames.specs.declared.reading.Reading.TheVariants as r
use Rattle.lrc_frames.specs.Frames.{Run, RunsAt, gaining}

-- the items have this front: the first, and the list of the others
pub record IsFront (s : Standing) (items : List CellTree) (front : Front) : Type 0 where
  pub first : CellTree
  pub others : List CellTree
  pub all : items ≡ first ∷ others
  pub item : Stands s front.item.0 first
  pub rest : Stands s front.rest.0 (list_cell others)

-- there is no front where there are no items
abbrev pub HasFront : Standing → List CellTree → Option Front → Type 0
HasFront s items None = items ≡ []
HasFront s items (Some front) = IsFront s items front

-- whether it is a binding
abbrev pub is_binding : Datum → Bool
is_binding (value t) = false
is_binding (binding ds) = true

-- an occurrence and a value, or a symbol's binding and a binding
abbrev pub IsValue : Bound → Datum → Type 0
IsValue x d = ((o : ℕ) × (x ≡ b.Value o)) × ((t : Tree) × (d ≡ value t))

abbrev pub IsBinding : Bound → Datum → Type 0
IsBinding x d = ((n : ℕ) × (i : ℕ) × (j : ℕ) × (x ≡ b.Kid n i j)) × ((ds : Data) × (d ≡ binding ds))

-- what a reading asks of an item, its number and the datum that goes there
abbrev pub IsReadAs : Reading → ℕ → Bound → Datum → Type 0
IsReadAs r.Values n x d = IsValue x d
IsReadAs r.Bindings n x d = IsBinding x d
IsReadAs (r.Either occurrences) n (b.Value o) d = n < occurrences
IsReadAs (r.Either occurrences) n (b.Kid s i j) d = occurrences ≤ n

module _ (g : Grammar) (parts : List Partition) where
  -- Data in a list that are to be put into a frame over which a visit runs, each at the number of its item.
  pub record Fills (s : Standing) (frame : List Val) (body : Body) (r : Run) (numbers : List ℕ) (handle : ℕ) (reading : Reading) (items : List Bound) (given : List Datum) : Type 0 where
    pub runs : RunsAt g parts s frame body r
    pub numbered : numbers ≡ map (number g.sorts parts r.production) items
    pub listed : (x : Bound) → Contains items x → Contains (items_of g.sorts parts r.production) x
    pub list : Stands s handle (list_cell (map datum_cell given))
    pub spelled : AllByRecursion IsSpelledDatum given
    pub read : (x : Bound) (d : Datum) → Contains items x → Contains given d → IsReadAs reading (number g.sorts parts r.production x) x d

  -- the run has the items, where there are as many data as items
  abbrev pub FilledIf : Standing → List Val → Body → Run → List Bound → List Datum → Bool → Type 0
  FilledIf s frame body r items given false = ¬ (length given ≡ length items)
  FilledIf s frame body r items given true = (length given ≡ length items) × RunsAt g parts s frame body (gaining r items given)

  -- Bindings in a list, one for each visit, with the items that each has; their data are to be put into a frame.
  pub record FillsEach (s : Standing) (frame : List Val) (body : Body) (r : Run) (lists : List (List ℕ)) (handle : ℕ) (reading : Reading) (items : ℕ → List Bound) (visits : List ℕ) (rows : List Data) : Type 0 where
    pub runs : RunsAt g parts s frame body r
    pub numbered : lists ≡ map (λ u. map (number g.sorts parts r.production) (items u)) visits
    pub listed : (u : ℕ) (x : Bound) → Contains (items u) x → Contains (items_of g.sorts parts r.production) x
    pub list : Stands s handle (bindings_cell rows)
    pub spelled : AllByRecursion AreSpelledData rows
    pub read : (u : ℕ) (x : Bound) (d : Datum) → Contains (items u) x → IsReadAs reading (number g.sorts parts r.production x) x d

  -- the run has the items, where there are as many bindings as visits, and as many data in each as items
  abbrev pub FilledEachIf : Standing → List Val → Body → Run → (ℕ → List Bound) → List ℕ → List Data → Bool → Type 0
  FilledEachIf s frame body r items visits rows false = are_of_lengths rows (map (λ u. length (items u)) visits) ≡ false
  FilledEachIf s frame body r items visits rows true =
      (are_of_lengths rows (map (λ u. length (items u)) visits) ≡ true)
      × RunsAt g parts s frame body (gaining r (flat_map items visits) (flat_map data_list rows))
