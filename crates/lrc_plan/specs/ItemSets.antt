-- Sets of items as tables of flags.
use Rattle.std.specs.Prelude.{ℕ, ◌<◌, ◌≤◌, Bool, false, IsTrue, List, [], length, slice_index, slice_index_or, Contains, ◌↔◌}
use Rattle.lrc_base.specs.declared.grammar.Sort.{Sort}
use Rattle.lrc_base.specs.declared.grammar.Production.{Production}
use Rattle.lrc_meaning.specs.Grammar.{occurrences_of}
use Rattle.lrc_order_meaning.specs.declared.Partition.{Partition}
use Rattle.lrc_order_meaning.specs.Needs.{symbols_of}
use Rattle.lrc_plan_meaning.specs.declared.Bound.{Bound}
use Rattle.lrc_plan_meaning.specs.declared.Bound.TheVariants as b
use Rattle.lrc_plan_meaning.specs.Items.{visits_of, symbol_at}

-- a flag for each occurrence, and for each two visits of each symbol
pub record Flags : Type 0 where
  pub values : List Bool
  pub kids : List (List (List Bool))

-- the flags of a symbol's bindings from one of its visits
abbrev pub row_of : List (List (List Bool)) → ℕ → ℕ → List Bool
row_of kids s i = slice_index_or (slice_index_or kids s []) i []

abbrev pub holds : Flags → Bound → Bool
holds f (b.Value o) = slice_index_or f.values o false
holds f (b.Kid s i j) = slice_index_or (row_of f.kids s i) j false

-- there is a flag for the item
abbrev pub HasRoom : Flags → Bound → Type 0
HasRoom f (b.Value o) = o < length f.values
HasRoom f (b.Kid s i j) = j < length (row_of f.kids s i)

-- there are flags for so many occurrences, and for all bindings between so many visits of symbols
pub record HasRoomFor (f : Flags) (occurrences : ℕ) (visits : List ℕ) : Type 0 where
  pub values : (o : ℕ) → o < occurrences → HasRoom f (b.Value o)
  pub kids : (s i j : ℕ) → s < length visits → i ≤ slice_index visits s → j ≤ slice_index visits s → HasRoom f (b.Kid s i j)

-- the set has just these items
abbrev pub IsSetOf : Flags → List Bound → Type 0
IsSetOf f items = (x : Bound) → IsTrue (holds f x) ↔ Contains items x

-- an item of the production, by its numbers
abbrev pub IsItem : List Sort → List Partition → Production → Bound → Type 0
IsItem sorts parts p (b.Value o) = o < length (occurrences_of sorts p)
IsItem sorts parts p (b.Kid s i j) =
    (s < length (symbols_of sorts p)) × (i ≤ visits_of parts (symbol_at sorts p s).sort) × (j ≤ visits_of parts (symbol_at sorts p s).sort)
