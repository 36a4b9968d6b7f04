-- The numbers of the items of a production: values by occurrence, then the bindings of each symbol, by the earlier visit,
-- then the later.
use Rattle.std.specs.Prelude.{ℕ, zero, suc, ◌+◌, ◌-◌, List, [], ◌∷◌, map, length, slice_index, slice_index_or}
use Rattle.lrc_base.specs.declared.grammar.Sort.{Sort}
use Rattle.lrc_base.specs.declared.grammar.Production.{Production}
use Rattle.lrc_meaning.specs.Grammar.{occurrences_of}
use Rattle.lrc_order_meaning.specs.declared.Place.{Place}
use Rattle.lrc_order_meaning.specs.declared.Partition.{Partition}
use Rattle.lrc_order_meaning.specs.Needs.{symbols_of}
use Rattle.lrc_plan_meaning.specs.declared.Bound.{Bound}
use Rattle.lrc_plan_meaning.specs.declared.Bound.TheVariants as b
use Rattle.lrc_plan_meaning.specs.Items.{visits_of}

-- how many bindings a symbol with so many visits has
abbrev pub binding_count : ℕ → ℕ
binding_count zero = 0
binding_count (suc n) = n + binding_count n

-- the numbers of the first bindings from each of so many visits, where they start at this number
abbrev pub row_from : ℕ → ℕ → List ℕ
row_from start zero = []
row_from start (suc n) = start ∷ row_from (start + n) n

-- the same for each symbol, by how many visits it has
abbrev pub rows_from : ℕ → List ℕ → List (List ℕ)
rows_from start [] = []
rows_from start (n ∷ ns) = row_from start n ∷ rows_from (start + binding_count n) ns

-- the number behind the last
abbrev pub end_from : ℕ → List ℕ → ℕ
end_from start [] = start
end_from start (n ∷ ns) = end_from (start + binding_count n) ns

-- the number of an item, by these rows
abbrev pub number_in : List (List ℕ) → Bound → ℕ
number_in rows (b.Value o) = o
number_in rows (b.Kid s i j) = slice_index (slice_index_or rows s []) (i - 1) + (j - i - 1)

module _ (sorts : List Sort) (parts : List Partition) (p : Production) where
  -- how many visits each symbol has
  abbrev pub symbol_visits : List ℕ
  symbol_visits = map (λ (place : Place). visits_of parts place.sort) (symbols_of sorts p)

  -- The number of an item of the production, and how many items there are.
  abbrev pub number : Bound → ℕ
  number x = number_in (rows_from (length (occurrences_of sorts p)) symbol_visits) x

  abbrev pub item_count : ℕ
  item_count = end_from (length (occurrences_of sorts p)) symbol_visits
