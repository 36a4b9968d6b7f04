-- Bindings by sets of what each visit gains and uses, where visits count from 0.
use Rattle.std.specs.Prelude.{ℕ, ◌+◌, ◌-◌, ◌&&◌, List, [], ◌++◌, map, filter, flat_map, length, slice_index, slice_index_or}
use Rattle.std.specs.List.{range_with_len}
use Rattle.lrc_plan_meaning.specs.declared.Bound.{Bound}
use Rattle.lrc_plan_meaning.specs.declared.Bound.TheVariants as b
use Rattle.lrc_plan_meaning.specs.Bindings.{bindings_at}
use Rattle.lrc_plan.specs.ItemSets.{Flags, holds}

-- the set that has nothing
abbrev pub no_items : Flags
no_items = record { values = []; kids = [] }

-- the items, by how many occurrences there are and how many visits each symbol has
abbrev pub listed_items : ℕ → List ℕ → List Bound
listed_items occurrences visits =
    map b.Value (range_with_len 0 occurrences) ++ flat_map (λ s. bindings_at s (slice_index visits s)) (range_with_len 0 (length visits))

-- the items that are in both sets
abbrev pub shared : List Bound → Flags → Flags → List Bound
shared items gained used = filter (λ x. holds gained x && holds used x) items

-- those that a set shares with each of the others from one on
abbrev pub shared_from : List Bound → Flags → List Flags → ℕ → List (List Bound)
shared_from items gained used first =
    map (λ w. shared items gained (slice_index_or used w no_items)) (range_with_len first (length used - first))

abbrev pub all_shared : List Bound → List Flags → List Flags → List (List (List Bound))
all_shared items gained used =
    map (λ v. shared_from items (slice_index_or gained v no_items) used (v + 1)) (range_with_len 0 (length gained))
