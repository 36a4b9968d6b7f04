-- The finals of sessions by the handles of their last trees: equal handles of one store stand for equal trees.
use Rattle.std.specs.Prelude.{ℕ, ◌+◌, Bool, false, List, [], ◌∷◌, nat_eq, map, Option, Some, None, if◌then◌else◌}
use Rattle.lrc_store.specs.declared.cells.Handle.{Handle}

abbrev pub is_handle : Handle → Option Handle → Bool
is_handle sought None = false
is_handle sought (Some handle) = nat_eq sought.0 handle.0

-- the number of the first session, from n on, whose last tree has this handle
abbrev pub first_handle : Handle → ℕ → List (Option Handle) → ℕ
first_handle sought n [] = n
first_handle sought n (last ∷ rest) = if is_handle sought last then n else first_handle sought (n + 1) rest

-- the final of a session with this last tree
abbrev pub final_handle : List (Option Handle) → Option Handle → Option ℕ
final_handle lasts None = None
final_handle lasts (Some sought) = Some (first_handle sought 1 lasts)

-- the finals of sessions whose last trees have these handles
abbrev pub final_handles : List (Option Handle) → List (Option ℕ)
final_handles lasts = map (final_handle lasts) lasts
