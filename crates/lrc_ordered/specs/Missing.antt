-- How many pairs tables still lack: it falls with each pass that finds a new one.
use Rattle.std.specs.Prelude.{ℕ, zero, suc, ◌+◌, List, length, cond}
use Rattle.lrc_graph.specs.Pairs.{Pairs, paired}
use Rattle.lrc_ordered.specs.Tables.{table_at}

-- the sum of f over the numbers below n
abbrev pub sum_below : (ℕ → ℕ) → ℕ → ℕ
sum_below f zero = 0
sum_below f (suc n) = sum_below f n + f n

abbrev pub missing_in : Pairs → ℕ
missing_in t = sum_below (λ x. sum_below (λ y. cond (paired t x y) 0 1) t.points) t.points

unfoldable pub missing : List Pairs → ℕ
missing tables = sum_below (λ s. missing_in (table_at tables s)) (length tables)
