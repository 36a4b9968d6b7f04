-- What is printed of the run of a generated job: how many replies there were, how many of them had no values, and the sum of the
-- first number of each, which wraps at 64 bits.
use Rattle.std.specs.Prelude.{ℕ, ◌+◌, ℤ, ◌+ℤ◌, pos, cond, List, [], ◌∷◌, ◌++◌, length, flat_map, codes, decimal}
use Rattle.std.specs.Int.{int_wrap, w64}
use Rattle.std.specs.Fmt.{signed_decimal}
use Rattle.lrc_meaning.specs.Editing.{Reply, has_values}
use Rattle.lrc_meaning.specs.Text.{line_feed}
use Rattle.lrc_run.specs.Lines.{number_of}

-- how many of the replies have no values
abbrev pub refused : List Reply → ℕ
refused [] = 0
refused (reply ∷ replies) = cond (has_values reply) 0 1 + refused replies

-- the sum of their first numbers
abbrev pub total : List Reply → ℤ
total [] = pos 0
total (reply ∷ replies) = number_of reply +ℤ total replies

-- the replies to all sessions
abbrev pub all_of : List (List Reply) → List Reply
all_of all = flat_map (λ (replies : List Reply). replies) all

-- `replies N`, `refused N` and `sum N`, a line each
abbrev pub summary_lines : List Reply → List ℕ
summary_lines replies =
    codes "replies " ++ (decimal (length replies) ++ (line_feed
    ++ (codes "refused " ++ (decimal (refused replies) ++ (line_feed
    ++ (codes "sum " ++ (signed_decimal (int_wrap w64 (total replies)) ++ line_feed)))))))

abbrev pub summary_text : List (List Reply) → List ℕ
summary_text all = summary_lines (all_of all)
