use Rattle.std.proofs.Common.{◌≡◌, ℕ, ◌+◌, ◌*◌, ◌<◌, ◌≤◌, get_or}
use Rattle.std.specs.Prelude.{bit_or}
use Rattle.lrc_graph.proofs.rows.join_row.Given as goal

abbrev pub invariant-words : goal.invariant-words
invariant-words l = record {
  done : (j : ℕ) → j < l.k → get_or l.table (l.into * l.width + j) 0
      ≡ bit_or (get_or l.fn.table (l.into * l.width + j) 0) (get_or l.fn.table (l.from * l.width + j) 0);
  rest : (row j : ℕ) → j < l.width → (row ≡ l.into → l.k ≤ j)
      → get_or l.table (row * l.width + j) 0 ≡ get_or l.fn.table (row * l.width + j) 0;
}
