use Rattle.std.proofs.Common.{◌≡◌, ◌<◌, ◌+◌, ℕ}
use Rattle.lrc_graph.specs.Pairs.{Has}
use Rattle.lrc_ordered.specs.Tables.{Closed}
use Rattle.lrc_ordered.proofs.spread.spread_row.Given as goal

abbrev pub invariant-attributes : goal.invariant-attributes
invariant-attributes l =
    Closed l.initial.relation l.relation (λ x y. (then : ℕ) × (then < l.then) × (x ≡ l.start + l.first) × (y ≡ l.start + then) × Has l.sort l.first then)
