use Rattle.std.proofs.Common.{◌≡◌, ◌≤◌, ◌+◌, ◌*◌, ℕ, List, length, slice_index}
use Rattle.lrc_base.specs.declared.grammar.Given.{Given}
use Rattle.lrc_meaning.specs.Grammar.{Grammar}
use Rattle.lrc_ordered.specs.Numbered.{IsTableOf, left}
use Rattle.lrc_ordered.proofs.VisitLemmas.{AreRounds}
use Rattle.lrc_ordered.proofs.visits.fill_sets.Given as goal

abbrev pub invariant-visits : goal.invariant-visits
invariant-visits l = record {
  count : length l.sets ≡ length l.attrs;
  some : 1 ≤ l.visits;
  few : l.visits + left l.sets ≤ length l.attrs + 1;
  within : (a : ℕ) → slice_index l.sets a ≤ 2 * l.visits;
  rounds : (g : Grammar) (given : List Given) (s : ℕ) → IsTableOf g given s l.attrs l.sort → AreRounds g given s l.visits l.sets;
}

abbrev pub decreases-visits : goal.decreases-visits
decreases-visits l = left l.sets
