-- When a grammar is ordered with given pairs, where it is not, and its partitions.
use Rattle.std.specs.Prelude.{◌≡◌, ℕ, ◌<◌, IsTrue, List, length, Some, slice_get, slice_index, take, All}
use Rattle.lrc_base.specs.declared.grammar.Sort.{Sort}
use Rattle.lrc_base.specs.declared.grammar.Production.{Production}
use Rattle.lrc_base.specs.declared.grammar.Given.{Given}
use Rattle.lrc_meaning.specs.Grammar.{Grammar, attrs_of_sort, occurrences_of, is_well_formed}
use Rattle.lrc_graph.specs.Pairs.{IsLeast, HasExactly}
use Rattle.lrc_order_meaning.specs.declared.Partition.{Partition}
use Rattle.lrc_order_meaning.specs.Induced.{Leads}
use Rattle.lrc_order_meaning.specs.Sets.{IsVisits, IsVisitOf, Before}
use Rattle.lrc_order_meaning.specs.Extended.{ExtendedPath}

-- There are few enough productions, occurrences of each, and attributes of each sort for the tables of the test.
pub record IsSmall (g : Grammar) : Type 0 where
  pub productions : length g.prods < 1024
  pub occurrences : All (λ p. length (occurrences_of g.sorts p) < 1024) g.prods
  pub attributes : All (λ (s : Sort). length s.attrs < 1024) g.sorts

-- the pair is of attributes of a sort that is there
pub record IsGivenThere (sorts : List Sort) (x : Given) : Type 0 where
  pub sort : x.sort < length sorts
  pub first : x.first < length (attrs_of_sort sorts x.sort)
  pub then : x.then < length (attrs_of_sort sorts x.sort)

-- no path leads from an occurrence back to it
abbrev pub IsAcyclic : (ℕ → ℕ → Type 0) → Type 0
IsAcyclic Path = (x : ℕ) → ¬ Path x x

-- Neither the induced nor the extended dependencies of a production have a cycle.
pub record IsOrdered (g : Grammar) (given : List Given) : Type 0 where
  pub induced : All (λ p. IsAcyclic (Leads g given p)) g.prods
  pub extended : All (λ p. IsAcyclic (ExtendedPath g given p)) g.prods

-- p is the first production with an occurrence on a cycle, and x its least such occurrence
pub record IsFirstCycle (prods : List Production) (Paths : Production → ℕ → ℕ → Type 0) (p x : ℕ) : Type 0 where
  pub production : Production
  pub is_there : slice_get prods p ≡ Some production
  pub none_earlier : All (λ earlier. IsAcyclic (Paths earlier)) (take p prods)
  pub least : IsLeast (λ y. Paths production y y) (Some x)

-- an induced cycle
abbrev pub IsInducedCycle : Grammar → List Given → ℕ → ℕ → Type 0
IsInducedCycle g given = IsFirstCycle g.prods (Leads g given)

-- an extended cycle, where there is no induced one
abbrev pub IsExtendedCycle : Grammar → List Given → ℕ → ℕ → Type 0
IsExtendedCycle g given p x =
    All (λ q. IsAcyclic (Leads g given q)) g.prods × IsFirstCycle g.prods (ExtendedPath g given) p x

-- what the test finds of a sort
pub record IsPartition (g : Grammar) (given : List Given) (s : ℕ) (found : Partition) : Type 0 where
  pub visits : IsVisits g given s found.visits
  pub attributes : length found.visit_of ≡ length (attrs_of_sort g.sorts s)
  pub visit_of : (a : ℕ) → a < length found.visit_of → IsVisitOf g given s found.visits a (slice_index found.visit_of a)
  pub points : found.before.points ≡ length (attrs_of_sort g.sorts s)
  pub before : HasExactly found.before (Before g given s)

-- The partitions of all sorts, by number, with the pairs that were given.
pub record Partitions : Type 0 where
  pub given : List Given
  pub sorts : List Partition

-- these are the partitions of a grammar with the pairs that they keep
pub record ArePartitions (g : Grammar) (found : Partitions) : Type 0 where
  pub sorts : length found.sorts ≡ length g.sorts
  pub each : (s : ℕ) (partition : Partition) → slice_get found.sorts s ≡ Some partition → IsPartition g found.given s partition

-- The grammar is well formed, and ordered with the pairs that its partitions keep.
pub record HasOrder (g : Grammar) (found : Partitions) : Type 0 where
  pub formed : IsTrue (is_well_formed g)
  pub given : All (IsGivenThere g.sorts) found.given
  pub partitions : ArePartitions g found
  pub ordered : IsOrdered g found.given
