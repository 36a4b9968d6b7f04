-- Laws of attributions and plain visits.
use Rattle.std.specs.Prelude.{◌≡◌, ℕ, ◌+◌, ◌*◌, ◌≤◌, ◌<◌, IsTrue, List, length, Some, None, All, Contains, ◌↔◌}
use Rattle.lrc_base.specs.declared.grammar.Kind.TheVariants as k
use Rattle.lrc_meaning.specs.Tree.{Tree, fits}
use Rattle.lrc_meaning.specs.Grammar.{Grammar, attrs_of_sort}
use Rattle.lrc_meaning.specs.Attribution.{Decorated, IsAttribution, height, Attributes}
use Rattle.lrc_order_meaning.specs.declared.Partition.{Partition}
use Rattle.lrc_order_meaning.specs.Ordered.{Partitions, HasOrder}
use Rattle.lrc_plan_meaning.specs.Items.{visits_of}
use Rattle.lrc_plan_meaning.specs.Sound.{IsSound}
use Rattle.lrc_visit_meaning.specs.Values.{Call, Result, root_call}
use Rattle.lrc_visit_meaning.specs.Visits.{plain_visit}
use Rattle.lrc_visit_meaning.specs.Demand.{Met, demand, reach}

-- a visit is no higher than its fuel, and from its height on each fuel gives the same result
abbrev pub MoreFuelGivesTheSame : Type 0
MoreFuelGivesTheSame = (g : Grammar) (parts : List Partition) (fuel : ℕ) (c : Call) (r : Result) → plain_visit g parts fuel c ≡ Some r
    → (r.height ≤ fuel) × ((other : ℕ) → r.height ≤ other → plain_visit g parts other c ≡ Some r)

-- below its height there is none
abbrev pub LessFuelGivesNone : Type 0
LessFuelGivesNone = (g : Grammar) (parts : List Partition) (fuel other : ℕ) (c : Call) (r : Result) → plain_visit g parts fuel c ≡ Some r
    → other < r.height → plain_visit g parts other c ≡ None

-- and from its height on each fuel meets the same
abbrev pub MoreFuelMeetsTheSame : Type 0
MoreFuelMeetsTheSame = (g : Grammar) (parts : List Partition) (fuel other : ℕ) (c : Call) (r : Result) → plain_visit g parts fuel c ≡ Some r
    → r.height ≤ other → reach g parts fuel c ≡ reach g parts other c

-- the visit sequences of an ordered grammar are sound: each visit finds what it needs, gives its attributes, every action
-- is made, and nothing becomes available twice
abbrev pub OrderedIsSound : Type 0
OrderedIsSound = (g : Grammar) (found : Partitions) → HasOrder g found → All (IsSound g.sorts found.sorts) g.prods

-- a sort has few visits for its attributes: at most one for two of them, and one more
abbrev pub VisitsAreFew : Type 0
VisitsAreFew = (g : Grammar) (found : Partitions) → HasOrder g found → (s : ℕ) → s < length g.sorts
    → 2 * visits_of found.sorts s ≤ length (attrs_of_sort g.sorts s) + 2

-- a tree of the start sort has one attribution at most, of whatever height
abbrev pub AttributionsAreUnique : Type 0
AttributionsAreUnique = (g : Grammar) (found : Partitions) → HasOrder g found → (t : Tree) (d e : Decorated) → IsTrue (fits g.prods t (k.Sort g.start))
    → IsAttribution g t d → IsAttribution g t e → d ≡ e

-- the root's visit has a result with this fuel, with these values
pub record RootGives (g : Grammar) (found : Partitions) (fuel : ℕ) (t : Tree) (vs : List Tree) : Type 0 where
  pub result : Result
  pub is_result : plain_visit g found.sorts fuel (root_call t) ≡ Some result
  pub values : result.synthesised ≡ vs

-- the attributes of a tree within a limit are exactly what its root's visit gives with that fuel, where it is of the start
-- sort
abbrev pub VisitsGiveAttributes : Type 0
VisitsGiveAttributes = (g : Grammar) (found : Partitions) → HasOrder g found → (limit : ℕ) (t : Tree) (vs : List Tree)
    → Attributes g limit t vs ↔ (IsTrue (fits g.prods t (k.Sort g.start)) × RootGives g found limit t vs)

-- where the root's visit has a result it is as high as the tree's attribution
abbrev pub VisitsAreAsHigh : Type 0
VisitsAreAsHigh = (g : Grammar) (found : Partitions) → HasOrder g found → (fuel : ℕ) (t : Tree) (d : Decorated) (r : Result) → IsTrue (fits g.prods t (k.Sort g.start))
    → IsAttribution g t d → plain_visit g found.sorts fuel (root_call t) ≡ Some r → r.height ≡ height d

-- the demand read off an attribution has exactly what the root's visit meets, with fuel for the attribution's height
abbrev pub DemandIsReach : Type 0
DemandIsReach = (g : Grammar) (found : Partitions) → HasOrder g found → (fuel : ℕ) (t : Tree) (d : Decorated) (x : Met) → IsTrue (fits g.prods t (k.Sort g.start))
    → IsAttribution g t d → height d ≤ fuel → Contains (demand g found.sorts d) x ↔ Contains (reach g found.sorts fuel (root_call t)) x
