-- Laws of the definitions.
use Rattle.std.specs.Prelude.{ℕ, ◌<◌, length, All, Contains, ◌↔◌}
use Rattle.lrc_base.specs.declared.grammar.Production.{Production}
use Rattle.lrc_meaning.specs.Grammar.{Grammar}
use Rattle.lrc_order_meaning.specs.declared.Place.{Place}
use Rattle.lrc_order_meaning.specs.Needs.{need, places_of}
use Rattle.lrc_order_meaning.specs.Extended.{Extended}
use Rattle.lrc_order_meaning.specs.Ordered.{Partitions, ArePartitions, IsGivenThere}
use Rattle.lrc_plan_meaning.specs.Items.{extended_of}

-- the pairs that are read off partitions are the extended dependencies of the definition
abbrev pub ExtendedAreRead : Type 0
ExtendedAreRead = (g : Grammar) (found : Partitions) → ArePartitions g found → All (IsGivenThere g.sorts) found.given → (p : Production)
    → All (λ (place : Place). place.sort < length g.sorts) (places_of g.sorts p)
    → (x y : ℕ) → Contains (extended_of g.sorts found.sorts p) (need x y) ↔ Extended g found.given p x y
