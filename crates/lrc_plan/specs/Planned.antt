-- What a plan keeps: its sequences and bindings follow from the grammar and the partitions.
use Rattle.std.specs.Prelude.{ℕ, ◌≤◌}
use Rattle.lrc_base.specs.declared.grammar.Production.{Production}
use Rattle.lrc_order_meaning.specs.Ordered.{Partitions}
use Rattle.lrc_plan_meaning.specs.Items.{visits_of}

-- a visit of the left side of a production
pub record IsVisit (parts : Partitions) (p : Production) (v : ℕ) : Type 0 where
  pub first : 1 ≤ v
  pub last : v ≤ visits_of parts.sorts p.left
