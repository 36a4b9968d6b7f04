-- What the steps of a body answer, by cases.
use Rattle.std.specs.Prelude.{ℕ}
use Rattle.lrc_machine.specs.declared.bodies.Opened.{Opened}
use Rattle.lrc_machine.specs.declared.bodies.Opened.TheVariants as o
use Rattle.lrc_machine.specs.declared.bodies.Moved.{Moved}
use Rattle.lrc_machine.specs.declared.bodies.Moved.TheVariants as m

module _ {Mark : Type 0} where
  -- a result, a body at its start, or none
  abbrev pub Opens : (ℕ → Type 0) → (Mark → Type 0) → Type 0 → Opened Mark → Type 0
  Opens hit begun deep (o.Hit handle) = hit handle.0
  Opens hit begun deep (o.Begun mark) = begun mark
  Opens hit begun deep o.Deep = deep

  -- a body that went on, that waits for a call, its end, or none
  abbrev pub Moves : (Mark → Type 0) → (Mark → ℕ → Type 0) → (ℕ → Type 0) → Type 0 → Moved Mark → Type 0
  Moves went asked ended deep (m.Went mark) = went mark
  Moves went asked ended deep (m.Asked mark handle) = asked mark handle.0
  Moves went asked ended deep (m.Ended handle) = ended handle.0
  Moves went asked ended deep m.Deep = deep
