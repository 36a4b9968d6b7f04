-- A stack of handles: what contracts see of it, and the cells that its handles stand for.
use Rattle.std.specs.Prelude.{ℕ, ◌-◌, List, [], ◌∷◌, length, map, take, drop}
use Rattle.lrc_store.specs.Cells.{CellTree}
use Rattle.lrc_store.specs.Standing.{Standing, IsKnown, meant}
use Rattle.lrc_store.specs.declared.cells.Handle.{Handle}

-- the handles that are held, from the first to the last, and how many there may be
pub record Stack : Type 0 where
  pub held : List Handle
  pub room : ℕ

-- the last of a list, and those before them
abbrev pub last_of : {A : Type 0} → ℕ → List A → List A
last_of n xs = drop (length xs - n) xs

abbrev pub all_but : {A : Type 0} → ℕ → List A → List A
all_but n xs = take (length xs - n) xs

-- each handle is known
abbrev pub AreKnown : Standing → List Handle → Type 0
AreKnown s [] = Unit {0}
AreKnown s (handle ∷ handles) = IsKnown s handle.0 × AreKnown s handles

-- the cells that they stand for
abbrev pub meant_each : Standing → List Handle → List CellTree
meant_each s handles = map (λ (handle : Handle). meant s handle.0) handles
