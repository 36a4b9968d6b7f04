-- What a store of one owner answers of a call.
use Rattle.std.specs.Prelude.{◌≡◌}
use Rattle.lrc_store.specs.Cells.{CellTree}
use Rattle.lrc_store.specs.Standing.{Standing, Told, IsRemembered}
use Rattle.lrc_store.specs.declared.stores.Recall.{Recall}
use Rattle.lrc_store.specs.declared.stores.Recall.TheVariants as recall

-- a call that was not found has the word 0
abbrev pub IsMissedAtZero : Recall → Type 0
IsMissedAtZero (recall.Found handle) = Unit {0}
IsMissedAtZero (recall.Missed word) = word ≡ 0

-- where the memo is told, the call has no result in it
abbrev pub IsMissing : Standing → CellTree → Type 0
IsMissing s call = Told s.memo (λ pairs. ¬ IsRemembered pairs call)
