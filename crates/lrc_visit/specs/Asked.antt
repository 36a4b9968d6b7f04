-- What a caller of the running visit has: a handle of a call.
use Rattle.std.specs.Prelude.{ℕ}
use Rattle.lrc_visit_meaning.specs.Values.{Call}
use Rattle.lrc_store.specs.Standing.{Standing, Stands}
use Rattle.lrc_call_meaning.specs.Forms.{call_form}
use Rattle.lrc_call_meaning.specs.Spelled.{IsSpelledCall}

-- The handle stands for the call, whose names are spelled.
pub record IsAsked (s : Standing) (c : Call) (handle : ℕ) : Type 0 where
  pub spelled : IsSpelledCall c
  pub stands : Stands s handle (call_form c)
