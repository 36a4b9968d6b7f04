-- Bodies that wait for one another's visits, up to the whole call.
use Rattle.std.specs.Prelude.{◌≡◌, ℕ, suc}
use Rattle.lrc_visit_meaning.specs.Values.{Call}

-- A body of the first call, with one fuel more than this, waits at a visit whose call is the second.
abbrev pub Waiting : Type 1
Waiting = ℕ → Call → Call → Type 0

module _ (waiting : Waiting) (fuel : ℕ) (root : Call) where
  -- The result of a call with so much fuel is waited for: it is the whole call with all fuel, or a body waits for it whose own
  -- result is waited for in turn.
  pub data Waits : ℕ → Call → Type 0 where
    whole : {n : ℕ} {c : Call} → n ≡ fuel → c ≡ root → Waits n c
    over : {n : ℕ} {c d : Call} → waiting n c d → Waits (suc n) c → Waits n d
