-- What callers see of a source and of a sink over memory.
use Rattle.std.specs.Prelude.{ℕ, List}

-- a source over memory
pub record Input : Type 0 where
  -- the bytes that it still has
  pub left : List ℕ
  -- the most bytes that a call gives
  pub step : ℕ
  -- the numbers, from 0, of the calls that fail
  pub fails : List ℕ
  -- how many calls there were
  pub calls : ℕ
  -- how many of them failed
  pub faults : ℕ

-- a sink over memory
pub record Output : Type 0 where
  -- the bytes that it holds
  pub held : List ℕ
  -- the most bytes that it holds
  pub room : ℕ
  -- the most bytes that a call takes
  pub step : ℕ
  -- the numbers, from 0, of the calls that fail
  pub fails : List ℕ
  -- how many calls there were
  pub calls : ℕ
  -- how many of them failed
  pub faults : ℕ
