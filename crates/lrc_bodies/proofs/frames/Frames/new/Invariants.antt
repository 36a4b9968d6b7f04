use Rattle.std.proofs.Common.{◌≡◌, ◌≤◌, ℕ, length, Contains}
use Rattle.lrc_machine.specs.Machine.{HaveRoom}
use Rattle.lrc_bodies.specs.Bodies.{HasRoom}
use Rattle.lrc_bodies.proofs.frames.Frames.new.Given as goal

abbrev pub invariant-levels : goal.invariant-levels
invariant-levels l = record {
  width : (n : ℕ) → Contains l.functions.counts n → n ≤ l.width;
  count : length l.frames.items ≡ l._level;
  rooms : HaveRoom (λ frame. HasRoom l.functions.counts frame.items) l.frames.items;
  within : l._level ≤ l.depth;
}
