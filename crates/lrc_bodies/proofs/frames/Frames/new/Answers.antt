use Rattle.std.proofs.Common.{length, Contains, [], ◌∷◌, sym, ap, subst, arith}
use Rattle.std.proofs.lemmas.List.{length-append}
use Rattle.lrc_bodies.specs.Bodies.{HasRoom}
use Rattle.lrc_bodies.proofs.RoomLemmas.{no_room, room_more}
use Rattle.lrc_bodies.proofs.frames.Frames.new.Goals as goal

pub levels-init : goal.levels-init
levels-init c = record {
  width = λ n there. c.greatest-width.ensures n (subst (λ xs. Contains xs n) (sym c.as_slice.ensures) there);
  count = ap length c.new-frames.ensures.items;
  rooms = no_room (λ frame. HasRoom c.args.functions.now.counts frame.items) c.new-frames.result.items c.new-frames.ensures.items;
  within = omega arith;
}

pub levels-preserved : goal.levels-preserved
levels-preserved c =
    let pushed = c.in_ok-push.ensures.items in
    let one = c.in_ok-vec.field-0 in
    let len = c.in_ok-vec.ensures.len in
    let count = c.levels.invariant.count in
    let test = c.levels-test.true in
    let same = ap length pushed in
    let joined = length-append c.levels.frames.items (one ∷ []) in
    record {
      width = c.levels.invariant.width;
      count = omega arith;
      rooms = room_more (λ frame. HasRoom c.args.functions.now.counts frame.items) c.levels.frames.items c.push.new.self.items one pushed
          (λ n there. let le = c.levels.invariant.width n there in omega (arith, len)) c.levels.invariant.rooms;
      within = omega arith;
    }
