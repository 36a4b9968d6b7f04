use Rattle.std.proofs.Common.{refl}
use Rattle.lrc_plain.specs.Plain.{state_of}
use Rattle.lrc_run.proofs.SoloLemmas.{solo}
use Rattle.lrc_run.proofs.solo.run_solo.Goals as goal

pub returns : goal.returns
returns c = record {
  solo = λ order.
      solo c.args.functions.now c.args.depth c.args.rows c.args.script.now c.in_ok-out.out (state_of c.in_ok-store.store) (state_of c.play.new.store) refl c.in_ok-store.ensures.new.0 c.in_ok-out.ensures.lasts
      (c.in_ok-out.ensures.plays order);
}
