use Rattle.lrc_frames.proofs.SymbolLemmas.{no-handle}
use Rattle.lrc_frames.proofs.calling.handle_in.Goals as goal

pub returns-in_default : goal.returns-in_default
returns-in_default c s t m = no-handle s c.args.value t c.in_default.not-Ref m
