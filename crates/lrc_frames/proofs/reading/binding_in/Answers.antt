use Rattle.std.proofs.Common.{sym, ◌∙◌}
use Rattle.lrc_store.specs.Cells.{nil}
use Rattle.lrc_call_meaning.specs.Forms.{datum_cell}
use Rattle.lrc_frames.proofs.ReadLemmas.{binding_shown, nothing_shown}
use Rattle.lrc_frames.proofs.reading.binding_in.Goals as goal

pub returns-then-is_binding-clause-means : goal.returns-then-is_binding-clause-means
returns-then-is_binding-clause-means g c d stands spelled =
    binding_shown (g.St.Store.state c.is_binding.new.store) c.args.item d (sym (c.is_binding.ensures.is d stands spelled) ∙ c.if-is_binding.true)
    (c.is_binding.ensures.reads.stays.lasts.known c.args.item.0 (datum_cell d) stands) spelled

pub returns-else-is_binding-clause-means : goal.returns-else-is_binding-clause-means
returns-else-is_binding-clause-means g c d stands spelled =
    nothing_shown (g.St.Store.state c.is_binding.new.store) d (sym (c.is_binding.ensures.is d stands spelled) ∙ c.if-is_binding.false)
    (c.is_binding.ensures.reads.stays.lasts.known 0 nil c.published.ensures.sound.nil_known)
