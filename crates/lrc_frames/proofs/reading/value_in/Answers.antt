use Rattle.std.proofs.Common.{sym, ◌∙◌}
use Rattle.lrc_call_meaning.specs.Forms.{datum_cell}
use Rattle.lrc_visit_meaning.specs.Values.{value_in}
use Rattle.lrc_store.proofs.Lasting.{reads-then}
use Rattle.lrc_frames.proofs.ReadLemmas.{value_cell, value_stands, no_value_shown, value_shown}
use Rattle.lrc_frames.proofs.reading.value_in.Goals as goal

pub value_of_handle-requires : goal.value_of_handle-requires
value_of_handle-requires g c =
    let t = g.St.Store.state c.is_binding.new.store in
    let d = c.requires.0 in
    value_stands t c.args.item d (sym (c.is_binding.ensures.is d c.requires.1 c.requires.2) ∙ c.if-is_binding.false) (c.is_binding.ensures.reads.stays.lasts.known c.args.item.0 (datum_cell d) c.requires.1)

pub returns-then-is_binding-clause-meant : goal.returns-then-is_binding-clause-meant
returns-then-is_binding-clause-meant g c d stands spelled =
    no_value_shown (g.St.Store.state c.is_binding.new.store) d (sym (c.is_binding.ensures.is d stands spelled) ∙ c.if-is_binding.true)

pub returns-else-is_binding-clause-meant : goal.returns-else-is_binding-clause-meant
returns-else-is_binding-clause-meant g c d stands spelled =
    let t = g.St.Store.state c.is_binding.new.store in
    let is = sym (c.is_binding.ensures.is d stands spelled) ∙ c.if-is_binding.false in
    value_shown (g.St.Store.state c.value_of_handle.new.store) c.value_of_handle.result d is spelled
    (c.value_of_handle.ensures.means (value_in d) (value_cell t c.args.item d is (c.is_binding.ensures.reads.stays.lasts.known c.args.item.0 (datum_cell d) stands)))

pub returns-else-is_binding-clause-reads : goal.returns-else-is_binding-clause-reads
returns-else-is_binding-clause-reads g c =
    reads-then (g.St.Store.state c.args.store.now) (g.St.Store.state c.is_binding.new.store) (g.St.Store.state c.value_of_handle.new.store)
    c.is_binding.ensures.reads c.value_of_handle.ensures.reads
