use Rattle.std.proofs.Common.{sym, ◌∙◌}
use Rattle.lrc_table.proofs.Follow.{Reads-trans, loaded_part, loaded_content}
use Rattle.lrc_table.proofs.table.Pass.content_of.Goals as goal

pub returns-clause-reads : goal.returns-clause-reads
returns-clause-reads g c =
    let p = c.args.self.now in let q = c.load-tag.new.self in let r = c.load-left.new.self in
    Reads-trans p r _ (Reads-trans p q r c.load-tag.ensures.reads c.load-left.ensures.reads) c.load-right.ensures.reads

pub returns-clause-content : goal.returns-clause-content
returns-clause-content g c =
    let p = c.args.self.now in let q = c.load-tag.new.self in let r = c.load-left.new.self in let s = c.load-right.new.self in
    let e = c.layout-layout.ensures.value ∙ sym c.requires.of.1 in
    let e1 = e ∙ sym c.load-tag.ensures.reads.follows.layout in
    let e2 = e1 ∙ sym c.load-left.ensures.reads.follows.layout in
    let e3 = e2 ∙ sym c.load-right.ensures.reads.follows.layout in
    loaded_content p q r s c.args.row _ _ _ c.requires.current c.load-tag.ensures.reads c.load-left.ensures.reads c.load-right.ensures.reads c.requires.published
    (loaded_part p.view q.view c.args.row 0 _ _ _ c.load-tag.ensures.found e1 c.part.ensures.index)
    (loaded_part q.view r.view c.args.row 1 _ _ _ c.load-left.ensures.found e2 c.part-2.ensures.index)
    (loaded_part r.view s.view c.args.row 2 _ _ _ c.load-right.ensures.found e3 c.part-3.ensures.index)
