use Rattle.std.proofs.Common.{sym, ◌∙◌}
use Rattle.lrc_rule.specs.Views.{now}
use Rattle.lrc_table.proofs.Follow.{Fits-later}
use Rattle.lrc_table.proofs.Probing.{Seeks-reads, taken_published, taken_stands, taken_other, same_content, other_content}
use Rattle.lrc_table.proofs.table.Pass.try_place.Goals as goal

pub content_of-requires-clause-published : goal.content_of-requires-clause-published
content_of-requires-clause-published g c = let q = c.claim.new.self.view in (c.args.place, taken_published q.layout (now q) c.args.place c.in-Taken.handle.0 c.in-Taken.ensures.claims.0)

pub returns-then-eq-clause-seeks : goal.returns-then-eq-clause-seeks
returns-then-eq-clause-seeks g c = Seeks-reads c.args.self.now c.claim.new.self c.content_of.new.self _ c.in-Taken.ensures.seeks c.content_of.ensures.reads

pub returns-then-eq-clause-answers : goal.returns-then-eq-clause-answers
returns-then-eq-clause-answers g c = let q = c.claim.new.self in let r = c.content_of.new.self in let f = c.in-Taken.ensures.seeks.follows in (
  (
    taken_stands q r _ c.args.content c.content_of.result c.args.place c.in-Taken.handle.0 c.content_of.ensures.reads f.current c.in-Taken.ensures.claims.0
        (Fits-later q.view r.view _ _ f.current c.content_of.ensures.reads.follows (Fits-later c.args.self.now.view q.view _ _ c.requires.current f c.requires.path.fits))
        c.content_of.ensures.content (same_content c.content_of.result c.args.content (sym c.if-eq.true ∙ c.eq.ensures)),
    λ used. c.content_of.ensures.reads.notes ∙ c.in-Taken.ensures.claims.2 used,
  ),
  tt,
)

pub returns-else-eq-clause-seeks : goal.returns-else-eq-clause-seeks
returns-else-eq-clause-seeks g c = Seeks-reads c.args.self.now c.claim.new.self c.content_of.new.self _ c.in-Taken.ensures.seeks c.content_of.ensures.reads

pub returns-else-eq-clause-answers : goal.returns-else-eq-clause-answers
returns-else-eq-clause-answers g c = let q = c.claim.new.self in let r = c.content_of.new.self in let f = c.in-Taken.ensures.seeks.follows in
    (taken_other q r c.args.content c.content_of.result c.args.place c.in-Taken.handle.0 c.content_of.ensures.reads f.current c.in-Taken.ensures.claims.0 c.content_of.ensures.content (other_content c.content_of.result c.args.content (sym c.if-eq.false ∙ c.eq.ensures)), c.content_of.ensures.reads.made ∙ c.in-Taken.ensures.claims.1, λ used. c.content_of.ensures.reads.notes ∙ c.in-Taken.ensures.claims.2 used)
