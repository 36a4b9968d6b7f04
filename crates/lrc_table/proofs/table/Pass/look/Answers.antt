use Rattle.std.proofs.Common.{ap, sym, ◌∙◌, arith, rules}
use Rattle.std.proofs.lemmas.Bool.{eqb-false}
use Rattle.lrc_table.proofs.Stores.{look_fits, look_published, number_again, pair_form, nil_meant, store_reads}
use Rattle.lrc_table.proofs.table.Pass.look.Goals as goal

pub returns-then-eq-clause-shows : goal.returns-then-eq-clause-shows
returns-then-eq-clause-shows g c = nil_meant _ c.published-rows.ensures.current _ (search rules)

pub content_of-content-requires-clause-published : goal.content_of-content-requires-clause-published
content_of-content-requires-clause-published g c =
    let n = eqb-false _ _ (sym c.eq.ensures ∙ c.if-eq.false) in
    look_published _ c.published-rows.ensures.current _ c.requires.known (omega (arith, n))

pub overflow_cast-result : goal.overflow_cast-result
overflow_cast-result g c =
    let n = eqb-false _ _ (sym c.eq.ensures ∙ c.if-eq.false) in
    let p = c.args.self.now in let q = c.content_of-content.new.self in
    let f = look_fits p q c.args.handle.0 c.content_of-content.result c.published-rows.ensures.current c.content_of-content.ensures.reads c.requires.known (omega (arith, n)) c.content_of-content.ensures.content in
    let h = pair_form q.view _ c.content_of-content.result c.content_of-content.ensures.reads.follows.current f c.if-content-eq0.false in
    let t = h.tag in omega (arith, t)

pub overflow_cast-left : goal.overflow_cast-left
overflow_cast-left g c =
    let n = eqb-false _ _ (sym c.eq.ensures ∙ c.if-eq.false) in
    let p = c.args.self.now in let q = c.content_of-content.new.self in
    let f = look_fits p q c.args.handle.0 c.content_of-content.result c.published-rows.ensures.current c.content_of-content.ensures.reads c.requires.known (omega (arith, n)) c.content_of-content.ensures.content in
    let h = pair_form q.view _ c.content_of-content.result c.content_of-content.ensures.reads.follows.current f c.if-content-eq0.false in
    let t = h.left_le in let r = c.published-rows.ensures.layout.rows in let e = ap (λ l. l.rows) c.content_of-content.ensures.reads.follows.layout in omega (arith, t, r, e)

pub overflow_cast-right : goal.overflow_cast-right
overflow_cast-right g c =
    let n = eqb-false _ _ (sym c.eq.ensures ∙ c.if-eq.false) in
    let p = c.args.self.now in let q = c.content_of-content.new.self in
    let f = look_fits p q c.args.handle.0 c.content_of-content.result c.published-rows.ensures.current c.content_of-content.ensures.reads c.requires.known (omega (arith, n)) c.content_of-content.ensures.content in
    let h = pair_form q.view _ c.content_of-content.result c.content_of-content.ensures.reads.follows.current f c.if-content-eq0.false in
    let t = h.right_le in let r = c.published-rows.ensures.layout.rows in let e = ap (λ l. l.rows) c.content_of-content.ensures.reads.follows.layout in omega (arith, t, r, e)

pub returns-then-content-eq0-clause-shows : goal.returns-then-content-eq0-clause-shows
returns-then-content-eq0-clause-shows g c =
    let n = eqb-false _ _ (sym c.eq.ensures ∙ c.if-eq.false) in
    let p = c.args.self.now in let q = c.content_of-content.new.self in
    let f = look_fits p q c.args.handle.0 c.content_of-content.result c.published-rows.ensures.current c.content_of-content.ensures.reads c.requires.known (omega (arith, n)) c.content_of-content.ensures.content in
    number_again _ _ _ c.content_of-content.result c.cast_signed.result f c.if-content-eq0.true c.cast_signed.ensures

pub returns-then-content-eq0-clause-reads : goal.returns-then-content-eq0-clause-reads
returns-then-content-eq0-clause-reads g c = store_reads _ _ c.published-rows.ensures.current c.published-rows.ensures.layout c.content_of-content.ensures.reads

pub returns-clause-shows : goal.returns-clause-shows
returns-clause-shows g c =
    let n = eqb-false _ _ (sym c.eq.ensures ∙ c.if-eq.false) in
    let p = c.args.self.now in let q = c.content_of-content.new.self in
    let f = look_fits p q c.args.handle.0 c.content_of-content.result c.published-rows.ensures.current c.content_of-content.ensures.reads c.requires.known (omega (arith, n)) c.content_of-content.ensures.content in
    let h = pair_form q.view _ c.content_of-content.result c.content_of-content.ensures.reads.follows.current f c.if-content-eq0.false in
    (h.left, h.right, h.is)

pub returns-clause-reads : goal.returns-clause-reads
returns-clause-reads g c = store_reads _ _ c.published-rows.ensures.current c.published-rows.ensures.layout c.content_of-content.ensures.reads
