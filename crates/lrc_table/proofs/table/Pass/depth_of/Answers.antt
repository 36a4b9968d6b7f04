use Rattle.std.proofs.Common.{◌-◌, ap, sym, ◌∙◌, arith}
use Rattle.lrc_rule.proofs.Counts.{depth-le}
use Rattle.lrc_table.proofs.Opened.{part_of}
use Rattle.lrc_table.proofs.Follow.{Reads-refl, handle-le, part-later, loaded_part, depth_at, nil_at}
use Rattle.lrc_table.proofs.table.Pass.depth_of.Goals as goal

pub returns-then-handle-eq0-clause-depth : goal.returns-then-handle-eq0-clause-depth
returns-then-handle-eq0-clause-depth g c cell h = nil_at _ _ cell _ h c.if-handle-eq0.true

pub returns-then-handle-eq0-clause-reads : goal.returns-then-handle-eq0-clause-reads
returns-then-handle-eq0-clause-reads g c = Reads-refl c.args.self.now c.requires.current

pub overflow_cast-handle : goal.overflow_cast-handle
overflow_cast-handle g c =
    let b = handle-le _ _ c.requires.current.table c.requires.known.0 _ c.requires.known.1 in
    let r = c.layout-layout.ensures.layout.rows in
    let e = ap (λ l. l.rows) c.requires.of.1 in
    omega (arith, b, e, r)

pub part-requires-clause-row : goal.part-requires-clause-row
part-requires-clause-row g c =
    let b = handle-le _ _ c.requires.current.table c.requires.known.0 _ c.requires.known.1 in
    let e = ap (λ l. l.rows) (c.layout-layout.ensures.value ∙ sym c.requires.of.1) in
    omega (arith, b, e, c.if-handle-eq0.false)

pub load-requires-clause-word : goal.load-requires-clause-word
load-requires-clause-word g c =
    let b = handle-le _ _ c.requires.current.table c.requires.known.0 _ c.requires.known.1 in
    let e = ap (λ l. l.rows) (c.layout-layout.ensures.value ∙ sym c.requires.of.1) in
    part_of _ _ (c.args.handle - 1) 3 _ (sym c.layout-layout.ensures.value) (omega (arith, b, e, c.if-handle-eq0.false)) (omega arith) c.part.ensures.index

deep : goal.returns-clause-depth
deep g c cell h =
    let p = c.args.self.now in let q = c.load.new.self in
    let e = c.layout-layout.ensures.value ∙ (sym c.requires.of.1 ∙ sym c.load.ensures.reads.follows.layout) in
    let d = depth_at _ _ cell _ h (omega (arith, c.if-handle-eq0.false)) in
    loaded_part p.view q.view (c.args.handle - 1) 3 _ _ _ c.load.ensures.found e c.part.ensures.index
    ∙ (part-later p.view q.view (c.args.handle - 1) 3 c.requires.current c.load.ensures.reads.follows d.0 (omega arith) ∙ d.1)

pub returns-clause-depth : goal.returns-clause-depth
returns-clause-depth = deep

pub returns-clause-small : goal.returns-clause-small
returns-clause-small g c =
    let e = deep g c c.requires.known.0 c.requires.known.1 in
    let b = depth-le _ _ c.requires.current.table c.requires.known.0 _ c.requires.known.1 in
    let r = c.layout-layout.ensures.layout.rows in
    let f = ap (λ l. l.rows) c.requires.of.1 in
    omega (arith, e, b, r, f)
