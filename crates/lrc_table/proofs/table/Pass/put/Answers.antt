use Rattle.std.proofs.Common.{◌≡◌, ap, sym, ◌∙◌, arith, subst, suc, ◌+◌}
use Rattle.lrc_rule.specs.Layout.{IsLayout}
use Rattle.lrc_table.proofs.Follow.{IsOf-later}
use Rattle.lrc_table.proofs.Probing.{Tried, Tried-none, Tried-more, Tried-ends, Seeks-trans, Answers-later, place_is}
use Rattle.lrc_table.proofs.table.Pass.put.Goals as goal

pub loop-steps-init : goal.loop-steps-init
loop-steps-init g c = Tried-none c.args.self.now _ c.args.content c.published-rows.ensures.current c.requires.fits

pub try_place-requires : goal.try_place-requires
try_place-requires g c =
    let p = c.args.self.now in let q = c.loop-steps.self in let t = c.loop-steps.invariant in
    let f = t.seeks.follows in
    let e = c.layout-places.ensures.value ∙ (sym c.requires.of.1 ∙ sym f.layout) in
    let b = ap (λ l. l.buckets) e in
    let b_too = ap (λ l. l.buckets) c.layout-places.ensures.value in
    record {
      of = IsOf-later p q c.args.table.now t.seeks.table f c.requires.of;
      current = f.current;
      place = (let w = c.place_after-place.ensures.within in omega (arith, w, b_too));
      path = record {
        fits = t.fits;
        steps = c.loop-steps.steps;
        few = (let w = c.loop-steps-test.true in omega (arith, w, b));
        at = place_is q.view.layout c.args.content _ _ _ _ _ c.place_after-place.ensures.value c.home-home.ensures.value c.from.ensures b;
        passed = t.passed;
      };
    }

pub loop-steps-preserved : goal.loop-steps-preserved
loop-steps-preserved g c =
    let p = c.args.self.now in let q = c.loop-steps.self in let t = c.loop-steps.invariant in
    let f = t.seeks.follows in
    let e = c.layout-places.ensures.value ∙ (sym c.requires.of.1 ∙ sym f.layout) in
    let b = ap (λ l. l.buckets) e in
    let at = place_is q.view.layout c.args.content _ _ _ _ _ c.place_after-place.ensures.value c.home-home.ensures.value c.from.ensures b in
    subst (λ n. Tried p c.try_place.new.self g.C.Sought.cell c.args.content n) (let s : suc c.loop-steps.steps ≡ c.loop-steps.steps + 1 = omega arith in s)
    (Tried-more p q c.try_place.new.self _ c.args.content c.loop-steps.steps _ t at c.in_default.ensures.seeks c.in_default.ensures.answers)

pub returns-in-Some-clause-seeks : goal.returns-in-Some-clause-seeks
returns-in-Some-clause-seeks g c = let t = c.loop-steps.invariant in
    Seeks-trans c.args.self.now c.loop-steps.self c.try_place.new.self _ t.seeks t.made c.in-Some.ensures.seeks

pub returns-in-Some-clause-answers : goal.returns-in-Some-clause-answers
returns-in-Some-clause-answers g c = let t = c.loop-steps.invariant in
    Answers-later c.args.self.now c.loop-steps.self c.try_place.new.self _ c.in-Some.answer t.seeks t.made t.unnoted c.in-Some.ensures.answers

pub unreachable-requires : goal.unreachable-requires
unreachable-requires g c =
    let p = c.args.self.now in let q = c.loop-steps.self in let t = c.loop-steps.invariant in
    let f = t.seeks.follows in
    let e = c.layout-places.ensures.value ∙ (sym c.requires.of.1 ∙ sym f.layout) in
    let b = ap (λ l. l.buckets) e in
    Tried-ends p q _ c.args.content c.loop-steps.steps t (let n = c.loop-steps-test.false in let m = c.loop-steps.auto.steps-end in omega (arith, n, m, b))
    (subst IsLayout (sym c.layout-places.ensures.value ∙ e) c.layout-places.ensures.layout)
