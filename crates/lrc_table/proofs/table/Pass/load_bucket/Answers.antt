use Rattle.std.proofs.Common.{ℕ, ap, sym, ◌∙◌, arith, subst}
use Rattle.lrc_rule.proofs.Keeping.{seeks}
use Rattle.lrc_rule.specs.Views.{View, now}
use Rattle.lrc_rule.specs.Layout.{IsLayout, IsBucket, bucket_at}
use Rattle.lrc_rule.specs.Steps.{Loads}
use Rattle.lrc_table.specs.Passes.{PassView, IsSought}
use Rattle.lrc_table.proofs.Opened.{same_id, same_layout, bucket-small}
use Rattle.lrc_table.proofs.table.Pass.load_bucket.Goals as goal

pub load-requires : goal.load-requires
load-requires g c =
    let s = c.self in
    let e = same_layout _ _ _ _ s.view_is c.table.view_is c.requires.of in
    let sought = subst (λ (v : View). IsSought v g.C.Sought.cell c.args.place) (sym (ap (λ (p : PassView). p.view) s.view_is)) c.requires.sought in (
      same_id _ _ _ _ s.view_is c.table.view_is c.requires.of,
      (let w = c.bucket.ensures.within in omega (arith, w, c.table.invariant.1)),
      seeks _ _ _ _ _ g.C.Sought.cell sought.content sought.steps s.invariant.current (c.bucket.ensures.index ∙ (λ i. bucket_at (sym e i) (sought.at i)))
          (let p = c.requires.place in let at = sought.at in let buckets = ap (λ l. l.buckets) e in let t = ap (λ t. t.layout.buckets) c.table.view_is in omega (arith, p, at, buckets, t)) sought.fits sought.passed,
    )

pub returns-clause-loads : goal.returns-clause-loads
returns-clause-loads g c =
    let s = c.self in
    let w = c.load.new.seat.me.0 in
    let h = c.load.ensures.2.2 in
    let e = same_layout _ _ _ _ s.view_is c.table.view_is c.requires.of in
    let at = c.bucket.ensures.index ∙ ap (λ l. bucket_at l c.args.place) (sym (h.follows.layout ∙ e)) in
    subst (λ (x : View × ℕ). Loads x.0 w x.1 c.load.result) (λ i. (ap (λ (p : PassView). p.view) s.view_is i, at i)) h

pub returns-clause-small : goal.returns-clause-small
returns-clause-small g c =
    let w = c.load.new.seat.me.0 in
    let f = c.load.ensures.2.2.follows in
    let is = subst (λ l. IsBucket l c.bucket.result) (sym f.layout) c.load.ensures.2.0 in
    bucket-small w.layout (now w) c.bucket.result _ f.current.table (subst IsLayout (sym f.layout) c.self.invariant.layout) is c.load.ensures.2.2.found
