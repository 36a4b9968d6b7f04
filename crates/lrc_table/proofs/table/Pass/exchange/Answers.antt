use Rattle.std.proofs.Common.{ℕ, ◌<◌, length, ap, sym, ◌∙◌, arith, subst}
use Rattle.lrc_rule.proofs.Keeping.{publishes}
use Rattle.lrc_rule.specs.Layout.{bucket_at}
use Rattle.lrc_rule.specs.Views.{View}
use Rattle.lrc_rule.specs.Steps.{Exchanges}
use Rattle.lrc_table.specs.Passes.{PassView, IsReady}
use Rattle.lrc_table.proofs.Opened.{same_id, same_layout, IsPass-publishes, exchanged-small}
use Rattle.lrc_table.proofs.table.Pass.exchange.Goals as goal

pub compare_exchange-found-requires : goal.compare_exchange-found-requires
compare_exchange-found-requires g c =
    let s = c.self in let i = s.invariant in
    let e = same_layout _ _ _ _ s.view_is c.table.view_is c.requires.of in
    let v = ap (λ (p : PassView). p.view) s.view_is in
    let ready = subst (λ (v : View). IsReady v c.args.place) (sym v) c.requires.ready in
    let room = subst (λ (w : View). length w.owned.made < w.owned.quota) (sym v) c.requires.room in (
      same_id _ _ _ _ s.view_is c.table.view_is c.requires.of,
      (let w = c.bucket-word.ensures.within in omega (arith, w, c.table.invariant.1)),
      publishes _ _ _ _ _ _ ready.cell ready.steps i.current ready.drafted (c.bucket-word.ensures.index ∙ (λ j. bucket_at (sym e j) (ready.at j))) ready.few
          (let p = c.requires.place in let at = ready.at in let buckets = ap (λ l. l.buckets) e in let t = ap (λ t. t.layout.buckets) c.table.view_is in omega (arith, p, at, buckets, t)) ready.passed room
          (let n = c.from-next.ensures in omega (arith, n, i.first_is, i.count_is)),
    )

pub invariant_of-self : goal.invariant_of-self
invariant_of-self g c =
    let s = c.self in
    let v = ap (λ (p : PassView). p.view) s.view_is in
    let ready = subst (λ (v : View). IsReady v c.args.place) (sym v) c.requires.ready in
    IsPass-publishes s.inside.seat.me.0 _ _ _ _ _ _ _ _ c.args.place s.invariant c.compare_exchange-found.ensures.2.2 c.if-found-eq0.true ready c.compare_exchange-found.ensures.2.1

exchanges : goal.returns-then-found-eq0-clause-exchanges
exchanges g c =
    let s = c.self in
    let w = c.compare_exchange-found.new.seat.me.0 in
    let h = c.compare_exchange-found.ensures.2.2 in
    let e = same_layout _ _ _ _ s.view_is c.table.view_is c.requires.of in
    let at = c.bucket-word.ensures.index ∙ ap (λ l. bucket_at l c.args.place) (sym (h.follows.layout ∙ e)) in
    subst (λ (x : View × ℕ). Exchanges x.0 w x.1 c.compare_exchange-found.result) (λ i. (ap (λ (p : PassView). p.view) s.view_is i, at i)) h

pub returns-then-found-eq0-clause-exchanges : goal.returns-then-found-eq0-clause-exchanges
returns-then-found-eq0-clause-exchanges = exchanges

pub returns-then-found-eq0-clause-small : goal.returns-then-found-eq0-clause-small
returns-then-found-eq0-clause-small g c = omega (arith, c.if-found-eq0.true)

pub returns-else-found-eq0-clause-small : goal.returns-else-found-eq0-clause-small
returns-else-found-eq0-clause-small g c =
    exchanged-small c.self.inside.seat.me.0 c.compare_exchange-found.new.seat.me.0 _ _ c.self.invariant.layout c.compare_exchange-found.ensures.2.0 c.compare_exchange-found.ensures.2.2
