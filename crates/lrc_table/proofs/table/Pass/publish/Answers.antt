use Rattle.std.proofs.Common.{ap, ◌∙◌, arith}
use Rattle.lrc_table.proofs.Probing.{IsUnnoted-room, ready_after, exchanged_own, own_stands, exchanged_lost, lost_names}
use Rattle.lrc_table.proofs.table.Pass.publish.Goals as goal

pub exchange-found-requires-clause-ready : goal.exchange-found-requires-clause-ready
exchange-found-requires-clause-ready g c = ready_after c.args.self.now c.draft.new.self _ c.args.content c.args.place c.requires.current c.requires.path c.draft.ensures

pub returns-then-found-eq0-clause-seeks : goal.returns-then-found-eq0-clause-seeks
returns-then-found-eq0-clause-seeks g c =
    exchanged_own c.args.self.now c.draft.new.self c.exchange-found.new.self _ c.args.content c.args.place _ c.requires.current c.requires.path c.draft.ensures c.exchange-found.ensures.table c.exchange-found.ensures.exchanges c.if-found-eq0.true

pub returns-then-found-eq0-clause-claims : goal.returns-then-found-eq0-clause-claims
returns-then-found-eq0-clause-claims g c = (
  own_stands c.args.self.now c.draft.new.self c.exchange-found.new.self _ c.args.content c.args.place _ _ c.requires.current c.requires.path c.draft.ensures c.exchange-found.ensures.exchanges c.if-found-eq0.true c.last.ensures,
  IsUnnoted-room c.args.self.now c.exchange-found.new.self c.requires.room,
)

pub returns-else-found-eq0-clause-seeks : goal.returns-else-found-eq0-clause-seeks
returns-else-found-eq0-clause-seeks g c =
    exchanged_lost c.args.self.now c.draft.new.self c.exchange-found.new.self _ c.args.content c.args.place _ c.draft.ensures c.exchange-found.ensures.table c.exchange-found.ensures.exchanges c.if-found-eq0.false

pub returns-else-found-eq0-clause-claims : goal.returns-else-found-eq0-clause-claims
returns-else-found-eq0-clause-claims g c =
    let inside = c.requires.place in
    let e = ap (λ l. l.buckets) (c.exchange-found.ensures.exchanges.follows.layout ∙ (c.draft.ensures.follows.layout ∙ c.requires.of.1)) in
    lost_names c.args.self.now c.draft.new.self c.exchange-found.new.self c.args.content _ c.args.place _ c.draft.ensures c.exchange-found.ensures.exchanges c.if-found-eq0.false (omega (arith, inside, e)) c.requires.room
