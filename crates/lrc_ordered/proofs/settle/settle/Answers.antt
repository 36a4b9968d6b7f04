use Rattle.std.proofs.Common.{subst}
use Rattle.lrc_ordered.specs.Tables.{GatheredAll, JoinedIn}
use Rattle.lrc_ordered.proofs.MissingLemmas.{fewer_missing}
use Rattle.lrc_ordered.proofs.SettleLemmas.{begin, spread_step, gather_step, settled}
use Rattle.lrc_ordered.proofs.settle.settle.Goals as goal

pub rounds-init : goal.rounds-init
rounds-init c =
    spread_step c.args.relations.now c.args.relations.now c.spread.new.relations c.args.sorts.now c.args.sorts.now c.args.places.now
    (begin c.args.relations.now c.args.sorts.now c.args.places.now c.requires) c.spread.ensures.number c.spread.ensures.closed

pub rounds-smaller : goal.rounds-smaller
rounds-smaller c =
    fewer_missing c.rounds.sorts c.gather.new.sorts (JoinedIn c.rounds.sorts c.rounds.relations c.args.places.now)
    (subst (λ b. GatheredAll c.rounds.sorts c.gather.new.sorts b (JoinedIn c.rounds.sorts c.rounds.relations c.args.places.now)) c.rounds-test.true c.gather.ensures)

pub rounds-preserved : goal.rounds-preserved
rounds-preserved c =
    spread_step c.args.relations.now c.rounds.relations c.spread-in-rounds.new.relations c.args.sorts.now c.gather.new.sorts c.args.places.now
    (gather_step c.args.relations.now c.rounds.relations c.args.sorts.now c.rounds.sorts c.gather.new.sorts c.args.places.now c.rounds.invariant.follow
    c.gather.result c.gather.ensures) c.spread-in-rounds.ensures.number c.spread-in-rounds.ensures.closed

pub returns : goal.returns
returns c =
    settled c.args.relations.now c.rounds.relations c.args.sorts.now c.rounds.sorts c.gather.new.sorts c.args.places.now c.rounds.invariant
    (subst (λ b. GatheredAll c.rounds.sorts c.gather.new.sorts b (JoinedIn c.rounds.sorts c.rounds.relations c.args.places.now)) c.rounds-test.false c.gather.ensures)
