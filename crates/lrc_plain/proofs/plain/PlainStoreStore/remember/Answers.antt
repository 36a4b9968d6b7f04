use Rattle.lrc_plain.proofs.Standings.{stays}
use Rattle.lrc_plain.proofs.Memo.{given, memo-set, gains-seen}
use Rattle.lrc_plain.proofs.plain.PlainStoreStore.remember.Goals as goal

pub invariant_of-self : goal.invariant_of-self
invariant_of-self g c =
    rw c.write_outcome.ensures (memo-set _ _ _ _ c.args.call.0 c.args.outcome.0 c.self.invariant
    (given g.N.Meaning.allows g.N.Meaning.reach _ c.args.self.now c.args.call.0 c.args.outcome.0 c.self.view_is g.N.Meaning.filled
    c.requires.call_known c.requires.outcome_known c.requires.allowed c.requires.reached))

pub returns-clause-stays : goal.returns-clause-stays
returns-clause-stays g c = stays _ c.args.self.now c.write_outcome.new.outcomes.items c.self.inside.missed c.self.view_is c.self.invariant.shelf

pub returns-clause-gains : goal.returns-clause-gains
returns-clause-gains g c =
    rw c.write_outcome.ensures (gains-seen g.N.Meaning.allows g.N.Meaning.reach _ c.args.self.now c.args.call.0 c.args.outcome.0 c.self.view_is g.N.Meaning.single c.self.invariant
    (given g.N.Meaning.allows g.N.Meaning.reach _ c.args.self.now c.args.call.0 c.args.outcome.0 c.self.view_is g.N.Meaning.filled
    c.requires.call_known c.requires.outcome_known c.requires.allowed c.requires.reached))
