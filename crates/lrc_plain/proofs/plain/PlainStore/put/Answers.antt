use Rattle.lrc_plain.proofs.Calls.{grown, memo-grown, puts-seen, exact-seen}
use Rattle.lrc_plain.proofs.plain.PlainStore.put.Goals as goal

pub invariant_of-self : goal.invariant_of-self
invariant_of-self g c =
    memo-grown _ _ _ _ _ _ c.self.invariant c.put.ensures.sound c.put.ensures.quota (grown _ _ _ _ c.put.ensures.ok c.put.ensures.full)

pub returns-clause-puts : goal.returns-clause-puts
returns-clause-puts g c =
    puts-seen _ _ _ _ _ c.self.view_is c.self.invariant.rest c.self.invariant.known c.put.ensures.quota c.put.ensures.sound c.put.ensures.ok c.put.ensures.full

pub returns-clause-exact : goal.returns-clause-exact
returns-clause-exact g c = exact-seen _ _ _ _ _ _ c.self.view_is c.requires c.put.ensures.ok c.put.ensures.full
