use Rattle.lrc_plain.proofs.Standings.{stays}
use Rattle.lrc_plain.proofs.plain.PlainStoreStore.recall.Goals as goal

pub returns-in-None-clause-stays : goal.returns-in-None-clause-stays
returns-in-None-clause-stays g c = stays _ c.args.self.now c.self.inside.outcomes.items c.one_more-self-inside.result c.self.view_is c.self.invariant.shelf
