use Rattle.lrc_plain.proofs.Standings.{known-within}
use Rattle.lrc_plain.proofs.Calls.{shows}
use Rattle.lrc_plain.proofs.plain.PlainStoreStore.look.Goals as goal

pub form_of-requires : goal.form_of-requires
form_of-requires g c = known-within _ _ c.requires

pub returns-clause-shows : goal.returns-clause-shows
returns-clause-shows g c = shows c.args.self.now.shelf c.args.self.now.outcomes c.args.self.now.missed c.form_of.result c.args.handle.0 (known-within _ _ c.requires) c.form_of.ensures.cell c.form_of.ensures.known
