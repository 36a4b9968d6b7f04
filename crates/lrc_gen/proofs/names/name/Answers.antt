use Rattle.lrc_gen.proofs.NameLemmas.{named}
use Rattle.lrc_gen.proofs.names.name.Goals as goal

pub unreachable-requires : goal.unreachable-requires
unreachable-requires c = c.in-None.ensures (named c.args.bytes.now c.requires)
