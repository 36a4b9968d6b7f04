use Rattle.std.proofs.Common.{sym, ◌∙◌}
use Rattle.lrc_augment.proofs.TargetLemmas.{own_among}
use Rattle.lrc_augment.proofs.targets.has_own.Goals as goal

pub returns : goal.returns
returns c = c.any_own.ensures ∙ sym (own_among c.args.items.now c.args.name)
