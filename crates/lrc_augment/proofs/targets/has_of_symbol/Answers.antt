use Rattle.std.proofs.Common.{sym, ◌∙◌}
use Rattle.lrc_augment.proofs.TargetLemmas.{of_symbol_among}
use Rattle.lrc_augment.proofs.targets.has_of_symbol.Goals as goal

pub returns : goal.returns
returns c = c.any_of_symbol.ensures ∙ sym (of_symbol_among c.args.items.now c.args.symbol c.args.name)
