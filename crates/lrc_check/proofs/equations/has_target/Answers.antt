use Rattle.std.proofs.Common.{sym, ◌∙◌}
use Rattle.lrc_check.proofs.DeclareLemmas.{target_among}
use Rattle.lrc_check.proofs.equations.has_target.Goals as goal

pub returns : goal.returns
returns c = c.any_equation_of.ensures ∙ sym (target_among c.args.items.now c.args.target.now)
