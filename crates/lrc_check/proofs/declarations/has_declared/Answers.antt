use Rattle.std.proofs.Common.{sym, ◌∙◌}
use Rattle.lrc_check.proofs.DeclareLemmas.{among_declared}
use Rattle.lrc_check.proofs.declarations.has_declared.Goals as goal

pub returns : goal.returns
returns c = c.any_declares.ensures ∙ sym (among_declared c.args.items.now c.args.name)
