use Rattle.std.proofs.Common.{sym, ◌∙◌}
use Rattle.lrc_plain.proofs.Memo.{finds, missing-meant}
use Rattle.lrc_plain.proofs.plain.PlainStore.outcome_of.Goals as goal

pub returns-then-kept-eq0 : goal.returns-then-kept-eq0
returns-then-kept-eq0 g c =
    let now = c.args.self.now in
    missing-meant now.shelf now.outcomes c.args.call.0 c.kept_for-kept.ensures.memo.shelf c.requires (sym c.kept_for-kept.ensures.value ∙ c.if-kept-eq0.true)

pub returns-else-kept-eq0 : goal.returns-else-kept-eq0
returns-else-kept-eq0 g c =
    let now = c.args.self.now in
    finds _ _ now.shelf now.outcomes now.missed c.args.call.0 c.kept_for-kept.result c.kept_for-kept.ensures.memo c.requires c.kept_for-kept.ensures.value c.if-kept-eq0.false
