use Rattle.std.proofs.Common.{◌∙◌}
use Rattle.lrc_check.proofs.MissingLemmas.{missing_declared}
use Rattle.lrc_check.proofs.missing.check_missing.Goals as goal

pub returns : goal.returns
returns c =
    let scope = c.args.scope.now in
    c.check_all_declared.ensures
    ∙ missing_declared scope.grammar.sorts c.sorts.result.now c.sorts-2.result.now scope.prod c.prod-prod.result.now c.left.result.now c.as_slice.result.now c.declared.result.now
    c.sorts.ensures c.sorts-2.ensures c.prod-prod.ensures c.left.ensures c.as_slice.ensures c.declared.ensures c.in_default.ensures c.in_default-check_kids.ensures
