use Rattle.std.proofs.Common.{ap, ◌∙◌}
use Rattle.lrc_fault_meaning.specs.Faults.{means}
use Rattle.lrc_check.specs.Within.{Within}
use Rattle.lrc_check.proofs.ScopeLemmas.{meaning_is}
use Rattle.lrc_check.proofs.scope.Scope.means.Goals as goal

pub returns : goal.returns
returns c =
    let inside = c.self.inside in
    c.means_among.ensures
    ∙ (meaning_is inside.grammar.now inside.prod.now inside.left.now c.as_slice.result.now inside.declared.now c.args.name c.self.invariant c.as_slice.ensures
    ∙ ap (λ (s : Within). means s.grammar.sorts s.prod c.args.name) c.self.view_is)
