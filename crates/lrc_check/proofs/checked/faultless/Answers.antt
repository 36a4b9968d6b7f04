use Rattle.std.proofs.Common.{◌≡◌, IsTrue, sym, subst, ◌∙◌}
use Rattle.lrc_meaning.specs.Grammar as meaning
use Rattle.lrc_meaning.specs.Grammar.{is_well_formed}
use Rattle.lrc_naming.specs.Numbered.{grammar}
use Rattle.lrc_check.proofs.LimitLemmas.{limits_are_kept}
use Rattle.lrc_check.proofs.checked.faultless.Goals as goal

pub of-requires-clause-ok : goal.of-requires-clause-ok
of-requires-clause-ok c =
    let law = c.no_fault_is_well_formed.ensures.named c.args.raw.now c.requires.right in
    let same : law.0 ≡ grammar c.in-Ok.numbered = let both = sym law.1 ∙ c.in-Ok.ensures.numbers in cc in
    subst (λ (h : meaning.Grammar). IsTrue (is_well_formed h)) same law.2

pub of-requires-clause-few : goal.of-requires-clause-few
of-requires-clause-few c =
    limits_are_kept c.args.raw.now (grammar c.in-Ok.numbered) c.requires.limits c.in-Ok.ensures.numbers
