use Rattle.std.proofs.Common.{◌≡◌, ◌∷◌, [], sym, ap, ◌∙◌, subst}
use Rattle.lrc_base.specs.RawTerms.{raw_forest}
use Rattle.lrc_meaning.specs.Tree.{tree}
use Rattle.lrc_job.specs.TermLaws.{NamesFitting}
use Rattle.lrc_job.proofs.FoundLemmas.{term_found, one_kind_found}
use Rattle.lrc_job.proofs.TermLawLemmas.{found_fits}
use Rattle.lrc_job.proofs.term.resolve.Goals as goal

pub returns-clause-fitting : goal.returns-clause-fitting
returns-clause-fitting c =
    let prods = c.as_slice.result.now in
    let raw = c.args.raw.now in
    let term = c.in-Some.term in
    let one : raw_forest c.as_slice-2.result.now ≡ raw ∷ [] = ap raw_forest c.as_slice-2.ensures ∙ c.items.ensures.trees in
    let is = term_found prods raw c.as_slice-2.result.now c.in_ok-build.field-0.build one term c.in-Some.ensures c.in_ok-build.ensures.found in
    let found = found_fits prods raw (tree term) is in
    let kind = one_kind_found prods c.in_ok-build.field-0.build c.in_ok-build.field-0.kinds.items term c.index-kind.result.now c.in_ok-build.ensures.kinds c.in-Some.ensures in
    let same : found.0 ≡ c.index-kind.result.now = let both = sym found.1 ∙ kind in cc (both, c.index-kind.ensures) in
    subst (λ ps. NamesFitting ps raw (tree term) c.index-kind.result.now) c.as_slice.ensures (subst (NamesFitting prods raw (tree term)) same found.2)
