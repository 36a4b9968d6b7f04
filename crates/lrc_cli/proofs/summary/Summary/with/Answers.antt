use Rattle.std.proofs.Common.{ℕ, ◌+◌, ℤ, ◌+ℤ◌, to_z, of_z, rules, SFits, w64, ap, ◌∙◌}
use Rattle.std.specs.Int.{int_wrap}
use Rattle.std.proofs.lemmas.Int.{to_z-of_z}
use Rattle.lrc_cli.proofs.SumLemmas.{sum_more}
use Rattle.lrc_cli.proofs.summary.Summary.with.Goals as goal

pub returns : goal.returns
returns c = λ lines is.
    let left : SFits w64 c.args.self.sum = search rules in
    let right : SFits w64 c.args.line.now.first = search rules in
    let sum : SFits w64 c.wrapped_sum-sum.result = search rules in
    sum_more lines c.args.line.now c.args.self _ is c.in_ok-replies.ensures (c.in_ok-refused.ensures ∙ ap (λ (n : ℕ). c.args.self.refused + n) c.refusals.ensures)
    (to_z-of_z w64 c.wrapped_sum-sum.result sum ∙ c.wrapped_sum-sum.ensures ∙ ap (λ (n : ℤ). int_wrap w64 (n +ℤ to_z w64 (of_z w64 c.args.line.now.first))) (to_z-of_z w64 c.args.self.sum left) ∙ ap (λ (n : ℤ). int_wrap w64 (c.args.self.sum +ℤ n)) (to_z-of_z w64 c.args.line.now.first right))
