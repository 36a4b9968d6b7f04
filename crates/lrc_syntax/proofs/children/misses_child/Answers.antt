use Rattle.std.proofs.Common.{◌≡◌, ℕ, count_by, sym, ◌∙◌, arith, rules}
use Rattle.lrc_syntax.specs.Faults.{is_child}
use Rattle.lrc_syntax.proofs.ListLemmas.{below_more}
use Rattle.lrc_syntax.proofs.children.misses_child.Goals as goal

pub loop-number-preserved : goal.loop-number-preserved
loop-number-preserved c =
    below_more (λ (i : ℕ). count_by (is_child i) c.args.pieces.now ≡ 1) c.loop-number.number c.loop-number.invariant (sym c.occurrences.ensures ∙ c.if-occurrences-ne1.false)

pub returns : goal.returns
returns c = (λ h. search rules, λ w. absurd (w.2 (c.loop-number.invariant w.0 (omega (arith, w.1)))))
