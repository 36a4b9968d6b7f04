use Rattle.std.proofs.Common.{ap, sym, ◌∙◌, subst, List, ℕ, [], replicate}
use Rattle.atomic_table.specs.Table.{opening}
use Rattle.lrc_rule.specs.Views.{Rule, opening_view}
use Rattle.lrc_rule.proofs.Keeping.{opens}
use Rattle.lrc_table.proofs.table.Table.new.Goals as goal

pub of_words-requires : goal.of_words-requires
of_words-requires g c =
    let l = c.of-layout.result in
    let e = c.as_slice.ensures.value ∙ (c.in_ok-zeros.ensures.items_if_clones_equal (λ y e. e) ∙ ap (λ (n : ℕ). replicate {A = ℕ} n 0) c.size.ensures) in
    subst (λ (words : List ℕ). Rule (g.M.Meaning.allows c.args.meaning) (g.M.Meaning.reach c.args.meaning) l (opening {S = Unit {0}} words [] (opening_view l))) (sym e) (opens l)
