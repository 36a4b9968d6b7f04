use Rattle.std.proofs.Common.{◌≡◌, ℕ, ◌*◌, sym, subst}
use Rattle.std.specs.Prelude.{replicate}
use Rattle.lrc_graph.specs.Pairs.{Has}
use Rattle.lrc_graph.specs.Shown.{shown}
use Rattle.lrc_graph.proofs.ShownLemmas.{points-shown}
use Rattle.lrc_graph.proofs.RowLemmas.{none-shown}
use Rattle.lrc_graph.proofs.relation.Relation.new.Goals as goal

pub returns-clause-points : goal.returns-clause-points
returns-clause-points c = points-shown c.args.points c.div_ceil-width.result _

pub returns-clause-empty : goal.returns-clause-empty
returns-clause-empty c =
    let width = c.div_ceil-width.result in
    let zeros : c.in_ok-words.words.items ≡ replicate (c.args.points * width) 0 = c.in_ok-words.ensures.items_if_clones_equal (λ y h. h) in
    subst (λ words. (a b : ℕ) → Has (shown c.args.points width words) a b → ⊥) (sym zeros)
    (none-shown c.args.points width (c.args.points * width))
