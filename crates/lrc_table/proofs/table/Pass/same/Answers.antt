use Rattle.std.proofs.Common.{ℕ, eqb-true, eq-eqb, ap, sym, ◌∙◌}
use Rattle.lrc_store.specs.Standing.{meant}
use Rattle.lrc_table.specs.Standings.{standing}
use Rattle.lrc_table.proofs.Stores.{same_handles}
use Rattle.lrc_table.proofs.table.Pass.same.Goals as goal

pub returns-clause-cells : goal.returns-clause-cells
returns-clause-cells g c =
    let v = c.args.self.now.view in (
      λ t. ap (λ (n : ℕ). meant (standing v) n) (eqb-true c.args.left.0 c.args.right.0 (sym c.eq.ensures ∙ t)),
      λ e. c.eq.ensures ∙ eq-eqb c.args.left.0 c.args.right.0 (same_handles v c.published-rows.ensures.current c.args.left.0 c.args.right.0 c.requires.left_known c.requires.right_known e),
    )
