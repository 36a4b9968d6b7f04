use Rattle.std.proofs.Common.{◌≡◌, sym, subst, refl, arith}
use Rattle.lrc_store.specs.Cells.{CellTree, pair}
use Rattle.lrc_store.specs.Standing.{meant, IsKnown}
use Rattle.lrc_store.specs.Words.{Puts}
use Rattle.lrc_table.specs.Standings.{standing}
use Rattle.lrc_table.proofs.Probing.{Answers-unnoted}
use Rattle.lrc_table.proofs.Stores.{puts, known_stands}
use Rattle.lrc_table.proofs.table.Pass.cell.Goals as goal

pub put-requires-clause-fits : goal.put-requires-clause-fits
put-requires-clause-fits g c =
    let v = c.args.self.now.view in let now = c.published-rows.ensures.current in
    let t = c.from.ensures in (
      refl,
      known_stands v now _ (subst (IsKnown (standing v)) (sym c.from-2.ensures) c.requires.left_known),
      known_stands v now _ (subst (IsKnown (standing v)) (sym c.from-3.ensures) c.requires.right_known),
      (let a = c.requires.tag_from in omega (arith, a, t)),
      (let b = c.requires.tag_to in omega (arith, b, t)),
    )

pub returns-clause-puts : goal.returns-clause-puts
returns-clause-puts g c =
    let v = c.args.self.now.view in
    let e : pair c.from.result (meant (standing v) c.from-2.result) (meant (standing v) c.from-3.result) ≡ pair c.args.tag (meant (standing v) c.args.left.0) (meant (standing v) c.args.right.0)
    = (λ i. pair (c.from.ensures i) (meant (standing v) (c.from-2.ensures i)) (meant (standing v) (c.from-3.ensures i))) in
    subst (λ (cell : CellTree). Puts (standing v) (standing c.put.new.self.view) cell c.put.result) e
    (puts c.args.self.now c.put.new.self _ c.put.result c.published-rows.ensures.current c.published-rows.ensures.layout c.put.ensures.seeks c.put.ensures.answers)

pub returns-clause-unnoted : goal.returns-clause-unnoted
returns-clause-unnoted g c = Answers-unnoted c.args.self.now c.put.new.self _ c.put.result c.put.ensures.answers
