use Rattle.std.proofs.Common.{ap, ◌∙◌, subst}
use Rattle.std.proofs.lemmas.Int.{to_z-of_z}
use Rattle.std.specs.Int.{cast_signed, cast_unsigned, w64}
use Rattle.lrc_store.specs.Cells.{CellTree, number}
use Rattle.lrc_store.specs.Words.{Puts}
use Rattle.lrc_table.specs.Standings.{standing}
use Rattle.lrc_table.proofs.Probing.{Answers-unnoted}
use Rattle.lrc_table.proofs.Stores.{puts}
use Rattle.lrc_table.proofs.table.Pass.int.Goals as goal

pub returns-clause-puts : goal.returns-clause-puts
returns-clause-puts g c =
    let r = to_z-of_z w64 c.args.value c.ranges.value in
    let e = ap (cast_signed w64) c.cast_unsigned.ensures ∙ (ap (λ z. cast_signed w64 (cast_unsigned w64 z)) r ∙ r) in
    subst (λ (cell : CellTree). Puts (standing c.args.self.now.view) (standing c.put.new.self.view) cell c.put.result) (ap number e)
    (puts c.args.self.now c.put.new.self _ c.put.result c.published-rows.ensures.current c.published-rows.ensures.layout c.put.ensures.seeks c.put.ensures.answers)

pub returns-clause-unnoted : goal.returns-clause-unnoted
returns-clause-unnoted g c = Answers-unnoted c.args.self.now c.put.new.self _ c.put.result c.put.ensures.answers
