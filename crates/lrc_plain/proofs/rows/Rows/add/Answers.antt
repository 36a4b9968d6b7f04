use Rattle.std.proofs.Common.{◌≡◌, List, [], ◌∷◌, ◌++◌, ap, arith, length, ◌∙◌}
use Rattle.lrc_store.specs.Cells.{CellTree}
use Rattle.lrc_plain.specs.Shelf.{Shelf}
use Rattle.lrc_plain.specs.Rows.{whole, cells_from}
use Rattle.lrc_plain.proofs.RowLemmas.{shelf-indexed, within-linked, kept-linked, cells-linked}
use Rattle.lrc_plain.proofs.rows.Rows.add.Goals as goal

pub invariant_of-self : goal.invariant_of-self
invariant_of-self c =
    let view : cells_from [] c.self.inside.rows.items ≡ c.args.self.now.cells = ap (λ (s : Shelf). s.cells) c.self.view_is in
    record {
      some = c.self.invariant.some;
      limit = c.self.invariant.limit;
      within = within-linked _ _ _ _ c.link.ensures.row (omega (arith, ap length view, c.self.invariant.kept.same_length, c.requires.room, ap (λ (s : Shelf). s.quota) c.self.view_is));
      room = omega (arith, c.link.ensures.room, c.self.invariant.room);
      buckets = c.link.ensures.buckets ∙ c.self.invariant.buckets;
      chained = c.link.ensures.chained;
      headed = c.link.ensures.headed;
      kept = kept-linked c.args.self.now.cells c.self.inside.rows.items c.link.new.rows.items c.args.cell c.self.invariant.kept view c.requires.form c.requires.unnamed c.link.ensures.row;
    }

pub returns-clause-cells : goal.returns-clause-cells
returns-clause-cells c =
    let view : cells_from [] c.self.inside.rows.items ≡ c.args.self.now.cells = ap (λ (s : Shelf). s.cells) c.self.view_is in
    cells-linked c.self.inside.rows.items c.link.new.rows.items c.args.cell c.link.ensures.row
    ∙ ap (λ (cells : List CellTree). cells ++ whole cells c.args.cell ∷ []) view

pub returns-clause-sound : goal.returns-clause-sound
returns-clause-sound c =
    let k = invariant_of-self c in
    shelf-indexed _ _ _ k.limit k.within k.kept
