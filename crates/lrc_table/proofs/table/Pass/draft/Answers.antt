use Rattle.std.proofs.Common.{ℕ, [], ◌∷◌, ap, ◌∙◌}
use Rattle.lrc_table.proofs.Follow.{Follows-trans}
use Rattle.lrc_table.proofs.Probing.{four_stored}
use Rattle.lrc_table.proofs.table.Pass.draft.Goals as goal

pub returns : goal.returns
returns g c =
    let r = c.depth_of_content-depth.ensures.reads in
    let a = c.draft_part.ensures in let b = c.draft_part-2.ensures in let d = c.draft_part-3.ensures in let e = c.draft_part-4.ensures in
    record {
      table = e.table ∙ (d.table ∙ (b.table ∙ (a.table ∙ r.table)));
      follows = Follows-trans _ _ _ r.follows (Follows-trans _ _ _ a.stores.follows (Follows-trans _ _ _ b.stores.follows (Follows-trans _ _ _ d.stores.follows e.stores.follows)));
      draft = four_stored c.depth_of_content-depth.new.self.view.learned.draft _ _ _ _ _ _ _ c.depth_of_content-depth.result a.stores.draft b.stores.draft d.stores.draft e.stores.draft
          ∙ ap (λ (n : ℕ). c.args.content.tag ∷ c.args.content.left ∷ c.args.content.right ∷ n ∷ []) c.depth_of_content-depth.ensures.depth;
      notes = e.stores.notes ∙ (d.stores.notes ∙ (b.stores.notes ∙ (a.stores.notes ∙ r.notes)));
      made = e.stores.made ∙ (d.stores.made ∙ (b.stores.made ∙ (a.stores.made ∙ r.made)));
    }
