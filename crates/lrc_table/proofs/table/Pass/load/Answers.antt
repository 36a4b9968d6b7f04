use Rattle.std.proofs.Common.{ap, sym, subst}
use Rattle.lrc_rule.specs.Layout.{IsBucketOrPart}
use Rattle.lrc_rule.proofs.Keeping.{loads}
use Rattle.lrc_rule.proofs.Places.{bucket_or_part-within}
use Rattle.lrc_table.specs.Passes.{TableView}
use Rattle.lrc_table.proofs.Opened.{same_id, same_layout}
use Rattle.lrc_table.proofs.table.Pass.load.Goals as goal

pub load-requires : goal.load-requires
load-requires g c =
    let t = c.table in
    let s = c.self in
    let m = ap (λ (p : TableView g.row.M.Denot). p.layout) t.view_is in
    let is = subst (λ l. IsBucketOrPart l c.args.word) (sym m) c.requires.word in
    let e = same_layout _ _ _ _ s.view_is t.view_is c.requires.of in (
      same_id _ _ _ _ s.view_is c.table.view_is c.requires.of,
      bucket_or_part-within _ _ c.args.word t.invariant.1 is,
      loads _ _ _ _ _ s.invariant.current.live (subst (λ l. IsBucketOrPart l c.args.word) (sym e) is),
    )
