use Rattle.std.proofs.Common.{◌≡◌, List, sym, ap, subst, ◌∙◌}
use Rattle.std.specs.Prelude.{IfOk}
use Rattle.lrc_plan_meaning.specs.declared.Bound.{Bound}
use Rattle.lrc_plan.specs.declared.shape.Shape.{Shape}
use Rattle.lrc_plan.specs.Gaining.{shape_of, gained_by, used_by, AreSetsOf}
use Rattle.lrc_plan.specs.ItemSets.{Flags}
use Rattle.lrc_plan.specs.Handing.{listed_items}
use Rattle.lrc_plan.proofs.BindingLemmas.{bindings_same}
use Rattle.lrc_plan.proofs.sequences.all_bindings.Goals as goal

pub returns : goal.returns
returns c =
    let site = c.args.site.now in
    let sorts = site.sorts.now in
    let parts = site.parts.now in
    let p = site.production.now in
    let segments = c.args.segments.now in
    let gains : AreSetsOf (gained_by sorts parts p.left) segments c.deref.result.now =
    subst (λ (sets : List Flags). AreSetsOf (gained_by sorts parts p.left) segments sets) (sym c.deref.ensures.value) c.in_ok-gained.ensures in
    let uses : AreSetsOf (used_by sorts parts p.left) segments c.deref-2.result.now =
    subst (λ (sets : List Flags). AreSetsOf (used_by sorts parts p.left) segments sets) (sym c.deref-2.ensures.value) c.in_ok-used.ensures in
    let items : c.as_slice-2.result.now ≡ listed_items (shape_of sorts parts p).occurrences (shape_of sorts parts p).visits =
    c.as_slice-2.ensures ∙ c.in_ok-items.ensures ∙ ap (listed_items c.args.shape.now.occurrences) c.as_slice.ensures
    ∙ ap (λ (shape : Shape). listed_items shape.occurrences shape.visits) c.requires.shape in
    subst (λ (lists : List (List (List Bound))). IfOk c.bindings.result (λ found. found ≡ lists))
    (bindings_same sorts parts p segments c.requires.segments c.deref.result.now c.deref-2.result.now gains uses c.as_slice-2.result.now items) c.bindings.ensures
