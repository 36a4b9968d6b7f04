use Rattle.std.proofs.Common.{[], ◌∷◌, sym, ap, ◌∙◌}
use Rattle.lrc_base.specs.declared.raw.RawItem.TheVariants as item
use Rattle.lrc_base.specs.declared.raw.RawExpr.TheVariants as e
use Rattle.lrc_augment.specs.Filled.{Symbol, has_synthesised}
use Rattle.lrc_augment.proofs.CopyLemmas.{of_none, of_more, of_one}
use Rattle.lrc_augment.proofs.copies.copy_of_only.Goals as goal

pub returns-in_err-place : goal.returns-in_err-place
returns-in_err-place c =
    of_none c.args.attr.now.name (λ (s : Symbol). has_synthesised s.attrs c.args.attr.now) c.args.symbols.now c.from_residual.result (sym c.in_err-place.ensures) c.from_residual.ensures

pub returns-then-any_with : goal.returns-then-any_with
returns-then-any_with c =
    of_more c.args.attr.now.name (λ (s : Symbol). has_synthesised s.attrs c.args.attr.now) c.args.symbols.now c.in_ok-place.place (sym c.in_ok-place.ensures) (sym c.if-any_with.ensures)

pub returns : goal.returns
returns c =
    of_one c.args.attr.now.name (λ (s : Symbol). has_synthesised s.attrs c.args.attr.now) c.args.symbols.now c.in_ok-place.place c.index-symbols-place.result (sym c.in_ok-place.ensures) (sym c.if-any_with.ensures) c.index-symbols-place.is
    ∙ ap (λ (s : Symbol). item.Own c.args.attr.now.name (e.Two s.name c.args.attr.now.name) ∷ []) (sym c.symbol.view_is)
