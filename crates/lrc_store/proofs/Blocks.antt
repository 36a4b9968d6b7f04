-- An owner that drew no blocks.
use Rattle.std.proofs.Common.{◌≡◌, List, length, ◌++◌, refl, sym, ◌∙◌, ap, subst, arith, Option, None, Contains}
use Rattle.std.proofs.lemmas.List.{append-nil}
use Rattle.std.specs.Prelude.{option_to_list}
use Rattle.lrc_store.specs.Cells.{CellTree}
use Rattle.lrc_store.specs.Standing.{Standing, HasNoRepeats, PaysBlocks}

pub no_blocks-paid : (s : Standing) → HasNoRepeats s.made → s.drawn ≡ None → s.blocks ≡ 0 → PaysBlocks s
no_blocks-paid s once undrawn none =
    let same : s.made ++ option_to_list s.drawn ≡ s.made = ap (λ (o : Option CellTree). s.made ++ option_to_list o) undrawn ∙ append-nil s.made in (
      length s.made,
      record {
        once = s.made;
        no_repeats = once;
        same = λ cell. (subst (λ (cells : List CellTree). Contains cells cell) (sym same), subst (λ (cells : List CellTree). Contains cells cell) same);
        count = refl;
      },
      omega (arith, none),
    )
