use Rattle.std.proofs.Common.{◌≡◌, get_or, sym, ◌∙◌, arith}
use Rattle.std.proofs.lemmas.List.{get_or_default}
use Rattle.lrc_call_meaning.proofs.spelled.are_below_256.Goals as goal

pub returns : goal.returns
returns c byte (i, within, is) =
    let fits = c.type_inv.bytes i in
    let same : byte ≡ get_or c.args.bytes.now i 0 = sym is ∙ get_or_default c.args.bytes.now i byte 0 within in
    omega (arith, fits, same)
