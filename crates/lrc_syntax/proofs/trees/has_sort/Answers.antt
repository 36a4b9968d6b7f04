use Rattle.std.proofs.Common.{◌≡◌, None, slice_get, false, ap, unwrap_or, ◌∙◌}
use Rattle.std.proofs.lemmas.Option.{unwrap_or-slice_get}
use Rattle.lrc_syntax.proofs.trees.has_sort.Goals as goal

pub returns-in-None : goal.returns-in-None
returns-in-None c =
    let e : None ≡ slice_get c.args.found.now c.args.sort = c.in-None.ensures in
    ap (λ o. unwrap_or o false) e ∙ unwrap_or-slice_get c.args.found.now c.args.sort false
