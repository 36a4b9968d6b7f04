use Rattle.std.proofs.Common.{rules, SFits, w64}
use Rattle.std.proofs.lemmas.Int.{wrapping_add_is}
use Rattle.lrc_cli.proofs.summary.wrapped_sum.Goals as goal

pub returns : goal.returns
returns c =
    let left : SFits w64 c.args.left = search rules in
    let right : SFits w64 c.args.right = search rules in
    wrapping_add_is w64 c.args.left c.args.right left right
