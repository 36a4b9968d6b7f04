use Rattle.std.proofs.Common.{rules, w64, SFits}
use Rattle.std.proofs.lemmas.Int.{wrapping_add_is, wrapping_sub_is}
use Rattle.lrc_eval.proofs.ValueLemmas.{sum-found, difference-found}
use Rattle.lrc_eval.proofs.operators.calculated.Goals as goal

pub returns-in-Add : goal.returns-in-Add
returns-in-Add c s =
    let left : SFits w64 c.args.left = search rules in
    let right : SFits w64 c.args.right = search rules in
    sum-found s c.args.op c.args.left c.args.right _ c.in-Add.is (wrapping_add_is w64 c.args.left c.args.right left right)

pub returns-in-Sub : goal.returns-in-Sub
returns-in-Sub c s =
    let left : SFits w64 c.args.left = search rules in
    let right : SFits w64 c.args.right = search rules in
    difference-found s c.args.op c.args.left c.args.right _ c.in-Sub.is (wrapping_sub_is w64 c.args.left c.args.right left right)
