use Rattle.std.proofs.Common.{rules}
use Rattle.lrc_plain.proofs.Calls.{same-cells}
use Rattle.lrc_plain.proofs.plain.PlainStoreStore.same.Goals as goal

pub returns-clause-cells : goal.returns-clause-cells
returns-clause-cells g c = same-cells _ c.args.left c.args.right _ c.len-rows.ensures.memo.shelf c.requires.left_known c.requires.right_known (search rules)
