use Rattle.std.proofs.Common.{subst}
use Rattle.lrc_eval.specs.declared.values.Val.{Val}
use Rattle.lrc_eval.specs.Values.{Means}
use Rattle.lrc_eval.proofs.SameLemmas.{refs-same}
use Rattle.lrc_eval.proofs.operators.is_handle.Goals as goal

pub returns-in-Ref : goal.returns-in-Ref
returns-in-Ref g c x y one other =
    let s = g.St.Store.state c.args.store.now in
    let stands = (subst (λ (value : Val). Means s value x) c.in-Ref.is one.means).1 in
    refs-same s c.in-Ref.other.0 c.args.handle.0 x y c.same.result stands other.means.1 one.spelled other.spelled c.same.ensures.cells
