use Rattle.std.proofs.Common.{sym, ap, subst}
use Rattle.std.proofs.lemmas.Result.{IfOk-weaker}
use Rattle.lrc_meaning.specs.Editing.{change}
use Rattle.lrc_session.specs.Sessions.{grammar}
use Rattle.lrc_run.specs.Editing.{IsEdited}
use Rattle.lrc_run.proofs.GrowLemmas.{some_read}
use Rattle.lrc_run.proofs.EditLemmas.{was_forgotten}
use Rattle.lrc_run.proofs.editing.edited.Goals as goal

pub returns-in-Forget-clause-edited : goal.returns-in-Forget-clause-edited
returns-in-Forget-clause-edited g c t vs opened =
    let f = c.args.functions.now in
    let s = g.St.Store.state c.args.store.now in
    let u = g.St.Store.state c.forget.new.self in
    let session = c.args.session.now in
    IfOk-weaker c.fixed_line.result _ _
    (λ line is.
    subst (λ c. IsEdited f s u session.depth t c session line) (sym (ap change c.in-Forget.is)) (was_forgotten f s u t vs session line opened c.forget.ensures.reads c.in-Forget.place is))
    (c.fixed_line.ensures (grammar f))

pub returns-in-Forget-clause-gains : goal.returns-in-Forget-clause-gains
returns-in-Forget-clause-gains g c = some_read _ _ c.forget.ensures.reads
