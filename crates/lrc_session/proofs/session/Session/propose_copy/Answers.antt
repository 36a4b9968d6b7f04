use Rattle.std.proofs.Common.{Ok, Err, refl}
use Rattle.lrc_session.proofs.CopyLemmas.{copied_by_plan, uncopied, copy_uncalled, copy_called}
use Rattle.lrc_session.proofs.session.Session.propose_copy.Goals as goal

pub returns-in_err-whole-clause-proposes : goal.returns-in_err-whole-clause-proposes
returns-in_err-whole-clause-proposes g c whole vs has =
    let functions = c.args.functions.now in
    let s = g.St.Store.state c.args.store.now in
    let m = g.St.Store.state c.copy_part.new.store in
    let from = c.args.from.now.steps in
    let to = c.args.to.now.steps in
    let fault = c.in_err-whole.field-0.0 in
    uncopied functions whole from to s vs c.args.self.now _ has refl refl refl refl refl refl m fault c.from_residual.result c.from_residual.ensures.1
    (copied_by_plan functions whole from to s m c.args.self.now.tree.0 c.as_slice-prods.result.now (Err fault) c.as_slice-prods.ensures has.fitting has.tree c.in_err-whole.ensures.copies)

pub returns-in_err-put_root_call-clause-proposes : goal.returns-in_err-put_root_call-clause-proposes
returns-in_err-put_root_call-clause-proposes g c whole vs has =
    let functions = c.args.functions.now in
    let s = g.St.Store.state c.args.store.now in
    let m = g.St.Store.state c.copy_part.new.store in
    let from = c.args.from.now.steps in
    let to = c.args.to.now.steps in
    let u = g.St.Store.state c.put_root_call.new.store in
    let root = c.in_ok-whole.whole in
    copy_uncalled functions whole from to s vs c.args.self.now _ has refl refl refl refl refl refl m u root c.in_err-put_root_call.field-0.0
    c.from_residual-in_err-put_root_call.result c.from_residual-in_err-put_root_call.ensures.1 c.in_err-put_root_call.ensures.builds
    (copied_by_plan functions whole from to s m c.args.self.now.tree.0 c.as_slice-prods.result.now (Ok root) c.as_slice-prods.ensures has.fitting has.tree c.in_ok-whole.ensures.copies)

pub returns-clause-proposes : goal.returns-clause-proposes
returns-clause-proposes g c whole vs has =
    let functions = c.args.functions.now in
    let s = g.St.Store.state c.args.store.now in
    let m = g.St.Store.state c.copy_part.new.store in
    let from = c.args.from.now.steps in
    let to = c.args.to.now.steps in
    let u = g.St.Store.state c.put_root_call.new.store in
    let root = c.in_ok-whole.whole in
    copy_called functions whole from to s vs c.args.self.now _ has refl refl refl refl refl refl m u root c.in_ok-put_root_call.field-0 c.in_ok-put_root_call.ensures.builds
    (copied_by_plan functions whole from to s m c.args.self.now.tree.0 c.as_slice-prods.result.now (Ok root) c.as_slice-prods.ensures has.fitting has.tree c.in_ok-whole.ensures.copies)
