use Rattle.std.proofs.Common.{Ok, Err, refl}
use Rattle.lrc_meaning.specs.Tree.{tree}
use Rattle.lrc_session.proofs.HighLemmas.{too_high_there, put_is_low}
use Rattle.lrc_session.proofs.PutLemmas.{changed, by_plan, stopped_at_place, root_stands, stopped_at_call, proposed}
use Rattle.lrc_session.proofs.session.Session.propose_put.Goals as goal

pub returns-in_err-whole-clause-proposes : goal.returns-in_err-whole-clause-proposes
returns-in_err-whole-clause-proposes g c whole vs has =
    let functions = c.args.functions.now in
    let s = g.St.Store.state c.args.store.now in
    let m = g.St.Store.state c.replace.new.store in
    let put = c.args.put.now in
    let steps = put.path.now.steps in
    let new = tree put.term.now in
    let fault = c.in_err-whole.field-0.0 in
    stopped_at_place functions whole steps new put.kind s vs c.args.self.now _ has refl refl refl refl refl c.replace.ensures.room m fault c.from_residual.result c.from_residual.ensures.1
    (by_plan functions whole steps new put.kind s m c.args.self.now.depth c.args.self.now.tree.0 c.as_slice-prods.result.now (Err fault) c.as_slice-prods.ensures has.fitting has.tree c.in_err-whole.ensures.replaces)

pub returns-in_err-put_root_call-clause-proposes : goal.returns-in_err-put_root_call-clause-proposes
returns-in_err-put_root_call-clause-proposes g c whole vs has =
    let functions = c.args.functions.now in
    let s = g.St.Store.state c.args.store.now in
    let m = g.St.Store.state c.replace.new.store in
    let u = g.St.Store.state c.put_root_call.new.store in
    let put = c.args.put.now in
    let steps = put.path.now.steps in
    let new = tree put.term.now in
    let root = c.in_ok-whole.whole in
    let did = by_plan functions whole steps new put.kind s m c.args.self.now.depth c.args.self.now.tree.0 c.as_slice-prods.result.now (Ok root) c.as_slice-prods.ensures has.fitting has.tree c.in_ok-whole.ensures.replaces in
    let stands = root_stands functions whole steps new put.kind s vs c.args.self.now c.args.self.now has refl refl refl refl refl refl m u root c.args.self.now.depth did in
    stopped_at_call functions whole steps new put.kind s vs c.args.self.now _ has refl refl refl refl refl c.replace.ensures.room m u root c.args.self.now.depth did c.in_err-put_root_call.field-0.0
    c.from_residual-in_err-put_root_call.result c.from_residual-in_err-put_root_call.ensures.1 (c.in_err-put_root_call.ensures.builds (changed functions whole steps new put.kind) stands)

pub returns-clause-proposes : goal.returns-clause-proposes
returns-clause-proposes g c whole vs has =
    let functions = c.args.functions.now in
    let s = g.St.Store.state c.args.store.now in
    let m = g.St.Store.state c.replace.new.store in
    let u = g.St.Store.state c.put_root_call.new.store in
    let put = c.args.put.now in
    let steps = put.path.now.steps in
    let new = tree put.term.now in
    let root = c.in_ok-whole.whole in
    let did = by_plan functions whole steps new put.kind s m c.args.self.now.depth c.args.self.now.tree.0 c.as_slice-prods.result.now (Ok root) c.as_slice-prods.ensures has.fitting has.tree c.in_ok-whole.ensures.replaces in
    let stands = root_stands functions whole steps new put.kind s vs c.args.self.now c.args.self.now has refl refl refl refl refl refl m u root c.args.self.now.depth did in
    proposed functions whole steps new put.kind s vs c.args.self.now _ has refl refl refl refl refl c.replace.ensures.room m u root c.args.self.now.depth did c.in_ok-put_root_call.field-0 c.requires.term c.term_is_spelled.ensures
    (c.in_ok-put_root_call.ensures.builds (changed functions whole steps new put.kind) stands)

pub returns-in_err-whole-clause-high : goal.returns-in_err-whole-clause-high
returns-in_err-whole-clause-high g c whole vs has there high =
    let functions = c.args.functions.now in
    let s = g.St.Store.state c.args.store.now in
    let m = g.St.Store.state c.replace.new.store in
    let put = c.args.put.now in
    let steps = put.path.now.steps in
    let new = tree put.term.now in
    let fault = c.in_err-whole.field-0.0 in
    too_high_there functions.plan.grammar.prods s m whole steps new put.kind c.args.self.now.depth fault c.from_residual.result c.from_residual.ensures.1
    (by_plan functions whole steps new put.kind s m c.args.self.now.depth c.args.self.now.tree.0 c.as_slice-prods.result.now (Err fault) c.as_slice-prods.ensures has.fitting has.tree c.in_err-whole.ensures.replaces) there high

pub returns-in_err-put_root_call-clause-high : goal.returns-in_err-put_root_call-clause-high
returns-in_err-put_root_call-clause-high g c whole vs has there high =
    let functions = c.args.functions.now in
    let s = g.St.Store.state c.args.store.now in
    let m = g.St.Store.state c.replace.new.store in
    let put = c.args.put.now in
    let steps = put.path.now.steps in
    let new = tree put.term.now in
    let root = c.in_ok-whole.whole in
    let did = by_plan functions whole steps new put.kind s m c.args.self.now.depth c.args.self.now.tree.0 c.as_slice-prods.result.now (Ok root) c.as_slice-prods.ensures has.fitting has.tree c.in_ok-whole.ensures.replaces in
    absurd (put_is_low functions.plan.grammar.prods s m whole steps new put.kind c.args.self.now.depth root did high)

pub returns-clause-high : goal.returns-clause-high
returns-clause-high g c whole vs has there high =
    let functions = c.args.functions.now in
    let s = g.St.Store.state c.args.store.now in
    let m = g.St.Store.state c.replace.new.store in
    let put = c.args.put.now in
    let steps = put.path.now.steps in
    let new = tree put.term.now in
    let root = c.in_ok-whole.whole in
    let did = by_plan functions whole steps new put.kind s m c.args.self.now.depth c.args.self.now.tree.0 c.as_slice-prods.result.now (Ok root) c.as_slice-prods.ensures has.fitting has.tree c.in_ok-whole.ensures.replaces in
    absurd (put_is_low functions.plan.grammar.prods s m whole steps new put.kind c.args.self.now.depth root did high)
