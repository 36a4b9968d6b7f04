use Rattle.lrc_frames.proofs.EndLemmas.{values-there, values-stopped, listed, bindings-there, bindings-stopped, values-known, bindings-known, ends}
use Rattle.lrc_frames.proofs.ending.finish.Goals as goal

pub put_items-requires : goal.put_items-requires
put_items-requires g c =
    let q = c.requires in
    let s = g.St.Store.state c.args.store.now in
    (_, values-there q.0 q.1 s c.args.frame.now c.args.function.now c.args.height q.2 q.3 q.4 q.5 c.as_slice.result.now c.as_slice.ensures)

pub returns-in_err-synthesised-clause-ends : goal.returns-in_err-synthesised-clause-ends
returns-in_err-synthesised-clause-ends g c grammar parts r v w can =
    let s = g.St.Store.state c.args.store.now in
    values-stopped grammar parts s c.args.frame.now c.args.function.now c.args.height r v w can c.as_slice.result.now c.as_slice.ensures (g.St.Store.state c.put_items.new.store) _ _ c.from_residual.ensures.0 c.in_err-synthesised.ensures.builds

pub put_bindings-requires : goal.put_bindings-requires
put_bindings-requires g c =
    let q = c.requires in
    let s = g.St.Store.state c.args.store.now in
    let t = g.St.Store.state c.put_items.new.store in
    let values = listed q.0 q.1 s c.args.frame.now c.args.function.now c.args.height q.2 q.3 q.4 q.5 c.as_slice.result.now c.as_slice.ensures t c.in_ok-synthesised.synthesised c.in_ok-synthesised.ensures.builds in
    (_, bindings-there q.0 q.1 s c.args.frame.now c.args.function.now c.args.height q.2 q.3 q.4 q.5 t c.in_ok-synthesised.synthesised values c.as_slice-2.result.now c.as_slice-2.ensures)

pub returns-in_err-bindings-clause-ends : goal.returns-in_err-bindings-clause-ends
returns-in_err-bindings-clause-ends g c grammar parts r v w can =
    let s = g.St.Store.state c.args.store.now in
    let t = g.St.Store.state c.put_items.new.store in
    let values = listed grammar parts s c.args.frame.now c.args.function.now c.args.height r v w can c.as_slice.result.now c.as_slice.ensures t c.in_ok-synthesised.synthesised c.in_ok-synthesised.ensures.builds in
    bindings-stopped grammar parts s c.args.frame.now c.args.function.now c.args.height r v w can t c.in_ok-synthesised.synthesised values c.as_slice-2.result.now c.as_slice-2.ensures
    (g.St.Store.state c.put_bindings.new.store) _ _ c.from_residual-in_err-bindings.ensures.0 c.in_err-bindings.ensures.builds

pub put_result-requires-clause-synthesised_known : goal.put_result-requires-clause-synthesised_known
put_result-requires-clause-synthesised_known g c =
    let q = c.requires in
    let s = g.St.Store.state c.args.store.now in
    let t = g.St.Store.state c.put_items.new.store in
    let values = listed q.0 q.1 s c.args.frame.now c.args.function.now c.args.height q.2 q.3 q.4 q.5 c.as_slice.result.now c.as_slice.ensures t c.in_ok-synthesised.synthesised c.in_ok-synthesised.ensures.builds in
    values-known q.0 q.1 s c.args.frame.now c.args.function.now c.args.height q.2 q.3 q.4 q.5 t c.in_ok-synthesised.synthesised values c.as_slice-2.result.now c.as_slice-2.ensures
    (g.St.Store.state c.put_bindings.new.store) c.in_ok-bindings.bindings c.in_ok-bindings.ensures.builds

pub put_result-requires-clause-bindings_known : goal.put_result-requires-clause-bindings_known
put_result-requires-clause-bindings_known g c =
    let q = c.requires in
    let s = g.St.Store.state c.args.store.now in
    let t = g.St.Store.state c.put_items.new.store in
    let values = listed q.0 q.1 s c.args.frame.now c.args.function.now c.args.height q.2 q.3 q.4 q.5 c.as_slice.result.now c.as_slice.ensures t c.in_ok-synthesised.synthesised c.in_ok-synthesised.ensures.builds in
    bindings-known q.0 q.1 s c.args.frame.now c.args.function.now c.args.height q.2 q.3 q.4 q.5 t c.in_ok-synthesised.synthesised values c.as_slice-2.result.now c.as_slice-2.ensures
    (g.St.Store.state c.put_bindings.new.store) c.in_ok-bindings.bindings c.in_ok-bindings.ensures.builds

pub returns-clause-ends : goal.returns-clause-ends
returns-clause-ends g c grammar parts r v w can =
    let s = g.St.Store.state c.args.store.now in
    let t = g.St.Store.state c.put_items.new.store in
    let values = listed grammar parts s c.args.frame.now c.args.function.now c.args.height r v w can c.as_slice.result.now c.as_slice.ensures t c.in_ok-synthesised.synthesised c.in_ok-synthesised.ensures.builds in
    ends grammar parts s c.args.frame.now c.args.function.now c.args.height r v w can t c.in_ok-synthesised.synthesised values c.as_slice-2.result.now c.as_slice-2.ensures
    (g.St.Store.state c.put_bindings.new.store) c.in_ok-bindings.bindings c.in_ok-bindings.ensures.builds (g.St.Store.state c.put_result.new.store) _ c.put_result.ensures.builds
