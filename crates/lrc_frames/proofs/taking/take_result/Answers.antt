use Rattle.lrc_store.proofs.Lasting.{reads-then}
use Rattle.lrc_frames.specs.Frames.{gaining}
use Rattle.lrc_frames.proofs.TakeLemmas.{is_result, result_read, values, later, value_data, binding_data, takes_values, takes_bindings, takes_all}
use Rattle.lrc_frames.proofs.taking.take_result.Goals as goal

pub result_parts-parts-requires-clause-outcome : goal.result_parts-parts-requires-clause-outcome
result_parts-parts-requires-clause-outcome g c =
    let w = c.requires in is_result (g.St.Store.state c.args.store.now) c.args.outcome.0 w.6 w.7.stands

pub fill-all_values-requires : goal.fill-all_values-requires
fill-all_values-requires g c =
    let w = c.requires in
    let s = g.St.Store.state c.args.store.now in
    let t = g.St.Store.state c.result_parts-parts.new.store in
    let found = c.result_parts-parts.result in
    let read = result_read s t c.args.outcome.0 w.6 found w.7.stands c.result_parts-parts.ensures.parts in (
      w.0,
      w.1,
      w.2,
      w.3,
      values w.0 w.1 s c.args.frame.now w.2 w.3 c.args.callee.now c.args.outcome.0 w.4 w.5 w.6 w.7,
      value_data w.0 w.1 s c.args.frame.now w.2 w.3 c.args.callee.now c.args.outcome.0 w.4 w.5 w.6 w.7,
      takes_values w.0 w.1 s c.args.frame.now w.2 w.3 c.args.callee.now c.args.outcome.0 w.4 w.5 w.6 w.7 t c.result_parts-parts.ensures.reads.stays.lasts.known found read
          c.as_slice-values.result.now c.as_slice-values.ensures,
    )

pub fill-all_bindings-requires : goal.fill-all_bindings-requires
fill-all_bindings-requires g c =
    let w = c.requires in
    let s = g.St.Store.state c.args.store.now in
    let t = g.St.Store.state c.result_parts-parts.new.store in
    let u = g.St.Store.state c.fill-all_values.new.store in
    let found = c.result_parts-parts.result in
    let keeps = c.result_parts-parts.ensures.reads.stays.lasts.known in
    let read = result_read s t c.args.outcome.0 w.6 found w.7.stands c.result_parts-parts.ensures.parts in
    let items = values w.0 w.1 s c.args.frame.now w.2 w.3 c.args.callee.now c.args.outcome.0 w.4 w.5 w.6 w.7 in
    let given = value_data w.0 w.1 s c.args.frame.now w.2 w.3 c.args.callee.now c.args.outcome.0 w.4 w.5 w.6 w.7 in
    let fills = takes_values w.0 w.1 s c.args.frame.now w.2 w.3 c.args.callee.now c.args.outcome.0 w.4 w.5 w.6 w.7 t keeps found read c.as_slice-values.result.now c.as_slice-values.ensures in (
      w.0,
      w.1,
      w.2,
      gaining w.3 items given,
      later w.0 w.1 s c.args.frame.now w.2 w.3 c.args.callee.now c.args.outcome.0 w.4 w.5 w.6 w.7,
      binding_data w.0 w.1 s c.args.frame.now w.2 w.3 c.args.callee.now c.args.outcome.0 w.4 w.5 w.6 w.7,
      takes_bindings w.0 w.1 s c.args.frame.now w.2 w.3 c.args.callee.now c.args.outcome.0 w.4 w.5 w.6 w.7 t keeps found read u c.fill-all_values.new.frame c.fill-all_values.result
          c.as_slice-bindings.result.now c.fill-all_values.ensures.reads.stays.lasts.known (c.fill-all_values.ensures.filled w.0 w.1 w.2 w.3 items given fills) c.as_slice-bindings.ensures,
    )

pub returns-clause-takes : goal.returns-clause-takes
returns-clause-takes g c h parts body r n v outcome from =
    let s = g.St.Store.state c.args.store.now in
    let t = g.St.Store.state c.result_parts-parts.new.store in
    let u = g.St.Store.state c.fill-all_values.new.store in
    let found = c.result_parts-parts.result in
    let keeps = c.result_parts-parts.ensures.reads.stays.lasts.known in
    let read = result_read s t c.args.outcome.0 outcome found from.stands c.result_parts-parts.ensures.parts in
    let items = values h parts s c.args.frame.now body r c.args.callee.now c.args.outcome.0 n v outcome from in
    let given = value_data h parts s c.args.frame.now body r c.args.callee.now c.args.outcome.0 n v outcome from in
    let bindings = later h parts s c.args.frame.now body r c.args.callee.now c.args.outcome.0 n v outcome from in
    let bound = binding_data h parts s c.args.frame.now body r c.args.callee.now c.args.outcome.0 n v outcome from in
    let fills = takes_values h parts s c.args.frame.now body r c.args.callee.now c.args.outcome.0 n v outcome from t keeps found read c.as_slice-values.result.now c.as_slice-values.ensures in
    let then = takes_bindings h parts s c.args.frame.now body r c.args.callee.now c.args.outcome.0 n v outcome from t keeps found read u c.fill-all_values.new.frame c.fill-all_values.result
    c.as_slice-bindings.result.now c.fill-all_values.ensures.reads.stays.lasts.known (c.fill-all_values.ensures.filled h parts body r items given fills) c.as_slice-bindings.ensures in
    takes_all h parts s c.args.frame.now body r c.args.callee.now c.args.outcome.0 n v outcome from t keeps found read (g.St.Store.state c.fill-all_bindings.new.store) c.fill-all_bindings.new.frame
    c.fill-all_bindings.result (c.fill-all_bindings.ensures.filled h parts body (gaining r items given) bindings bound then)

pub returns-clause-reads : goal.returns-clause-reads
returns-clause-reads g c =
    let s = g.St.Store.state c.args.store.now in
    let t = g.St.Store.state c.result_parts-parts.new.store in
    let u = g.St.Store.state c.fill-all_values.new.store in
    reads-then s u (g.St.Store.state c.fill-all_bindings.new.store) (reads-then s t u c.result_parts-parts.ensures.reads c.fill-all_values.ensures.reads) c.fill-all_bindings.ensures.reads
