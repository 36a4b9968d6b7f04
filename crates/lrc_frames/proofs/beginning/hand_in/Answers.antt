use Rattle.std.proofs.Common.{subst}
use Rattle.lrc_store.proofs.Lasting.{reads-then}
use Rattle.lrc_frames.specs.Frames.{gaining}
use Rattle.lrc_frames.specs.Lists.{FilledIf}
use Rattle.lrc_frames.specs.Beginning.{bare}
use Rattle.lrc_frames.proofs.BeginLemmas.{values, given, items, visits, hands_values, values_differ, hands_bindings, handed}
use Rattle.lrc_frames.proofs.beginning.hand_in.Goals as goal

pub fill-requires : goal.fill-requires
fill-requires g c =
    let w = c.requires in
    let s = g.St.Store.state c.args.store.now in (
      w.0,
      w.1,
      w.2,
      bare w.3 w.4,
      values w.0 w.1 s c.args.frame.now w.2 w.3 w.4 w.5 c.args.function.now c.args.occurrences c.args.lists.now w.6,
      given w.0 w.1 s c.args.frame.now w.2 w.3 w.4 w.5 c.args.function.now c.args.occurrences c.args.lists.now w.6,
      hands_values w.0 w.1 s c.args.frame.now w.2 w.3 w.4 w.5 c.args.function.now c.args.occurrences c.args.lists.now w.6 c.as_slice-values.result.now c.as_slice-values.ensures,
    )

pub returns-then-not-fill-clause-handed : goal.returns-then-not-fill-clause-handed
returns-then-not-fill-clause-handed g c h parts body p kids call hands =
    let s = g.St.Store.state c.args.store.now in
    let t = g.St.Store.state c.fill.new.store in
    let xs = values h parts s c.args.frame.now body p kids call c.args.function.now c.args.occurrences c.args.lists.now hands in
    let ds = given h parts s c.args.frame.now body p kids call c.args.function.now c.args.occurrences c.args.lists.now hands in
    let fills = hands_values h parts s c.args.frame.now body p kids call c.args.function.now c.args.occurrences c.args.lists.now hands c.as_slice-values.result.now c.as_slice-values.ensures in
    values_differ h parts s c.args.frame.now body p kids call c.args.function.now c.args.occurrences c.args.lists.now hands
    (subst (FilledIf h parts t c.fill.new.frame body (bare p kids) xs ds) c.if-not-fill.true (c.fill.ensures.filled h parts body (bare p kids) xs ds fills))

pub fill_each-requires : goal.fill_each-requires
fill_each-requires g c =
    let w = c.requires in
    let s = g.St.Store.state c.args.store.now in
    let t = g.St.Store.state c.fill.new.store in
    let xs = values w.0 w.1 s c.args.frame.now w.2 w.3 w.4 w.5 c.args.function.now c.args.occurrences c.args.lists.now w.6 in
    let ds = given w.0 w.1 s c.args.frame.now w.2 w.3 w.4 w.5 c.args.function.now c.args.occurrences c.args.lists.now w.6 in
    let fills = hands_values w.0 w.1 s c.args.frame.now w.2 w.3 w.4 w.5 c.args.function.now c.args.occurrences c.args.lists.now w.6 c.as_slice-values.result.now c.as_slice-values.ensures in
    let filled = subst (FilledIf w.0 w.1 t c.fill.new.frame w.2 (bare w.3 w.4) xs ds) c.if-not-fill.false (c.fill.ensures.filled w.0 w.1 w.2 (bare w.3 w.4) xs ds fills) in (
      w.0,
      w.1,
      w.2,
      gaining (bare w.3 w.4) xs ds,
      items w.0 w.1 s c.args.frame.now w.2 w.3 w.4 w.5 c.args.function.now c.args.occurrences c.args.lists.now w.6,
      visits w.0 w.1 s c.args.frame.now w.2 w.3 w.4 w.5 c.args.function.now c.args.occurrences c.args.lists.now w.6,
      w.5.bindings,
      hands_bindings w.0 w.1 s c.args.frame.now w.2 w.3 w.4 w.5 c.args.function.now c.args.occurrences c.args.lists.now w.6 t c.fill.new.frame c.as_slice-items.result.now
          c.fill.ensures.reads.stays.lasts.known filled.1 c.as_slice-items.ensures,
    )

pub returns-clause-handed : goal.returns-clause-handed
returns-clause-handed g c h parts body p kids call hands =
    let s = g.St.Store.state c.args.store.now in
    let t = g.St.Store.state c.fill.new.store in
    let u = g.St.Store.state c.fill_each.new.store in
    let xs = values h parts s c.args.frame.now body p kids call c.args.function.now c.args.occurrences c.args.lists.now hands in
    let ds = given h parts s c.args.frame.now body p kids call c.args.function.now c.args.occurrences c.args.lists.now hands in
    let fills = hands_values h parts s c.args.frame.now body p kids call c.args.function.now c.args.occurrences c.args.lists.now hands c.as_slice-values.result.now c.as_slice-values.ensures in
    let filled = subst (FilledIf h parts t c.fill.new.frame body (bare p kids) xs ds) c.if-not-fill.false (c.fill.ensures.filled h parts body (bare p kids) xs ds fills) in
    let each = hands_bindings h parts s c.args.frame.now body p kids call c.args.function.now c.args.occurrences c.args.lists.now hands t c.fill.new.frame c.as_slice-items.result.now
    c.fill.ensures.reads.stays.lasts.known filled.1 c.as_slice-items.ensures in
    handed h parts s c.args.frame.now body p kids call c.args.function.now c.args.occurrences c.args.lists.now hands u c.fill_each.new.frame c.fill_each.result filled.0
    (c.fill_each.ensures.filled h parts body (gaining (bare p kids) xs ds)
    (items h parts s c.args.frame.now body p kids call c.args.function.now c.args.occurrences c.args.lists.now hands)
    (visits h parts s c.args.frame.now body p kids call c.args.function.now c.args.occurrences c.args.lists.now hands) call.bindings each)

pub returns-clause-reads : goal.returns-clause-reads
returns-clause-reads g c =
    reads-then (g.St.Store.state c.args.store.now) (g.St.Store.state c.fill.new.store) (g.St.Store.state c.fill_each.new.store) c.fill.ensures.reads c.fill_each.ensures.reads
