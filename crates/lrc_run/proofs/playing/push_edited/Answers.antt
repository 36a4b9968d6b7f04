use Rattle.std.proofs.Common.{refl, ◌∙◌}
use Rattle.lrc_run.proofs.GrowLemmas.{some_same, some_then}
use Rattle.lrc_run.proofs.SessionLemmas.{none_edited, one_edit_more}
use Rattle.lrc_run.proofs.playing.push_edited.Goals as goal

pub edits-init : goal.edits-init
edits-init g c = record {
  edited = λ before vs opened. none_edited c.args.functions.now (g.St.Store.state c.args.store.now) c.args.session.now.depth before vs c.args.session.now c.args.lines.now opened;
  depth = refl;
  gains = some_same (g.St.Store.state c.args.store.now);
  same_meaning = refl;
}

pub returns-in_err-edited-clause-gains : goal.returns-in_err-edited-clause-gains
returns-in_err-edited-clause-gains g c =
    some_then (g.St.Store.state c.args.store.now) (g.St.Store.state c.edits.store) (g.St.Store.state c.edited.new.store) c.edits.invariant.gains c.edited.ensures.gains

pub returns-in_err-push-clause-gains : goal.returns-in_err-push-clause-gains
returns-in_err-push-clause-gains g c =
    some_then (g.St.Store.state c.args.store.now) (g.St.Store.state c.edits.store) (g.St.Store.state c.edited.new.store) c.edits.invariant.gains c.edited.ensures.gains

pub edits-preserved : goal.edits-preserved
edits-preserved g c =
    let f = c.args.functions.now in
    let s = g.St.Store.state c.args.store.now in
    let t = g.St.Store.state c.edits.store in
    let u = g.St.Store.state c.edited.new.store in
    record {
      edited = λ before vs opened.
          let so_far = c.edits.invariant.edited before vs opened in
          one_edit_more f s t u c.args.session.now.depth c.edits.session.depth before c.args.edits.now c.edits.before c.index-edits-before.result c.edits.session c.edited.new.session c.args.lines.now
          c.push.new.self c.edits.lines c.in_ok-edited.field-0 c.edits-test.true c.index-edits-before.is c.in_ok-push.ensures.ok c.edits.invariant.depth so_far c.edited.ensures.gains
          (c.in_ok-edited.ensures.edited so_far.after so_far.own so_far.is_open);
      depth = c.edited.ensures.depth ∙ c.edits.invariant.depth;
      gains = some_then s t u c.edits.invariant.gains c.edited.ensures.gains;
      same_meaning = c.edited.ensures.same_meaning ∙ c.edits.invariant.same_meaning;
    }
