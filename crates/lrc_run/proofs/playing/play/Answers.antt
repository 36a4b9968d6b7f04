use Rattle.std.proofs.Common.{◌∷◌, Err, List, map, ap, subst}
use Rattle.lrc_base.specs.declared.job.Edit.{Edit}
use Rattle.lrc_meaning.specs.Tree.{tree}
use Rattle.lrc_meaning.specs.Editing.{too_deep, full, change, all_unopened}
use Rattle.lrc_store.proofs.Lasting.{lasts-then}
use Rattle.lrc_session.specs.Sessions.{grammar}
use Rattle.lrc_run.specs.Lines.{AreLines}
use Rattle.lrc_run.specs.Editing.{IsPlayed}
use Rattle.lrc_run.proofs.LineLemmas.{both_ok}
use Rattle.lrc_run.proofs.SessionLemmas.{IsOpening, script_starts, played, too_deep_played, full_played}
use Rattle.lrc_run.proofs.playing.play.Goals as goal

pub returns-in_ok-push_lines-in-Ok-clause-plays : goal.returns-in_ok-push_lines-in-Ok-clause-plays
returns-in_ok-push_lines-in-Ok-clause-plays g c order =
    let f = c.args.functions.now in
    let s = g.St.Store.state c.args.store.now in
    let t = g.St.Store.state c.start.new.store in
    let u = g.St.Store.state c.push_lines.new.store in
    let script = c.args.script.now in
    let o = c.in-Ok.ensures.opens in
    let after = c.push_lines.new.session in
    let first = c.new-lines.result in
    let lines = c.push_lines.new.lines in
    let is : IsOpening f s t c.args.depth script c.requires.unused c.start.ensures.gains c.in-Ok.session =
    record { whole = c.start.ensures.whole; counted = c.in-Ok.ensures.counted; runs = c.in-Ok.ensures.runs } in
    played f s t c.args.depth script c.requires.unused c.start.ensures.gains u c.in-Ok.session after first lines c.tree.result o is order c.new-lines.ensures
    (subst (λ (edits : List Edit). IsPlayed f t u c.in-Ok.session after (tree script.tree) o.values (map change edits) first lines) c.as_slice-edits.ensures
    (c.in_ok-push_lines-in-Ok.ensures.played (tree script.tree) o.values o.is_open))
    c.tree.ensures

pub returns-in_ok-push_lines-in-Ok-clause-lasts : goal.returns-in_ok-push_lines-in-Ok-clause-lasts
returns-in_ok-push_lines-in-Ok-clause-lasts g c =
    lasts-then (g.St.Store.state c.args.store.now) (g.St.Store.state c.start.new.store) (g.St.Store.state c.push_lines.new.store) c.start.ensures.gains.lasts c.push_lines.ensures.gains.1.lasts

pub returns-in-Err-TooDeep-clause-plays : goal.returns-in-Err-TooDeep-clause-plays
returns-in-Err-TooDeep-clause-plays g c order =
    let f = c.args.functions.now in
    let script = c.args.script.now in
    both_ok c.unopened.result _ _ _
    (λ out lines last.
    too_deep_played f (g.St.Store.state c.args.store.now) (g.St.Store.state c.start.new.store) c.args.depth script c.requires.unused c.start.ensures.gains (script_starts f script c.requires.fits) out last
    (c.in-Err-TooDeep.ensures.too_deep (ap Err c.in-Err-TooDeep.field-0-is))
    (subst (λ (edits : List Edit). AreLines (grammar f) (too_deep ∷ all_unopened (map change edits)) out.lines) c.as_slice-edits.ensures lines))
    (c.unopened.ensures.lines (grammar f)) c.unopened.ensures.last

pub returns-in-Err-Full-clause-plays : goal.returns-in-Err-Full-clause-plays
returns-in-Err-Full-clause-plays g c order =
    let f = c.args.functions.now in
    let script = c.args.script.now in
    both_ok c.unopened-in-Err-Full.result _ _ _
    (λ out lines last.
    full_played f (g.St.Store.state c.args.store.now) (g.St.Store.state c.start.new.store) c.args.depth script c.requires.unused c.start.ensures.gains (script_starts f script c.requires.fits) out last
    (c.in-Err-Full.ensures.full (ap Err c.in-Err-Full.field-0-is))
    (subst (λ (edits : List Edit). AreLines (grammar f) (full ∷ all_unopened (map change edits)) out.lines) c.as_slice-edits.ensures lines))
    (c.unopened-in-Err-Full.ensures.lines (grammar f)) c.unopened-in-Err-Full.ensures.last
