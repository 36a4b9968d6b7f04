use Rattle.std.proofs.Common.{List, map, subst}
use Rattle.std.proofs.lemmas.Result.{IfOk-weaker}
use Rattle.lrc_meaning.specs.Editing.{change}
use Rattle.lrc_run.specs.declared.reply.Line.{Line}
use Rattle.lrc_run.specs.Editing.{AreEdited, IsPlayed}
use Rattle.lrc_run.proofs.GrowLemmas.{some_read, some_then}
use Rattle.lrc_run.proofs.EditLemmas.{open_later}
use Rattle.lrc_run.proofs.playing.push_lines.Goals as goal

pub returns-in_err-values_line-clause-gains : goal.returns-in_err-values_line-clause-gains
returns-in_err-values_line-clause-gains g c = some_read (g.St.Store.state c.args.store.now) (g.St.Store.state c.values_line.new.store) c.values_line.ensures.reads

pub returns-in_err-push-clause-gains : goal.returns-in_err-push-clause-gains
returns-in_err-push-clause-gains g c = some_read (g.St.Store.state c.args.store.now) (g.St.Store.state c.values_line.new.store) c.values_line.ensures.reads

pub push_edited-requires-clause-session : goal.push_edited-requires-clause-session
push_edited-requires-clause-session g c =
    let (before, own, opened) = c.requires.session in
    let s = g.St.Store.state c.args.store.now in
    let v = g.St.Store.state c.values_line.new.store in
    (before, own, open_later c.args.functions.now s v c.args.session.now before own opened c.values_line.ensures.reads.stays.lasts)

pub returns-clause-gains : goal.returns-clause-gains
returns-clause-gains g c =
    let s = g.St.Store.state c.args.store.now in
    let v = g.St.Store.state c.values_line.new.store in
    let u = g.St.Store.state c.push_edited.new.store in
    some_then s v u (some_read s v c.values_line.ensures.reads) c.push_edited.ensures.gains

pub returns-clause-played : goal.returns-clause-played
returns-clause-played g c before own opened =
    let f = c.args.functions.now in
    let s = g.St.Store.state c.args.store.now in
    let v = g.St.Store.state c.values_line.new.store in
    let u = g.St.Store.state c.push_edited.new.store in
    let session = c.args.session.now in
    let line = c.in_ok-values_line.field-0 in
    IfOk-weaker c.push_edited.result (λ _. AreEdited f v u session.depth before (map change c.args.edits.now) c.push_edited.new.session c.push.new.self c.push_edited.new.lines)
    (λ _. IsPlayed f s u session c.push_edited.new.session before own (map change c.args.edits.now) c.args.lines.now c.push_edited.new.lines)
    (λ _ edited. record {
      middle = v;
      reads = c.values_line.ensures.reads;
      opening = line;
      is_line = c.in_ok-values_line.ensures.line before own opened;
      counts = c.in_ok-values_line.ensures.counts;
      edited =
          subst (λ (first : List Line). AreEdited f v u session.depth before (map change c.args.edits.now) c.push_edited.new.session first c.push_edited.new.lines) c.in_ok-push.ensures.ok edited;
    })
    (c.push_edited.ensures.edited before own (open_later f s v session before own opened c.values_line.ensures.reads.stays.lasts))
