use Rattle.std.proofs.lemmas.Result.{IfOk-weaker}
use Rattle.lrc_meaning.specs.Tree.{tree, replaced}
use Rattle.lrc_meaning.specs.Editing.{put}
use Rattle.lrc_meaning.specs.Text.{unparsed}
use Rattle.lrc_session.specs.Sessions.{grammar, demands}
use Rattle.lrc_run.specs.Playing.{RunsOut}
use Rattle.lrc_run.proofs.GrowLemmas.{some_read, some_then}
use Rattle.lrc_run.proofs.EditLemmas.{put_asks, open_put, was_answered}
use Rattle.lrc_run.proofs.editing.put_part.Goals as goal

pub answered-requires : goal.answered-requires
answered-requires g c =
    let (t, vs, opened) = c.requires.session in
    record {
      session =
          open_put c.args.functions.now (g.St.Store.state c.args.store.now) (g.St.Store.state c.put-answer.new.store) t vs c.args.session.now c.put-answer.new.self c.args.put.now.path.now.steps (tree c.args.put.now.term.now)
          c.args.put.now.kind c.put-answer.result (c.put-answer.ensures.edits t vs opened);
    }

pub returns-clause-edited : goal.returns-clause-edited
returns-clause-edited g c t vs opened =
    let f = c.args.functions.now in
    let s = g.St.Store.state c.args.store.now in
    let mid = g.St.Store.state c.put-answer.new.store in
    let u = g.St.Store.state c.answered.new.store in
    let before = c.args.session.now in
    let after = c.put-answer.new.self in
    let steps = c.args.put.now.path.now.steps in
    let new = tree c.args.put.now.term.now in
    let kind = c.args.put.now.kind in
    let edits = c.put-answer.ensures.edits t vs opened in
    let still = open_put f s mid t vs before after steps new kind c.put-answer.result edits in
    IfOk-weaker c.answered.result _ _
    (λ line is.
    was_answered f s mid u t vs before after line c.answered.ensures.reads (put steps kind new) steps new kind
    (put_asks (grammar f) before.depth (unparsed f.plan.grammar.prods) (RunsOut f before.depth u) t steps new kind c.requires.fits) c.put-answer.result edits c.put-answer.ensures.whole
    (c.put-answer.ensures.counted t vs opened) c.put-answer.ensures.runs is)
    (c.answered.ensures.line still.0 still.1 still.2)

pub returns-clause-gains : goal.returns-clause-gains
returns-clause-gains g c =
    let s = g.St.Store.state c.args.store.now in
    let mid = g.St.Store.state c.put-answer.new.store in
    let u = g.St.Store.state c.answered.new.store in
    let (t, vs, opened) = c.requires.session in
    let attempt = replaced t c.args.put.now.path.now.steps (tree c.args.put.now.term.now) in
    some_then s mid u (demands c.args.functions.now c.args.session.now.depth attempt, (c.put-answer.ensures.edits t vs opened).gains) (some_read mid u c.answered.ensures.reads)
