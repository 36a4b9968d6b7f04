use Rattle.std.proofs.lemmas.Result.{IfOk-weaker}
use Rattle.lrc_run.proofs.GrowLemmas.{some_read, some_then}
use Rattle.lrc_run.proofs.EditLemmas.{open_copied, copied_gains, was_copied}
use Rattle.lrc_run.proofs.editing.copy_part.Goals as goal

pub answered-requires : goal.answered-requires
answered-requires g c =
    let (t, vs, opened) = c.requires.session in
    record {
      session =
          open_copied c.args.functions.now (g.St.Store.state c.args.store.now) (g.St.Store.state c.copy-answer.new.store) t vs c.args.session.now c.copy-answer.new.self c.args.from.now.steps c.args.to.now.steps c.copy-answer.result
          (c.copy-answer.ensures.copies t vs opened);
    }

pub returns-clause-edited : goal.returns-clause-edited
returns-clause-edited g c t vs opened =
    let f = c.args.functions.now in
    let s = g.St.Store.state c.args.store.now in
    let mid = g.St.Store.state c.copy-answer.new.store in
    let u = g.St.Store.state c.answered.new.store in
    let before = c.args.session.now in
    let after = c.copy-answer.new.self in
    let from = c.args.from.now.steps in
    let to = c.args.to.now.steps in
    let copied = c.copy-answer.ensures.copies t vs opened in
    let still = open_copied f s mid t vs before after from to c.copy-answer.result copied in
    IfOk-weaker c.answered.result _ _
    (λ line is.
    was_copied f s mid u t vs before after line c.answered.ensures.reads from to c.copy-answer.result opened copied c.copy-answer.ensures.whole
    (λ new there. c.copy-answer.ensures.counted t new vs opened there) c.copy-answer.ensures.runs is)
    (c.answered.ensures.line still.0 still.1 still.2)

pub returns-clause-gains : goal.returns-clause-gains
returns-clause-gains g c =
    let s = g.St.Store.state c.args.store.now in
    let mid = g.St.Store.state c.copy-answer.new.store in
    let u = g.St.Store.state c.answered.new.store in
    let (t, vs, opened) = c.requires.session in
    some_then s mid u
    (copied_gains c.args.functions.now s mid t vs c.args.session.now c.copy-answer.new.self c.args.from.now.steps c.args.to.now.steps c.copy-answer.result (c.copy-answer.ensures.copies t vs opened))
    (some_read mid u c.answered.ensures.reads)
