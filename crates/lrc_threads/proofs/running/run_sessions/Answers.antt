use Rattle.std.proofs.Common.{ap, refl, sym, subst, ◌∙◌, length}
use Rattle.std.specs.Prelude.{IfOk}
use Rattle.lrc_table.specs.Standings.{standing}
use Rattle.lrc_threads.specs.Finals.{final_handles}
use Rattle.lrc_threads.specs.Halves.{Answers}
use Rattle.lrc_threads.proofs.OpeningLemmas.{opening-ready}
use Rattle.lrc_threads.proofs.PlayedLemmas.{none-answered, all-answered, empty-list}
use Rattle.lrc_threads.proofs.running.run_sessions.Goals as goal

pub returns-then-is_empty : goal.returns-then-is_empty
returns-then-is_empty g c = record {
  answered = λ order.
      none-answered c.args.functions.now c.args.sizes.depth c.args.sizes.rows c.args.sessions.now (record { sessions = c.new.result; finals = c.new-then-is_empty.result })
      (empty-list c.args.sessions.now (sym c.is_empty.ensures ∙ c.if-is_empty.true)) c.new.ensures c.new-then-is_empty.ensures;
}

pub session_runs-played-requires-clause-ready : goal.session_runs-played-requires-clause-ready
session_runs-played-requires-clause-ready g c κs within =
    opening-ready c.args.sizes.rows (length c.args.sessions.now) c.in_ok-table.table c.in_ok-table.pass c.in_ok-table.ensures.table.1 c.in_ok-table.ensures.pass.0 c.in_ok-table.ensures.pass.1

pub returns : goal.returns
returns g c = record {
  answered = λ order.
      let view = c.session_runs-played.result.1.view in
      let found = subst (λ r. IfOk r (Answers c.args.functions.now c.args.sizes (standing view) c.args.sessions.now)) c.in_ok-played.was c.session_runs-played.ensures.answers in
      all-answered c.args.functions.now c.args.sizes (standing view) c.args.sessions.now c.in_ok-played.played _ c.published-rows.ensures.sound (found.by_rules order) refl
      (c.in_ok-finals.ensures ∙ ap final_handles c.as_slice.ensures);
}
