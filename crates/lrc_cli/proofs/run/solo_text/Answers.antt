use Rattle.std.proofs.Common.{IsTrue, List, [], ◌∷◌, map, sym, ap, subst, ◌∙◌}
use Rattle.std.specs.List.{list_all}
use Rattle.std.proofs.lemmas.Bool.{and_parts}
use Rattle.lrc_base.specs.declared.job.Script.{Script}
use Rattle.lrc_meaning.specs.Tree.{tree}
use Rattle.lrc_meaning.specs.Editing.{change}
use Rattle.lrc_grammar.specs.Grammar.{grammar_of}
use Rattle.lrc_job.specs.Fitting.{script_fits}
use Rattle.lrc_job.specs.Job.{Session, session, HasSessions}
use Rattle.lrc_plain.specs.Plain.{state_of}
use Rattle.lrc_run.specs.Counts.{counts_of}
use Rattle.lrc_failures.specs.declared.failure.Failure.TheVariants as f
use Rattle.lrc_cli.specs.Causes.{IsCause, of_job, reads_no_memory}
use Rattle.lrc_cli.proofs.TopLemmas.{if_err}
use Rattle.lrc_cli.proofs.RunLemmas.{order_of, order_moved, script_moved, run_moved, counts_moved, lines_moved, accepted_one}
use Rattle.lrc_cli.proofs.TextLemmas.{solo_text-one_session}
use Rattle.lrc_cli.proofs.run.solo_text.Goals as goal

pub returns-in_err-accepted-clause-cause : goal.returns-in_err-accepted-clause-cause
returns-in_err-accepted-clause-cause c =
    let failure = c.in_err-accepted.field-0.0 in
    if_err c.from_residual-in_err-accepted.result (IsCause c.args.command.now c.args.bytes.now) failure c.from_residual-in_err-accepted.ensures.1
    (of_job c.in_ok-job.job failure c.in_ok-job.ensures.job c.in_err-accepted.ensures.cause)

pub returns-in_err-functions-clause-cause : goal.returns-in_err-functions-clause-cause
returns-in_err-functions-clause-cause c = if_err c.from_residual-in_err-functions.result (IsCause c.args.command.now c.args.bytes.now) f.Memory c.from_residual-in_err-functions.ensures.1 reads_no_memory

pub returns-in_err-out-clause-cause : goal.returns-in_err-out-clause-cause
returns-in_err-out-clause-cause c = if_err c.from_residual-in_err-out.result (IsCause c.args.command.now c.args.bytes.now) f.Memory c.from_residual-in_err-out.ensures.1 reads_no_memory

pub returns-in_err-counted_text-clause-cause : goal.returns-in_err-counted_text-clause-cause
returns-in_err-counted_text-clause-cause c =
    if_err c.from_residual-in_err-counted_text.result (IsCause c.args.command.now c.args.bytes.now) f.Memory c.from_residual-in_err-counted_text.ensures.1 reads_no_memory

pub run_solo-requires-clause-fits : goal.run_solo-requires-clause-fits
run_solo-requires-clause-fits c =
    let accepted = c.in_ok-accepted.accepted in
    let script = c.only_session-script.result.now in
    let alone = subst (λ (l : List Script). IsTrue (list_all (script_fits accepted.grammar.prods accepted.grammar.start) l)) c.only_session-script.ensures accepted.fitting in
    script_moved c.in_ok-functions.functions c.in_ok-accepted.plan (grammar_of accepted.grammar) c.in_ok-functions.ensures c.in_ok-accepted.ensures.grammar script (and_parts _ _ alone).0

pub returns-clause-output : goal.returns-clause-output
returns-clause-output c =
    let accepted = c.in_ok-accepted.accepted in
    let g = grammar_of accepted.grammar in
    let plan = c.in_ok-accepted.plan in
    let functions = c.in_ok-functions.functions in
    let script = c.only_session-script.result.now in
    let out = c.in_ok-out.out in
    let order = order_moved functions plan g c.in_ok-functions.ensures c.in_ok-accepted.ensures.grammar (order_of g plan.parts accepted.grammar.ok c.in_ok-accepted.ensures.parts) in
    let solo = c.in_ok-out.ensures.solo order in
    record {
      run = record {
        grammar = g;
        parts = plan.parts;
        session = session script;
        accepted = record {
          job = c.in_ok-job.job;
          denotes = c.in_ok-job.ensures.job;
          accepted = accepted_one c.in_ok-job.job g accepted.sessions script c.only_session-script.ensures c.in_ok-accepted.ensures.accepted;
        };
        ordered = c.in_ok-accepted.ensures.parts;
        replies = solo.replies;
        last = solo.last;
        run =
            run_moved functions plan g c.in_ok-functions.ensures c.in_ok-accepted.ensures.grammar c.args.command.now.rows c.args.command.now.depth (session script) solo.replies solo.last
            (record { attempts = solo.attempts; run = solo.runs });
      };
      counts = map counts_of out.lines;
      counted =
          counts_moved functions plan g c.in_ok-functions.ensures c.in_ok-accepted.ensures.grammar c.args.command.now.depth (tree script.tree) (map change script.edits) solo.replies (map counts_of out.lines)
          solo.counted;
      prints =
          c.in_ok-counted_text.ensures
          ∙ sym (solo_text-one_session g (state_of c.in_ok-out._store) solo.replies solo.last out (lines_moved functions plan g c.in_ok-functions.ensures c.in_ok-accepted.ensures.grammar solo.replies out.lines solo.lines) solo.is_last);
    }
