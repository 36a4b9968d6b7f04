use Rattle.std.proofs.Common.{◌≡◌, Err, subst}
use Rattle.lrc_grammar.specs.Grammar.{grammar_of}
use Rattle.lrc_job.specs.Job.{sessions_of}
use Rattle.lrc_job.proofs.JobLemmas.{fault_of_sessions}
use Rattle.lrc_job.proofs.job.accept.Goals as goal

pub returns-in-Err-clause-err : goal.returns-in-Err-clause-err
returns-in-Err-clause-err c =
    let g = grammar_of c.in_ok-grammar.grammar in
    fault_of_sessions c.args.job.now g c.in-Err.fault
    (λ other. record {
      no_fault = c.in_ok-grammar.ensures.ok.0;
      named = c.in_ok-grammar.ensures.ok.1;
      sessions = subst (λ xs. sessions_of g 1 xs ≡ Err c.in-Err.fault) c.as_slice.ensures (c.in-Err.ensures.found other);
    })
