use Rattle.std.proofs.Common.{◌≡◌, IsTrue, map, drop}
use Rattle.std.specs.List.{list_all}
use Rattle.lrc_grammar.specs.Grammar.{grammar_of}
use Rattle.lrc_job.proofs.ResolvedLemmas.{then_rest}
use Rattle.lrc_job.specs.Fitting.{script_fits}
use Rattle.lrc_job.specs.Job.{session, sessions_of}
use Rattle.lrc_job.proofs.sessions.sessions_of.Given as goal

-- the sessions so far are those that are written first, and fit
abbrev pub invariant-loop-script : goal.invariant-loop-script
invariant-loop-script l = record {
  found : sessions_of (grammar_of l.grammar) 1 l.raw
      ≡ then_rest (map session l.sessions) (sessions_of (grammar_of l.grammar) l.number (drop l.script-index l.raw));
  fitting : IsTrue (list_all (script_fits l.grammar.prods l.grammar.start) l.sessions);
}
