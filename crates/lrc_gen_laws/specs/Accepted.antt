-- What is accepted of a generated job.
use Rattle.std.specs.Prelude.{◌≡◌, ℕ, List, length, Ok}
use Rattle.lrc_base.specs.declared.job.Job.{Job}
use Rattle.lrc_job.specs.Job.{Session, HasSessions}
use Rattle.lrc_gen_laws.specs.LetsGrammar.{lets_grammar}

-- The job's grammar is that of generated jobs, and it has so many sessions over it, without a fault.
pub record IsAccepted (job : Job) (sessions : ℕ) : Type 0 where
  pub found : List Session
  pub has : HasSessions job lets_grammar (Ok found)
  pub count : length found ≡ sessions
