-- A run in which no reply is `full` is one where `full` never may come.
use Rattle.std.proofs.Common.{◌≢◌, ℕ, List, Option, refl}
use Rattle.lrc_meaning.specs.Tree.{Tree}
use Rattle.lrc_meaning.specs.Grammar.{Grammar}
use Rattle.lrc_meaning.specs.Editing.{Change, Reply, full, Attempt, Attempted, gives, is_too_deep, is_full, EditStep, put_nowhere, put_other_kind, puts, copy_from_nowhere, copy_to_nowhere, copy_other_kind, copies, shows, forgets, EditRun, done, then, ReplyRun, opens, opens_too_deep, opens_full, never_full}
use Rattle.lrc_meaning.specs.Text.{unparsed}
use Rattle.lrc_base.specs.declared.job.Job.{Job}
use Rattle.lrc_job.specs.Job.{Session}
use Rattle.lrc_threads.specs.Runs.{IsRun, AreRuns, no_session, one_more}
use Rattle.lrc_cli.specs.Headline.{HasRoom, HaveRoom, Run, SoloRun, runs_out, IsRunOf, IsRunWithRoom, IsSoloOf, IsSoloWithRoom}

module _ (g : Grammar) (limit : ℕ) (text_of : Tree → List ℕ) (may_come : List Attempt → Tree → Type 0) where
  attempted : (earlier : List Attempt) (before attempt : Tree) (r : Reply) (after : Tree) → Attempted g limit text_of may_come earlier before attempt r after → r ≢ full
      → Attempted g limit text_of never_full earlier before attempt r after
  attempted earlier before attempt r after (gives vs a) n = gives vs a
  attempted earlier before attempt r after (is_too_deep fit none) n = is_too_deep fit none
  attempted earlier before attempt r after (is_full fit f) n = absurd (n refl)

  step : (earlier attempts : List Attempt) (before : Tree) (c : Change) (r : Reply) (after : Tree) → EditStep g limit text_of may_come earlier before c r attempts after → r ≢ full
      → EditStep g limit text_of never_full earlier before c r attempts after
  step a b before c r after (put_nowhere place kind new fit e) n = put_nowhere place kind new fit e
  step a b before c r after (put_other_kind place kind new old fit e other) n = put_other_kind place kind new old fit e other
  step a b before c r after (puts place kind new old reply after' fit e is attempt) n = puts place kind new old reply after' fit e is (attempted _ before _ reply after' attempt n)
  step a b before c r after (copy_from_nowhere from to e) n = copy_from_nowhere from to e
  step a b before c r after (copy_to_nowhere from to e) n = copy_to_nowhere from to e
  step a b before c r after (copy_other_kind from to new old e f other) n = copy_other_kind from to new old e f other
  step a b before c r after (copies from to new old reply after' e f is attempt) n = copies from to new old reply after' e f is (attempted _ before _ reply after' attempt n)
  step a b before c r after shows n = shows
  step a b before c r after (forgets place) n = forgets place

  run : (earlier all : List Attempt) (before : Tree) (cs : List Change) (rs : List Reply) (last : Tree) → EditRun g limit text_of may_come earlier before cs rs last all → HasRoom rs
      → EditRun g limit text_of never_full earlier before cs rs last all
  run earlier all before cs rs last (done a t) n = done a t
  run earlier all before cs rs last (then a t c r b after rest rs' l m one others) n = then a t c r b after rest rs' l m (step a b t c r after one n.0) (run b m after rest rs' l others n.1)

  session : (opening : Tree) (cs : List Change) (rs : List Reply) (last : Option Tree) (all : List Attempt) → ReplyRun g limit text_of may_come opening cs rs last all → HasRoom rs
      → ReplyRun g limit text_of never_full opening cs rs last all
  session opening cs rs last all (opens vs rest t m attempt others) n = opens vs rest t m (attempted _ opening opening _ opening attempt n.0) (run _ m opening cs rest t others n.1)
  session opening cs rs last all (opens_too_deep attempt) n = opens_too_deep (attempted _ opening opening _ opening attempt n.0)
  session opening cs rs last all (opens_full attempt) n = absurd (n.0 refl)

-- a run of a session, and of sessions in a row
one_with_room : (g : Grammar) (depth : ℕ) (may_come : List Attempt → Tree → Type 0) (s : Session) (rs : List Reply) (last : Option Tree) → IsRun g depth may_come s rs last → HasRoom rs → IsRun g depth never_full s rs last
one_with_room g depth may_come s rs last is n = record { attempts = is.attempts; run = session g depth (unparsed g.prods) may_come s.opening s.changes rs last is.attempts is.run n }

all_with_room : (g : Grammar) (depth : ℕ) (may_come : List Attempt → Tree → Type 0) (ss : List Session) (rs : List (List Reply)) (ls : List (Option Tree)) → AreRuns g depth may_come ss rs ls → HaveRoom rs
    → AreRuns g depth never_full ss rs ls
all_with_room g depth may_come _ _ _ no_session n = no_session
all_with_room g depth may_come _ _ _ (one_more s r l ss rs ls is rest) n =
    one_more s r l ss rs ls (one_with_room g depth may_come s r l is n.0) (all_with_room g depth may_come ss rs ls rest n.1)

abbrev run_with_room : (job : Job) (rows depth : ℕ) (r : Run (runs_out rows depth) job depth) → HaveRoom r.replies → Run (λ g parts. never_full) job depth
run_with_room job rows depth r n = record {
  grammar = r.grammar;
  parts = r.parts;
  sessions = r.sessions;
  accepted = r.accepted;
  ordered = r.ordered;
  replies = r.replies;
  lasts = r.lasts;
  runs = all_with_room r.grammar depth (runs_out rows depth r.grammar r.parts) r.sessions r.replies r.lasts r.runs n;
}

abbrev solo_run_with_room : (bytes : List ℕ) (rows depth : ℕ) (r : SoloRun (runs_out rows depth) bytes depth) → HasRoom r.replies → SoloRun (λ g parts. never_full) bytes depth
solo_run_with_room bytes rows depth r n = record {
  grammar = r.grammar;
  parts = r.parts;
  session = r.session;
  accepted = r.accepted;
  ordered = r.ordered;
  replies = r.replies;
  last = r.last;
  run = one_with_room r.grammar depth (runs_out rows depth r.grammar r.parts) r.session r.replies r.last r.run n;
}

pub with_room : (bytes text : List ℕ) (rows depth : ℕ) (is : IsRunOf bytes rows depth text) → HaveRoom is.run.replies → IsRunWithRoom bytes depth text
with_room bytes text rows depth is n = record { job = is.job; denotes = is.denotes; run = run_with_room is.job rows depth is.run n; prints = is.prints }

pub solo_with_room : (bytes text : List ℕ) (rows depth : ℕ) (is : IsSoloOf bytes rows depth text) → HasRoom is.run.replies → IsSoloWithRoom bytes depth text
solo_with_room bytes text rows depth is n = record { run = solo_run_with_room bytes rows depth is.run n; counts = is.counts; counted = is.counted; prints = is.prints }
