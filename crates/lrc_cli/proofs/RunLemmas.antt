-- From an accepted job to the replies of its sessions, and that these are fixed where no reply is `full`.
use Rattle.std.proofs.Common.{◌≡◌, ◌≢◌, ℕ, ◌+◌, ◌*◌, ◌<◌, ◌≤◌, length, Bool, true, false, IsTrue, List, [], ◌∷◌, map, Option, Result, Ok, Err, IfOk, inl, inr, subst, sym, ap, refl, ◌∙◌, arith}
use Rattle.std.specs.List.{list_all}
use Rattle.std.proofs.lemmas.Bool.{and_parts}
use Rattle.lrc_base.specs.declared.job.Script.{Script}
use Rattle.lrc_base.specs.declared.job.RawScript.{RawScript}
use Rattle.lrc_base.specs.declared.job.Job.{Job}
use Rattle.lrc_meaning.specs.Tree.{Tree}
use Rattle.lrc_meaning.specs.Grammar.{Grammar, is_well_formed}
use Rattle.lrc_meaning.specs.Editing.{Change, Reply, Attempt, ReplyRun, never_full}
use Rattle.lrc_meaning.specs.Text.{unparsed, run_text}
use Rattle.lrc_order_meaning.specs.declared.Partition.{Partition}
use Rattle.lrc_order_meaning.specs.Ordered.{Partitions, HasOrder}
use Rattle.lrc_order_meaning.proofs.OrderLemmas.{has_order}
use Rattle.lrc_laws.specs.Laws.{AttributionsAreUnique}
use Rattle.lrc_reader.specs.Denotes.{Denotes}
use Rattle.lrc_grammar.specs.Grammar.{grammar_of}
use Rattle.lrc_job.specs.Fitting.{script_fits}
use Rattle.lrc_job.specs.Job.{Session, session, HasSessions, sessions_of, session_of, next}
use Rattle.lrc_job.specs.Resolved.{and_then, map_ok}
use Rattle.lrc_job.specs.declared.fault.AcceptFault.{AcceptFault}
use Rattle.lrc_fault_laws.proofs.Grammars.{no_fault_is_named}
use Rattle.lrc_plan.specs.declared.sequenced.Plan.{Plan}
use Rattle.lrc_functions.specs.declared.functions.Functions.{Functions}
use Rattle.lrc_session.specs.Sessions.{grammar, sorts}
use Rattle.lrc_run.specs.Rows.{RowsRunOut}
use Rattle.lrc_run.specs.Counts.{Counts, IsCounted, counted_lines}
use Rattle.lrc_run.specs.Lines.{AreLines}
use Rattle.lrc_run.specs.declared.reply.Line.{Line}
use Rattle.lrc_threads.specs.Runs.{IsRun, AreRuns, no_session, one_more}
use Rattle.lrc_threads.specs.Sessions.{AreAnswered, AreBlocks}
use Rattle.lrc_threads.specs.declared.outs.Outs.{Outs}
use Rattle.lrc_gen.specs.Generated.{generated}
use Rattle.lrc_cli.specs.Headline.{IsAccepted, IsOrderedBy, Run, SoloRun, runs_out, solo_text, IsRunUnder, IsRunWithRoom, IsSoloWithRoom, IsSummaryWithRoom}
use Rattle.lrc_cli.specs.Running.{AreOutsOf}
use Rattle.lrc_cli.specs.Summary.{summary_text}
use Rattle.lrc_cli.proofs.OneLemmas.{one_session_of}
use Rattle.lrc_cli.proofs.SoloLemmas.{same_lines}

-- ---- a job is accepted in one way

abbrev pub OneJob : Type 0
OneJob = (bytes : List ℕ) (job other : Job) → Denotes bytes job → Denotes bytes other → job ≡ other

pub same_sessions : (job : Job) (g h : Grammar) (ss ts : List Session) → HasSessions job g (Ok ss) → HasSessions job h (Ok ts) → (g ≡ h) × (ss ≡ ts)
same_sessions job g h ss ts a b =
    let named = a.named in
    let again = b.named in
    let grammars : g ≡ h = cc in
    let moved : HasSessions job h (Ok ss) = subst (λ (z : Grammar). HasSessions job z (Ok ss)) grammars a in
    let here = moved.sessions in
    let there = b.sessions in
    (grammars, (cc))

pub moved_job : (g : Grammar) (ss : List Session) (job other : Job) → job ≡ other → HasSessions job g (Ok ss) → HasSessions other g (Ok ss)
moved_job g ss job other e has = subst (λ (j : Job). HasSessions j g (Ok ss)) e has

-- its grammar is well formed
pub well_formed : (job : Job) (g : Grammar) (ss : List Session) → HasSessions job g (Ok ss) → IsTrue (is_well_formed g)
well_formed job g ss a =
    let found = no_fault_is_named job.grammar a.no_fault in
    let named = found.1 in
    let again = a.named in
    let same : found.0 ≡ g = cc in
    subst (λ (z : Grammar). IsTrue (is_well_formed z)) same found.2

-- there are as many sessions as are written
count_more : (n : ℕ) (a : Result Session AcceptFault) (rest : Result (List Session) AcceptFault) (ss : List Session) → ((ts : List Session) → rest ≡ Ok ts → length ts ≡ n)
    → and_then (λ x. map_ok (λ xs. x ∷ xs) rest) a ≡ Ok ss → length ss ≡ n + 1
count_more n (Err e) rest ss more is = absurd (cc)
count_more n (Ok x) (Err e) ss more is = absurd (cc)
count_more n (Ok x) (Ok xs) ss more is = let short = more xs refl in let same : ss ≡ x ∷ xs = cc in ap length same ∙ (omega arith)

count_from : (g : Grammar) (s : ℕ) (written : List RawScript) (ss : List Session) → sessions_of g s written ≡ Ok ss → length ss ≡ length written
count_from g s [] ss is = let same : ss ≡ [] = cc in ap length same
count_from g s (x ∷ xs) ss is =
    let more = count_more (length xs) (session_of g s x) (sessions_of g (next s) xs) ss (λ ts e. count_from g (next s) xs ts e) is in
    omega arith

pub as_many : (job : Job) (g : Grammar) (ss : List Session) → HasSessions job g (Ok ss) → length ss ≡ length job.sessions
as_many job g ss has = count_from g 1 job.sessions ss has.sessions

-- ---- the plan of its grammar

-- a well-formed grammar that is ordered without given pairs
pub order_of : (g : Grammar) (found : Partitions) → IsTrue (is_well_formed g) → IsOrderedBy g found → HasOrder g found
order_of g found formed o = has_order g [] found formed (λ i d less. absurd (omega arith)) o.ordered o.given o.partitions

-- the functions are of the plan of this grammar
module _ (functions : Functions) (plan : Plan) (g : Grammar) (of_plan : functions.plan ≡ plan) (of_grammar : grammar_of plan.grammar ≡ g) where
  same_grammar : grammar functions ≡ g
  same_grammar = ap (λ (p : Plan). grammar_of p.grammar) of_plan ∙ of_grammar

  same_parts : functions.plan.parts ≡ plan.parts
  same_parts = ap (λ (p : Plan). p.parts) of_plan

  pub order_moved : HasOrder g plan.parts → HasOrder (grammar functions) functions.plan.parts
  order_moved order =
      subst (λ (z : Grammar). HasOrder z functions.plan.parts) (sym same_grammar) (subst (λ (p : Plan). HasOrder g p.parts) (sym of_plan) order)

  pub script_moved : (script : Script) → IsTrue (script_fits g.prods g.start script) → IsTrue (script_fits functions.plan.grammar.prods functions.plan.grammar.start script)
  script_moved script fit = subst (λ (z : Grammar). IsTrue (script_fits z.prods z.start script)) (sym same_grammar) fit

  pub scripts_moved : (scripts : List Script) → IsTrue (list_all (script_fits g.prods g.start) scripts)
      → IsTrue (list_all (script_fits functions.plan.grammar.prods functions.plan.grammar.start) scripts)
  scripts_moved scripts fit = subst (λ (z : Grammar). IsTrue (list_all (script_fits z.prods z.start) scripts)) (sym same_grammar) fit

  -- what its sessions are answered is so by this grammar and these partitions
  pub outs_moved : (rows depth : ℕ) (scripts : List Script) (outs : Outs) → AreAnswered functions depth rows scripts outs → AreOutsOf g plan.parts rows depth (map session scripts) outs
  outs_moved rows depth scripts outs answered =
      subst (λ (z : Grammar). AreOutsOf z plan.parts rows depth (map session scripts) outs) same_grammar
      (subst (λ (z : Partitions). AreOutsOf (grammar functions) z rows depth (map session scripts) outs) same_parts (record {
        replies = answered.replies;
        lasts = answered.lasts;
        runs = answered.runs;
        lines = answered.lines;
        finals = answered.finals;
      }))

  -- and so is a run of one session
  pub run_moved : (rows depth : ℕ) (s : Session) (rs : List Reply) (last : Option Tree) → IsRun (grammar functions) depth (RowsRunOut (grammar functions) (sorts functions) depth rows) s rs last
      → IsRun g depth (runs_out rows depth g plan.parts) s rs last
  run_moved rows depth s rs last run =
      subst (λ (z : Grammar). IsRun z depth (runs_out rows depth z plan.parts) s rs last) same_grammar
      (subst (λ (z : Partitions). IsRun (grammar functions) depth (runs_out rows depth (grammar functions) z) s rs last) same_parts run)

  pub counts_moved : (depth : ℕ) (t : Tree) (cs : List Change) (rs : List Reply) (ns : List Counts) → IsCounted (grammar functions) (sorts functions) depth t cs rs ns → IsCounted g plan.parts.sorts depth t cs rs ns
  counts_moved depth t cs rs ns counted =
      subst (λ (z : Grammar). IsCounted z plan.parts.sorts depth t cs rs ns) same_grammar
      (subst (λ (z : Partitions). IsCounted (grammar functions) z.sorts depth t cs rs ns) same_parts counted)

  pub lines_moved : (rs : List Reply) (lines : List Line) → AreLines (grammar functions) rs lines → AreLines g rs lines
  lines_moved rs lines are = subst (λ (z : Grammar). AreLines z rs lines) same_grammar are

-- the run whose lines and finals these are
abbrev pub run_is : (job : Job) (g : Grammar) (ss : List Session) (parts : Partitions) (rows depth : ℕ) (outs : Outs) → HasSessions job g (Ok ss) → IsOrderedBy g parts → AreOutsOf g parts rows depth ss outs → Run (runs_out rows depth) job depth
run_is job g ss parts rows depth outs has ordered found = record {
  grammar = g;
  parts = parts;
  sessions = ss;
  accepted = has;
  ordered = ordered;
  replies = found.replies;
  lasts = found.lasts;
  runs = found.runs;
}

-- the one session of a job
pub accepted_one : (job : Job) (g : Grammar) (sessions : List Script) (script : Script) → sessions ≡ script ∷ [] → HasSessions job g (Ok (map session sessions)) → HasSessions job g (Ok (session script ∷ []))
accepted_one job g sessions script one has = subst (λ (l : List Script). HasSessions job g (Ok (map session l))) one has

-- what is known of an answer, by what is known of each answer
pub if_ok : {T E : Type 0} (r : Result T E) (P Q : T → Type 0) → IfOk r P → ((x : T) → P x → Q x) → IfOk r Q
if_ok (Ok x) P Q p q = q x p
if_ok (Err e) P Q p q = tt

-- ---- the replies of sessions are fixed

module _ (g : Grammar) (depth : ℕ) where
  -- what was answered to sessions, session by session
  abbrev Answered : List Session → List (List Reply) → List (Option Tree) → Type 0
  Answered [] rs ls = (rs ≡ []) × (ls ≡ [])
  Answered (s ∷ ss) rs ls =
      (r : List Reply) × (rest : List (List Reply)) × (l : Option Tree) × (lasts : List (Option Tree)) × (rs ≡ r ∷ rest) × (ls ≡ l ∷ lasts) × IsRun g depth never_full s r l × Answered ss rest lasts

  answered : (ss : List Session) (rs : List (List Reply)) (ls : List (Option Tree)) → AreRuns g depth never_full ss rs ls → Answered ss rs ls
  answered _ _ _ no_session = (refl, refl)
  answered _ _ _ (one_more s r l ss rs ls is rest) = (r, rs, l, ls, refl, refl, is, answered ss rs ls rest)

  module _ (unique : AttributionsAreUnique) (parts : Partitions) (order : HasOrder g parts) where
    one_list : (ss : List Session) (rs qs : List (List Reply)) (ls es : List (Option Tree)) → Answered ss rs ls → Answered ss qs es → (rs ≡ qs) × (ls ≡ es)
    one_list [] rs qs ls es a b = (a.0 ∙ sym b.0, a.1 ∙ sym b.1)
    one_list (s ∷ ss) rs qs ls es (r, rest, l, lasts, e, f, run, more) (q, others, m, ends, h, k, again, further) =
        let same = one_session_of unique g parts depth (unparsed g.prods) s.opening s.changes r q l m run.attempts again.attempts order run.run again.run in
        let rests = one_list ss rest others lasts ends more further in (
          e ∙ ap (λ (x : List Reply). x ∷ rest) same.0 ∙ ap (λ (xs : List (List Reply)). q ∷ xs) rests.0 ∙ sym h,
          f ∙ ap (λ (x : Option Tree). x ∷ lasts) same.1 ∙ ap (λ (xs : List (Option Tree)). m ∷ xs) rests.1 ∙ sym k,
        )

    pub one_replies : (ss : List Session) (rs qs : List (List Reply)) (ls es : List (Option Tree)) → AreRuns g depth never_full ss rs ls → AreRuns g depth never_full ss qs es → (rs ≡ qs) × (ls ≡ es)
    one_replies ss rs qs ls es a b = one_list ss rs qs ls es (answered ss rs ls a) (answered ss qs es b)

-- two runs of a job in which no reply is `full` have the same grammar, replies and last trees
record IsSameRun (job : Job) (depth : ℕ) (a b : Run (λ g parts. never_full) job depth) : Type 0 where
  pub grammar : a.grammar ≡ b.grammar
  pub replies : a.replies ≡ b.replies
  pub lasts : a.lasts ≡ b.lasts

same_run : AttributionsAreUnique → (job : Job) (depth : ℕ) (a b : Run (λ g parts. never_full) job depth) → IsSameRun job depth a b
same_run unique job depth a b =
    let same = same_sessions job a.grammar b.grammar a.sessions b.sessions a.accepted b.accepted in
    let order = order_of b.grammar b.parts (well_formed job b.grammar b.sessions b.accepted) b.ordered in
    let moved = subst (λ (ss : List Session). AreRuns b.grammar depth never_full ss a.replies a.lasts) same.1
    (subst (λ (z : Grammar). AreRuns z depth never_full a.sessions a.replies a.lasts) same.0 a.runs) in
    let answers = one_replies b.grammar depth unique b.parts order b.sessions a.replies b.replies a.lasts b.lasts moved b.runs in
    record { grammar = same.0; replies = answers.0; lasts = answers.1 }

same_text : (g h : Grammar) (rs qs : List (List Reply)) (ls es : List (Option Tree)) → g ≡ h → rs ≡ qs → ls ≡ es → run_text g rs ls ≡ run_text h qs es
same_text g h rs qs ls es e f k =
    ap (λ (z : Grammar). run_text z rs ls) e ∙ ap (λ (z : List (List Reply)). run_text h z ls) f ∙ ap (λ (z : List (Option Tree)). run_text h qs z) k

abbrev run_of : (job other : Job) (depth : ℕ) → job ≡ other → Run (λ g parts. never_full) job depth → Run (λ g parts. never_full) other depth
run_of job other depth e run = record {
  grammar = run.grammar;
  parts = run.parts;
  sessions = run.sessions;
  accepted = moved_job run.grammar run.sessions job other e run.accepted;
  ordered = run.ordered;
  replies = run.replies;
  lasts = run.lasts;
  runs = run.runs;
}

pub one_text_of : OneJob → AttributionsAreUnique → (bytes text other : List ℕ) (depth : ℕ) → IsRunWithRoom bytes depth text → IsRunWithRoom bytes depth other → text ≡ other
one_text_of one unique bytes text other depth a b =
    let same = same_run unique b.job depth (run_of a.job b.job depth (one bytes a.job b.job a.denotes b.denotes) a.run) b.run in
    a.prints ∙ same_text a.run.grammar b.run.grammar a.run.replies b.run.replies a.run.lasts b.run.lasts same.grammar same.replies same.lasts ∙ sym b.prints

pub one_summary_of : AttributionsAreUnique → (seed nodes sessions depth : ℕ) (text other : List ℕ) → IsSummaryWithRoom seed nodes sessions depth text → IsSummaryWithRoom seed nodes sessions depth other → text ≡ other
one_summary_of unique seed nodes sessions depth text other a b =
    let same = same_run unique (generated seed nodes sessions) depth a.run b.run in
    a.prints ∙ ap summary_text same.replies ∙ sym b.prints

-- ---- and so is the text of one session with its counts

only : (s r : Session) → s ∷ [] ≡ r ∷ [] → s ≡ r
only s r e = cc

-- the counts of a run, whichever its grammar, partitions, session and replies are called
moved_counts : (depth : ℕ) (g h : Grammar) (parts sorts : List Partition) (s r : Session) (rs qs : List Reply) (ns : List Counts) → g ≡ h → parts ≡ sorts → s ≡ r → rs ≡ qs →
    IsCounted g parts depth s.opening s.changes rs ns → IsCounted h sorts depth r.opening r.changes qs ns
moved_counts depth g h parts sorts s r rs qs ns e f k m c =
    subst (λ (z : List Reply). IsCounted h sorts depth r.opening r.changes z ns) m
    (subst (λ (z : Session). IsCounted h sorts depth z.opening z.changes rs ns) k
    (subst (λ (z : List Partition). IsCounted h z depth s.opening s.changes rs ns) f
    (subst (λ (z : Grammar). IsCounted z parts depth s.opening s.changes rs ns) e c)))

same_solo_text : (g h : Grammar) (rs qs : List Reply) (ms ns : List Counts) (last end : Option Tree) → g ≡ h → rs ≡ qs → last ≡ end → counted_lines h 0 qs ms ≡ counted_lines h 0 qs ns → solo_text g rs ms last ≡ solo_text h qs ns end
same_solo_text g h rs qs ms ns last end e f k lines =
    ap (λ (z : Grammar). solo_text z rs ms last) e ∙ ap (λ (z : List Reply). solo_text h z ms last) f ∙ ap (λ (z : Option Tree). solo_text h qs ms z) k ∙ simp (lines)

-- two runs of one session have the same grammar, session, replies and last tree
record IsSameSolo (bytes : List ℕ) (depth : ℕ) (a b : SoloRun (λ g parts. never_full) bytes depth) : Type 0 where
  pub grammar : a.grammar ≡ b.grammar
  pub session : a.session ≡ b.session
  pub replies : a.replies ≡ b.replies
  pub last : a.last ≡ b.last

same_solo : OneJob → AttributionsAreUnique → (bytes : List ℕ) (depth : ℕ) (a b : SoloRun (λ g parts. never_full) bytes depth) → IsSameSolo bytes depth a b
same_solo one unique bytes depth a b =
    let job = one bytes a.accepted.job b.accepted.job a.accepted.denotes b.accepted.denotes in
    let here = moved_job a.grammar (a.session ∷ []) a.accepted.job b.accepted.job job a.accepted.accepted in
    let same = same_sessions b.accepted.job a.grammar b.grammar (a.session ∷ []) (b.session ∷ []) here b.accepted.accepted in
    let alone = only a.session b.session same.1 in
    let order = order_of b.grammar b.parts (well_formed b.accepted.job b.grammar (b.session ∷ []) b.accepted.accepted) b.ordered in
    let run : IsRun b.grammar depth never_full b.session a.replies a.last =
    subst (λ (s : Session). IsRun b.grammar depth never_full s a.replies a.last) alone (subst (λ (z : Grammar). IsRun z depth never_full a.session a.replies a.last) same.0 a.run) in
    let answers =
    one_session_of unique b.grammar b.parts depth (unparsed b.grammar.prods) b.session.opening b.session.changes a.replies b.replies a.last b.last run.attempts b.run.attempts order run.run b.run.run in
    record { grammar = same.0; session = alone; replies = answers.0; last = answers.1 }

pub one_solo_of : OneJob → AttributionsAreUnique → (bytes text other : List ℕ) (depth : ℕ) (is : IsSoloWithRoom bytes depth text) (again : IsSoloWithRoom bytes depth other) →
    is.run.parts.sorts ≡ again.run.parts.sorts → text ≡ other
one_solo_of one unique bytes text other depth is again sorts =
    let a = is.run in
    let b = again.run in
    let same = same_solo one unique bytes depth a b in
    let counted = moved_counts depth a.grammar b.grammar a.parts.sorts b.parts.sorts a.session b.session a.replies b.replies is.counts same.grammar sorts same.session same.replies is.counted in
    let lines =
    same_lines b.grammar b.parts.sorts depth (unparsed b.grammar.prods) never_full b.session.opening b.session.changes b.replies b.last b.run.attempts is.counts again.counts b.run.run counted again.counted in
    is.prints ∙ same_solo_text a.grammar b.grammar a.replies b.replies is.counts again.counts a.last b.last same.grammar same.replies same.last lines ∙ sym again.prints
