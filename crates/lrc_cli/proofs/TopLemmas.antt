-- Why an input is refused, and what is told of it.
use Rattle.std.proofs.Common.{◌≡◌, ℕ, Bool, true, false, ◌<◌, ◌≤◌, ◌*◌, List, [], ◌∷◌, map, length, take, Option, Some, None, Result, Ok, Err, IfErr, IsErrAnd, All, MatchBool, ◌⊎◌, inl, inr, ◌≢◌, refl, sym, arith, ap, ◌∙◌, subst, IsTrue}
use Rattle.std.proofs.lemmas.Bool.{false≢true}
use Rattle.std.proofs.lemmas.List.{drop_all, take_all, take-append-drop, length-take}
use Rattle.std.proofs.lemmas.Grind.{common_steps}
use Rattle.std.specs.Prelude.{String}
use Rattle.std.specs.declared.alloc.Global.{Global}
use Rattle.std.specs.Io.KnownBytes.{Appends, Keeps, Consumes}
use Rattle.lrc_base.specs.declared.limits.TheConstants.{ROW_LIMIT, TEXT_LIMIT}
use Rattle.lrc_outside.specs.Count.{Rose}
use Rattle.lrc_outside.specs.Known.{TakesUpTo, LosesUpTo, AppendsPart}
use Rattle.lrc_words.specs.declared.command.Command.{Command}
use Rattle.lrc_words.specs.declared.command.Verb.{Verb}
use Rattle.lrc_words.specs.declared.command.Verb.TheVariants as verb
use Rattle.lrc_base.specs.declared.grammar.Production.{Production}
use Rattle.lrc_order_meaning.specs.Induced.{Leads}
use Rattle.lrc_order_meaning.specs.Extended.{ExtendedPath}
use Rattle.lrc_order_meaning.specs.Ordered.{IsOrdered, IsAcyclic, IsFirstCycle}
use Rattle.lrc_failures.specs.declared.failure.Cycle.{Cycle}
use Rattle.std.proofs.lemmas.List.Elements.{All-contains}
use Rattle.lrc_order_meaning.proofs.MemberLemmas.{member_slice}
use Rattle.lrc_words.specs.CommandLine.{Says, IsWithinRanges, AreRefused, texts, verb_of}
use Rattle.lrc_failures.specs.declared.failure.Failure.{Failure}
use Rattle.lrc_failures.specs.declared.failure.Failure.TheVariants as f
use Rattle.lrc_failures.specs.Lines.{status_of, IsStatus}
use Rattle.lrc_failures.specs.Gains.{Gains, GainsLine}
use Rattle.lrc_base.specs.declared.job.Job.{Job}
use Rattle.lrc_reader.specs.Denotes.{Denotes}
use Rattle.lrc_reader.specs.declared.fault.JobFault.{JobFault}
use Rattle.lrc_reader.specs.declared.fault.JobFault.TheVariants as text
use Rattle.lrc_job.specs.declared.fault.AcceptFault.{AcceptFault}
use Rattle.lrc_job.specs.declared.fault.AcceptFault.TheVariants as accept
use Rattle.lrc_reader.specs.Faults.{FirstTextFault}
use Rattle.lrc_job.specs.Job.{Session, session, HasSessions, IsFaultOf}
use Rattle.lrc_base.specs.declared.job.Script.{Script}
use Rattle.lrc_meaning.specs.Tree.{Tree}
use Rattle.lrc_meaning.specs.Editing.{Change}
use Rattle.lrc_meaning.specs.Grammar.{Grammar}
use Rattle.lrc_outside.specs.declared.take_all.TakeFault.{TakeFault}
use Rattle.lrc_outside.specs.declared.take_all.TakeFault.TheVariants as take
use Rattle.lrc_failures.specs.Taken.{failure_of, failure_of_text, failure_of_job}
use Rattle.lrc_gen.specs.Generated.{generated}
use Rattle.lrc_gen_laws.specs.LetsGrammar.{lets_grammar}
use Rattle.lrc_gen_laws.specs.Accepted as drawn
use Rattle.lrc_cli.specs.Headline.{IsOutputOf, Prints}
use Rattle.lrc_cli.specs.Causes.{row_limit, IsCycleAt, ReadsJob, ReadsNothing, RunsSessions, TakesSessions, KeepsRows, IsCycle, IsUnordered, has_cycle, has_no_memory, IsCountFault, too_many_rows, not_one_session, IsJobCause, not_accepted, other_count, not_ordered, no_memory, IsCause, no_job, of_job, reads_no_memory}
use Rattle.lrc_cli.proofs.RunLemmas.{OneJob, same_sessions, moved_job}
use Rattle.lrc_cli.specs.Status.{input_limit, IsReadWhole, HasRead, HasOutput, Done, Unwritten, IsRefused, read, generates, IsHindrance, read_fails, is_refused, lacks_memory, Refused, CanBeDone, HoldsJob, told, generates_job, is_refusal}

pub keeps_itself : (a : Option (List ℕ)) → Keeps a a
keeps_itself None = tt
keeps_itself (Some xs) = refl

-- what a source loses is at most the limit, where nothing was taken and where it was read
pub loses_nothing : (left : Option (List ℕ)) → LosesUpTo input_limit left left
loses_nothing None = ([], omega arith, tt)
loses_nothing (Some xs) = ([], omega arith, refl)

pub loses_taken : (left left' : Option (List ℕ)) (input : List ℕ) → TakesUpTo input_limit left left' input → LosesUpTo input_limit left left'
loses_taken None left' input taken = ([], omega arith, tt)
loses_taken (Some xs) left' input taken = (
  take input_limit xs,
  (let n = length-take input_limit xs in omega arith),
  subst (λ (o : Option (List ℕ)). Consumes (Some xs) o (take input_limit xs)) (sym taken.1) (sym (take-append-drop input_limit xs)),
)

-- what may be a cause: a refusal of the input, or want of memory
abbrev may_be_cause : Failure → Bool
may_be_cause f.Usage = false
may_be_cause f.Read = false
may_be_cause f.Write = false
may_be_cause (f.Text fault) = true
may_be_cause (f.Accept fault) = true
may_be_cause f.TooManyRows = true
may_be_cause f.NotOneSession = true
may_be_cause (f.NotOrdered cycle) = true
may_be_cause f.Memory = true

is_count_cause : (command : Command) (count : ℕ) (failure : Failure) → IsCountFault command count failure → may_be_cause failure ≡ true
is_count_cause command count _ (too_many_rows run many) = refl
is_count_cause command count _ (not_one_session solo few others) = refl

is_job_cause : (command : Command) (job : Job) (failure : Failure) → IsJobCause command job failure → may_be_cause failure ≡ true
is_job_cause command job _ (not_accepted fault some is) = refl
is_job_cause command job failure (other_count g ss _ has is) = is_count_cause command (length ss) failure is
is_job_cause command job _ (not_ordered g ss cycle has rows is) = refl
is_job_cause command job _ no_memory = refl

is_cause : (command : Command) (input : List ℕ) (failure : Failure) → IsCause command input failure → may_be_cause failure ≡ true
is_cause command input _ (no_job fault some is none) = refl
is_cause command input failure (of_job job _ denotes is) = is_job_cause command job failure is
is_cause command input _ reads_no_memory = refl

-- an input that was read has no output for a cause
pub hindered : (command : Command) (left left' : Option (List ℕ)) (faults faults' : ℕ) (input : List ℕ) (failure : Failure) → ReadsJob command.verb → TakesUpTo input_limit left left' input → IsCause command input failure
    → IsHindrance command left left' faults faults' failure
hindered command left left' faults faults' input failure reads taken cause = by failure (is_cause command input failure cause) cause
  where
    by : (failure : Failure) → may_be_cause failure ≡ true → IsCause command input failure → IsHindrance command left left' faults faults' failure
    by f.Usage known cause = absurd (cc)
    by f.Read known cause = absurd (cc)
    by f.Write known cause = absurd (cc)
    by (f.Text fault) known cause = is_refused (f.Text fault) refl (read input (f.Text fault) reads taken cause)
    by (f.Accept fault) known cause = is_refused (f.Accept fault) refl (read input (f.Accept fault) reads taken cause)
    by f.TooManyRows known cause = is_refused f.TooManyRows refl (read input f.TooManyRows reads taken cause)
    by f.NotOneSession known cause = is_refused f.NotOneSession refl (read input f.NotOneSession reads taken cause)
    by (f.NotOrdered cycle) known cause = is_refused (f.NotOrdered cycle) refl (read input (f.NotOrdered cycle) reads taken cause)
    by f.Memory known cause = lacks_memory

-- a source that fails, or want of memory, hinders
pub not_taken : (command : Command) (left left' : Option (List ℕ)) (faults faults' : ℕ) (fault : TakeFault) → (fault ≡ take.Failed → Rose faults faults') → IsHindrance command left left' faults faults' (failure_of fault)
not_taken command left left' faults faults' take.Failed rose = read_fails (rose refl)
not_taken command left left' faults faults' take.Memory rose = lacks_memory

-- a generated job has no output only where its rows are too many, or memory ran out
pub not_generated : (command : Command) (left : Option (List ℕ)) (faults : ℕ) (failure : Failure) → ReadsNothing command.verb
    → ((failure ≡ f.TooManyRows) × (row_limit < command.rows * command.sessions)) ⊎ (failure ≡ f.Memory) → IsHindrance command left left faults faults failure
not_generated command left faults failure nothing (inl many) =
    subst (λ x. IsHindrance command left left faults faults x) (sym many.0) (is_refused f.TooManyRows refl (generates nothing (keeps_itself left) many.1))
not_generated command left faults failure nothing (inr none) = subst (λ x. IsHindrance command left left faults faults x) (sym none) lacks_memory

-- what hinders is no fault of words or of writing
pub hindrance_usage : (command : Command) (left left' : Option (List ℕ)) (faults faults' : ℕ) (failure : Failure) → IsHindrance command left left' faults faults' failure → failure ≢ f.Usage
hindrance_usage command left left' faults faults' _ (read_fails rose) e = absurd (cc)
hindrance_usage command left left' faults faults' failure (is_refused _ r is) e = absurd (false≢true (subst (λ x. IsTrue (is_refusal x)) e r))
hindrance_usage command left left' faults faults' _ lacks_memory e = absurd (cc)

pub hindrance_write : (command : Command) (left left' : Option (List ℕ)) (faults faults' : ℕ) (failure : Failure) → IsHindrance command left left' faults faults' failure → failure ≢ f.Write
hindrance_write command left left' faults faults' _ (read_fails rose) e = absurd (cc)
hindrance_write command left left' faults faults' failure (is_refused _ r is) e = absurd (false≢true (subst (λ x. IsTrue (is_refusal x)) e r))
hindrance_write command left left' faults faults' _ lacks_memory e = absurd (cc)

-- where it is a fault of reading the count rose, and where it is a refusal there is its cause
pub hindrance_read : (command : Command) (left left' : Option (List ℕ)) (faults faults' : ℕ) (failure : Failure) → IsHindrance command left left' faults faults' failure → failure ≡ f.Read → Rose faults faults'
hindrance_read command left left' faults faults' _ (read_fails rose) e = rose
hindrance_read command left left' faults faults' failure (is_refused _ r is) e = absurd (false≢true (subst (λ x. IsTrue (is_refusal x)) e r))
hindrance_read command left left' faults faults' _ lacks_memory e = absurd (cc)

pub hindrance_refused : (words : List (String Global)) (command : Command) (left left' : Option (List ℕ)) (faults faults' : ℕ) (failure : Failure) → Says (texts words) command → IsWithinRanges command
    → IsHindrance command left left' faults faults' failure → IsTrue (is_refusal failure) → Refused words left left' failure
hindrance_refused words command left left' faults faults' _ says within (read_fails rose) r = absurd (false≢true r)
hindrance_refused words command left left' faults faults' failure says within (is_refused _ r is) _ = record { command = command; says = says; within = within; refused = is }
hindrance_refused words command left left' faults faults' _ says within lacks_memory r = absurd (false≢true r)

few : (n : ℕ) (xs : List ℕ) → length (take n xs) < n → length xs ≤ n
few n xs h = grind (arith, common_steps)

-- input that is shorter than the limit is the whole of what there was
read_whole : (n : ℕ) (left left' : Option (List ℕ)) (input : List ℕ) → TakesUpTo n left left' input → length input < n → IsReadWhole left left' input
read_whole n None left' input t h = tt
read_whole n (Some xs) left' input t h =
    let short : length xs ≤ n = few n xs (let e = ap length t.0 in omega arith) in
    (t.0 ∙ grind (arith, common_steps), t.1 ∙ ap Some (drop_all n xs short))

short_output : (v : Verb) (c : Command) (input text : List ℕ) → v ≢ verb.Gen → Prints v c input text → length input < input_limit
short_output verb.Run c input text some r = let short : length input ≤ TEXT_LIMIT = r.denotes.short in omega arith
short_output verb.Solo c input text some r = let short : length input ≤ TEXT_LIMIT = r.run.accepted.denotes.short in omega arith
short_output verb.Check c input text some r = let short : length input ≤ TEXT_LIMIT = r.has.accepted.denotes.short in omega arith
short_output verb.Plan c input text some r = let short : length input ≤ TEXT_LIMIT = r.has.accepted.denotes.short in omega arith
short_output verb.Gen c input text some r = absurd (some refl)

-- a command that reads a job is not `gen`
reads_is_no_gen : (v : Verb) → ReadsJob v → v ≢ verb.Gen
reads_is_no_gen v (inl run) gen = absurd (cc)
reads_is_no_gen v (inr (inl solo)) gen = absurd (cc)
reads_is_no_gen v (inr (inr (inl check))) gen = absurd (cc)
reads_is_no_gen v (inr (inr (inr plan))) gen = absurd (cc)

pub reads_something : (v : Verb) → ReadsJob v → ReadsNothing v → ⊥
reads_something v reads nothing = reads_is_no_gen v reads nothing

pub no_gen_reads : (v : Verb) → v ≢ verb.Gen → ReadsJob v
no_gen_reads verb.Run some = inl refl
no_gen_reads verb.Solo some = inr (inl refl)
no_gen_reads verb.Check some = inr (inr (inl refl))
no_gen_reads verb.Plan some = inr (inr (inr refl))
no_gen_reads verb.Gen some = absurd (some refl)

has_read : (v : Verb) (left left' : Option (List ℕ)) (input : List ℕ) → v ≢ verb.Gen → IsReadWhole left left' input → HasRead v left left' input
has_read verb.Run left left' input some r = r
has_read verb.Solo left left' input some r = r
has_read verb.Check left left' input some r = r
has_read verb.Plan left left' input some r = r
has_read verb.Gen left left' input some r = absurd (some refl)

pub read_output_is : (command : Command) (left left' : Option (List ℕ)) (input text : List ℕ) → ReadsJob command.verb → TakesUpTo input_limit left left' input → IsOutputOf command input text → HasOutput command left left' text
read_output_is command left left' input text reads t r =
    let some = reads_is_no_gen command.verb reads in
    (input, has_read command.verb left left' input some (read_whole input_limit left left' input t (short_output command.verb command input text some r)), r)

generated_has_read : (v : Verb) (left : Option (List ℕ)) (input : List ℕ) → ReadsNothing v → HasRead v left left input
generated_has_read verb.Run left input nothing = absurd (cc)
generated_has_read verb.Solo left input nothing = absurd (cc)
generated_has_read verb.Check left input nothing = absurd (cc)
generated_has_read verb.Plan left input nothing = absurd (cc)
generated_has_read verb.Gen left input nothing = keeps_itself left

pub generated_output_is : (command : Command) (left : Option (List ℕ)) (text : List ℕ) → ReadsNothing command.verb → IsOutputOf command [] text → HasOutput command left left text
generated_output_is command left text nothing r = ([], generated_has_read command.verb left [] nothing, r)

pub done : (words : List (String Global)) (left left' held held' : Option (List ℕ)) (command : Command) (text : List ℕ) → Says (texts words) command
    → HasOutput command left left' text → Appends held held' text → Done words left left' held held'
done words left left' held held' command text says has a = record { command = command; says = says; input = has.0; text = text; read = has.1; output = has.2; written = a }

pub unwritten : (words : List (String Global)) (left left' held held' : Option (List ℕ)) (command : Command) (text : List ℕ) → Says (texts words) command
    → HasOutput command left left' text → AppendsPart held held' text → Unwritten words left left' held held'
unwritten words left left' held held' command text says has a = record { command = command; says = says; input = has.0; text = text; read = has.1; output = has.2; part = a }

-- the line is printed, or a part of it where the count of faults rose
pub line_gained : {T E : Type 0} (old new : Option (List ℕ)) (faults faults' : ℕ) (r : Result T E) (line : List ℕ) → Gains old new faults faults' r line → GainsLine old new faults faults' line
line_gained old new faults faults' (Ok x) line g = inl g.all
line_gained old new faults faults' (Err e) line g = inr (g.rose, g.part)

pub is_failure : (failure : Failure) → IsStatus (status_of failure)
unfolding IsStatus
is_failure failure = inr (failure, refl)

pub is_done : IsStatus 0
unfolding IsStatus
is_done = inl refl

-- a fault of the text is a cause, and so is one of the job
pub text_cause : (command : Command) (input : List ℕ) (fault : JobFault) → (fault ≢ text.Memory → FirstTextFault input fault) → (fault ≢ text.Memory → (job : Job) → ¬ Denotes input job) → IsCause command input (failure_of_text fault)
text_cause command input text.TooLong is none = no_job text.TooLong (λ e. absurd (cc)) (is (λ e. absurd (cc))) (none (λ e. absurd (cc)))
text_cause command input (text.Lex fault) is none = no_job (text.Lex fault) (λ e. absurd (cc)) (is (λ e. absurd (cc))) (none (λ e. absurd (cc)))
text_cause command input (text.Expected at) is none = no_job (text.Expected at) (λ e. absurd (cc)) (is (λ e. absurd (cc))) (none (λ e. absurd (cc)))
text_cause command input (text.LimitReached at limit) is none = no_job (text.LimitReached at limit) (λ e. absurd (cc)) (is (λ e. absurd (cc))) (none (λ e. absurd (cc)))
text_cause command input (text.NestedTooDeep at) is none = no_job (text.NestedTooDeep at) (λ e. absurd (cc)) (is (λ e. absurd (cc))) (none (λ e. absurd (cc)))
text_cause command input text.Memory is none = reads_no_memory

pub job_cause : (command : Command) (job : Job) (fault : AcceptFault) → IsFaultOf job fault → IsJobCause command job (failure_of_job fault)
job_cause command job (accept.Grammar fault) is = not_accepted (accept.Grammar fault) (λ e. absurd (cc)) is
job_cause command job (accept.Term session edit fault) is = not_accepted (accept.Term session edit fault) (λ e. absurd (cc)) is
job_cause command job (accept.NotStart session) is = not_accepted (accept.NotStart session) (λ e. absurd (cc)) is
job_cause command job accept.Memory is = no_memory

-- what is known of an error, of whichever error it is
pub if_err : {T : Type 0} (r : Result T Failure) (P : Failure → Type 0) (x : Failure) → IsErrAnd r (λ y. y ≡ x) → P x → IfErr r P
if_err (Ok t) P x is p = tt
if_err (Err y) P x is p = subst P (sym is) p

pub same_err : {T : Type 0} (r : Result T Failure) (x y : Failure) → IsErrAnd r (λ z. z ≡ x) → r ≡ Err y → x ≡ y
same_err (Ok t) x y is e = absurd (cc)
same_err (Err z) x y is e = cc

contrary : (m n : ℕ) → m < n → m ≡ n → ⊥
contrary m n less e = absurd (omega arith)

above : (m n : ℕ) → n < m → m ≡ n → ⊥
above m n less e = absurd (omega arith)

-- the statuses 5 and 6 are those of refusals
pub is_refusal_of : (failure : Failure) → (status_of failure ≡ 5) ⊎ (status_of failure ≡ 6) → IsTrue (is_refusal failure)
is_refusal_of f.Usage h = absurd (elim h [ inl e ↦ contrary 2 5 (omega arith) e | inr e ↦ contrary 2 6 (omega arith) e ])
is_refusal_of f.Read h = absurd (elim h [ inl e ↦ contrary 3 5 (omega arith) e | inr e ↦ contrary 3 6 (omega arith) e ])
is_refusal_of f.Write h = absurd (elim h [ inl e ↦ contrary 4 5 (omega arith) e | inr e ↦ contrary 4 6 (omega arith) e ])
is_refusal_of (f.Text fault) h = refl
is_refusal_of (f.Accept fault) h = refl
is_refusal_of f.TooManyRows h = refl
is_refusal_of f.NotOneSession h = refl
is_refusal_of (f.NotOrdered cycle) h = refl
is_refusal_of f.Memory h = absurd (elim h [ inl e ↦ above 7 5 (omega arith) e | inr e ↦ above 7 6 (omega arith) e ])

-- what is known of an error, by what is known of each error
pub err_more : {T : Type 0} (r : Result T Failure) (P Q : Failure → Type 0) → IfErr r P → ((x : Failure) → P x → Q x) → IfErr r Q
err_more (Ok t) P Q p q = tt
err_more (Err x) P Q p q = q x p

-- a grammar that is not ordered is a cause
pub unordered_cause : (command : Command) (job : Job) (g : Grammar) (sessions : List Session) (failure : Failure) → HasSessions job g (Ok sessions) → KeepsRows command (length sessions)
    → IsUnordered g failure → IsJobCause command job failure
unordered_cause command job g sessions _ has rows (has_cycle cycle is) = not_ordered g sessions cycle has rows is
unordered_cause command job g sessions _ has rows has_no_memory = no_memory

-- the statuses 5 and 6, and want of memory, are all that is left
pub done_or_memory : (failure : Failure) → failure ≢ f.Usage → failure ≢ f.Read → failure ≢ f.Write → ¬ IsTrue (is_refusal failure) → (status_of failure ≡ 0) ⊎ (status_of failure ≡ 7)
done_or_memory f.Usage a b c d = absurd (a refl)
done_or_memory f.Read a b c d = absurd (b refl)
done_or_memory f.Write a b c d = absurd (c refl)
done_or_memory (f.Text fault) a b c d = absurd (d refl)
done_or_memory (f.Accept fault) a b c d = absurd (d refl)
done_or_memory f.TooManyRows a b c d = absurd (d refl)
done_or_memory f.NotOneSession a b c d = absurd (d refl)
done_or_memory (f.NotOrdered cycle) a b c d = absurd (d refl)
done_or_memory f.Memory a b c d = inr refl

pub is_write : (failure : Failure) → status_of failure ≡ 4 → failure ≡ f.Write
is_write f.Usage e = absurd (contrary 2 4 (omega arith) e)
is_write f.Read e = absurd (contrary 3 4 (omega arith) e)
is_write f.Write e = refl
is_write (f.Text fault) e = absurd (above 5 4 (omega arith) e)
is_write (f.Accept fault) e = absurd (above 5 4 (omega arith) e)
is_write f.TooManyRows e = absurd (above 5 4 (omega arith) e)
is_write f.NotOneSession e = absurd (above 5 4 (omega arith) e)
is_write (f.NotOrdered cycle) e = absurd (above 6 4 (omega arith) e)
is_write f.Memory e = absurd (above 7 4 (omega arith) e)

-- words that say something are taken
pub not_usage : (words : List (List ℕ)) (command : Command) → Says words command → AreRefused words ⊎ (verb_of words ≡ None) → ⊥
not_usage words command says (inl r) = r.1 says.taken
not_usage words command says (inr n) = let verb = says.verb in absurd (cc)

-- ---- a source that holds a job that can be run is not refused

two_ways : (job : Job) (g h : Grammar) (ss : List Session) (fault : AcceptFault) → HasSessions job g (Ok ss) → HasSessions job h (Err fault) → ⊥
two_ways job g h ss fault a b =
    let named = a.named in
    let again = b.named in
    let same : g ≡ h = cc in
    let moved : HasSessions job h (Ok ss) = subst (λ (z : Grammar). HasSessions job z (Ok ss)) same a in
    let here = moved.sessions in
    let there = b.sessions in
    absurd (cc)

-- a job with sessions has no fault
no_fault : (job : Job) (g : Grammar) (ss : List Session) (fault : AcceptFault) → HasSessions job g (Ok ss) → fault ≢ accept.Memory → IsFaultOf job fault → ⊥
no_fault job g ss (accept.Grammar fault) has some is = let none = has.no_fault in absurd (cc)
no_fault job g ss (accept.Term s e fault) has some is = two_ways job g is.0 ss _ has is.1
no_fault job g ss (accept.NotStart s) has some is = two_ways job g is.0 ss _ has is.1
no_fault job g ss accept.Memory has some is = absurd (some refl)

-- a grammar that is ordered has no cycle
no_cycle : (prods : List Production) (Paths : Production → ℕ → ℕ → Type 0) (p x : ℕ) → All (λ q. IsAcyclic (Paths q)) prods → IsFirstCycle prods Paths p x → ⊥
no_cycle prods Paths p x acyclic c = All-contains (λ q. IsAcyclic (Paths q)) prods c.production acyclic (member_slice prods p c.production c.is_there) x c.least.0

ordered_has_none : (g : Grammar) (cycle : Cycle) (is_extended : Bool) (p x : ℕ) → IsOrdered g [] → IsCycleAt is_extended g p x → ⊥
ordered_has_none g cycle true p x ordered c = no_cycle g.prods (ExtendedPath g []) p x ordered.extended c.1
ordered_has_none g cycle false p x ordered c = no_cycle g.prods (Leads g []) p x ordered.induced c

-- a count that is taken is no fault
count_taken : (command : Command) (count : ℕ) (failure : Failure) → KeepsRows command count → IsCountFault command count failure → ⊥
count_taken command count _ keeps (too_many_rows run many) = let few = keeps.rows run in absurd (omega arith)
count_taken command count _ keeps (not_one_session solo few others) = others (keeps.number solo)

-- a job that can be done is not refused
job_not_refused : (command : Command) (job : Job) (failure : Failure) → CanBeDone command job → IsTrue (is_refusal failure) → IsJobCause command job failure → ⊥
job_not_refused command job _ can r (not_accepted fault some is) = no_fault job can.grammar can.sessions fault can.accepted some is
job_not_refused command job failure can r (other_count g ss _ has is) =
    count_taken command (length can.sessions) failure can.rows (subst (λ (l : List Session). IsCountFault command (length l) failure) (same_sessions job g can.grammar ss can.sessions has can.accepted).1 is)
job_not_refused command job _ can r (not_ordered g ss cycle has rows is) =
    let same = same_sessions job g can.grammar ss can.sessions has can.accepted in
    ordered_has_none g cycle cycle.is_extended is.production is.occurrence (subst (λ (z : Grammar). IsOrdered z []) (sym same.0) can.ordered) is.found
job_not_refused command job _ can r no_memory = false≢true r

input_not_refused : OneJob → (command : Command) (bytes : List ℕ) (job : Job) (failure : Failure) → Denotes bytes job → CanBeDone command job → IsTrue (is_refusal failure) → IsCause command bytes failure → ⊥
input_not_refused one command bytes job _ denotes can r (no_job fault some is none) = none job denotes
input_not_refused one command bytes job failure denotes can r (of_job other _ denotes-too is) =
    job_not_refused command job failure can r (subst (λ (j : Job). IsJobCause command j failure) (one bytes other job denotes-too denotes) is)
input_not_refused one command bytes job _ denotes can r reads_no_memory = false≢true r

-- a generated job is refused for its rows alone
pub generated_refused : (command : Command) (failure : Failure) → command.verb ≡ verb.Gen → drawn.IsAccepted (generated command.seed command.nodes command.sessions) command.sessions → IsOrdered lets_grammar []
    → IsJobCause command (generated command.seed command.nodes command.sessions) failure → ((failure ≡ f.TooManyRows) × (row_limit < command.rows * command.sessions)) ⊎ (failure ≡ f.Memory)
generated_refused command _ gen is ordered (not_accepted fault some has) =
    absurd (no_fault (generated command.seed command.nodes command.sessions) lets_grammar is.found fault is.has some has)
generated_refused command failure gen is ordered (other_count g ss _ has count) = by failure count
  where
    as_many : length ss ≡ command.sessions
    as_many = ap length (same_sessions (generated command.seed command.nodes command.sessions) g lets_grammar ss is.found has is.has).1 ∙ is.count

    by : (failure : Failure) → IsCountFault command (length ss) failure → ((failure ≡ f.TooManyRows) × (row_limit < command.rows * command.sessions)) ⊎ (failure ≡ f.Memory)
    by _ (too_many_rows run many) = inl (refl, subst (λ (n : ℕ). row_limit < command.rows * n) as_many many)
    by _ (not_one_session solo few others) = absurd (cc)
generated_refused command _ gen is ordered (not_ordered g ss cycle has rows c) =
    let same = same_sessions (generated command.seed command.nodes command.sessions) g lets_grammar ss is.found has is.has in
    absurd (ordered_has_none g cycle cycle.is_extended c.production c.occurrence (subst (λ (z : Grammar). IsOrdered z []) (sym same.0) ordered) c.found)
generated_refused command _ gen is ordered no_memory = inr refl

same_record : (c d : Command) → c.verb ≡ d.verb → c.rows ≡ d.rows → c.memo ≡ d.memo → c.depth ≡ d.depth → c.seed ≡ d.seed → c.nodes ≡ d.nodes → c.sessions ≡ d.sessions → c ≡ d
same_record c d verbs rows memo depth seed nodes sessions =
    ap (λ (x : Verb). record { verb = x; rows = c.rows; memo = c.memo; depth = c.depth; seed = c.seed; nodes = c.nodes; sessions = c.sessions }) verbs
    ∙ ap (λ (x : ℕ). record { verb = d.verb; rows = x; memo = c.memo; depth = c.depth; seed = c.seed; nodes = c.nodes; sessions = c.sessions }) rows
    ∙ ap (λ (x : ℕ). record { verb = d.verb; rows = d.rows; memo = x; depth = c.depth; seed = c.seed; nodes = c.nodes; sessions = c.sessions }) memo
    ∙ ap (λ (x : ℕ). record { verb = d.verb; rows = d.rows; memo = d.memo; depth = x; seed = c.seed; nodes = c.nodes; sessions = c.sessions }) depth
    ∙ ap (λ (x : ℕ). record { verb = d.verb; rows = d.rows; memo = d.memo; depth = d.depth; seed = x; nodes = c.nodes; sessions = c.sessions }) seed
    ∙ ap (λ (x : ℕ). record { verb = d.verb; rows = d.rows; memo = d.memo; depth = d.depth; seed = d.seed; nodes = x; sessions = c.sessions }) nodes
    ∙ ap (λ (x : ℕ). record { verb = d.verb; rows = d.rows; memo = d.memo; depth = d.depth; seed = d.seed; nodes = d.nodes; sessions = x }) sessions

same_command : (words : List (List ℕ)) (c d : Command) → Says words c → Says words d → (c ≡ d)
same_command words c d a b =
    let v = a.verb in let w = b.verb in let verbs : c.verb ≡ d.verb = cc in
    let r = a.rows in let s = b.rows in let rows : c.rows ≡ d.rows = cc in
    let m = a.memo in let n = b.memo in let memo : c.memo ≡ d.memo = cc in
    let e = a.depth in let f = b.depth in let depth : c.depth ≡ d.depth = cc in
    let x = a.seed in let y = b.seed in let seed : c.seed ≡ d.seed = cc in
    let p = a.nodes in let q = b.nodes in let nodes : c.nodes ≡ d.nodes = cc in
    let t = a.sessions in let u = b.sessions in let sessions : c.sessions ≡ d.sessions = cc in
    same_record c d verbs rows memo depth seed nodes sessions

-- words that ask for a command that reads nothing ask for no other
pub same_kept : (words : List (String Global)) (command other : Command) → Says (texts words) command → Says (texts words) other → ReadsNothing other.verb → ReadsNothing command.verb
same_kept words command other says also nothing = subst (λ (c : Command). ReadsNothing c.verb) (same_command (texts words) other command also says) nothing

pub not_refused : OneJob → (words : List (String Global)) (command : Command) (left left' : Option (List ℕ)) (failure : Failure) → Says (texts words) command → HoldsJob command left
    → IsTrue (is_refusal failure) → Refused words left left' failure → ⊥
not_refused one words command left left' failure says holds r refused = by failure holds r (subst (λ (c : Command). IsRefused c left left' failure) (same_command (texts words) refused.command command refused.says says) refused.refused)
  where
    by : (failure : Failure) → HoldsJob command left → IsTrue (is_refusal failure) → IsRefused command left left' failure → ⊥
    by failure (told bytes job reads is denotes can) r (read input _ reads-too taken cause) =
        let short : length bytes ≤ TEXT_LIMIT = denotes.short in
        let from : TakesUpTo input_limit (Some bytes) left' input = subst (λ (o : Option (List ℕ)). TakesUpTo input_limit o left' input) is taken in
        let whole : input ≡ bytes = from.0 ∙ take_all input_limit bytes (omega arith) in
        input_not_refused one command bytes job failure denotes can r (subst (λ (z : List ℕ). IsCause command z failure) whole cause)
    by _ (told bytes job reads is denotes can) r (generates nothing keeps many) = reads_something command.verb reads nothing
    by failure (generates_job nothing few) r (read input _ reads taken cause) = reads_something command.verb reads nothing
    by _ (generates_job nothing few) r (generates _ keeps many) = absurd (omega arith)
