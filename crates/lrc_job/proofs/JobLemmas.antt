-- The faults of sessions are none of the grammar.
use Rattle.std.proofs.Common.{◌≡◌, ◌≢◌, ℕ, Bool, true, false, cond, List, [], ◌∷◌, Result, Ok, Err, ap}
use Rattle.lrc_base.specs.declared.grammar.Production.{Production}
use Rattle.lrc_base.specs.declared.grammar.Kind.TheVariants as k
use Rattle.lrc_base.specs.declared.job.RawEdit.{RawEdit}
use Rattle.lrc_base.specs.declared.job.RawEdit.TheVariants as raw
use Rattle.lrc_base.specs.declared.job.RawScript.{RawScript}
use Rattle.lrc_base.specs.declared.job.Job.{Job}
use Rattle.lrc_meaning.specs.Tree.{Tree, kind_of}
use Rattle.lrc_meaning.specs.Grammar.{Grammar}
use Rattle.lrc_check.specs.declared.fault.GrammarFault.{GrammarFault}
use Rattle.lrc_job.specs.declared.term_fault.TermFault.{TermFault}
use Rattle.lrc_job.specs.Resolved.{and_then, map_ok, is_of_kind, resolved}
use Rattle.lrc_job.specs.declared.fault.AcceptFault.{AcceptFault}
use Rattle.lrc_job.specs.declared.fault.AcceptFault.TheVariants as fault
use Rattle.lrc_job.specs.Job.{next, term_at, put_of, change_of, changes_of, of_start, session_of, sessions_of, HasSessions, IsFaultOf}

-- a fault that is none of the grammar
abbrev pub NotOfGrammar : {A : Type 0} → Result A AcceptFault → Type 0
NotOfGrammar r = (f : GrammarFault) → r ≡ Err (fault.Grammar f) → ⊥

of_ok : {A : Type 0} (a : A) → NotOfGrammar (Ok a)
of_ok a f e = absurd (cc)

of_both : {A B : Type 0} (g : A → Result B AcceptFault) (r : Result A AcceptFault) → NotOfGrammar r → ((a : A) → NotOfGrammar (g a)) → NotOfGrammar (and_then g r)
of_both g (Ok a) first then f e = then a f e
of_both g (Err h) first then f e = first f (let same : h ≡ fault.Grammar f = cc in ap Err same)

of_map : {A B : Type 0} (g : A → B) (r : Result A AcceptFault) → NotOfGrammar r → NotOfGrammar (map_ok g r)
of_map g (Ok a) none f e = absurd (cc)
of_map g (Err h) none f e = none f (let same : h ≡ fault.Grammar f = cc in ap Err same)

of_term : (s e : ℕ) (r : Result Tree TermFault) → NotOfGrammar (term_at s e r)
of_term s e (Ok t) f h = absurd (cc)
of_term s e (Err g) f h = absurd (cc)

of_change : (prods : List Production) (s e : ℕ) (x : RawEdit) → NotOfGrammar (change_of prods s e x)
of_change prods s e (raw.Put path term) = of_map (λ t. put_of path.steps t (kind_of prods t)) (term_at s e (resolved prods term)) (of_term s e (resolved prods term))
of_change prods s e (raw.Copy from to) = λ f h. absurd (cc)
of_change prods s e raw.Show = λ f h. absurd (cc)
of_change prods s e (raw.Forget place) = λ f h. absurd (cc)

of_changes : (prods : List Production) (s e : ℕ) (xs : List RawEdit) → NotOfGrammar (changes_of prods s e xs)
of_changes prods s e [] = of_ok []
of_changes prods s e (x ∷ xs) =
    of_both (λ c. map_ok (λ cs. c ∷ cs) (changes_of prods s (next e) xs)) (change_of prods s e x) (of_change prods s e x) (λ c. of_map (λ cs. c ∷ cs) (changes_of prods s (next e) xs) (of_changes prods s (next e) xs))

of_choice : (b : Bool) (s : ℕ) (t : Tree) → NotOfGrammar (cond b (Ok t) (Err (fault.NotStart s)))
of_choice true s t f h = absurd (cc)
of_choice false s t f h = absurd (cc)

of_session : (g : Grammar) (s : ℕ) (script : RawScript) → NotOfGrammar (session_of g s script)
of_session g s script =
    of_both (λ t. map_ok (λ cs. record { opening = t; changes = cs }) (changes_of g.prods s 1 script.edits)) (and_then (of_start g s) (term_at s 0 (resolved g.prods script.tree)))
    (of_both (of_start g s) (term_at s 0 (resolved g.prods script.tree)) (of_term s 0 (resolved g.prods script.tree)) (λ t. of_choice (is_of_kind (k.Sort g.start) (kind_of g.prods t)) s t))
    (λ t. of_map (λ cs. record { opening = t; changes = cs }) (changes_of g.prods s 1 script.edits) (of_changes g.prods s 1 script.edits))

of_sessions : (g : Grammar) (s : ℕ) (xs : List RawScript) → NotOfGrammar (sessions_of g s xs)
of_sessions g s [] = of_ok []
of_sessions g s (x ∷ xs) =
    of_both (λ a. map_ok (λ as'. a ∷ as') (sessions_of g (next s) xs)) (session_of g s x) (of_session g s x) (λ a. of_map (λ as'. a ∷ as') (sessions_of g (next s) xs) (of_sessions g (next s) xs))

-- the fault of a job's sessions is that of the job
pub fault_of_sessions : (job : Job) (g : Grammar) (e : AcceptFault) → (e ≢ fault.Memory → HasSessions job g (Err e)) → IsFaultOf job e
fault_of_sessions job g (fault.Grammar f) has =
    absurd (of_sessions g 1 job.sessions f (has (λ e. cc)).sessions)
fault_of_sessions job g (fault.Term s e f) has = (g, has (λ e. cc))
fault_of_sessions job g (fault.NotStart s) has = (g, has (λ e. cc))
fault_of_sessions job g fault.Memory has = tt
