-- The sessions of a job as they are written, over its grammar: each by numbers, or the first fault. In a session the
-- tree comes before the edits. Sessions are numbered from 1, and edits too; the number 0 stands for the tree. A number
-- stands still at the largest that a fault can hold.
use Rattle.std.specs.Prelude.{◌≡◌, ◌≢◌, ℕ, ◌+◌, ◌-◌, ◌^◌, min, List, [], ◌∷◌, map, Option, Some, None, Result, Ok, Err, MatchResult, cond, option_map}
use Rattle.lrc_base.specs.declared.grammar.Kind.{Kind}
use Rattle.lrc_base.specs.declared.grammar.Kind.TheVariants as k
use Rattle.lrc_base.specs.declared.grammar.Production.{Production}
use Rattle.lrc_base.specs.declared.job.RawEdit.{RawEdit}
use Rattle.lrc_base.specs.declared.job.RawEdit.TheVariants as raw
use Rattle.lrc_base.specs.declared.job.RawScript.{RawScript}
use Rattle.lrc_base.specs.declared.job.Script.{Script}
use Rattle.lrc_base.specs.declared.job.Job.{Job}
use Rattle.lrc_base.specs.declared.raw.RawGrammar.{RawGrammar}
use Rattle.lrc_meaning.specs.Tree.{Tree, tree, kind_of}
use Rattle.lrc_meaning.specs.Grammar.{Grammar}
use Rattle.lrc_meaning.specs.Naming.{named_grammar}
use Rattle.lrc_meaning.specs.Editing.{Change, put, copy, show, forget, change}
use Rattle.lrc_fault_meaning.specs.Faults.{first_fault}
use Rattle.lrc_check.specs.Verdict.{answered}
use Rattle.lrc_job.specs.declared.term_fault.TermFault.{TermFault}
use Rattle.lrc_job.specs.Resolved.{and_then, map_ok, is_of_kind, resolved}
use Rattle.lrc_job.specs.declared.fault.AcceptFault.{AcceptFault}
use Rattle.lrc_job.specs.declared.fault.AcceptFault.TheVariants as fault

-- a session: its tree and its changes
pub record Session : Type 0 where
  pub opening : Tree
  pub changes : List Change

abbrev pub session : Script → Session
session s = record { opening = tree s.tree; changes = map change s.edits }

-- the number behind this one
abbrev pub next : ℕ → ℕ
next n = min (n + 1) (2 ^ 32 - 1)

-- a term at this edit of this session
abbrev pub term_at : ℕ → ℕ → Result Tree TermFault → Result Tree AcceptFault
term_at s e (Ok t) = Ok t
term_at s e (Err f) = Err (fault.Term s e f)

-- a tree that is found has a kind
abbrev pub put_of : List ℕ → Tree → Option Kind → Change
put_of steps t None = show
put_of steps t (Some kind) = put steps kind t

abbrev pub change_of : List Production → ℕ → ℕ → RawEdit → Result Change AcceptFault
change_of prods s e (raw.Put path term) = map_ok (λ t. put_of path.steps t (kind_of prods t)) (term_at s e (resolved prods term))
change_of prods s e (raw.Copy from to) = Ok (copy from.steps to.steps)
change_of prods s e raw.Show = Ok show
change_of prods s e (raw.Forget place) = Ok (forget place)

-- the changes of edits that are numbered from e on
abbrev pub changes_of : List Production → ℕ → ℕ → List RawEdit → Result (List Change) AcceptFault
changes_of prods s e [] = Ok []
changes_of prods s e (x ∷ xs) = and_then (λ c. map_ok (λ cs. c ∷ cs) (changes_of prods s (next e) xs)) (change_of prods s e x)

-- a tree, where it is of the start sort
abbrev pub of_start : Grammar → ℕ → Tree → Result Tree AcceptFault
of_start g s t = cond (is_of_kind (k.Sort g.start) (kind_of g.prods t)) (Ok t) (Err (fault.NotStart s))

abbrev pub session_of : Grammar → ℕ → RawScript → Result Session AcceptFault
session_of g s script =
    and_then (λ t. map_ok (λ cs. record { opening = t; changes = cs }) (changes_of g.prods s 1 script.edits))
    (and_then (of_start g s) (term_at s 0 (resolved g.prods script.tree)))

-- the sessions that are numbered from s on
abbrev pub sessions_of : Grammar → ℕ → List RawScript → Result (List Session) AcceptFault
sessions_of g s [] = Ok []
sessions_of g s (x ∷ xs) = and_then (λ a. map_ok (λ as'. a ∷ as') (sessions_of g (next s) xs)) (session_of g s x)

-- what is answered is what was found, and a fault too, but for want of memory
abbrev pub Agrees : {A B : Type 0} → (B → A) → Result A AcceptFault → Result B AcceptFault → Type 0
Agrees f found r = MatchResult r (λ b. found ≡ Ok (f b)) (λ e. e ≢ fault.Memory → found ≡ Err e)

-- the job's grammar has no fault and is this one, and these are its sessions over it
pub record HasSessions (job : Job) (grammar : Grammar) (found : Result (List Session) AcceptFault) : Type 0 where
  pub no_fault : first_fault job.grammar ≡ None
  pub named : named_grammar job.grammar ≡ Some grammar
  pub sessions : sessions_of grammar 1 job.sessions ≡ found

-- the first fault of a grammar; want of memory is free
abbrev pub IsGrammarFaultOf : RawGrammar → AcceptFault → Type 0
IsGrammarFaultOf g (fault.Grammar f) = option_map answered (first_fault g) ≡ Some f
IsGrammarFaultOf g (fault.Term s e f) = ⊥
IsGrammarFaultOf g (fault.NotStart s) = ⊥
IsGrammarFaultOf g fault.Memory = Unit {0}

-- The first fault of a job: that of its grammar, and else that of its sessions. Want of memory is free.
abbrev pub IsFaultOf : Job → AcceptFault → Type 0
IsFaultOf job (fault.Grammar f) = option_map answered (first_fault job.grammar) ≡ Some f
IsFaultOf job (fault.Term s e f) = (g : Grammar) × HasSessions job g (Err (fault.Term s e f))
IsFaultOf job (fault.NotStart s) = (g : Grammar) × HasSessions job g (Err (fault.NotStart s))
IsFaultOf job fault.Memory = Unit {0}
