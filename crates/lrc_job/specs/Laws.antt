-- Sessions that are found, in terms of trees that fit.
use Rattle.std.specs.Prelude.{◌≡◌, ℕ, List, [], ◌∷◌, Ok}
use Rattle.lrc_base.specs.declared.grammar.Kind.{Kind}
use Rattle.lrc_base.specs.declared.grammar.Kind.TheVariants as k
use Rattle.lrc_base.specs.declared.grammar.Production.{Production}
use Rattle.lrc_base.specs.declared.job.RawEdit.{RawEdit}
use Rattle.lrc_base.specs.declared.job.RawEdit.TheVariants as raw
use Rattle.lrc_base.specs.declared.job.RawScript.{RawScript}
use Rattle.lrc_meaning.specs.Tree.{Tree}
use Rattle.lrc_meaning.specs.Grammar.{Grammar}
use Rattle.lrc_meaning.specs.Editing.{Change, put, copy, show, forget}
use Rattle.lrc_job.specs.TermLaws.{NamesFitting}
use Rattle.lrc_job.specs.Job.{Session, session_of}

-- the edit asks for this change; the term of a put names a tree that fits a kind
abbrev pub IsChangeOf : List Production → RawEdit → Change → Type 0
IsChangeOf prods (raw.Put path term) c = (kind : Kind) × (t : Tree) × NamesFitting prods term t kind × (c ≡ put path.steps kind t)
IsChangeOf prods (raw.Copy from to) c = c ≡ copy from.steps to.steps
IsChangeOf prods raw.Show c = c ≡ show
IsChangeOf prods (raw.Forget place) c = c ≡ forget place

abbrev pub AreChangesOf : List Production → List RawEdit → List Change → Type 0
AreChangesOf prods [] cs = cs ≡ []
AreChangesOf prods (x ∷ xs) cs = (c : Change) × (rest : List Change) × IsChangeOf prods x c × AreChangesOf prods xs rest × (cs ≡ c ∷ rest)

-- The tree names one of the start sort, and the edits ask for these changes.
pub record IsSessionOf (g : Grammar) (script : RawScript) (a : Session) : Type 0 where
  pub opening : NamesFitting g.prods script.tree a.opening (k.Sort g.start)
  pub changes : AreChangesOf g.prods script.edits a.changes

-- what is found is such a session
abbrev pub FoundIsSession : Type 0
FoundIsSession = (g : Grammar) (s : ℕ) (script : RawScript) (a : Session) → session_of g s script ≡ Ok a → IsSessionOf g script a

-- and each such session is found
abbrev pub SessionIsFound : Type 0
SessionIsFound = (g : Grammar) (s : ℕ) (script : RawScript) (a : Session) → IsSessionOf g script a → session_of g s script ≡ Ok a
