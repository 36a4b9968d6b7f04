-- Lines of replies, one after another.
use Rattle.std.proofs.Common.{◌≡◌, ℕ, ◌+◌, ◌<◌, List, [], ◌∷◌, ◌++◌, map, length, take, get_or, Result, Ok, Err, refl, sym, ap, ◌∙◌, subst}
use Rattle.std.specs.Prelude.{IfOk}
use Rattle.std.proofs.lemmas.List.{map-append, take_more}
use Rattle.lrc_base.specs.declared.job.Edit.{Edit}
use Rattle.lrc_meaning.specs.Tree.{Tree}
use Rattle.lrc_meaning.specs.Grammar.{Grammar}
use Rattle.lrc_meaning.specs.Editing.{Reply, unopened, Change, change, all_unopened}
use Rattle.lrc_store.specs.Standing.{Standing}
use Rattle.lrc_session.specs.declared.session.Session.{Session}
use Rattle.lrc_session.specs.declared.fault.EditFault.{EditFault}
use Rattle.lrc_run.specs.declared.reply.Line.{Line}
use Rattle.lrc_run.specs.declared.reply.Outcome.{Outcome}
use Rattle.lrc_run.specs.Lines.{IsLine, AreLines, HasOneMore, reply_of, outcome_of}
use Rattle.lrc_run.specs.Editing.{IsAnswer}

-- two facts of an answer
pub both_ok : {A E : Type 0} (r : Result A E) (P Q R : A → Type 0) → ((x : A) → P x → Q x → R x) → IfOk r P → IfOk r Q → IfOk r R
both_ok (Ok x) P Q R f p q = f x p q
both_ok (Err e) P Q R f p q = tt

pub one_line_more : (g : Grammar) (replies : List Reply) (lines : List Line) (reply : Reply) (line : Line) → AreLines g replies lines → IsLine g reply line → AreLines g (replies ++ reply ∷ []) (lines ++ line ∷ [])
one_line_more g [] [] reply line are is = (is, tt)
one_line_more g [] (l ∷ ls) reply line are is = absurd are
one_line_more g (r ∷ rs) [] reply line are is = absurd are
one_line_more g (r ∷ rs) (l ∷ ls) reply line are is = (are.0, one_line_more g rs ls reply line are.1 is)

unopened_more : (cs : List Change) (c : Change) → all_unopened (cs ++ c ∷ []) ≡ all_unopened cs ++ unopened ∷ []
unopened_more [] c = refl
unopened_more (d ∷ cs) c = ap (λ rs. unopened ∷ rs) (unopened_more cs c)

-- the changes up to the next edit
pub changes_more : (edits : List Edit) (i : ℕ) (e : Edit) → i < length edits → e ≡ get_or edits i e → map change (take (i + 1) edits) ≡ map change (take i edits) ++ change e ∷ []
changes_more edits i e h is =
    ap (map change) (take_more edits i e h ∙ ap (λ (x : Edit). take i edits ++ x ∷ []) (sym is)) ∙ map-append change (take i edits) (e ∷ [])

-- the line of one reply
pub one_line : (g : Grammar) (reply : Reply) (before after : List Line) → before ≡ [] → HasOneMore g reply before after → AreLines g (reply ∷ []) after
one_line g reply before after none more = subst (AreLines g (reply ∷ [])) (sym (more.all ∙ ap (λ (ls : List Line). ls ++ more.line ∷ []) none)) (more.is_line, tt)

-- one more edit is unopened
pub one_unopened_more : (g : Grammar) (reply : Reply) (edits : List Edit) (i : ℕ) (lines after : List Line) (e : Edit) → i < length edits → e ≡ get_or edits i e →
    AreLines g (reply ∷ all_unopened (map change (take i edits))) lines → HasOneMore g unopened lines after → AreLines g (reply ∷ all_unopened (map change (take (i + 1) edits))) after
one_unopened_more g reply edits i lines after e h is are more =
    subst (AreLines g (reply ∷ all_unopened (map change (take (i + 1) edits)))) (sym more.all)
    (subst (λ cs. AreLines g (reply ∷ cs) (lines ++ more.line ∷ []))
    (sym (unopened_more (map change (take i edits)) (change e)) ∙ ap all_unopened (sym (changes_more edits i e h is)))
    (one_line_more g (reply ∷ all_unopened (map change (take i edits))) lines unopened more.line are more.is_line))

-- the line of what was refused
pub refused_line : (g : Grammar) (s : Standing) (session : Session) (vs : List Tree) (answer : Result (Unit {0}) EditFault) (fault : EditFault) (outcome : Outcome) (line : Line) → answer ≡ Err fault → outcome ≡ outcome_of fault →
    IsLine g (reply_of outcome) line → IsAnswer g s session vs answer line
refused_line g s session vs answer fault outcome line refused same is =
    subst (λ a. IsAnswer g s session vs a line) (sym refused) (subst (λ o. IsLine g (reply_of o) line) same is)
