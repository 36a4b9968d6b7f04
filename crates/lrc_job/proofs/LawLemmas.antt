-- Sessions are found exactly where their terms name trees that fit.
use Rattle.std.proofs.Common.{◌≡◌, ℕ, Bool, true, false, cond, List, [], ◌∷◌, Result, Ok, Err, refl, sym, ap, ◌∙◌, subst}
use Rattle.lrc_base.specs.declared.grammar.Kind.{Kind}
use Rattle.lrc_base.specs.declared.grammar.Kind.TheVariants as k
use Rattle.lrc_base.specs.declared.grammar.Production.{Production}
use Rattle.lrc_base.specs.declared.raw_term.RawTermTree.{RawTermTree}
use Rattle.lrc_base.specs.declared.job.RawEdit.{RawEdit}
use Rattle.lrc_base.specs.declared.job.RawEdit.TheVariants as raw
use Rattle.lrc_base.specs.declared.job.RawScript.{RawScript}
use Rattle.lrc_meaning.specs.Tree.{Tree, kind_of}
use Rattle.lrc_meaning.specs.Grammar.{Grammar}
use Rattle.lrc_meaning.specs.Editing.{Change, put}
use Rattle.lrc_meaning.proofs.KindLemmas.{own_kind, one_kind}
use Rattle.lrc_job.specs.declared.term_fault.TermFault.{TermFault}
use Rattle.lrc_job.specs.Resolved.{and_then, map_ok, is_of_kind, resolved}
use Rattle.lrc_job.specs.TermLaws.{NamesFitting}
use Rattle.lrc_job.proofs.TermLawLemmas.{found_fits, fitting_is_found}
use Rattle.lrc_job.specs.declared.fault.AcceptFault.{AcceptFault}
use Rattle.lrc_job.specs.declared.fault.AcceptFault.TheVariants as fault
use Rattle.lrc_job.specs.Job.{Session, next, term_at, put_of, change_of, changes_of, of_start, session_of}
use Rattle.lrc_job.specs.Laws.{IsChangeOf, AreChangesOf, IsSessionOf}

module _ (prods : List Production) where
  put_found : (s e : ℕ) (steps : List ℕ) (term : RawTermTree) (c : Change) (r : Result Tree TermFault) → resolved prods term ≡ r → map_ok (λ t. put_of steps t (kind_of prods t)) (term_at s e r) ≡ Ok c →
      (kind : Kind) × (t : Tree) × NamesFitting prods term t kind × (c ≡ put steps kind t)
  put_found s e steps term c (Err f) is h = absurd (cc)
  put_found s e steps term c (Ok t) is h =
      let found = found_fits prods term t is in
      let same : put_of steps t (kind_of prods t) ≡ c = cc in
      (found.0, t, found.2, sym same ∙ ap (put_of steps t) found.1)

  change_found : (s e : ℕ) (x : RawEdit) (c : Change) → change_of prods s e x ≡ Ok c → IsChangeOf prods x c
  change_found s e (raw.Put path term) c h = put_found s e path.steps term c (resolved prods term) refl h
  change_found s e (raw.Copy from to) c h = cc
  change_found s e raw.Show c h = cc
  change_found s e (raw.Forget place) c h = cc

  changes_found : (s e : ℕ) (xs : List RawEdit) (cs : List Change) → changes_of prods s e xs ≡ Ok cs → AreChangesOf prods xs cs
  changes_found s e [] cs h = cc
  changes_found s e (x ∷ xs) cs h =
      by (λ rest h'. changes_found s (next e) xs rest h') (change_of prods s e x) refl (changes_of prods s (next e) xs) refl h
    where
      by : ((rest : List Change) → changes_of prods s (next e) xs ≡ Ok rest → AreChangesOf prods xs rest) → (r : Result Change AcceptFault) → change_of prods s e x ≡ r → (rs : Result (List Change) AcceptFault) → changes_of prods s (next e) xs ≡ rs → and_then (λ c. map_ok (λ rest. c ∷ rest) rs) r ≡ Ok cs →
          AreChangesOf prods (x ∷ xs) cs
      by again (Err f) first rs then h = absurd (cc)
      by again (Ok c) first (Err f) then h = absurd (cc)
      by again (Ok c) first (Ok rest) then h =
          let same : cs ≡ c ∷ rest = cc in
          (c, rest, change_found s e x c first, again rest then, same)

  change_is : (s e : ℕ) (x : RawEdit) (c : Change) → IsChangeOf prods x c → change_of prods s e x ≡ Ok c
  change_is s e (raw.Put path term) c h =
      let found = fitting_is_found prods term h.1 h.0 h.2 in
      ap (λ r. map_ok (λ t. put_of path.steps t (kind_of prods t)) (term_at s e r)) found.0
      ∙ (ap (λ o. Ok (put_of path.steps h.1 o)) found.1 ∙ ap Ok (sym h.3))
  change_is s e (raw.Copy from to) c h = ap Ok (sym h)
  change_is s e raw.Show c h = ap Ok (sym h)
  change_is s e (raw.Forget place) c h = ap Ok (sym h)

  changes_are : (s e : ℕ) (xs : List RawEdit) (cs : List Change) → AreChangesOf prods xs cs → changes_of prods s e xs ≡ Ok cs
  changes_are s e [] cs h = ap Ok (sym h)
  changes_are s e (x ∷ xs) cs h =
      ap (and_then (λ c. map_ok (λ rest. c ∷ rest) (changes_of prods s (next e) xs))) (change_is s e x h.0 h.2)
      ∙ (ap (map_ok (λ rest. h.0 ∷ rest)) (changes_are s (next e) xs h.1 h.3) ∙ ap Ok (sym h.4))

module _ (g : Grammar) (s : ℕ) (script : RawScript) where
  opening_found : (t : Tree) (r : Result Tree TermFault) → resolved g.prods script.tree ≡ r → and_then (of_start g s) (term_at s 0 r) ≡ Ok t → NamesFitting g.prods script.tree t (k.Sort g.start)
  opening_found t (Err f) is h = absurd (cc)
  opening_found t (Ok u) is h = by (is_of_kind (k.Sort g.start) (kind_of g.prods u)) refl h
    where
      by : (b : Bool) → is_of_kind (k.Sort g.start) (kind_of g.prods u) ≡ b → cond b (Ok u) (Err (fault.NotStart s)) ≡ Ok t → NamesFitting g.prods script.tree t (k.Sort g.start)
      by true start h' =
          let same : u ≡ t = cc in
          let found = found_fits g.prods script.tree u is in
          let kind : found.0 ≡ k.Sort g.start = one_kind found.0 (k.Sort g.start) (ap (is_of_kind (k.Sort g.start)) (sym found.1) ∙ start) in
          subst (λ w. NamesFitting g.prods script.tree w (k.Sort g.start)) same (subst (NamesFitting g.prods script.tree u) kind found.2)
      by false start h' = absurd (cc)

  opening_is : (t : Tree) → NamesFitting g.prods script.tree t (k.Sort g.start) → and_then (of_start g s) (term_at s 0 (resolved g.prods script.tree)) ≡ Ok t
  opening_is t are =
      let found = fitting_is_found g.prods script.tree t (k.Sort g.start) are in
      ap (λ r. and_then (of_start g s) (term_at s 0 r)) found.0
      ∙ (ap (λ o. cond (is_of_kind (k.Sort g.start) o) (Ok t) (Err (fault.NotStart s))) found.1
      ∙ ap (λ b. cond b (Ok t) (Err (fault.NotStart s))) (own_kind (k.Sort g.start)))

  pub found_is_session : (a : Session) → session_of g s script ≡ Ok a → IsSessionOf g script a
  found_is_session a h =
      by (and_then (of_start g s) (term_at s 0 (resolved g.prods script.tree))) refl (changes_of g.prods s 1 script.edits) refl h
    where
      by : (r : Result Tree AcceptFault) → and_then (of_start g s) (term_at s 0 (resolved g.prods script.tree)) ≡ r → (rs : Result (List Change) AcceptFault) → changes_of g.prods s 1 script.edits ≡ rs → and_then (λ t. map_ok (λ cs. record { opening = t; changes = cs }) rs) r ≡ Ok a →
          IsSessionOf g script a
      by (Err f) first rs then h' = absurd (cc)
      by (Ok t) first (Err f) then h' = absurd (cc)
      by (Ok t) first (Ok cs) then h' =
          let both : Session = record { opening = t; changes = cs } in
          let same : both ≡ a = cc in
          subst (IsSessionOf g script) same (record {
            opening = opening_found t (resolved g.prods script.tree) refl first;
            changes = changes_found g.prods s 1 script.edits cs then;
          })

  pub session_is_found : (a : Session) → IsSessionOf g script a → session_of g s script ≡ Ok a
  session_is_found a is =
      ap (and_then (λ t. map_ok (λ cs. record { opening = t; changes = cs }) (changes_of g.prods s 1 script.edits))) (opening_is a.opening is.opening)
      ∙ ap (map_ok (λ cs. record { opening = a.opening; changes = cs })) (changes_are g.prods s 1 script.edits a.changes is.changes)
