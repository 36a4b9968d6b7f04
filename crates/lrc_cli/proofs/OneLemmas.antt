-- Over an ordered grammar the replies of a session are fixed by its tree and its changes, where no reply is `full`.
use Rattle.std.proofs.Common.{◌≡◌, ◌≢◌, ℕ, List, [], ◌∷◌, Option, Some, None, refl, sym, ap, subst, ◌∙◌}
use Rattle.lrc_base.specs.declared.grammar.Kind.{Kind}
use Rattle.lrc_meaning.specs.Tree.{Tree, kind_of, at_place, replaced}
use Rattle.lrc_meaning.specs.Grammar.{Grammar, attrs_of_sort}
use Rattle.lrc_meaning.specs.Attribution.{Attributes, Decorated, attributes_of, synthesised}
use Rattle.lrc_meaning.specs.Editing.{Change, put, copy, show, forget, Reply, values, bad_path, wrong_sort, too_deep, full, shown, forgot, Attempt, Attempted, gives, is_too_deep, is_full, EditStep, put_nowhere, put_other_kind, puts, copy_from_nowhere, copy_to_nowhere, copy_other_kind, copies, shows, forgets, EditRun, done, then, all_unopened, ReplyRun, opens, opens_too_deep, opens_full, never_full}
use Rattle.lrc_order_meaning.specs.Ordered.{Partitions, HasOrder}
use Rattle.lrc_laws.specs.Laws.{AttributionsAreUnique}

module _ (g : Grammar) (limit : ℕ) (text_of : Tree → List ℕ) where
  -- an attempt's answer: its attributes, and it is the tree; or it has none, and the tree is kept
  data Answers (before attempt : Tree) (r : Reply) (after : Tree) : Type 0 where
    with : (vs : List Tree) → Attributes g limit attempt vs → r ≡ values vs → after ≡ attempt → Answers before attempt r after
    without : ((vs : List Tree) → ¬ Attributes g limit attempt vs) → r ≡ too_deep → after ≡ before → Answers before attempt r after

  answers : (earlier : List Attempt) (before attempt : Tree) (r : Reply) (after : Tree) → Attempted g limit text_of never_full earlier before attempt r after → Answers before attempt r after
  answers earlier before attempt r after (gives vs a) = with vs a refl refl
  answers earlier before attempt r after (is_too_deep fit none) = without none refl refl
  answers earlier before attempt r after (is_full fit f) = absurd f

  -- an edit's answer where something stands at its place, by the kind of that
  data Placed (before attempt : Tree) (wanted found : Option Kind) (r : Reply) (after : Tree) : Type 0 where
    same : found ≡ wanted → Answers before attempt r after → Placed before attempt wanted found r after
    other : found ≢ wanted → r ≡ wrong_sort → after ≡ before → Placed before attempt wanted found r after

  -- an edit's answer by what stands at its place
  abbrev OfPlace : (before attempt : Tree) (wanted : Option Kind) → Option Tree → Reply → Tree → Type 0
  OfPlace before attempt wanted None r after = (r ≡ bad_path) × (after ≡ before)
  OfPlace before attempt wanted (Some old) r after = Placed before attempt wanted (kind_of g.prods old) r after

  -- a copy's answer by what stands at the two places
  abbrev OfCopy : (before : Tree) (to : List ℕ) → Option Tree → Option Tree → Reply → Tree → Type 0
  OfCopy before to None found r after = (r ≡ bad_path) × (after ≡ before)
  OfCopy before to (Some new) found r after = OfPlace before (replaced before to new) (kind_of g.prods new) found r after

  -- the answer of a change, and the tree after it
  abbrev OfChange : Tree → Change → Reply → Tree → Type 0
  OfChange before (put place kind new) r after = OfPlace before (replaced before place new) (Some kind) (at_place before place) r after
  OfChange before (copy from to) r after = OfCopy before to (at_place before from) (at_place before to) r after
  OfChange before show r after = (r ≡ shown (text_of before)) × (after ≡ before)
  OfChange before (forget place) r after = (r ≡ forgot) × (after ≡ before)

  to_nowhere : (before : Tree) (to : List ℕ) (new : Option Tree) → OfCopy before to new None bad_path before
  to_nowhere before to None = (refl, refl)
  to_nowhere before to (Some new) = (refl, refl)

  of_change : (earlier attempts : List Attempt) (before : Tree) (c : Change) (r : Reply) (after : Tree) → EditStep g limit text_of never_full earlier before c r attempts after → OfChange before c r after
  of_change a b before c r after (put_nowhere place kind new fit e) =
      subst (λ (o : Option Tree). OfPlace before (replaced before place new) (Some kind) o bad_path before) (sym e) (refl, refl)
  of_change a b before c r after (put_other_kind place kind new old fit e n) =
      subst (λ (o : Option Tree). OfPlace before (replaced before place new) (Some kind) o wrong_sort before) (sym e) (other n refl refl)
  of_change a b before c r after (puts place kind new old reply after' fit e is attempt) =
      subst (λ (o : Option Tree). OfPlace before (replaced before place new) (Some kind) o reply after') (sym e) (same is (answers _ before _ reply after' attempt))
  of_change a b before c r after (copy_from_nowhere from to e) =
      subst (λ (o : Option Tree). OfCopy before to o (at_place before to) bad_path before) (sym e) (refl, refl)
  of_change a b before c r after (copy_to_nowhere from to e) =
      subst (λ (o : Option Tree). OfCopy before to (at_place before from) o bad_path before) (sym e) (to_nowhere before to (at_place before from))
  of_change a b before c r after (copy_other_kind from to new old e f n) =
      subst (λ (o : Option Tree). OfCopy before to o (at_place before to) wrong_sort before) (sym e)
      (subst (λ (o : Option Tree). OfCopy before to (Some new) o wrong_sort before) (sym f) (other n refl refl))
  of_change a b before c r after (copies from to new old reply after' e f is attempt) =
      subst (λ (o : Option Tree). OfCopy before to o (at_place before to) reply after') (sym e)
      (subst (λ (o : Option Tree). OfCopy before to (Some new) o reply after') (sym f) (same is (answers _ before _ reply after' attempt)))
  of_change a b before c r after shows = (refl, refl)
  of_change a b before c r after (forgets place) = (refl, refl)

  -- the replies of an opened session, and its last tree
  abbrev OfChanges : List Change → Tree → List Reply → Tree → Type 0
  OfChanges [] before rs last = (rs ≡ []) × (last ≡ before)
  OfChanges (c ∷ cs) before rs last = (r : Reply) × (after : Tree) × (rest : List Reply) × (rs ≡ r ∷ rest) × OfChange before c r after × OfChanges cs after rest last

  of_changes : (earlier all : List Attempt) (before : Tree) (cs : List Change) (rs : List Reply) (last : Tree) → EditRun g limit text_of never_full earlier before cs rs last all → OfChanges cs before rs last
  of_changes earlier all before cs rs last (done a t) = (refl, refl)
  of_changes earlier all before cs rs last (then a t c r b after rest rs' l m step run) = (r, after, rs', refl, of_change a b t c r after step, of_changes b m after rest rs' l run)

  -- a session's replies, and its last tree
  data OfSession (opening : Tree) (cs : List Change) (rs : List Reply) (last : Option Tree) : Type 0 where
    opened : (vs : List Tree) (rest : List Reply) (t : Tree) → Attributes g limit opening vs → OfChanges cs opening rest t → rs ≡ values vs ∷ rest → last ≡ Some t → OfSession opening cs rs last
    refused : ((vs : List Tree) → ¬ Attributes g limit opening vs) → rs ≡ too_deep ∷ all_unopened cs → last ≡ None → OfSession opening cs rs last

  opening_has : (opening : Tree) (vs : List Tree) → Answers opening opening (values vs) opening → Attributes g limit opening vs
  opening_has opening vs (with ws a e f) = let same_values : vs ≡ ws = cc in subst (λ (z : List Tree). Attributes g limit opening z) (sym same_values) a
  opening_has opening vs (without none e f) = absurd (cc)

  opening_lacks : (opening : Tree) → Answers opening opening too_deep opening → (vs : List Tree) → ¬ Attributes g limit opening vs
  opening_lacks opening (with ws a e f) = absurd (cc)
  opening_lacks opening (without none e f) = none

  never_opens_full : (opening : Tree) → Answers opening opening full opening → ⊥
  never_opens_full opening (with ws a e f) = absurd (cc)
  never_opens_full opening (without none e f) = absurd (cc)

  of_session : (opening : Tree) (cs : List Change) (rs : List Reply) (last : Option Tree) (all : List Attempt) → ReplyRun g limit text_of never_full opening cs rs last all → OfSession opening cs rs last
  of_session opening cs rs last all (opens vs rest t m attempt run) =
      opened vs rest t (opening_has opening vs (answers _ opening opening _ opening attempt)) (of_changes _ m opening cs rest t run) refl refl
  of_session opening cs rs last all (opens_too_deep attempt) = refused (opening_lacks opening (answers _ opening opening _ opening attempt)) refl refl
  of_session opening cs rs last all (opens_full attempt) = absurd (never_opens_full opening (answers _ opening opening _ opening attempt))

  module _ (unique : AttributionsAreUnique) (found : Partitions) (order : HasOrder g found) where
    same_values : (t : Tree) (vs ws : List Tree) → Attributes g limit t vs → Attributes g limit t ws → vs ≡ ws
    same_values t vs ws a b =
        a.values ∙ ap (λ (d : Decorated). synthesised (attrs_of_sort g.sorts g.start) (attributes_of d)) (unique g found order t a.attribution b.attribution a.fitting a.is_attribution b.is_attribution) ∙ sym b.values

    one_answer : (before attempt : Tree) (r q : Reply) (after end : Tree) → Answers before attempt r after → Answers before attempt q end → (r ≡ q) × (after ≡ end)
    one_answer before attempt r q after end (with vs a e f) (with ws b h k) = let same = same_values attempt vs ws a b in (cc, cc)
    one_answer before attempt r q after end (with vs a e f) (without none h k) = absurd (none vs a)
    one_answer before attempt r q after end (without none e f) (with ws b h k) = absurd (none ws b)
    one_answer before attempt r q after end (without none e f) (without more h k) = (cc, cc)

    one_placed : (before attempt : Tree) (wanted found : Option Kind) (r q : Reply) (after end : Tree) → Placed before attempt wanted found r after → Placed before attempt wanted found q end → (r ≡ q) × (after ≡ end)
    one_placed before attempt wanted found r q after end (same e a) (same f b) = one_answer before attempt r q after end a b
    one_placed before attempt wanted found r q after end (same e a) (other n h k) = absurd (n e)
    one_placed before attempt wanted found r q after end (other n h k) (same e a) = absurd (n e)
    one_placed before attempt wanted found r q after end (other n h k) (other m i j) = (cc, cc)

    one_place : (before attempt : Tree) (wanted : Option Kind) (found : Option Tree) (r q : Reply) (after end : Tree) → OfPlace before attempt wanted found r after → OfPlace before attempt wanted found q end →
        (r ≡ q) × (after ≡ end)
    one_place before attempt wanted None r q after end a b = (a.0 ∙ sym b.0, a.1 ∙ sym b.1)
    one_place before attempt wanted (Some old) r q after end a b = one_placed before attempt wanted (kind_of g.prods old) r q after end a b

    one_copy : (before : Tree) (to : List ℕ) (new found : Option Tree) (r q : Reply) (after end : Tree) → OfCopy before to new found r after → OfCopy before to new found q end → (r ≡ q) × (after ≡ end)
    one_copy before to None found r q after end a b = (a.0 ∙ sym b.0, a.1 ∙ sym b.1)
    one_copy before to (Some new) found r q after end a b = one_place before (replaced before to new) (kind_of g.prods new) found r q after end a b

    one_change : (before : Tree) (c : Change) (r q : Reply) (after end : Tree) → OfChange before c r after → OfChange before c q end → (r ≡ q) × (after ≡ end)
    one_change before (put place kind new) r q after end a b = one_place before (replaced before place new) (Some kind) (at_place before place) r q after end a b
    one_change before (copy from to) r q after end a b = one_copy before to (at_place before from) (at_place before to) r q after end a b
    one_change before show r q after end a b = (a.0 ∙ sym b.0, a.1 ∙ sym b.1)
    one_change before (forget place) r q after end a b = (a.0 ∙ sym b.0, a.1 ∙ sym b.1)

    one_run : (cs : List Change) (before : Tree) (rs qs : List Reply) (last end : Tree) → OfChanges cs before rs last → OfChanges cs before qs end → (rs ≡ qs) × (last ≡ end)
    one_run [] before rs qs last end a b = (a.0 ∙ sym b.0, a.1 ∙ sym b.1)
    one_run (c ∷ cs) before rs qs last end (r, after, rest, e, a, run) (q, then', more, f, b, other_run) =
        let step = one_change before c r q after then' a b in
        let rests = one_run cs after rest more last end run (subst (λ (t : Tree). OfChanges cs t more end) (sym step.1) other_run) in
        (e ∙ ap (λ (x : Reply). x ∷ rest) step.0 ∙ ap (λ (xs : List Reply). q ∷ xs) rests.0 ∙ sym f, rests.1)

    one_of_session : (opening : Tree) (cs : List Change) (rs qs : List Reply) (last end : Option Tree) → OfSession opening cs rs last → OfSession opening cs qs end → (rs ≡ qs) × (last ≡ end)
    one_of_session opening cs rs qs last end (opened vs rest t a run e f) (opened ws more u b other_run h k) =
        let same = same_values opening vs ws a b in
        let runs = one_run cs opening rest more t u run other_run in
        let rests = runs.0 in
        let lasts = runs.1 in
        (cc, cc)
    one_of_session opening cs rs qs last end (opened vs rest t a run e f) (refused none h k) = absurd (none vs a)
    one_of_session opening cs rs qs last end (refused none e f) (opened ws more u b other_run h k) = absurd (none ws b)
    one_of_session opening cs rs qs last end (refused none e f) (refused more h k) = (e ∙ sym h, f ∙ sym k)

pub one_session_of : AttributionsAreUnique → (g : Grammar) (found : Partitions) (limit : ℕ) (text_of : Tree → List ℕ) (opening : Tree) (cs : List Change) (rs qs : List Reply) (last end : Option Tree) (all others : List Attempt) →
    HasOrder g found → ReplyRun g limit text_of never_full opening cs rs last all → ReplyRun g limit text_of never_full opening cs qs end others → (rs ≡ qs) × (last ≡ end)
one_session_of unique g found limit text_of opening cs rs qs last end all others order a b =
    one_of_session g limit text_of unique found order opening cs rs qs last end (of_session g limit text_of opening cs rs last all a) (of_session g limit text_of opening cs qs end others b)
