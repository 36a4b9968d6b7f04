-- A session's last tree and its attempts, read off its edits and their replies.
use Rattle.std.proofs.Common.{◌≡◌, ℕ, Bool, true, false, cond, List, [], ◌∷◌, ◌++◌, Option, Some, None, refl, sym, ap, ◌∙◌, subst}
use Rattle.std.proofs.lemmas.List.{append-nil, append_assoc}
use Rattle.std.specs.Option.{option_map_or}
use Rattle.lrc_meaning.specs.Tree.{Tree, at_place, replaced}
use Rattle.lrc_meaning.specs.Grammar.{Grammar}
use Rattle.lrc_meaning.specs.Editing.{Change, Reply, values, too_deep, full, unopened, Attempt, tried, has_values, is_of_attempt, all_unopened, asked, tree_after, last_from, attempts_from, last_of, attempts_of, Attempted, gives, is_too_deep, is_full, EditStep, put_nowhere, put_other_kind, puts, copy_from_nowhere, copy_to_nowhere, copy_other_kind, copies, shows, forgets, EditRun, done, then, ReplyRun, opens, opens_too_deep, opens_full, ever_full, RepliesTellTheRest}

-- the attempt that an edit makes, by its reply
abbrev made : Tree → Reply → List Attempt
made t r = cond (is_of_attempt r) (tried t r ∷ []) []

module _ (g : Grammar) (limit : ℕ) (text_of : Tree → List ℕ) (full_may_come : List Attempt → Tree → Type 0) where
  -- after an attempt the tree is the one that was asked for where there are values, and else the one before
  attempt_tells : (earlier : List Attempt) (before attempt : Tree) (r : Reply) (after : Tree) → Attempted g limit text_of full_may_come earlier before attempt r after →
      (after ≡ cond (has_values r) attempt before) × (earlier ++ tried attempt r ∷ [] ≡ earlier ++ made attempt r)
  attempt_tells earlier before attempt r after (gives vs a) = (refl, refl)
  attempt_tells earlier before attempt r after (is_too_deep fit none) = (refl, refl)
  attempt_tells earlier before attempt r after (is_full fit may) = (refl, refl)

  step_tells : (earlier : List Attempt) (before : Tree) (c : Change) (r : Reply) (attempts : List Attempt) (after : Tree) → EditStep g limit text_of full_may_come earlier before c r attempts after →
      (after ≡ tree_after before c r) × (attempts ≡ earlier ++ made (asked before c) r)
  step_tells earlier before c r attempts after (put_nowhere place kind new fit e) = (refl, sym (append-nil earlier))
  step_tells earlier before c r attempts after (put_other_kind place kind new old fit e n) = (refl, sym (append-nil earlier))
  step_tells earlier before c r attempts after (puts place kind new old reply after' fit e is attempt) = attempt_tells earlier before (replaced before place new) reply after' attempt
  step_tells earlier before c r attempts after (copy_from_nowhere from to e) = (refl, sym (append-nil earlier))
  step_tells earlier before c r attempts after (copy_to_nowhere from to e) = (refl, sym (append-nil earlier))
  step_tells earlier before c r attempts after (copy_other_kind from to new old e f n) = (refl, sym (append-nil earlier))
  step_tells earlier before c r attempts after (copies from to new old reply after' e f is attempt) =
      subst (λ (o : Option Tree). (after' ≡ cond (has_values reply) (option_map_or (replaced before to) o before) before) × (earlier ++ tried (replaced before to new) reply ∷ [] ≡ earlier ++ made (option_map_or (replaced before to) o before) reply))
      (sym e) (attempt_tells earlier before (replaced before to new) reply after' attempt)
  step_tells earlier before c r attempts after shows = (refl, sym (append-nil earlier))
  step_tells earlier before c r attempts after (forgets place) = (refl, sym (append-nil earlier))

  run_tells : (earlier : List Attempt) (before : Tree) (cs : List Change) (rs : List Reply) (last : Tree) (all : List Attempt) → EditRun g limit text_of full_may_come earlier before cs rs last all →
      (last ≡ last_from before cs rs) × (all ≡ earlier ++ attempts_from before cs rs)
  run_tells earlier before cs rs last all (done _ _) = (refl, sym (append-nil earlier))
  run_tells earlier before cs rs last all (then _ _ c r attempts after cs' rs' _ _ step run) =
      let one = step_tells earlier before c r attempts after step in
      let rest = run_tells attempts after cs' rs' last all run in (
        rest.0 ∙ ap (λ (t : Tree). last_from t cs' rs') one.0,
        rest.1
            ∙ ap (λ (as' : List Attempt). as' ++ attempts_from after cs' rs') one.1
            ∙ ap (λ (t : Tree). (earlier ++ made (asked before c) r) ++ attempts_from t cs' rs') one.0
            ∙ append_assoc earlier (made (asked before c) r) (attempts_from (tree_after before c r) cs' rs'),
      )

-- an edit that is answered `unopened` attempts nothing
none_of_unopened : (before : Tree) (cs : List Change) → attempts_from before cs (all_unopened cs) ≡ []
none_of_unopened before [] = refl
none_of_unopened before (c ∷ cs) = none_of_unopened before cs

module _ (g : Grammar) (limit : ℕ) (text_of : Tree → List ℕ) (full_may_come : List Attempt → Tree → Type 0) where
  pub replies_tell : (opening : Tree) (changes : List Change) (replies : List Reply) (last : Option Tree) (all : List Attempt) → ReplyRun g limit text_of full_may_come opening changes replies last all →
      (last ≡ last_of opening changes replies) × (all ≡ attempts_of opening changes replies)
  replies_tell opening changes replies last all (opens vs rest t _ attempt run) =
      let told = run_tells g limit text_of full_may_come (tried opening (values vs) ∷ []) opening changes rest t all run in (ap Some told.0, told.1)
  replies_tell opening changes replies last all (opens_too_deep attempt) = (refl, ap (λ (as' : List Attempt). tried opening too_deep ∷ as') (sym (none_of_unopened opening changes)))
  replies_tell opening changes replies last all (opens_full attempt) = (refl, ap (λ (as' : List Attempt). tried opening full ∷ as') (sym (none_of_unopened opening changes)))

pub replies_tell_the_rest : RepliesTellTheRest
replies_tell_the_rest g limit text_of = replies_tell g limit text_of ever_full
