-- Runs under a weaker condition of `full`, and with one more edit.
use Rattle.std.proofs.Common.{ℕ, List, [], ◌∷◌, ◌++◌, Option}
use Rattle.lrc_meaning.specs.Tree.{Tree}
use Rattle.lrc_meaning.specs.Grammar.{Grammar}
use Rattle.lrc_meaning.specs.Editing.{Change, Reply, Attempt, Attempted, gives, is_too_deep, is_full, EditStep, put_nowhere, put_other_kind, puts, copy_from_nowhere, copy_to_nowhere, copy_other_kind, copies, shows, forgets, EditRun, done, then, ReplyRun, opens, opens_too_deep, opens_full}

module _ (g : Grammar) (limit : ℕ) (text_of : Tree → List ℕ) where
  module _ (P Q : List Attempt → Tree → Type 0) (weaker : (earlier : List Attempt) (t : Tree) → P earlier t → Q earlier t) where
    attempted_weaker : (earlier : List Attempt) (before attempt : Tree) (reply : Reply) (after : Tree) → Attempted g limit text_of P earlier before attempt reply after → Attempted g limit text_of Q earlier before attempt reply after
    attempted_weaker earlier before attempt reply after (gives vs a) = gives vs a
    attempted_weaker earlier before attempt reply after (is_too_deep fit f) = is_too_deep fit f
    attempted_weaker earlier before attempt reply after (is_full fit p) = is_full fit (weaker earlier attempt p)

    pub step_weaker : (earlier : List Attempt) (before : Tree) (c : Change) (reply : Reply) (attempts : List Attempt) (after : Tree) → EditStep g limit text_of P earlier before c reply attempts after →
        EditStep g limit text_of Q earlier before c reply attempts after
    step_weaker earlier before c reply attempts after (put_nowhere place kind new fit e) = put_nowhere place kind new fit e
    step_weaker earlier before c reply attempts after (put_other_kind place kind new old fit e n) = put_other_kind place kind new old fit e n
    step_weaker earlier before c reply attempts after (puts place kind new old r u fit e k a) =
        puts place kind new old r u fit e k (attempted_weaker _ _ _ r u a)
    step_weaker earlier before c reply attempts after (copy_from_nowhere from to e) = copy_from_nowhere from to e
    step_weaker earlier before c reply attempts after (copy_to_nowhere from to e) = copy_to_nowhere from to e
    step_weaker earlier before c reply attempts after (copy_other_kind from to new old e f n) = copy_other_kind from to new old e f n
    step_weaker earlier before c reply attempts after (copies from to new old r u e f k a) =
        copies from to new old r u e f k (attempted_weaker _ _ _ r u a)
    step_weaker earlier before c reply attempts after shows = shows
    step_weaker earlier before c reply attempts after (forgets place) = forgets place

    pub run_weaker : (earlier : List Attempt) (before : Tree) (cs : List Change) (replies : List Reply) (last : Tree) (all : List Attempt) → EditRun g limit text_of P earlier before cs replies last all →
        EditRun g limit text_of Q earlier before cs replies last all
    run_weaker earlier before cs replies last all (done e t) = done e t
    run_weaker earlier before cs replies last all (then e b c reply attempts after rest rs l a step run) =
        then e b c reply attempts after rest rs l a (step_weaker e b c reply attempts after step) (run_weaker attempts after rest rs l a run)

    pub reply_run_weaker : (opening : Tree) (cs : List Change) (replies : List Reply) (last : Option Tree) (all : List Attempt) → ReplyRun g limit text_of P opening cs replies last all →
        ReplyRun g limit text_of Q opening cs replies last all
    reply_run_weaker opening cs replies last all (opens vs rs end more a run) =
        opens vs rs end more (attempted_weaker [] opening opening _ opening a) (run_weaker _ opening cs rs end more run)
    reply_run_weaker opening cs replies last all (opens_too_deep a) = opens_too_deep (attempted_weaker [] opening opening _ opening a)
    reply_run_weaker opening cs replies last all (opens_full a) = opens_full (attempted_weaker [] opening opening _ opening a)

  -- a run, and one more edit behind it
  pub one_more : (P : List Attempt → Tree → Type 0) (earlier : List Attempt) (before : Tree) (cs : List Change) (replies : List Reply) (now : Tree) (attempts : List Attempt) (c : Change) (reply : Reply) (after : Tree)
      (all : List Attempt) → EditRun g limit text_of P earlier before cs replies now attempts → EditStep g limit text_of P attempts now c reply all after →
      EditRun g limit text_of P earlier before (cs ++ c ∷ []) (replies ++ reply ∷ []) after all
  one_more P earlier before cs replies now attempts c reply after all (done e t) step = then e t c reply all after [] [] after all step (done all after)
  one_more P earlier before cs replies now attempts c reply after all (then e b d r more u rest rs l a first run) step =
      then e b d r more u (rest ++ c ∷ []) (rs ++ reply ∷ []) after all first (one_more P more u rest rs now attempts c reply after all run step)
