-- The counts of edits one after another, with one more edit behind them, and of an opening that was refused.
use Rattle.std.proofs.Common.{◌≡◌, ℕ, true, IsTrue, List, [], ◌∷◌, ◌++◌, map, refl, sym, ap, ◌∙◌, subst}
use Rattle.std.specs.Prelude.{not}
use Rattle.std.specs.List.{list_all}
use Rattle.std.specs.Option.{option_map_or}
use Rattle.std.proofs.lemmas.Bool.{and_parts, and_from}
use Rattle.std.proofs.lemmas.List.Folds.{list_all-append}
use Rattle.lrc_meaning.specs.Tree.{Tree, replaced}
use Rattle.lrc_meaning.specs.Grammar.{Grammar}
use Rattle.lrc_meaning.specs.Editing.{Change, put, copy, Reply, values, bad_path, wrong_sort, too_deep, full, unopened, shown, forgot, Attempt, tried, asked, Attempted, gives, is_too_deep, is_full, EditStep, put_nowhere, put_other_kind, puts, copy_from_nowhere, copy_to_nowhere, copy_other_kind, copies, shows, forgets, EditRun, done, then}
use Rattle.lrc_order_meaning.specs.declared.Partition.{Partition}
use Rattle.lrc_run.specs.declared.reply.Line.{Line}
use Rattle.lrc_run.specs.Lines.{AreLines}
use Rattle.lrc_run.specs.Counts.{Counts, counts_of, stops_counts, are_all_counted, AreCounted, IsCounted}
use Rattle.lrc_run.specs.Editing.{IsCountedReply}

abbrev goes_on : Reply → Type 0
goes_on r = IsTrue (not (stops_counts r))

-- replies and one more are all counted where these are and the last is
pub all_more : (replies : List Reply) (reply : Reply) → IsTrue (are_all_counted (replies ++ reply ∷ [])) → IsTrue (are_all_counted replies) × goes_on reply
all_more replies reply h =
    let p = λ (r : Reply). not (stops_counts r) in
    let both = and_parts (list_all p replies) (list_all p (reply ∷ [])) (sym (list_all-append p replies (reply ∷ [])) ∙ h) in
    (both.0, (and_parts (p reply) true both.1).0)

module _ (g : Grammar) (parts : List Partition) (limit : ℕ) where
  one_counted : (earlier : List Attempt) (before : Tree) (c : Change) (reply : Reply) (n : Counts) → IsCountedReply g parts limit earlier (asked before c) reply n → AreCounted g parts limit earlier before (c ∷ []) (reply ∷ []) (n ∷ [])
  one_counted earlier before c (values vs) n h = (h, tt)
  one_counted earlier before c bad_path n h = tt
  one_counted earlier before c wrong_sort n h = tt
  one_counted earlier before c too_deep n h = tt
  one_counted earlier before c full n h = tt
  one_counted earlier before c unopened n h = tt
  one_counted earlier before c (shown text) n h = tt
  one_counted earlier before c forgot n h = tt

  -- where the opening was refused, nothing is claimed
  pub too_deep_counted : (opening : Tree) (changes : List Change) (replies : List Reply) (lines : List Line) → AreLines g (too_deep ∷ replies) lines → IsCounted g parts limit opening changes (too_deep ∷ replies) (map counts_of lines)
  too_deep_counted opening changes replies [] are = absurd are
  too_deep_counted opening changes replies (l ∷ ls) are = tt

  pub full_counted : (opening : Tree) (changes : List Change) (replies : List Reply) (lines : List Line) → AreLines g (full ∷ replies) lines → IsCounted g parts limit opening changes (full ∷ replies) (map counts_of lines)
  full_counted opening changes replies [] are = absurd are
  full_counted opening changes replies (l ∷ ls) are = tt

  module _ (text_of : Tree → List ℕ) (P : List Attempt → Tree → Type 0) (rest more : List Change) (rs others : List Reply) (n : Counts) (ns numbers : List Counts) where
    -- counts behind an edit may be changed for others, if it stops none
    attempt_counted : (earlier : List Attempt) (before attempt : Tree) (reply : Reply) (after : Tree) (c : Change) → asked before c ≡ attempt → Attempted g limit text_of P earlier before attempt reply after →
        AreCounted g parts limit earlier before (c ∷ rest) (reply ∷ rs) (n ∷ ns) →
        (goes_on reply → AreCounted g parts limit (earlier ++ tried attempt reply ∷ []) after rest rs ns → AreCounted g parts limit (earlier ++ tried attempt reply ∷ []) after more others numbers) →
        AreCounted g parts limit earlier before (c ∷ more) (reply ∷ others) (n ∷ numbers)
    attempt_counted earlier before attempt reply after c e (gives vs a) so changed = (
      so.0,
      subst (λ t. AreCounted g parts limit (earlier ++ tried t (values vs) ∷ []) t more others numbers) (sym e)
          (changed refl (subst (λ t. AreCounted g parts limit (earlier ++ tried t (values vs) ∷ []) t rest rs ns) e so.1)),
    )
    attempt_counted earlier before attempt reply after c e (is_too_deep fit none) so changed = tt
    attempt_counted earlier before attempt reply after c e (is_full fit out) so changed = tt

    step_counted : (earlier : List Attempt) (before : Tree) (c : Change) (reply : Reply) (attempts : List Attempt) (after : Tree) → EditStep g limit text_of P earlier before c reply attempts after →
        AreCounted g parts limit earlier before (c ∷ rest) (reply ∷ rs) (n ∷ ns) →
        (goes_on reply → AreCounted g parts limit attempts after rest rs ns → AreCounted g parts limit attempts after more others numbers) →
        AreCounted g parts limit earlier before (c ∷ more) (reply ∷ others) (n ∷ numbers)
    step_counted earlier before c reply attempts after (put_nowhere place kind new fit is) so changed = changed refl so
    step_counted earlier before c reply attempts after (put_other_kind place kind new old fit is other) so changed = changed refl so
    step_counted earlier before c reply attempts after (puts place kind new old r u fit is same a) so changed = attempt_counted earlier before (replaced before place new) r u (put place kind new) refl a so changed
    step_counted earlier before c reply attempts after (copy_from_nowhere from to is) so changed = changed refl so
    step_counted earlier before c reply attempts after (copy_to_nowhere from to is) so changed = changed refl so
    step_counted earlier before c reply attempts after (copy_other_kind from to new old is there other) so changed = changed refl so
    step_counted earlier before c reply attempts after (copies from to new old r u is there same a) so changed =
        attempt_counted earlier before (replaced before to new) r u (copy from to) (ap (λ o. option_map_or (replaced before to) o before) is) a so changed
    step_counted earlier before c reply attempts after shows so changed = changed refl so
    step_counted earlier before c reply attempts after (forgets place) so changed = changed refl so

  module _ (text_of : Tree → List ℕ) (P : List Attempt → Tree → Type 0) where
    pub counted_more : (earlier : List Attempt) (before : Tree) (cs : List Change) (replies : List Reply) (now : Tree) (attempts : List Attempt) (c : Change) (reply : Reply) (lines : List Line) (line : Line) →
        EditRun g limit text_of P earlier before cs replies now attempts → AreLines g replies lines → AreCounted g parts limit earlier before cs replies (map counts_of lines) →
        (IsTrue (are_all_counted replies) → IsCountedReply g parts limit attempts (asked now c) reply (counts_of line)) →
        AreCounted g parts limit earlier before (cs ++ c ∷ []) (replies ++ reply ∷ []) (map counts_of (lines ++ line ∷ []))
    counted_more earlier before cs replies now attempts c reply [] line (done e t) are so last = one_counted e t c reply (counts_of line) (last refl)
    counted_more earlier before cs replies now attempts c reply (l ∷ ls) line (done e t) are so last = absurd are
    counted_more earlier before cs replies now attempts c reply [] line (then e b d r a u rest rs end all first run) are so last = absurd are
    counted_more earlier before cs replies now attempts c reply (l ∷ ls) line (then e b d r a u rest rs end all first run) are so last =
        step_counted text_of P rest (rest ++ c ∷ []) rs (rs ++ reply ∷ []) (counts_of l) (map counts_of ls) (map counts_of (ls ++ line ∷ [])) e b d r a u first so
        (λ on counted. counted_more a u rest rs end all c reply ls line run are.1 counted (λ each. last (and_from (not (stops_counts r)) (are_all_counted rs) on each)))
