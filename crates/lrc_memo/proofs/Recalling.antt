-- What a recall finds in a memo word.
use Rattle.std.proofs.lemmas.Nat.{div-mul-add}
use Rattle.std.specs.Prelude.{List, None, min, Contains}
use Rattle.std.proofs.Common.{◌≡◌, ◌≢◌, ⊎_elim, ℕ, ◌+◌, ◌-◌, ◌/◌, ◌<◌, ◌^◌, sym, ◌∙◌, ap, subst, arith}
use Rattle.lrc_store.specs.Cells.{CellTree, IsWithin}
use Rattle.lrc_store.specs.Standing.{Standing, IsKnown, IsRemembered, Told, meant}
use Rattle.lrc_store.specs.Words.{Stays, Reads, Tells, Finds, Misses}
use Rattle.lrc_store.proofs.Known.{kept-meant}
use Rattle.lrc_rule.specs.Memo.{Relation, Reach, pair_word}
use Rattle.lrc_rule.specs.Views.{View}
use Rattle.lrc_table.specs.Memo.{IsKnownPair, IsKnownWord}
use Rattle.lrc_table.specs.Passes.{PassView}
use Rattle.lrc_table.specs.Standings.{standing}
use Rattle.lrc_memo.specs.Shared.{with_own, Names, NamesNot}
use Rattle.lrc_memo.proofs.Missing.{stays_with}

-- the call of a word that names it is the word's upper half
call-of : (call outcome word : ℕ) → outcome < 2 ^ 32 → word ≡ pair_word call outcome → word / 2 ^ 32 ≡ call
call-of call outcome word small e = ap (λ n. n / 2 ^ 32) e ∙ div-mul-add call (2 ^ 32) outcome small

pub names_not_zero : (call word : ℕ) → word ≡ 0 → NamesNot call word
names_not_zero call word e outcome some small h = omega (arith, e, some, h)

pub names_not_other : (call word : ℕ) → word / 2 ^ 32 ≢ call → NamesNot call word
names_not_other call word n outcome some small h = n (call-of call outcome word small h)

-- ---- nothing is found

pub missed_stays : (s : Standing) (p q : PassView) (n m : ℕ) (i j : List ℕ) → q ≡ p → j ≡ i → Stays s (with_own (standing p.view) n i) → Stays s (with_own (standing q.view) m j)
missed_stays s p q n m i j e f h = subst (λ (x : PassView). Stays s (with_own (standing x.view) m j)) (sym e) (stays_with s (with_own (standing p.view) n i) s.missed m s.identity j (f ∙ h.lasts.identity) h)

pub misses : (s : Standing) (w : View) (m k : ℕ) (i : List ℕ) (call : CellTree) → s.memo ≡ None → m ≡ s.missed → k ≡ min (m + 1) (2 ^ 64 - 1) → Misses s (with_own (standing w) k i) call
misses s w m k i call no_memo e h = record { missing = subst (λ o. Told o (λ pairs. ¬ IsRemembered pairs call)) (sym no_memo) tt; missed = h ∙ ap (λ x. min (x + 1) (2 ^ 64 - 1)) e }

-- ---- a result is found

find : (allows : Relation) (reach : Reach) (s : Standing) (w : View) (m : ℕ) (i : List ℕ) (call outcome : ℕ) (before : CellTree) → meant (standing w) call ≡ before → m ≡ s.missed → s.memo ≡ None
    → Tells (standing w) outcome (meant (standing w) outcome) → allows (meant (standing w) call) (meant (standing w) outcome) → Told (standing w).seen (IsWithin (reach (meant (standing w) call) (meant (standing w) outcome)))
    → Finds allows reach s (with_own (standing w) m i) before (meant (standing w) outcome) outcome
find allows reach s w m i call outcome before e missed no_memo tells allowed reached = record {
  allowed = subst (λ x. allows x (meant (standing w) outcome)) e allowed;
  tells = record { stands = tells.stands; seen = tells.seen };
  reached = subst (λ x. Told (standing w).seen (IsWithin (reach x (meant (standing w) outcome)))) e reached;
  remembered = subst (λ o. Told o (λ pairs. Contains pairs (before, meant (standing w) outcome))) (sym no_memo) tt;
  missed = missed;
}

pub finds : (allows : Relation) (reach : Reach) (s : Standing) (w : View) (m : ℕ) (i : List ℕ) (call outcome word : ℕ) → s.memo ≡ None → Reads s (with_own (standing w) m i) → IsKnown s call
    → IsKnownWord allows reach (standing w) word → Names call outcome word → Finds allows reach s (with_own (standing w) m i) (meant s call) (meant (standing w) outcome) outcome
finds allows reach s w m i call outcome word no_memo r k h names = ⊎_elim
    (λ (zero : word ≡ 0). absurd (names.2 zero))
    (λ (p : IsKnownPair allows reach (standing w) word).
    let same = sym names.1 ∙ p.word_is in
    let small = names.0 in
    let few = p.small in
    let e : p.call ≡ call = omega (arith, same, small, few) in
    let f : p.outcome ≡ outcome = omega (arith, same, small, few) in
    find allows reach s w m i call outcome _ (kept-meant s (with_own (standing w) m i) call r.stays.lasts.known k) r.missed no_memo
    (subst (λ x. Tells (standing w) x (meant (standing w) x)) f p.tells)
    (subst (λ (x : ℕ × ℕ). allows (meant (standing w) x.0) (meant (standing w) x.1)) (λ i. (e i, f i)) p.allowed)
    (subst (λ (x : ℕ × ℕ). Told (standing w).seen (IsWithin (reach (meant (standing w) x.0) (meant (standing w) x.1)))) (λ i. (e i, f i)) p.reached))
    h
