-- A store over a pass of a shared table.
use Rattle.std.specs.Prelude.{ℕ, List, ◌≡◌, ◌≢◌, ◌<◌, ◌≤◌, ◌^◌, refl}
use Rattle.std.specs.Coded.{Coded, code_by, coded_ℕ, coded×}
use Rattle.lrc_store.specs.Standing.{Standing}
use Rattle.lrc_store.specs.declared.stores.Recall.{Recall}
use Rattle.lrc_store.specs.declared.stores.Recall.TheVariants as recall
use Rattle.lrc_rule.specs.Memo.{pair_word}
use Rattle.lrc_table.specs.Passes.{TableView, PassView, coded_table_view, coded_pass_view, identity}
use Rattle.lrc_table.specs.Standings.{standing}

-- the pass, its table, and how many recalls found nothing
pub record Shared (M : Type 0) : Type 0 where
  pub pass : PassView
  pub table : TableView M
  pub missed : ℕ

abbrev pub coded_shared : {M : Type 0} → Coded M → Coded (Shared M)
coded_shared {M} m =
    code_by (PassView × (TableView M × ℕ)) (coded× coded_pass_view (coded× (coded_table_view m) coded_ℕ)) (λ s. (s.pass, (s.table, s.missed)))
    (λ p. record { pass = p.0; table = p.1.0; missed = p.1.1 }) (λ _. refl)

abbrev pub with_own : Standing → ℕ → List ℕ → Standing
with_own s missed identity = record s { missed = missed; identity = identity }

-- it stands for what its pass does: it tells what is in the table for good, and no memo
abbrev pub shared_standing : {M : Type 0} → Shared M → Standing
shared_standing s = with_own (standing s.pass.view) s.missed (identity s.table)

-- the cells of the store lie in this table
abbrev pub LiesIn : {M : Type 0} → Standing → TableView M → Type 0
LiesIn s t = s.identity ≡ identity t

-- the word pairs the call with no result
abbrev pub NamesNot : ℕ → ℕ → Type 0
NamesNot call word = (outcome : ℕ) → 1 ≤ outcome → outcome < 2 ^ 32 → word ≢ pair_word call outcome

-- the word pairs the call with this result
abbrev pub Names : ℕ → ℕ → ℕ → Type 0
Names call outcome word = (outcome < 2 ^ 32) × (word ≡ pair_word call outcome) × (word ≢ 0)

-- what a recall answers of the word at the call's place: the result that it is paired with there, or else the word
abbrev pub Answers : ℕ → ℕ → Recall → Type 0
Answers call word (recall.Found handle) = Names call handle.0 word
Answers call word (recall.Missed found) = (found ≡ word) × NamesNot call word
