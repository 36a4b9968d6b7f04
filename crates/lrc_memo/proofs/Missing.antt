-- A store with a count of misses and a table of its own.
use Rattle.std.specs.Prelude.{List, [], ◌∷◌, Result, Ok, Err}
use Rattle.std.proofs.Common.{ℕ, ◌≡◌, refl, ap, ◌∙◌, subst, drop, get_or}
use Rattle.lrc_store.specs.Cells.{CellTree}
use Rattle.lrc_store.specs.Standing.{Standing, IsSound}
use Rattle.lrc_store.specs.Words.{KeepsQuota, Lasts, Stays, Reads, Adds, Puts}
use Rattle.lrc_store.specs.declared.cells.Handle.{Handle}
use Rattle.lrc_store.specs.declared.stores.Full.{Full}
use Rattle.lrc_rule.specs.Views.{View}
use Rattle.lrc_table.specs.Passes.{TableView, PassView, IsOf, identity}
use Rattle.lrc_table.specs.Standings.{standing}
use Rattle.lrc_memo.specs.Shared.{Shared, with_own, shared_standing}

pub sound_with : (s : Standing) (n : ℕ) (i : List ℕ) → IsSound s → IsSound (with_own s n i)
sound_with s n i h = record {
  nil_known = h.nil_known;
  finite = h.finite;
  injective = h.injective;
  made_held = h.made_held;
  made_once = h.made_once;
  made_within = h.made_within;
  undrawn = h.undrawn;
  blockless = h.blockless;
  undry = h.undry;
  pays_blocks = h.pays_blocks;
  uses_blocks = h.uses_blocks;
  seen_known = h.seen_known;
  seen_closed = h.seen_closed;
  seen_without_nil = h.seen_without_nil;
  memo_map = h.memo_map;
  memo_seen = h.memo_seen;
}

lasts_with : (s t : Standing) (n m : ℕ) (i j : List ℕ) → j ≡ i → Lasts s t → Lasts (with_own s n i) (with_own t m j)
lasts_with s t n m i j e h = record {
  known = h.known;
  seen = h.seen;
  quota = quota_with h.quota;
  meets = h.meets;
  lives = h.lives;
  identity = e;
  sound = λ k. sound_with t m j (h.sound (sound_with (with_own s n i) s.missed s.identity k));
} where
  quota_with : KeepsQuota s t → KeepsQuota (with_own s n i) (with_own t m j)
  quota_with q = record { pooled = q.pooled; at_most = q.at_most; fixed = q.fixed; till_dry = q.till_dry; dry = q.dry; blocks = q.blocks }

pub stays_with : (s t : Standing) (n m : ℕ) (i j : List ℕ) → j ≡ i → Stays s t → Stays (with_own s n i) (with_own t m j)
stays_with s t n m i j e h = record { lasts = lasts_with s t n m i j e h.lasts; made = h.made; drawn = h.drawn; quota = h.quota; blocks = h.blocks; dry = h.dry }

-- ---- what a call of the pass does to the store over it

module _ {M : Type 0} (v now : Shared M) (q : View) (e : v ≡ now) where
  -- the store after a step of its pass
  abbrev after : Standing
  after = with_own (standing q) v.missed (identity v.table)

  own_stays : Stays (standing v.pass.view) (standing q) → Stays (shared_standing v) after
  own_stays h = stays_with (standing v.pass.view) (standing q) v.missed v.missed (identity v.table) (identity v.table) refl h

  pub shared_stays : Stays (standing v.pass.view) (standing q) → Stays (shared_standing now) after
  shared_stays h = subst (λ (s : Shared M). Stays (shared_standing s) after) e (own_stays h)

  pub shared_reads : Reads (standing v.pass.view) (standing q) → Reads (shared_standing now) after
  shared_reads h = subst (λ (s : Shared M). Reads (shared_standing s) after) e (record { stays = own_stays h.stays; memo = h.memo; missed = refl })

  own_adds : (cells : List CellTree) → Adds (standing v.pass.view) (standing q) cells → Adds (shared_standing v) after cells
  own_adds cells h = record {
    gains = record { lasts = lasts_with (standing v.pass.view) (standing q) v.missed v.missed (identity v.table) (identity v.table) refl h.gains.lasts; made = h.gains.made; drawn = h.gains.drawn };
    memo = h.memo;
    missed = refl;
  }

  own_puts : (cell : CellTree) (answer : Result Handle Full) → Puts (standing v.pass.view) (standing q) cell answer → Puts (shared_standing v) after cell answer
  own_puts cell (Ok handle) h = record { adds = own_adds (cell ∷ []) h.adds; once = h.once; ok = record { stands = h.ok.stands; seen = h.ok.seen }; full = tt }
  own_puts cell (Err full) h = record { adds = own_adds (cell ∷ []) h.adds; once = h.once; ok = tt; full = record { used = h.full.used; unknown = h.full.unknown; unseen = h.full.unseen } }

  pub shared_puts : (cell : Shared M → CellTree) (answer : Result Handle Full) → Puts (standing v.pass.view) (standing q) (cell v) answer → Puts (shared_standing now) after (cell now) answer
  shared_puts cell answer h = subst (λ (s : Shared M). Puts (shared_standing s) after (cell s) answer) e (own_puts (cell v) answer h)

-- a pass of a table is one of each table that the same numbers tell
pub of_equal : {M : Type 0} (p : PassView) (s t : TableView M) → IsOf p s → identity s ≡ identity t → IsOf p t
of_equal p s t h e =
    let at : (n : ℕ) → get_or (identity s) n 0 ≡ get_or (identity t) n 0 = λ n. ap (λ (xs : List ℕ). get_or xs n 0) e in
    let names : s.id.slot_names ≡ t.id.slot_names = ap (λ (xs : List ℕ). drop 9 xs) e in (
      h.0 ∙ (λ i. record { words = at 3 i; slots = at 4 i; views_name = at 5 i; atom = at 6 i; block = at 7 i; offset = at 8 i; slot_names = names i }),
      h.1 ∙ (λ i. record { buckets = at 0 i; rows = at 1 i; memo = at 2 i }),
    )
