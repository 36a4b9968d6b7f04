-- What is remembered of a call that is asked for is a result of its; and a body at its start runs.
use Rattle.std.proofs.Common.{◌≡◌, ℕ, ◌<◌, ◌≤◌, ◌-◌, ◌⊎◌, inl, inr, Bool, false, IsTrue, ℤ, pos, List, [], length, refl, sym, ap, ◌∙◌, subst, arith, Some, None}
use Rattle.std.specs.Prelude.{◌↔◌, flat_map, slice_index_or}
use Rattle.std.proofs.lemmas.Bool.{cases_lt, false≢true}
use Rattle.std.proofs.lemmas.List.{get_or_past}
use Rattle.std.proofs.lemmas.List.Folds.{length-flat_map-take}
use Rattle.lrc_meaning.specs.Grammar.{Grammar}
use Rattle.lrc_order_meaning.specs.declared.Partition.{Partition}
use Rattle.lrc_order_meaning.specs.Ordered.{Partitions}
use Rattle.lrc_order_meaning.proofs.MemberLemmas.{member_slice}
use Rattle.lrc_visit_meaning.specs.Values.{Call, Result}
use Rattle.lrc_visit_meaning.specs.Visits.{plain_visit}
use Rattle.lrc_visit_meaning.specs.Demand.{reach}
use Rattle.lrc_store.specs.Cells.{CellTree, number, pair, IsWithin}
use Rattle.lrc_store.specs.Standing.{Standing, Stands, Told, IsRemembered, meant}
use Rattle.lrc_store.specs.Words.{Keeps, Lasts, Reads, Shows, Finds, Misses}
use Rattle.lrc_store.specs.declared.cells.Cell.{Cell}
use Rattle.lrc_store.specs.declared.cells.Cell.TheVariants as cell
use Rattle.lrc_store.specs.declared.cells.Handle.{Handle}
use Rattle.lrc_store.proofs.Known.{stands-meant}
use Rattle.lrc_eval.specs.declared.values.Val.{Val}
use Rattle.lrc_eval.proofs.CellLemmas.{told-none, told-lasts}
use Rattle.lrc_call_meaning.specs.Forms.{call_form, result_form}
use Rattle.lrc_call_meaning.specs.Meaning.{Allows, reached_by}
use Rattle.lrc_call_meaning.specs.Reached.{cells_of}
use Rattle.lrc_call_meaning.specs.Spelled.{IsSpelledCall, IsSpelledResult}
use Rattle.lrc_call_meaning.proofs.DecodingLemmas.{calls-injective}
use Rattle.lrc_cell_laws.proofs.MeaningLemmas.{reached_is}
use Rattle.lrc_functions.specs.declared.function.Function.{Function}
use Rattle.lrc_frames.specs.Frames.{at_start}
use Rattle.lrc_frames.specs.Steps.{Begins}
use Rattle.lrc_bodies.specs.declared.mark.Mark.{Mark}
use Rattle.lrc_bodies.specs.Points.{Point}
use Rattle.lrc_bodies.specs.Bodies.{no_function, left_at, most_left, Asks, Gives, Runs}
use Rattle.lrc_machine.specs.declared.bodies.Opened.{Opened}
use Rattle.lrc_machine.specs.declared.bodies.Opened.TheVariants as o
use Rattle.lrc_machine.specs.Steps.{Opens}
use Rattle.lrc_machine.specs.Counts.{IsKept, IsMissed}
use Rattle.lrc_bodies.proofs.CountingLemmas.{HasPair, pair_on, pair_is, made_none}
use Rattle.lrc_bodies.proofs.HitLemmas.{hit, hit_reach, too_high}
use Rattle.lrc_bodies.proofs.PointLemmas.{begins}

-- ---- how much a body has left

-- one of many lists is no longer than all of them
piece_short : {X A : Type 0} (f : X → List A) (xs : List X) (i : ℕ) (d : X) → f d ≡ [] → length (f (slice_index_or xs i d)) ≤ length (flat_map f xs)
piece_short f xs i d none = over (cases_lt i (length xs)) where
  over : (i < length xs) ⊎ (length xs ≤ i) → length (f (slice_index_or xs i d)) ≤ length (flat_map f xs)
  over (inl less) = let part = length-flat_map-take f xs i d less in omega (arith, part)
  over (inr past) = let size : length (f (slice_index_or xs i d)) ≡ 0 = ap (λ x. length (f x)) (get_or_past xs i d past) ∙ ap length none in omega (arith, size)

-- no body has more left than there are operations
pub left_few : (productions : List (List Function)) (mark : Mark) → left_at productions mark ≤ most_left productions
left_few productions mark =
    let own = slice_index_or productions mark.body.production [] in
    let some = piece_short (λ (f : Function). f.operations) own (mark.body.visit - 1) no_function refl in
    let all = piece_short (λ (functions : List Function). flat_map (λ (f : Function). f.operations) functions) productions mark.body.production [] refl in
    omega (arith, some, all)

-- ---- the height of a result, read off its cell

result_pair : (r : Result) (shown : Cell) (t : Standing) → Shows t shown (result_form r) → ((tag : ℕ) (left right : Handle) → shown ≡ cell.Pair tag left right → ⊥) → ⊥
unfolding result_form
result_pair r cell.Nil t shows none = cc
result_pair r (cell.Number n) t shows none = cc
result_pair r (cell.Pair tag left right) t shows none = none tag left right refl

pub is_pair : (s t : Standing) (handle : ℕ) (r : Result) (shown : Cell) → Stands s handle (result_form r) → Shows t shown (meant s handle) → ((tag : ℕ) (left right : Handle) → shown ≡ cell.Pair tag left right → ⊥) → ⊥
is_pair s t handle r shown stands shows none = result_pair r shown t (subst (Shows t shown) (stands-meant s handle (result_form r) stands) shows) none

height_first : (r : Result) (tag : ℕ) (left right : CellTree) → result_form r ≡ pair tag left right → left ≡ number (pos r.height)
unfolding result_form
height_first r tag left right e = cc

pub height_stands : (s t : Standing) (handle : ℕ) (r : Result) (tag : ℕ) (left right : Handle) → Stands s handle (result_form r) → meant s handle ≡ pair tag (meant t left.0) (meant t right.0)
    → meant t left.0 ≡ number (pos r.height)
height_stands s t handle r tag left right stands is =
    height_first r tag (meant t left.0) (meant t right.0) (sym (stands-meant s handle (result_form r) stands) ∙ is)

number_shown : (n : ℤ) (shown : Cell) (t : Standing) → Shows t shown (number n) → ((m : ℤ) → shown ≡ cell.Number m → ⊥) → ⊥
number_shown n cell.Nil t shows none = cc
number_shown n (cell.Number m) t shows none = none m refl
number_shown n (cell.Pair tag left right) t shows none = let e = shows.2 in absurd (cc)

pub is_number : (t : Standing) (n : ℤ) (c : CellTree) (shown : Cell) → c ≡ number n → Shows t shown c → ((m : ℤ) → shown ≡ cell.Number m → ⊥) → ⊥
is_number t n c shown is shows none = number_shown n shown t (subst (Shows t shown) is shows) none

pub same_number : (m n : ℤ) (c : CellTree) → c ≡ number m → c ≡ number n → m ≡ n
same_number m n c e f = cc

pub not_low : (b : Bool) (height fuel : ℕ) → IsTrue b ↔ (height ≤ fuel) → b ≡ false → fuel < height
not_low b height fuel low e = over (cases_lt fuel height) where
  over : (fuel < height) ⊎ (height ≤ fuel) → fuel < height
  over (inl less) = less
  over (inr above) = absurd (false≢true (sym e ∙ low.1 above))

-- ---- what is remembered and missed

-- a recall that found a result, and one that found none, with a read behind each
pub kept_found : (s t u : Standing) → t.memo ≡ s.memo → t.missed ≡ s.missed → Reads t u → IsKept s u
kept_found s t u memo missed reads = record { memo = reads.memo ∙ memo; missed = reads.missed ∙ missed }

pub missed_one : (s t u : Standing) (handle : ℕ) (c : Call) → Stands s handle (call_form c) → t.memo ≡ s.memo → Misses s t (meant s handle) → Reads t u → IsMissed s u (call_form c)
missed_one s t u handle c stands memo misses reads = record {
  memo = reads.memo ∙ memo;
  misses = record {
    missing = subst (λ cell. Told s.memo (λ pairs. ¬ IsRemembered pairs cell)) (stands-meant s handle (call_form c) stands) misses.missing;
    missed = reads.missed ∙ misses.missed;
  };
}

-- what begins, or has no result, and was not found
pub opens_missed : (s t : Standing) (call : CellTree) (answer : Opened Mark) → ((given : Handle) → ¬ (answer ≡ o.Hit given)) → IsMissed s t call
    → Opens (λ _. IsKept s t) (λ _. IsMissed s t call) (t.memo ≡ s.memo) answer
opens_missed s t call (o.Hit given) no_hit missed = absurd (no_hit given refl)
opens_missed s t call (o.Begun mark) no_hit missed = missed
opens_missed s t call o.Deep no_hit missed = missed.memo

module _ (g : Grammar) (parts : List Partition) where
  -- a call is asked for on while the store's knowledge grows
  pub asks_on : (s t : Standing) (c : Call) (handle : ℕ) → Keeps s t → Asks g parts s c handle → Asks g parts t c handle
  asks_on s t c handle keeps a = record { sound = a.sound; spelled = a.spelled; stands = keeps handle (call_form c) a.stands }

  -- ---- what is remembered

  -- The handle stands for a result of the call, and what the call meets with fuel for just its height is in the store for good.
  pub record IsFound (s : Standing) (c : Call) (handle : ℕ) (r : Result) : Type 0 where
    pub is_result : plain_visit g parts r.height c ≡ Some r
    pub spelled : IsSpelledResult r
    pub stands : Stands s handle (result_form r)
    pub reached : Told s.seen (IsWithin (cells_of (reach g parts r.height c)))
    pub spelled_call : IsSpelledCall c
    pub remembered : HasPair s.memo c r

  pub found_on : (s t : Standing) (c : Call) (handle : ℕ) (r : Result) → Lasts s t → t.memo ≡ s.memo → IsFound s c handle r → IsFound t c handle r
  found_on s t c handle r lasts memo f = record {
    is_result = f.is_result;
    spelled = f.spelled;
    stands = lasts.known handle (result_form r) f.stands;
    reached = told-lasts s.seen t.seen (cells_of (reach g parts r.height c)) lasts.seen f.reached;
    spelled_call = f.spelled_call;
    remembered = pair_on s.memo t.memo c r memo f.remembered;
  }

  -- it is what the call gives with each fuel that is no lower
  pub found_gives : (s : Standing) (c : Call) (handle : ℕ) (r : Result) (fuel : ℕ) → IsFound s c handle r → r.height ≤ fuel → Gives g parts s fuel c handle
  found_gives s c handle r fuel f low = record {
    outcome = r;
    is_result = hit g parts c r f.is_result fuel low;
    spelled = f.spelled;
    stands = f.stands;
    reached = subst (λ ms. Told s.seen (IsWithin (cells_of ms))) (sym (hit_reach g parts c r f.is_result fuel low)) f.reached;
    spelled_call = f.spelled_call;
    remembered = f.remembered;
  }

  pub found_high : (s : Standing) (c : Call) (handle : ℕ) (r : Result) (fuel : ℕ) → IsFound s c handle r → fuel < r.height → plain_visit g parts fuel c ≡ None
  found_high s c handle r fuel f high = too_high g parts c r f.is_result fuel high

  -- ---- a body at its start

  pub starts : (s : Standing) (frame : List Val) (fuel : ℕ) (c : Call) (mark : Mark) → Asks g parts s c mark.call.0 → mark.at ≡ 0 → mark.height ≡ 0 → Begins g parts s frame c mark.body
      → Runs g parts s frame fuel c mark
  unfolding cells_of
  starts s frame fuel c mark asks first flat b = record {
    asks = asks;
    run = at_start g parts b.production b.kids c;
    met = [];
    point = subst (λ n. Point g parts fuel c mark.body.production (at_start g parts b.production b.kids c) n mark.height []) (sym first)
        (subst (λ n. Point g parts fuel c mark.body.production (at_start g parts b.production b.kids c) 0 n []) (sym flat)
        (begins g parts fuel c mark.body.production b.production b.kids (asks.sound b.production (member_slice g.prods mark.body.production b.production b.runs.there)) b.tree b.runs.there b.visited));
    visit = b.visit;
    runs = b.runs;
    seen = told-none s.seen;
    made = made_none g parts s.memo;
    low = omega (arith, flat);
  }

-- What a store finds for a call, of a meaning that is that of these visits, is a result of the call.
module _ (g : Grammar) (parts : Partitions) (h : Grammar) (found : Partitions) (same_grammar : h ≡ g) (same_parts : found ≡ parts) where
  remembered : (s t : Standing) (c : Call) (call handle : ℕ) → t.memo ≡ s.memo → Asks g parts.sorts s c call → Finds (Allows g parts.sorts) (reached_by g parts.sorts) s t (meant s call) (meant t handle) handle
      → (r : Result) × IsFound g parts.sorts t c handle r
  remembered s t c call handle memo asks f =
      let a = f.allowed in
      let r = a.result in
      let same = calls-injective a.asked c a.spelled_call asks.spelled (sym a.is_call ∙ stands-meant s call (call_form c) asks.stands) in (
        r,
        record {
          is_result = subst (λ d. plain_visit g parts.sorts r.height d ≡ Some r) same a.is_result;
          spelled = a.spelled_result;
          stands = f.tells.stands ∙ ap Some a.is_outcome;
          reached = subst (λ cells. Told t.seen (IsWithin cells))
              (reached_is g parts.sorts (meant s call) (meant t handle) a ∙ ap (λ d. cells_of (reach g parts.sorts r.height d)) same)
              f.reached;
          spelled_call = asks.spelled;
          remembered = pair_on s.memo t.memo c r memo (pair_is s.memo (meant s call) (meant t handle) c r (stands-meant s call (call_form c) asks.stands) a.is_outcome f.remembered);
        },
      )

  pub found_result : (s t : Standing) (c : Call) (call handle : ℕ) → t.memo ≡ s.memo → Asks g parts.sorts s c call → Finds (Allows h found.sorts) (reached_by h found.sorts) s t (meant s call) (meant t handle) handle
      → (r : Result) × IsFound g parts.sorts t c handle r
  found_result s t c call handle memo asks f =
      remembered s t c call handle memo asks
      (subst (λ k. Finds (Allows k parts.sorts) (reached_by k parts.sorts) s t (meant s call) (meant t handle) handle) same_grammar
      (subst (λ (ps : Partitions). Finds (Allows h ps.sorts) (reached_by h ps.sorts) s t (meant s call) (meant t handle) handle) same_parts f))
