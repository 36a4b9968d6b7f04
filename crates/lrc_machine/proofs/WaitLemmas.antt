-- What follows for the root where a body waits for a call: levels, what is lacking, what is met; and bodies wait on where
-- their levels stay as they are.
use Rattle.std.proofs.Common.{◌≡◌, ℕ, zero, suc, ◌<◌, ◌≤◌, List, [], ◌∷◌, length, Some, slice_get, slice_set, get_or, Contains, refl, sym, ◌∙◌, subst, arith}
use Rattle.std.proofs.lemmas.Option.{get_or_from_slice_get}
use Rattle.lrc_visit_meaning.specs.Values.{Call}
use Rattle.lrc_store.specs.Cells.{CellTree, IsWithin}
use Rattle.lrc_store.specs.Standing.{Standing, Told, IsRemembered}
use Rattle.lrc_machine.specs.Waits.{whole, over}
use Rattle.lrc_machine.specs.Counts.{IsFresh}
use Rattle.lrc_machine.specs.Machine.{Slots, HaveRoom, Waiting, Awaits}

-- a list of which one place was set
pub set_here : {X : Type 0} (xs : List X) (i : ℕ) (x : X) → i < length xs → slice_get (slice_set xs i x) i ≡ Some x
set_here [] i x less = absurd (omega arith)
set_here (y ∷ ys) zero x less = refl
set_here (y ∷ ys) (suc i) x less = set_here ys i x (omega arith)

pub set_other : {X : Type 0} (xs : List X) (i k : ℕ) (x : X) → i < k → slice_get (slice_set xs i x) k ≡ slice_get xs k
set_other [] i k x less = refl
set_other (y ∷ ys) i zero x less = absurd (omega arith)
set_other (y ∷ ys) zero (suc k) x less = refl
set_other (y ∷ ys) (suc i) (suc k) x less = set_other ys i k x (omega arith)

-- where one frame with room was set, each has room
pub set_room : {Frame : Type 0} (fits : Frame → Type 0) (frames : List Frame) (i : ℕ) (frame : Frame) → fits frame → HaveRoom fits frames → HaveRoom fits (slice_set frames i frame)
set_room fits [] i frame fit rooms n f there = rooms n f there
set_room fits (g ∷ gs) zero frame fit rooms zero f there = let same : frame ≡ f = cc in subst fits same fit
set_room fits (g ∷ gs) zero frame fit rooms (suc n) f there = rooms (suc n) f there
set_room fits (g ∷ gs) (suc i) frame fit rooms zero f there = rooms zero f there
set_room fits (g ∷ gs) (suc i) frame fit rooms (suc n) f there = set_room fits gs i frame fit (λ k h e. rooms (suc k) h e) n f there

-- what stands at a place, and what was read there
pub frame_is : {X : Type 0} (xs : List X) (i : ℕ) (x y : X) → slice_get xs i ≡ Some x → y ≡ get_or xs i y → x ≡ y
frame_is xs i x y there read = sym (read ∙ get_or_from_slice_get xs i x y there)

pub fresh_on : (s t : Standing) (call : CellTree) → t.memo ≡ s.memo → IsFresh s call → IsFresh t call
fresh_on s t call memo fresh = subst (λ pairs. Told pairs (λ ps. ¬ IsRemembered ps call)) (sym memo) fresh

-- two stacks of levels have the same from a level on
pub record SameFrom {Frame Mark : Type 0} (n : ℕ) (old new : Slots Frame Mark) : Type 0 where
  pub frames : (k : ℕ) → n ≤ k → slice_get new.frames k ≡ slice_get old.frames k
  pub marks : (k : ℕ) → n ≤ k → slice_get new.marks k ≡ slice_get old.marks k

module _ {Frame Mark : Type 0} (form : Call → CellTree) (waits : Standing → Frame → ℕ → Call → Mark → Call → Type 0) (fuel : ℕ) (root : Call) where
  pub at_most : (s : Standing) (slots : Slots Frame Mark) (n : ℕ) (c : Call) → Awaits form waits s slots fuel root n c → n ≤ fuel
  at_most s slots n c (whole e f) = omega arith
  at_most s slots n c (over w rest) = let below = w.below in omega arith

  pub is_root : (s : Standing) (slots : Slots Frame Mark) (n : ℕ) (c : Call) → n ≡ fuel → Awaits form waits s slots fuel root n c → c ≡ root
  is_root s slots n c at (whole e f) = f
  is_root s slots n c at (over w rest) = let below = w.below in absurd (omega arith)

  -- from one store and levels to others, along the bodies that wait: each knows something of the one above it
  pub waits_along : (s t : Standing) (old new : Slots Frame Mark) (along : ℕ → Call → Type 0)
      → ((f : Frame) (n : ℕ) (c : Call) (m : Mark) (d : Call) → waits s f n c m d → waits t f n c m d)
      → ((f : Frame) (n : ℕ) (c : Call) (m : Mark) (d : Call) → waits s f n c m d → along n d → IsFresh s (form c) → IsFresh t (form c) × along (suc n) c)
      → (n : ℕ) (c : Call) → along n c → SameFrom n old new → Awaits form waits s old fuel root n c → Awaits form waits t new fuel root n c
  waits_along s t old new along lasts step n c known same (whole e f) = whole e f
  waits_along s t old new along lasts step n c known same (over {c = above} w rest) =
      let next = step w.frame n above w.mark c w.waits_for known w.fresh in
      over
      (record {
        frame = w.frame;
        mark = w.mark;
        has_frame = same.frames n (omega arith) ∙ w.has_frame;
        has_mark = same.marks n (omega arith) ∙ w.has_mark;
        below = w.below;
        waits_for = lasts w.frame n above w.mark c w.waits_for;
        fresh = next.0;
      })
      (waits_along s t old new along lasts step (suc n) above next.1 (record { frames = λ k le. same.frames k (omega arith); marks = λ k le. same.marks k (omega arith) }) rest)

  -- where nothing more is remembered
  pub waits_on : (s t : Standing) (old new : Slots Frame Mark) → ((f : Frame) (n : ℕ) (c : Call) (m : Mark) (d : Call) → waits s f n c m d → waits t f n c m d) → t.memo ≡ s.memo
      → (n : ℕ) (c : Call) → SameFrom n old new → Awaits form waits s old fuel root n c → Awaits form waits t new fuel root n c
  waits_on s t old new lasts memo n c same waiting =
      waits_along s t old new (λ _ _. Unit {0}) lasts (λ f k a m d w known fresh. (fresh_on s t (form a) memo fresh, tt)) n c tt same waiting

  module _ (lacks : ℕ → Call → Type 0)
      (deep : (s : Standing) (f : Frame) (n : ℕ) (c : Call) (m : Mark) (d : Call) → waits s f n c m d → lacks n d → lacks (suc n) c) where
    pub lacks_up : (s : Standing) (slots : Slots Frame Mark) (n : ℕ) (c : Call) → Awaits form waits s slots fuel root n c → lacks n c → lacks fuel root
    lacks_up s slots n c (whole e f) lacking = subst (λ k. lacks k root) e (subst (λ d. lacks n d) f lacking)
    lacks_up s slots n c (over {c = above} w rest) lacking =
        lacks_up s slots (suc n) above rest (deep s w.frame n above w.mark c w.waits_for lacking)

  module _ (meets : ℕ → Call → List CellTree)
      (within : (s : Standing) (f : Frame) (n : ℕ) (c : Call) (m : Mark) (d : Call) → waits s f n c m d → IsWithin (meets n d) (meets (suc n) c)) where
    pub met_up : (s : Standing) (slots : Slots Frame Mark) (n : ℕ) (c : Call) → Awaits form waits s slots fuel root n c → IsWithin (meets n c) (meets fuel root)
    met_up s slots n c (whole e f) cell there = subst (λ k. Contains (meets k root) cell) e (subst (λ d. Contains (meets n d) cell) f there)
    met_up s slots n c (over {c = above} w rest) cell there =
        met_up s slots (suc n) above rest cell (within s w.frame n above w.mark c w.waits_for cell there)

  -- what waits at a level below the root's
  pub waits_at : (s : Standing) (slots : Slots Frame Mark) (n : ℕ) (c : Call) → n < fuel → Awaits form waits s slots fuel root n c
      → (above : Call) × Waiting form waits s slots fuel root n above c × Awaits form waits s slots fuel root (suc n) above
  waits_at s slots n c less (whole e f) = absurd (omega arith)
  waits_at s slots n c less (over {c = above} w rest) = (above, w, rest)

  -- what such a call makes, the root makes
  module _ (calls : ℕ → Call → Call → Type 0)
      (within : (s : Standing) (f : Frame) (n : ℕ) (c : Call) (m : Mark) (d : Call) → waits s f n c m d → (e : Call) → calls n d e → calls (suc n) c e) where
    pub made_up : (s : Standing) (slots : Slots Frame Mark) (n : ℕ) (c : Call) → Awaits form waits s slots fuel root n c → (e : Call) → calls n c e → calls fuel root e
    made_up s slots n c (whole same is) e made = subst (λ k. calls k root e) same (subst (λ d. calls n d e) is made)
    made_up s slots n c (over {c = above} w rest) e made = made_up s slots (suc n) above rest e (within s w.frame n above w.mark c w.waits_for e made)
