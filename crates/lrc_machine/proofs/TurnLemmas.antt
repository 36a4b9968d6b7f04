-- Each turn of a machine leads to another one, or there is no answer for the root.
use Rattle.std.proofs.Common.{◌≡◌, ℕ, suc, ◌<◌, ◌≤◌, List, length, slice_get, slice_set, Ok, Err, refl, sym, subst, arith}
use Rattle.std.specs.Prelude.{Result, Option}
use Rattle.lrc_visit_meaning.specs.Values.{Call}
use Rattle.lrc_store.specs.Cells.{CellTree, IsWithin}
use Rattle.lrc_store.specs.Standing.{Standing}
use Rattle.lrc_store.specs.Words.{Gains, Lasts, LacksOne}
use Rattle.lrc_store.specs.declared.cells.Handle.{Handle}
use Rattle.lrc_store.proofs.Lasting.{gains-same, gains-more, lacks-more}
use Rattle.std.proofs.lemmas.List.{length-set}
use Rattle.lrc_machine.specs.declared.turns.Step.{Step}
use Rattle.lrc_machine.specs.declared.turns.Step.TheVariants as step
use Rattle.lrc_machine.specs.declared.turns.Turn.{Turn}
use Rattle.lrc_machine.specs.declared.turns.Stop.{Stop}
use Rattle.lrc_machine.specs.declared.turns.Stop.TheVariants as stop
use Rattle.lrc_machine.specs.Waits.{over}
use Rattle.lrc_machine.specs.Counts.{Pairs, KeepsPairs, IsKept, IsMissed, IsGained, IsFresh, IsCellOf, Ticks, keeps, begins, ends}
use Rattle.lrc_machine.specs.Machine.{Slots, Waiting, Awaits, HasLevels, AtTurn, Stops, Turns}
use Rattle.lrc_machine.proofs.WaitLemmas.{set_here, set_other, set_room, fresh_on, SameFrom, at_most, waits_along, waits_on, lacks_up, met_up, waits_at, made_up}
use Rattle.lrc_machine.proofs.CountLemmas.{keeps_same, keeps_gained, fresh_still}

-- a turn that leads on, and one that does not
pub leads_on : {Mark : Type 0} (next : ℕ → Step Mark → Type 0) (ticks : ℕ → Type 0) {levels : Type 0} (is_whole : Option Pairs → Type 0) (s t : Standing) (cells : List CellTree) (lacking : Type 0) (level : ℕ) (then : Step Mark)
    → Gains s t cells → levels → (is_whole s.memo → is_whole t.memo) → ticks level → next level then → Turns next ticks levels is_whole s t cells lacking (Ok (record { level = level; step = then }))
leads_on next ticks is_whole s t cells lacking level then gains kept wholes tick there = record { gains = gains; keeps = kept; wholes = wholes; counts = tick; ok = there; stop = tt }

pub leads_nowhere : {Mark : Type 0} (next : ℕ → Step Mark → Type 0) (ticks : ℕ → Type 0) {levels : Type 0} (is_whole : Option Pairs → Type 0) (s t : Standing) (cells : List CellTree) (lacking : Type 0) (why : Stop)
    → Gains s t cells → levels → (is_whole s.memo → is_whole t.memo) → Stops t cells lacking why → Turns next ticks levels is_whole s t cells lacking (Err why)
leads_nowhere next ticks is_whole s t cells lacking why gains kept wholes there = record { gains = gains; keeps = kept; wholes = wholes; counts = tt; ok = tt; stop = there }

-- where one frame below a level was changed, the levels from that one on are the same
pub frame_below : {Frame Mark : Type 0} (frames : List Frame) (marks : List Mark) (i n : ℕ) (frame : Frame) → i < n
    → SameFrom n (record { frames = frames; marks = marks }) (record { frames = slice_set frames i frame; marks = marks })
frame_below frames marks i n frame less = record { frames = λ k le. set_other frames i k frame (omega arith); marks = λ k le. refl }

pub both_below : {Frame Mark : Type 0} (frames : List Frame) (marks : List Mark) (i n : ℕ) (frame : Frame) (mark : Mark) → i < n
    → SameFrom n (record { frames = frames; marks = marks }) (record { frames = slice_set frames i frame; marks = slice_set marks i mark })
both_below frames marks i n frame mark less =
    record { frames = λ k le. set_other frames i k frame (omega arith); marks = λ k le. set_other marks i k mark (omega arith) }

module _ {Frame Mark : Type 0} (form : Call → CellTree) (asks : Standing → Call → ℕ → Type 0) (gives : Standing → ℕ → Call → ℕ → Type 0)
    (runs : Standing → Frame → ℕ → Call → Mark → Type 0) (waits : Standing → Frame → ℕ → Call → Mark → Call → Type 0)
    (fits : Frame → Type 0) (lacks : ℕ → Call → Type 0) (meets : ℕ → Call → List CellTree)
    (calls : ℕ → Call → Call → Type 0) (is_whole : Option Pairs → Type 0)
    (lasts : (s t : Standing) (f : Frame) (n : ℕ) (c : Call) (m : Mark) (d : Call) → waits s f n c m d → Lasts s t → KeepsPairs s.memo t.memo → waits t f n c m d)
    (deep : (s : Standing) (f : Frame) (n : ℕ) (c : Call) (m : Mark) (d : Call) → waits s f n c m d → lacks n d → lacks (suc n) c)
    (within : (s : Standing) (f : Frame) (n : ℕ) (c : Call) (m : Mark) (d : Call) → waits s f n c m d → IsWithin (meets n d) (meets (suc n) c))
    (fuel : ℕ) (root : Call) (frames : List Frame) (marks : List Mark) where
  abbrev slots : Slots Frame Mark
  slots = record { frames = frames; marks = marks }

  abbrev At : Standing → List Frame → List Mark → ℕ → Step Mark → Type 0
  At s fs ms level next = AtTurn form asks gives runs waits fits s (record { frames = fs; marks = ms }) fuel root level next

  abbrev Tick : Standing → Standing → ℕ → ℕ → Type 0
  Tick s t level next = Ticks (IsCellOf form (calls fuel root)) fuel s t level next

  abbrev Answers : ℕ → Standing → Standing → List Frame → List Mark → Result (Turn Mark) Stop → Type 0
  Answers level s t fs ms answer = Turns (AtTurn form asks gives runs waits fits t (record { frames = fs; marks = ms }) fuel root) (Tick s t level) (HasLevels fits (record { frames = fs; marks = ms }) fuel) is_whole s t (meets fuel root) (lacks fuel root) answer

  wait_on : (s t : Standing) → Lasts s t → t.memo ≡ s.memo → (f : Frame) (n : ℕ) (c : Call) (m : Mark) (d : Call) → waits s f n c m d → waits t f n c m d
  wait_on s t last memo f n c m d w = lasts s t f n c m d w last (keeps_same s.memo t.memo memo)

  whole_on : (s t : Standing) → t.memo ≡ s.memo → is_whole s.memo → is_whole t.memo
  whole_on s t memo w = subst is_whole (sym memo) w

  -- a call at level 0
  pub no_level : (bottom : (c : Call) → lacks 0 c) (s : Standing) (level : ℕ) (inner : Handle) → level ≡ 0 → At s frames marks level (step.Open inner)
      → Answers level s s frames marks (Err stop.Deep)
  no_level bottom s level inner at turn =
      let c = turn.turn.0 in
      leads_nowhere (AtTurn form asks gives runs waits fits s slots fuel root) (Tick s s level) is_whole s s (meets fuel root) (lacks fuel root) stop.Deep (gains-same s (meets fuel root)) turn.levels (λ w. w)
      (lacks_up form waits fuel root lacks deep s slots level c turn.turn.2 (subst (λ n. lacks n c) (sym at) (bottom c)))

  -- a call whose level has one below it is opened
  module _ (s t : Standing) (below level : ℕ) (at : level ≡ suc below) (inner : Handle) (frame : Frame) (fit : fits frame) (turn : At s frames marks level (step.Open inner)) where
    abbrev pub c : Call
    c = turn.turn.0

    there : Awaits form waits s slots fuel root (suc below) c
    there = subst (λ n. Awaits form waits s slots fuel root n c) at turn.turn.2

    room : below < length frames
    room = let le = at_most form waits fuel root s slots (suc below) c there in let has = turn.levels.frames in omega arith

    abbrev pub after : List Frame
    after = slice_set frames below frame

    more : Gains s t (meets (suc below) c) → Gains s t (meets fuel root)
    more gains = gains-more s t (meets (suc below) c) (meets fuel root) (met_up form waits fuel root meets within s slots (suc below) c there) gains

    still : Gains s t (meets (suc below) c) → t.memo ≡ s.memo → Awaits form waits t (record { frames = after; marks = marks }) fuel root (suc below) c
    still gains memo = waits_on form waits fuel root s t slots (record { frames = after; marks = marks }) (wait_on s t gains.lasts memo) memo (suc below) c (frame_below frames marks below (suc below) frame (omega arith)) there

    has_room : fuel ≤ length after
    has_room = let same = length-set frames below frame in let has = turn.levels.frames in omega arith

    levels_after : HasLevels fits (record { frames = after; marks = marks }) fuel
    levels_after = record { frames = has_room; marks = turn.levels.marks; rooms = set_room fits frames below frame fit turn.levels.rooms }

    pub opened_hit : (given : Handle) → Gains s t (meets (suc below) c) → IsKept s t → gives t (suc below) c given.0 → Answers level s t after marks (Ok (record { level = level; step = step.Answer given }))
    opened_hit given gains kept found =
        leads_on (AtTurn form asks gives runs waits fits t (record { frames = after; marks = marks }) fuel root) (Tick s t level) is_whole s t (meets fuel root) (lacks fuel root) level (step.Answer given) (more gains) levels_after
        (whole_on s t kept.memo) (keeps kept refl)
        (record {
          small = turn.small;
          levels = levels_after;
          turn = (c, subst (λ n. gives t n c given.0) (sym at) found, subst (λ n. Awaits form waits t (record { frames = after; marks = marks }) fuel root n c) (sym at) (still gains kept.memo));
        })

    pub opened_begun : (mark : Mark) → Gains s t (meets (suc below) c) → IsMissed s t (form c) → runs t frame below c mark → Answers level s t after marks (Ok (record { level = below; step = step.Go mark }))
    opened_begun mark gains missed begun =
        let le = at_most form waits fuel root s slots (suc below) c there in
        let less : below < fuel = omega arith in
        let misses = missed.misses in
        leads_on (AtTurn form asks gives runs waits fits t (record { frames = after; marks = marks }) fuel root) (Tick s t level) is_whole s t (meets fuel root) (lacks fuel root) below (step.Go mark) (more gains) levels_after
        (whole_on s t missed.memo) (begins missed at less)
        (record {
          small = turn.small;
          levels = levels_after;
          turn = (c, less, record { frame = frame; has_frame = set_here frames below frame room; runs_at = begun; fresh = fresh_on s t (form c) missed.memo misses.missing }, still gains missed.memo);
        })

    pub opened_deep : Gains s t (meets (suc below) c) → t.memo ≡ s.memo → lacks (suc below) c → Answers level s t after marks (Err stop.Deep)
    opened_deep gains memo lacking =
        leads_nowhere (AtTurn form asks gives runs waits fits t (record { frames = after; marks = marks }) fuel root) (Tick s t level) is_whole s t (meets fuel root) (lacks fuel root) stop.Deep (more gains) levels_after (whole_on s t memo)
        (lacks_up form waits fuel root lacks deep s slots (suc below) c there lacking)

  -- a body goes on
  module _ (s t : Standing) (level : ℕ) (mark : Mark) (frame : Frame) (fit : fits frame) (turn : At s frames marks level (step.Go mark)) where
    abbrev pub goes : Call
    goes = turn.turn.0

    waiting : Awaits form waits s slots fuel root (suc level) goes
    waiting = turn.turn.3

    abbrev pub changed : List Frame
    changed = slice_set frames level frame

    within_root : IsWithin (meets (suc level) goes) (meets fuel root)
    within_root = met_up form waits fuel root meets within s slots (suc level) goes waiting

    pub is_there : level < length frames
    is_there = let less = turn.turn.1 in let has = turn.levels.frames in omega arith

    has_frames : fuel ≤ length changed
    has_frames = let same = length-set frames level frame in let has = turn.levels.frames in omega arith

    still_waits : (marks_after : List Mark) → ((k : ℕ) → suc level ≤ k → slice_get marks_after k ≡ slice_get marks k) → Gains s t (meets (suc level) goes) → t.memo ≡ s.memo
        → Awaits form waits t (record { frames = changed; marks = marks_after }) fuel root (suc level) goes
    still_waits marks_after same gains memo =
        waits_on form waits fuel root s t slots (record { frames = changed; marks = marks_after }) (wait_on s t gains.lasts memo) memo (suc level) goes
        (record { frames = λ k le. set_other frames level k frame (omega arith); marks = same }) waiting

    levels_with : (marks_after : List Mark) → fuel ≤ length marks_after → HasLevels fits (record { frames = changed; marks = marks_after }) fuel
    levels_with marks_after has = record { frames = has_frames; marks = has; rooms = set_room fits frames level frame fit turn.levels.rooms }

    levels_changed : HasLevels fits (record { frames = changed; marks = marks }) fuel
    levels_changed = levels_with marks turn.levels.marks

    abbrev Leads : List Mark → ℕ → Step Mark → Type 0
    Leads ms n next = AtTurn form asks gives runs waits fits t (record { frames = changed; marks = ms }) fuel root n next

    still_fresh : t.memo ≡ s.memo → IsFresh t (form goes)
    still_fresh memo = let body = turn.turn.2 in fresh_on s t (form goes) memo body.fresh

    pub went_on : (next : Mark) → Gains s t (meets (suc level) goes) → IsKept s t → runs t frame level goes next → Answers level s t changed marks (Ok (record { level = level; step = step.Go next }))
    went_on next gains kept running =
        leads_on (Leads marks) (Tick s t level) is_whole s t (meets fuel root) (lacks fuel root) level (step.Go next) (gains-more s t (meets (suc level) goes) (meets fuel root) within_root gains) levels_changed
        (whole_on s t kept.memo) (keeps kept refl)
        (record {
          small = turn.small;
          levels = levels_changed;
          turn = (goes, turn.turn.1, record { frame = frame; has_frame = set_here frames level frame is_there; runs_at = running; fresh = still_fresh kept.memo }, still_waits marks (λ k le. refl) gains kept.memo);
        })

    pub asked_for : (stays : Mark) (d : Call) (inner : Handle) → Gains s t (meets (suc level) goes) → IsKept s t → waits t frame level goes stays d → asks t d inner.0
        → Answers level s t changed (slice_set marks level stays) (Ok (record { level = level; step = step.Open inner }))
    asked_for stays d inner gains counts waits_for asked =
        let same = length-set marks level stays in
        let has = turn.levels.marks in
        let less = turn.turn.1 in
        let room : level < length marks = omega arith in
        let kept : fuel ≤ length (slice_set marks level stays) = omega arith in
        leads_on (Leads (slice_set marks level stays)) (Tick s t level) is_whole s t (meets fuel root) (lacks fuel root) level (step.Open inner) (gains-more s t (meets (suc level) goes) (meets fuel root) within_root gains) (levels_with (slice_set marks level stays) kept)
        (whole_on s t counts.memo) (keeps counts refl)
        (record {
          small = turn.small;
          levels = levels_with (slice_set marks level stays) kept;
          turn = (
            d,
            asked,
            over (record {
              frame = frame;
              mark = stays;
              has_frame = set_here frames level frame is_there;
              has_mark = set_here marks level stays room;
              below = less;
              waits_for = waits_for;
              fresh = still_fresh counts.memo;
            }) (still_waits (slice_set marks level stays) (λ k le. set_other marks level k stays (omega arith)) gains counts.memo),
          );
        })

    module _ (height : ℕ → Call → ℕ → Type 0) (own : (n : ℕ) (c : Call) → calls n c c)
        (calls_within : (s : Standing) (f : Frame) (n : ℕ) (c : Call) (m : Mark) (d : Call) → waits s f n c m d → (e : Call) → calls n d e → calls (suc n) c e)
        (one_height : (s : Standing) (n : ℕ) (c : Call) (handle : ℕ) → gives s n c handle → (h : ℕ) × height n c h × ((k : ℕ) → height n c k → h ≡ k))
        (lower : (s : Standing) (f : Frame) (n : ℕ) (c : Call) (m : Mark) (d : Call) → waits s f n c m d → (h : ℕ) → height (suc n) c h → (k : ℕ) × height n d k × (k < h))
        (same_height : (s t : Standing) (f g : Frame) (n k : ℕ) (c : Call) (m : Mark) (d e : Call) (o : Mark) → waits s f n c m d → runs t g k e o → form c ≡ form e → k ≤ n → (h : ℕ) → height (suc k) e h → height (suc n) c h)
        (old : Frame) (running : runs s old level goes mark) (given : Handle) (found : gives t (suc level) goes given.0) (gained : IsGained s t (form goes)) where
      least : (h : ℕ) × height (suc level) goes h × ((k : ℕ) → height (suc level) goes k → h ≡ k)
      least = one_height t (suc level) goes given.0 found

      -- a call that has a result is none of those that wait for it, for they have higher ones or none
      abbrev Above : ℕ → Call → Type 0
      Above n c = (suc level ≤ n) × ((h : ℕ) → height n c h → least.0 ≤ h)

      others : (f : Frame) (n : ℕ) (c : Call) (m : Mark) (d : Call) → waits s f n c m d → Above n d → IsFresh s (form c) → IsFresh t (form c) × Above (suc n) c
      others f n c m d w (above, high) fresh = (
        fresh_still s t (form goes) gained (form c)
            (λ same.
            let k = lower s f n c m d w least.0 (same_height s s f old n level c m d goes mark w running same (omega (arith, above)) least.0 least.1) in
            let less = k.2 in
            let le = high k.0 k.1 in
            omega (arith, less, le))
            fresh,
        (
          omega (arith, above),
          λ h is.
              let k = lower s f n c m d w h is in
              let less = k.2 in
              let le = high k.0 k.1 in
              omega (arith, less, le),
        ),
      )

      waits_still : Gains s t (meets (suc level) goes) → Awaits form waits t (record { frames = changed; marks = marks }) fuel root (suc level) goes
      waits_still gains =
          waits_along form waits fuel root s t slots (record { frames = changed; marks = marks }) Above
          (λ f n c m d w. lasts s t f n c m d w gains.lasts (keeps_gained s.memo t.memo (form goes) gained.outcome gained.remembers)) others (suc level) goes
          (omega arith, λ h is. let same = least.2 h is in omega (arith, same))
          (record { frames = λ k le. set_other frames level k frame (omega arith); marks = λ k le. refl }) waiting

      pub ended_with : (above : ℕ) → above ≡ suc level → Gains s t (meets (suc level) goes) → (is_whole s.memo → is_whole t.memo) → Answers level s t changed marks (Ok (record { level = above; step = step.Answer given }))
      ended_with above at gains wholes =
          let body = turn.turn.2 in
          leads_on (Leads marks) (Tick s t level) is_whole s t (meets fuel root) (lacks fuel root) above (step.Answer given) (gains-more s t (meets (suc level) goes) (meets fuel root) within_root gains) levels_changed
          wholes
          (ends (goes, made_up form waits fuel root calls calls_within s slots (suc level) goes waiting goes (own (suc level) goes), refl) body.fresh gained at turn.turn.1)
          (record {
            small = turn.small;
            levels = levels_changed;
            turn = (goes, subst (λ n. gives t n goes given.0) (sym at) found, subst (λ n. Awaits form waits t (record { frames = changed; marks = marks }) fuel root n goes) (sym at) (waits_still gains));
          })

    pub went_deep : Gains s t (meets (suc level) goes) → (is_whole s.memo → is_whole t.memo) → lacks (suc level) goes → Answers level s t changed marks (Err stop.Deep)
    went_deep gains wholes lacking =
        leads_nowhere (Leads marks) (Tick s t level) is_whole s t (meets fuel root) (lacks fuel root) stop.Deep (gains-more s t (meets (suc level) goes) (meets fuel root) within_root gains) levels_changed wholes
        (lacks_up form waits fuel root lacks deep s slots (suc level) goes waiting lacking)

    pub got_full : Gains s t (meets (suc level) goes) → (is_whole s.memo → is_whole t.memo) → LacksOne t (meets (suc level) goes) → Answers level s t changed marks (Err stop.Full)
    got_full gains wholes lacking =
        leads_nowhere (Leads marks) (Tick s t level) is_whole s t (meets fuel root) (lacks fuel root) stop.Full (gains-more s t (meets (suc level) goes) (meets fuel root) within_root gains) levels_changed wholes
        (lacks-more t (meets (suc level) goes) (meets fuel root) within_root lacking)

  -- a body takes the result for which it waited
  module _ (s t : Standing) (level : ℕ) (given : Handle) (frame : Frame) (fit : fits frame) (turn : At s frames marks level (step.Answer given)) (less : level < fuel) where
    abbrev pub awaited : Call
    awaited = turn.turn.0

    pub waiter : (above : Call) × Waiting form waits s slots fuel root level above awaited × Awaits form waits s slots fuel root (suc level) above
    waiter = waits_at form waits fuel root s slots level awaited less turn.turn.2

    pub resumed_at : (next : Mark) → Gains s t (meets (suc level) waiter.0) → IsKept s t → runs t frame level waiter.0 next
        → Answers level s t (slice_set frames level frame) marks (Ok (record { level = level; step = step.Go next }))
    resumed_at next gains counts running =
        let same = length-set frames level frame in
        let has = turn.levels.frames in
        let kept : fuel ≤ length (slice_set frames level frame) = omega arith in
        let room : level < length frames = omega arith in
        let levels_now : HasLevels fits (record { frames = slice_set frames level frame; marks = marks }) fuel = record { frames = kept; marks = turn.levels.marks; rooms = set_room fits frames level frame fit turn.levels.rooms } in
        let body = waiter.1 in
        leads_on (AtTurn form asks gives runs waits fits t (record { frames = slice_set frames level frame; marks = marks }) fuel root) (Tick s t level) is_whole s t (meets fuel root) (lacks fuel root) level (step.Go next)
        (gains-more s t (meets (suc level) waiter.0) (meets fuel root) (met_up form waits fuel root meets within s slots (suc level) waiter.0 waiter.2) gains) levels_now
        (whole_on s t counts.memo) (keeps counts refl)
        (record {
          small = turn.small;
          levels = levels_now;
          turn = (
            waiter.0,
            less,
            record { frame = frame; has_frame = set_here frames level frame room; runs_at = running; fresh = fresh_on s t (form waiter.0) counts.memo body.fresh },
            waits_on form waits fuel root s t slots (record { frames = slice_set frames level frame; marks = marks }) (wait_on s t gains.lasts counts.memo) counts.memo (suc level) waiter.0 (frame_below frames marks level (suc level) frame (omega arith)) waiter.2,
          );
        })
