-- A whole copy: where a part stands at the first place, each end of it answers as a put of that part does.
use Rattle.std.proofs.Common.{◌≡◌, ℕ, List, Some, None, Result, Ok, Err, IsErrAnd, refl, sym, ap, ◌∙◌, subst}
use Rattle.std.proofs.lemmas.Option.{same_Some}
use Rattle.lrc_meaning.specs.Tree.{Tree, at_place, replaced}
use Rattle.lrc_visit_meaning.specs.Values.{root_call}
use Rattle.lrc_visit_meaning.specs.Visits.{plain_visit}
use Rattle.lrc_store.specs.Cells.{CellTree}
use Rattle.lrc_store.specs.Standing.{Standing}
use Rattle.lrc_store.specs.Words.{Gains, LacksOne, Reads}
use Rattle.lrc_store.specs.declared.cells.Handle.{Handle}
use Rattle.lrc_bodies.specs.Bodies.{HasRoom}
use Rattle.lrc_bodies.specs.Counting.{IsWhole}
use Rattle.lrc_machine.specs.Counts.{CountedIn, Counted}
use Rattle.lrc_machine.specs.Machine.{HasLevels}
use Rattle.lrc_machine.specs.Levels.{slots_of}
use Rattle.lrc_functions.specs.declared.functions.Functions.{Functions}
use Rattle.lrc_visit.specs.declared.visits.VisitFault.{VisitFault}
use Rattle.lrc_visit.specs.declared.visits.VisitFault.TheVariants as visit
use Rattle.lrc_session.specs.declared.session.Session.{Session}
use Rattle.lrc_session.specs.declared.fault.EditFault.{EditFault}
use Rattle.lrc_session.specs.declared.fault.EditFault.TheVariants as edit
use Rattle.lrc_session.specs.Faults.{edit_fault}
use Rattle.lrc_session.specs.Sessions.{grammar, sorts, demands, IsCalled, Opens}
use Rattle.lrc_session.specs.Proposals.{IsRootAsked, IsRootGiven}
use Rattle.lrc_session.specs.Copying.{ProposesCopy, proposes_nothing, proposes_part, Copies, copies_nothing, copies_part}
use Rattle.lrc_session.proofs.FaultLemmas.{is_fault}
use Rattle.lrc_session.proofs.SessionLemmas.{visited_frames}
use Rattle.lrc_session.proofs.EditLemmas.{changed, refused, asked, unvisited, asked_on, edited}

-- a count between two stores, where the memo and the misses were the same before and are the same after
counted_between : (is_met : CellTree → Type 0) (s t u v : Standing) → t.memo ≡ s.memo → t.missed ≡ s.missed → v.memo ≡ u.memo → v.missed ≡ u.missed → Counted t u is_met → Counted s v is_met
counted_between is_met s t u v memo missed memo_after missed_after h =
    subst (λ m. CountedIn is_met m v.memo s.missed v.missed) memo
    (subst (λ m. CountedIn is_met t.memo m s.missed v.missed) (sym memo_after)
    (subst (λ n. CountedIn is_met t.memo u.memo n v.missed) missed
    (subst (λ n. CountedIn is_met t.memo u.memo t.missed n) (sym missed_after) h)))

module _ (functions : Functions) (s t : Standing) (whole : Tree) (vs : List Tree) (before mid : Session) (from to : List ℕ) where
  -- the first half was refused
  pub copy_refused : (fault : EditFault) (answer : Result (Unit {0}) EditFault) → IsErrAnd answer (λ e. e ≡ fault) → ProposesCopy functions s t whole vs before mid from to (Err fault)
      → Copies functions s t whole vs before mid from to answer
  copy_refused fault answer is (proposes_nothing was nothing) = let path : fault ≡ edit.BadPath = cc in copies_nothing (is_fault answer fault is ∙ ap Err path) nothing
  copy_refused fault answer is (proposes_part new kind there of_kind first) = copies_part new kind there of_kind (refused functions s t whole vs before mid to new kind fault answer is first)

  -- the root's call of the changed tree was put
  module _ (call : Handle) (u : Standing) (gains : (attempt : Tree) → IsRootAsked functions t attempt call.0 → Gains t u (demands functions mid.depth attempt)) where
    -- the visit has no result
    pub copy_unvisited : (after : Session) → after.tree ≡ mid.tree → after.values ≡ mid.values → after.depth ≡ mid.depth
        → HasLevels (λ frame. HasRoom functions.counts frame.items) (slots_of after.frames.levels) mid.depth → after.frames.stack ≡ mid.frames.stack
        → (fault : VisitFault) (answer : Result (Unit {0}) EditFault) → IsErrAnd answer (λ e. e ≡ edit_fault fault)
        → ((attempt : Tree) → IsRootAsked functions t attempt call.0 → (let visited : Result Handle VisitFault = Err fault in visited ≡ Err visit.Full) → LacksOne u (demands functions mid.depth attempt))
        → ((attempt : Tree) → IsRootAsked functions t attempt call.0 → (let visited : Result Handle VisitFault = Err fault in visited ≡ Err visit.TooDeep)
        → plain_visit (grammar functions) (sorts functions) mid.depth (root_call attempt) ≡ None)
        → ProposesCopy functions s t whole vs before mid from to (Ok call) → Copies functions s u whole vs before after from to answer
    copy_unvisited after tree values depth levels stack fault answer is full deep (proposes_nothing was nothing) = absurd (cc)
    copy_unvisited after tree values depth levels stack fault answer is full deep (proposes_part new kind there of_kind first) =
        let there_now = asked functions s t whole vs before mid to new kind call first in
        let attempt = changed functions s t whole vs before mid to new kind in
        copies_part new kind there of_kind
        (unvisited functions s t whole vs before mid to new kind call first u after (gains attempt there_now) tree values depth
        (visited_frames functions mid.frames after.frames mid.depth levels stack first.is_open.frames) fault answer is (full attempt there_now) (deep attempt there_now))

    -- the session has its result
    pub copy_edited : (v : Standing) (given : ℕ) (done : Unit {0}) (last : Session) → Reads u v → last.depth ≡ mid.depth
        → ((attempt : Tree) → IsRootAsked functions t attempt call.0 → IsRootGiven functions u mid.depth attempt given)
        → ((attempt : Tree) → IsRootAsked functions u attempt call.0 → IsRootGiven functions u mid.depth attempt given → Opens functions v mid.depth attempt last)
        → ProposesCopy functions s t whole vs before mid from to (Ok call) → Copies functions s v whole vs before last from to (Ok done)
    copy_edited v given done last reads depth gives settles (proposes_nothing was nothing) = absurd (cc)
    copy_edited v given done last reads depth gives settles (proposes_part new kind there of_kind first) =
        let there_now = asked functions s t whole vs before mid to new kind call first in
        let attempt = changed functions s t whole vs before mid to new kind in
        let later = asked_on functions s t whole vs before mid to new kind call first u mid (gains attempt there_now) refl refl refl first.is_open.frames in
        copies_part new kind there of_kind
        (edited functions s t whole vs before mid to new kind call first u mid (gains attempt there_now) v done last reads depth (settles attempt later (gives attempt there_now)))

  -- what a visit remembers and misses is counted from the start of the copy to its end
  pub copy_counted : (call : Handle) (u v : Standing) (new : Tree) → Reads u v → at_place whole from ≡ Some new → IsWhole (grammar functions) (sorts functions) s.memo
      → ((attempt : Tree) → IsRootAsked functions t attempt call.0 → IsWhole (grammar functions) (sorts functions) t.memo → Counted t u (IsCalled functions mid.depth attempt))
      → ProposesCopy functions s t whole vs before mid from to (Ok call) → Counted s v (IsCalled functions before.depth (replaced whole to new))
  copy_counted call u v new reads there is_whole visited (proposes_nothing was nothing) = absurd (cc)
  copy_counted call u v new reads there is_whole visited (proposes_part own kind at of_kind first) =
      let same : own ≡ new = same_Some own new (sym at ∙ there) in
      let counted = visited (replaced whole to own) (asked functions s t whole vs before mid to own kind call first)
      (subst (IsWhole (grammar functions) (sorts functions)) (sym first.adds.memo) is_whole) in
      counted_between (IsCalled functions before.depth (replaced whole to new)) s t u v first.adds.memo first.adds.missed reads.memo reads.missed
      (subst (λ w. Counted t u (IsCalled functions before.depth (replaced whole to w))) same (subst (λ n. Counted t u (IsCalled functions n (replaced whole to own))) first.depth counted))
