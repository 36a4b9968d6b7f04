-- The first half of a put: whatever ends it, the session's tree and its attributes stay, and at most what the changed tree
-- demands is gained.
use Rattle.std.proofs.Common.{◌≡◌, IsTrue, ℕ, List, Result, Ok, Err, IsErrAnd, sym, subst}
use Rattle.lrc_base.specs.declared.grammar.Kind.{Kind}
use Rattle.lrc_base.specs.declared.grammar.Kind.TheVariants as k
use Rattle.lrc_base.specs.declared.grammar.Production.{Production}
use Rattle.lrc_meaning.specs.Tree.{Tree, fits, replaced}
use Rattle.lrc_visit_meaning.specs.Values.{root_call}
use Rattle.lrc_store.specs.Cells.{CellTree, parts as parts_of, IsWithin}
use Rattle.lrc_store.specs.Standing.{Standing, Stands}
use Rattle.lrc_store.specs.Words.{Keeps, Adds}
use Rattle.lrc_store.specs.declared.cells.Handle.{Handle}
use Rattle.lrc_store.specs.declared.stores.Full.{Full}
use Rattle.lrc_store.proofs.Lasting.{adds-then, adds-more, lacks-more}
use Rattle.lrc_code.specs.Forms.{tree_cell}
use Rattle.lrc_code.specs.Building.{Builds}
use Rattle.lrc_call_meaning.specs.Forms.{call_form}
use Rattle.lrc_call_meaning.specs.Spelled.{IsSpelledName, IsSpelled}
use Rattle.lrc_places.specs.Replacing.{IsPlace, Replaces, ReplaceAnswers}
use Rattle.lrc_places.specs.declared.putting.ReplaceFault.{ReplaceFault}
use Rattle.lrc_places.specs.declared.putting.ReplaceFault.TheVariants as place
use Rattle.lrc_places.proofs.PlaceLemmas.{named-replaced}
use Rattle.lrc_places.proofs.DeclaredLemmas.{declared-kind, fits-put}
use Rattle.lrc_bodies.specs.Bodies.{HasRoom}
use Rattle.lrc_machine.specs.Machine.{HasLevels}
use Rattle.lrc_machine.specs.Levels.{slots_of}
use Rattle.lrc_functions.specs.declared.functions.Functions.{Functions}
use Rattle.lrc_session.specs.declared.session.Session.{Session}
use Rattle.lrc_session.specs.declared.fault.EditFault.{EditFault}
use Rattle.lrc_session.specs.declared.fault.EditFault.TheVariants as edit
use Rattle.lrc_session.specs.Faults.{place_fault}
use Rattle.lrc_session.specs.Sessions.{grammar, sorts, demands, IsStartTree, HasFrames, IsOpen}
use Rattle.lrc_session.specs.Proposals.{ProposalAnswers, ProposesPut}
use Rattle.lrc_session.proofs.FaultLemmas.{is_fault}
use Rattle.lrc_session.proofs.RootLemmas.{root_spelled, call_demanded, tree_demanded}
use Rattle.lrc_session.proofs.SessionLemmas.{same_room, still_open}

module _ (functions : Functions) (whole : Tree) (steps : List ℕ) (new : Tree) (kind : Kind) where
  abbrev prods : List Production
  prods = functions.plan.grammar.prods

  abbrev pub changed : Tree
  changed = replaced whole steps new

  -- what replacing answers, where the plan's productions were read
  pub by_plan : (s t : Standing) (limit root : ℕ) (read : List Production) (answer : Result Handle ReplaceFault) → read ≡ prods → IsStartTree functions whole → Stands s root (tree_cell whole)
      → ((w : Tree) (sort : Kind) → IsTrue (fits read w sort) → Stands s root (tree_cell w) → Replaces read s t w steps new kind limit answer) → Replaces prods s t whole steps new kind limit answer
  by_plan s t limit root read answer same fitting stands replaces =
      let start = k.Sort functions.plan.grammar.start in
      subst (λ ps. Replaces ps s t whole steps new kind limit answer) same (replaces whole start (subst (λ ps. IsTrue (fits ps whole start)) (sym same) fitting) stands)

  -- a tree of the start sort with a part of the place's kind is of the start sort
  pub changed_fits : IsStartTree functions whole → IsPlace prods whole steps kind → IsTrue (fits prods new kind) → IsStartTree functions changed
  changed_fits fitting there of_kind =
      let start = k.Sort functions.plan.grammar.start in
      fits-put prods whole new start kind steps fitting (declared-kind prods whole there.old start kind steps fitting there.there there.of_kind) of_kind

  module _ (limit : ℕ) where
    abbrev pub needed : List CellTree
    needed = demands functions limit changed

    pub tree_needed : IsWithin (parts_of (tree_cell changed)) needed
    tree_needed = tree_demanded (grammar functions) (sorts functions) limit changed

    call_needed : IsWithin (parts_of (call_form (root_call changed))) needed
    call_needed = call_demanded (grammar functions) (sorts functions) limit changed

    -- where nothing was replaced
    place_answers : (s t : Standing) (fault : ReplaceFault) → ReplaceAnswers prods s t whole steps new kind limit (Err fault) → ProposalAnswers functions s t limit whole steps new kind (Err (place_fault fault))
    place_answers s t place.BadPath a = a
    place_answers s t place.TooHigh a = a
    place_answers s t place.WrongSort a = a
    place_answers s t place.Full a = (a.0, lacks-more t (parts_of (tree_cell changed)) needed tree_needed a.2)

  module _ (s : Standing) (vs : List Tree) (before after : Session) (h : IsOpen functions s before whole vs) (tree : after.tree ≡ before.tree) (values : after.values ≡ before.values)
      (depth : after.depth ≡ before.depth) (runs : after.runs ≡ before.runs) (levels : after.frames.levels ≡ before.frames.levels)
      (room : after.frames.stack.room ≡ before.frames.stack.room) where
    abbrev limit : ℕ
    limit = before.depth

    same_frames : HasFrames functions after.frames after.depth
    same_frames =
        subst (HasFrames functions after.frames) (sym depth)
        (same_room functions before.frames after.frames before.depth (subst (λ l. HasLevels (λ frame. HasRoom functions.counts frame.items) (slots_of l) before.depth) (sym levels) h.frames.levels) room h.frames)

    pub open_after : (t : Standing) → Keeps s t → IsOpen functions t after whole vs
    open_after t keeps = still_open functions s t whole vs before after keeps tree values depth same_frames h

    -- nothing was replaced
    pub stopped : (t : Standing) (fault : EditFault) (answer : Result Handle EditFault) → IsErrAnd answer (λ e. e ≡ fault) → Adds s t (parts_of (tree_cell changed))
        → ProposalAnswers functions s t limit whole steps new kind (Err fault) → ProposesPut functions s t whole vs before after steps new kind answer
    stopped t fault answer is adds answers = record {
      adds = adds-more s t (parts_of (tree_cell changed)) (needed limit) (tree_needed limit) adds;
      is_open = open_after t adds.gains.lasts.known;
      depth = depth;
      runs = runs;
      answers = subst (ProposalAnswers functions s t limit whole steps new kind) (sym (is_fault answer fault is)) answers;
    }

    -- the place is none for the part, or the store is full
    pub stopped_at_place : (t : Standing) (fault : ReplaceFault) (answer : Result Handle EditFault) → IsErrAnd answer (λ e. e ≡ place_fault fault) → Replaces prods s t whole steps new kind limit (Err fault)
        → ProposesPut functions s t whole vs before after steps new kind answer
    stopped_at_place t fault answer is did = stopped t (place_fault fault) answer is did.adds (place_answers limit s t fault did.answers)

    -- another limit than the session's may have been set for the part
    module _ (t u : Standing) (root : Handle) (high : ℕ) (did : Replaces prods s t whole steps new kind high (Ok root)) where
      pub root_stands : Stands t root.0 (tree_cell changed)
      root_stands = did.answers.2.stands

      adds_both : (answer : Result Handle Full) → Builds t u (call_form (root_call changed)) answer → Adds s u (needed limit)
      adds_both answer built =
          adds-then s t u (needed limit) (adds-more s t (parts_of (tree_cell changed)) (needed limit) (tree_needed limit) did.adds)
          (adds-more t u (parts_of (call_form (root_call changed))) (needed limit) (call_needed limit) built.adds)

      keeps_both : (answer : Result Handle Full) → Builds t u (call_form (root_call changed)) answer → Keeps s u
      keeps_both answer built handle cell stands = built.adds.gains.lasts.known handle cell (did.adds.gains.lasts.known handle cell stands)

      -- the call can't be put
      pub stopped_at_call : (e : Full) (answer : Result Handle EditFault) → IsErrAnd answer (λ f. f ≡ edit.Full) → Builds t u (call_form (root_call changed)) (Err e)
          → ProposesPut functions s u whole vs before after steps new kind answer
      stopped_at_call e answer is built = record {
        adds = adds_both (Err e) built;
        is_open = open_after u (keeps_both (Err e) built);
        depth = depth;
        runs = runs;
        answers =
            subst (ProposalAnswers functions s u limit whole steps new kind) (sym (is_fault answer edit.Full is))
            (did.answers.0, lacks-more u (parts_of (call_form (root_call changed))) (needed limit) (call_needed limit) built.full);
      }

      -- all is there
      pub proposed : (call : Handle) → IsTrue (fits prods new kind) → IsSpelled new → Builds t u (call_form (root_call changed)) (Ok call)
          → ProposesPut functions s u whole vs before after steps new kind (Ok call)
      proposed call of_kind spelled built = record {
        adds = adds_both (Ok call) built;
        is_open = open_after u (keeps_both (Ok call) built);
        depth = depth;
        runs = runs;
        answers = (
          did.answers.0,
          record {
            fitting = changed_fits h.fitting did.answers.0 of_kind;
            asked = record { spelled = root_spelled changed (named-replaced IsSpelledName whole new steps h.spelled spelled); stands = built.ok.stands };
          },
        );
      }
