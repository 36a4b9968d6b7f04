-- What an open session keeps while its store goes on, and how a session is opened with what its root's visit gives.
use Rattle.std.proofs.Common.{◌≡◌, ℕ, List, sym, subst, refl, ap, ◌∙◌}
use Rattle.lrc_meaning.specs.Tree.{Tree}
use Rattle.lrc_meaning.specs.Attribution.{Attributes}
use Rattle.lrc_visit_meaning.specs.Values.{root_call}
use Rattle.lrc_store.specs.Standing.{Standing, Stands}
use Rattle.lrc_store.specs.Words.{Keeps, Lasts}
use Rattle.lrc_code.specs.Forms.{tree_cell}
use Rattle.lrc_eval.proofs.CellLemmas.{told-lasts}
use Rattle.lrc_call_meaning.specs.Forms.{values_cell, call_form}
use Rattle.lrc_bodies.specs.Bodies.{HasRoom}
use Rattle.lrc_bodies.specs.declared.frames.Frames.{Frames}
use Rattle.lrc_machine.specs.Machine.{HasLevels}
use Rattle.lrc_machine.specs.Levels.{slots_of}
use Rattle.lrc_functions.specs.declared.functions.Functions.{Functions}
use Rattle.lrc_session.specs.declared.session.Session.{Session}
use Rattle.lrc_session.specs.declared.proposal.Proposal.{Proposal}
use Rattle.lrc_session.specs.Sessions.{grammar, demands, HasFrames, IsOpen, Opens}
use Rattle.lrc_session.specs.Proposals.{IsRootAsked, IsRootGiven, IsProposal}
use Rattle.lrc_session.proofs.RootLemmas.{root_gives}

module _ (functions : Functions) where
  -- frames that a visit or a put went over
  pub same_room : (before after : Frames) (depth : ℕ) → HasLevels (λ frame. HasRoom functions.counts frame.items) (slots_of after.levels) depth → after.stack.room ≡ before.stack.room
      → HasFrames functions before depth → HasFrames functions after depth
  same_room before after depth levels room h = record { levels = levels; stack = room ∙ h.stack }

  pub visited_frames : (before after : Frames) (depth : ℕ) → HasLevels (λ frame. HasRoom functions.counts frame.items) (slots_of after.levels) depth → after.stack ≡ before.stack
      → HasFrames functions before depth → HasFrames functions after depth
  visited_frames before after depth levels stack h = same_room before after depth levels (ap (λ s. s.room) stack) h

  -- a session with the same tree, values and depth is open later too
  pub still_open : (s u : Standing) (t : Tree) (vs : List Tree) (before after : Session) → Keeps s u → after.tree ≡ before.tree → after.values ≡ before.values → after.depth ≡ before.depth
      → HasFrames functions after.frames after.depth → IsOpen functions s before t vs → IsOpen functions u after t vs
  still_open s u t vs before after keeps tree values depth frames h = record {
    fitting = h.fitting;
    spelled = h.spelled;
    tree = subst (λ handle. Stands u handle.0 (tree_cell t)) (sym tree) (keeps before.tree.0 (tree_cell t) h.tree);
    spelled_values = h.spelled_values;
    values = subst (λ handle. Stands u handle.0 (values_cell vs)) (sym values) (keeps before.values.0 (values_cell vs) h.values);
    attributes = λ order. subst (λ n. Attributes (grammar functions) n t vs) (sym depth) (h.attributes order);
    frames = frames;
  }

  pub asked_later : (s u : Standing) (t : Tree) (call : ℕ) → Keeps s u → IsRootAsked functions s t call → IsRootAsked functions u t call
  asked_later s u t call keeps h = record {
    fitting = h.fitting;
    asked = record { spelled = h.asked.spelled; stands = keeps call (call_form (root_call t)) h.asked.stands };
  }

  -- a proposal is one later too, also with other frames
  pub proposed_later : (s u : Standing) (t : Tree) (before after : Proposal) → Keeps s u → after.call ≡ before.call → HasFrames functions after.frames after.depth
      → IsProposal functions s t before → IsProposal functions u t after
  proposed_later s u t before after keeps call frames h = record {
    call = subst (λ handle. IsRootAsked functions u t handle.0) (sym call) (asked_later s u t before.call.0 keeps h.call);
    frames = frames;
  }

  -- a session with the tree of the root's call and the values of its result is open
  pub opened : (s u : Standing) (t : Tree) (call given : ℕ) (session : Session) → Lasts s u → IsRootAsked functions s t call → (gives : IsRootGiven functions s session.depth t given)
      → Stands u session.tree.0 (tree_cell t) → Stands u session.values.0 (values_cell gives.outcome.synthesised) → HasFrames functions session.frames session.depth
      → Opens functions u session.depth t session
  opened s u t call given session lasts asked gives tree values frames = record {
    values = gives.outcome.synthesised;
    is_open = record {
      fitting = asked.fitting;
      spelled = asked.asked.spelled.tree;
      tree = tree;
      spelled_values = gives.spelled.synthesised;
      values = values;
      attributes = root_gives (grammar functions) functions.plan.parts session.depth t gives.outcome asked.fitting gives.is_result;
      frames = frames;
    };
    depth = refl;
    seen = told-lasts s.seen u.seen (demands functions session.depth t) lasts.seen gives.reached;
  }
