use Rattle.std.proofs.Common.{◌≡◌, List, All, inl, sym, ap, subst, ◌∙◌, length, get_or, IsTrue, Contains, ◌⊎◌, ◌↔◌}
use Rattle.std.specs.Prelude.{remove}
use Rattle.lrc_plan_meaning.specs.declared.Bound.{Bound}
use Rattle.lrc_plan_meaning.specs.Sequences.{State}
use Rattle.lrc_plan.specs.declared.waiting.Waiting.{Waiting}
use Rattle.lrc_plan.specs.ItemSets.{holds, HasRoom}
use Rattle.lrc_plan.specs.Running.{IsLeft, StandsFor}
use Rattle.lrc_plan.proofs.ReadyLemmas.{makes_room, left_same, left_behind, none_more, after, after_greedy, after_stands}
use Rattle.lrc_plan.proofs.greedy.segment.Goals as goal

pub insert_all-requires : goal.insert_all-requires
insert_all-requires c =
    let vs = c.first_ready.new.left.items in
    let i = c.in-Some.index in
    let w = c.remove-waiting.result in
    let first = c.in-Some.ensures.first in
    let room = makes_room c.actions.available c.actions.left.items vs i w c.actions.invariant.left c.first_ready.ensures.same first.there in
    let made : c.as_slice.result.now ≡ (get_or vs i w).step.makes = c.as_slice.ensures ∙ ap (λ (x : Waiting). x.step.makes) c.remove-waiting.ensures.value in
    subst (λ (xs : List Bound). All (HasRoom c.actions.available) xs) (sym made) room

pub actions-preserved : goal.actions-preserved
actions-preserved c =
    let ws = c.actions.left.items in
    let vs = c.first_ready.new.left.items in
    let i = c.in-Some.index in
    let w = c.remove-waiting.result in
    let f = c.actions.available in
    let g = c.insert_all.new.self in
    let first = c.in-Some.ensures.first in
    let same = c.first_ready.ensures.same in
    let rest : c.remove-waiting.new.self.items ≡ remove vs i = c.remove-waiting.ensures.items in
    let made : (x : Bound) → IsTrue (holds g x) ↔ (IsTrue (holds f x) ⊎ Contains w.step.makes x) =
    λ x. subst (λ (xs : List Bound). IsTrue (holds g x) ↔ (IsTrue (holds f x) ⊎ Contains xs x)) c.as_slice.ensures (c.insert_all.ensures.items x) in
    record {
      left = subst (λ (xs : List Waiting). IsLeft g xs) (sym rest)
          (left_behind f g ws vs i c.actions.invariant.left c.first_ready.ensures.checked same first.there
          (λ x h. (c.insert_all.ensures.items x).1 (inl h)) c.insert_all.ensures.room);
      room = λ x h. c.insert_all.ensures.room x (c.actions.invariant.room x h);
      steps = λ sorts parts p s starts.
          let t = c.actions.invariant.steps sorts parts p s starts in
          let now = c.in_ok-push.ensures.ok in (
            after sorts parts p f ws vs c.actions.steps t.0 t.1 same i w first c.remove-waiting.ensures.value,
            subst (λ (xs : List Waiting). StandsFor sorts parts p xs g c.push.new.self (after sorts parts p f ws vs c.actions.steps t.0 t.1 same i w first c.remove-waiting.ensures.value)) (sym rest)
                (after_stands sorts parts p f ws vs c.actions.steps t.0 t.1 same i w first c.remove-waiting.ensures.value g c.push.new.self made now),
            after_greedy sorts parts p f ws vs c.actions.steps t.0 t.1 same i w first c.remove-waiting.ensures.value ∙ t.2,
          );
    }

pub returns-clause-left : goal.returns-clause-left
returns-clause-left c =
    left_same c.actions.available c.actions.left.items c.first_ready.new.left.items c.actions.invariant.left c.first_ready.ensures.checked c.first_ready.ensures.same

pub returns-clause-steps : goal.returns-clause-steps
returns-clause-steps c = λ sorts parts p s starts.
    let f = c.actions.available in
    let ws = c.actions.left.items in
    let vs = c.first_ready.new.left.items in
    let same = c.first_ready.ensures.same in
    let t = c.actions.invariant.steps sorts parts p s starts in
    let end = none_more sorts parts p f ws vs c.actions.steps t.0 t.1 same c.in_default.ensures.first (length t.0.left) in
    subst (λ (u : State). StandsFor sorts parts p vs f c.actions.steps u) (sym end ∙ t.2)
    (record { left_is = same ∙ t.1.left_is; available_is = t.1.available_is; steps_are = t.1.steps_are })
