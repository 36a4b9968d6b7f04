use Rattle.std.proofs.Common.{◌≡◌, ℕ, ◌<◌, false, true, inl, inr, sym, ap, subst, ◌∙◌, length, map, get_or, slice_set, arith, List}
use Rattle.std.proofs.lemmas.Bool.{cases_eq}
use Rattle.std.proofs.lemmas.List.{length-map, length-set}
use Rattle.std.proofs.lemmas.List.Elements.{All-set}
use Rattle.lrc_plan.specs.declared.waiting.Waiting.{Waiting}
use Rattle.lrc_plan.specs.Running.{unchecked, IsChecked, is_ready_in}
use Rattle.lrc_plan.proofs.ReadyLemmas.{set_unchecked, set_not_ready, set_ready}
use Rattle.lrc_plan.proofs.greedy.first_ready.Goals as goal

there_at : (left : List Waiting) (now : List Waiting) (i n : ℕ) → map unchecked now ≡ map unchecked left → n ≡ length left → i < n → i < length now
there_at left now i n same is less =
    let count = ap (length {A = Waiting}) same in
    let one = length-map now unchecked in
    let two = length-map left unchecked in
    omega arith

pub returns-then-is_ready-clause-same : goal.returns-then-is_ready-clause-same
returns-then-is_ready-clause-same c =
    let ws = c.actions.left.items in
    let d = c.index_mut.result.now in
    let was = c.is_ready.ensures.same ∙ ap unchecked c.index_mut.ensures.value in
    let there = there_at c.args.left.now.items ws c.actions.index c.len-index-end.result c.actions.invariant.same (c.len-index-end.ensures ∙ c.args.left.now.ok.0) c.actions-test.true in
    set_unchecked ws c.actions.index c.is_ready.new.waiting d there was ∙ c.actions.invariant.same

pub returns-then-is_ready-clause-first : goal.returns-then-is_ready-clause-first
returns-then-is_ready-clause-first c =
    let f = c.args.available.now in
    let ws = c.actions.left.items in
    let i = c.actions.index in
    let w = c.is_ready.new.waiting in
    let d = c.index_mut.result.now in
    let was = c.is_ready.ensures.same ∙ ap unchecked c.index_mut.ensures.value in
    let there = there_at c.args.left.now.items ws i c.len-index-end.result c.actions.invariant.same (c.len-index-end.ensures ∙ c.args.left.now.ok.0) c.actions-test.true in
    let size = length-set ws i w in
    let ready : is_ready_in f (get_or ws i d) ≡ true =
    sym (ap (is_ready_in f) c.index_mut.ensures.value) ∙ sym c.is_ready.ensures.ready ∙ c.if-is_ready.true in
    record {
      there = omega arith;
      passes = λ e. set_ready f ws i w d there was e true ready;
      earlier = λ k e less. set_not_ready f ws i w d there was k e (λ q. absurd (omega arith)) (c.actions.invariant.earlier k e less);
    }

pub actions-preserved : goal.actions-preserved
actions-preserved c =
    let f = c.args.available.now in
    let ws = c.actions.left.items in
    let i = c.actions.index in
    let w = c.is_ready.new.waiting in
    let d = c.index_mut.result.now in
    let was = c.is_ready.ensures.same ∙ ap unchecked c.index_mut.ensures.value in
    let there = there_at c.args.left.now.items ws i c.len-index-end.result c.actions.invariant.same (c.len-index-end.ensures ∙ c.args.left.now.ok.0) c.actions-test.true in
    let not_ready : is_ready_in f (get_or ws i d) ≡ false =
    sym (ap (is_ready_in f) c.index_mut.ensures.value) ∙ sym c.is_ready.ensures.ready ∙ c.if-is_ready.false in
    record {
      same = set_unchecked ws i w d there was ∙ c.actions.invariant.same;
      checked = All-set (IsChecked f) ws i w c.is_ready.ensures.checked c.actions.invariant.checked;
      earlier = λ k e less.
          elim (cases_eq k i) [
            | inl q ↦ subst (λ n. is_ready_in f (get_or (slice_set ws i w) n e) ≡ false) (sym q) (set_ready f ws i w d there was e false not_ready)
            | inr ne ↦ set_not_ready f ws i w d there was k e ne (c.actions.invariant.earlier k e (omega arith))
          ];
    }
