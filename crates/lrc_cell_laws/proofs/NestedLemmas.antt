-- A call that is met in the visit of a call that has a result is that call or has a lower result; and each result is that
-- of a call that is met.
use Rattle.std.proofs.Common.{◌≡◌, ◌≢◌, ℕ, zero, suc, ◌<◌, ◌≤◌, ◌⊎◌, inl, inr, cond, List, [], Contains, Some, sym, ap, ◌∙◌, subst, arith}
use Rattle.std.specs.Option.{option_map}
use Rattle.std.proofs.lemmas.Option.{same_Some}
use Rattle.lrc_base.specs.declared.grammar.Kind.TheVariants as k
use Rattle.lrc_base.specs.declared.grammar.Production.{Production}
use Rattle.lrc_meaning.specs.Tree.{Tree, Trees}
use Rattle.lrc_meaning.specs.Grammar.{Grammar}
use Rattle.lrc_order_meaning.specs.declared.Partition.{Partition}
use Rattle.lrc_plan_meaning.specs.declared.Action.{Action}
use Rattle.lrc_plan_meaning.specs.Items.{symbol_at}
use Rattle.lrc_visit_meaning.specs.Values.{Call, Result}
use Rattle.lrc_visit_meaning.specs.Visits.{Held, Given, is_of_kind, tree_at, call_of, given_by, step, plain_visit}
use Rattle.lrc_visit_meaning.specs.Demand.{Met, called, answered, built, action_met, reach}
use Rattle.lrc_laws.proofs.FuelLemmas.{mapped, where_true, visit_bounded, visit_same}
use Rattle.lrc_laws.proofs.SameReachLemmas.{reach_same}
use Rattle.lrc_cell_laws.specs.Laws.{IsNested, IsOfCall}
use Rattle.lrc_cell_laws.proofs.ReachedLemmas.{Reached, itself, inner, own, IsInner, reached, call_met, reach_none, ByAction, made, visits, by_action}

abbrev call_in : Call → Met → Call
call_in d (called c) = c
call_in d (answered r) = d
call_in d (built t) = d

abbrev result_in : Result → Met → Result
result_in q (called c) = q
result_in q (answered r) = r
result_in q (built t) = q

pub same_called : (c d : Call) → called c ≡ called d → c ≡ d
same_called c d e = ap (call_in c) e

pub same_answered : (q r : Result) → answered q ≡ answered r → q ≡ r
same_answered q r e = ap (result_in q) e

module _ (g : Grammar) (parts : List Partition) where
  -- nothing is asked of what is held
  abbrev pub Any : Held → Type 0
  Any m = Unit {0}

  pub any_reached : (fuel : ℕ) (c : Call) (x : Met) → Contains (reach g parts (suc fuel) c) x → Reached g parts Any fuel c x
  any_reached fuel c x h = reached g parts Any fuel c x (λ n kids q e f. record { start = tt; keeps = λ m y r k l. tt }) h

  -- x is met in the visit of a call that is made in the visit of c
  record IsThrough (fuel : ℕ) (c : Call) (x : Met) : Type 0 where
    call : Call
    member : Contains (reach g parts fuel call) x
    within : (y : Met) → Contains (reach g parts fuel call) y → Contains (reach g parts (suc fuel) c) y
    lower : (r : Result) → plain_visit g parts (suc fuel) c ≡ Some r → (q : Result) × (plain_visit g parts fuel call ≡ Some q) × (q.height < r.height)

  action_through : (fuel : ℕ) (c : Call) (x : Met) (q : Production) (kids : Trees) (m : Held) (y : Action)
      → ((z : Met) → Contains (action_met g parts (reach g parts fuel) q kids m y) z → Contains (reach g parts (suc fuel) c) z)
      → ((r : Result) → plain_visit g parts (suc fuel) c ≡ Some r → (given : Given) × (step g parts (plain_visit g parts fuel) q kids m y ≡ Some given) × (given.height < r.height))
      → ByAction g parts fuel q kids m x y → ((t : Tree) → built t ≢ x) → IsThrough fuel c x
  action_through fuel c x q kids m _ within lower (made o t e is there same) no_tree = absurd (no_tree t same)
  action_through fuel c x q kids m _ within lower (visits s v kind member) no_tree = record {
    call = call_of g parts q kids m s v;
    member = member;
    within = λ y h.
        within y
        (subst (λ b. Contains (cond b (reach g parts fuel (call_of g parts q kids m s v)) []) y) (sym kind) h);
    lower = λ r e.
        let low = lower r e in
        let inside = where_true (is_of_kind g.prods (tree_at g q kids m s) (k.Sort (symbol_at g.sorts q s).sort)) (option_map given_by (plain_visit g parts fuel (call_of g parts q kids m s v))) low.0 low.1 in
        let found = mapped given_by (plain_visit g parts fuel (call_of g parts q kids m s v)) low.0 inside.1 in
        let less = low.2 in
        (found.0, found.1, subst (λ (h : Given). h.height < r.height) (sym found.2) less);
  }

  through : (fuel : ℕ) (c : Call) (x : Met) → IsInner g parts Any fuel c x → ((t : Tree) → built t ≢ x) → IsThrough fuel c x
  through fuel c x i no_tree =
      action_through fuel c x i.production i.kids i.held i.action i.within i.lower (by_action g parts fuel i.production i.kids i.held x i.action i.member) no_tree

  -- what is nested at less fuel is so at more
  nested_up : (fuel : ℕ) (c : Call) (r : Result) (d : Call) (q : Result) → plain_visit g parts (suc fuel) c ≡ Some r → plain_visit g parts fuel d ≡ Some q → q.height < r.height
      → ((x : Met) → Contains (reach g parts fuel d) x → Contains (reach g parts (suc fuel) c) x) → IsNested g parts (suc fuel) c r d
  nested_up fuel c r d q e f less within =
      let low = visit_bounded g parts fuel d q f in
      let up : q.height ≤ suc fuel = omega (arith, low) in
      let there = visit_same g parts fuel (suc fuel) d q f up in
      record {
        other = λ same.
            let heights : q.height ≡ r.height = ap (λ (s : Result). s.height) (same_Some q r (sym there ∙ ap (plain_visit g parts (suc fuel)) same ∙ e)) in
            absurd (omega (arith, less, heights));
        result = q;
        is_result = there;
        lower = less;
        within = λ x h. within x (subst (λ ms. Contains ms x) (sym (reach_same g parts fuel (suc fuel) d q f up)) h);
      }

  pub nested : (fuel : ℕ) (c : Call) (r : Result) → plain_visit g parts fuel c ≡ Some r → (d : Call) → Contains (reach g parts fuel c) (called d) → (d ≡ c) ⊎ IsNested g parts fuel c r d
  nested zero c r e d h = inl (sym (same_called c d (reach_none g parts c (called d) h)))
  nested (suc fuel) c r e d h =
      elim (any_reached fuel c (called d) h) [
        | itself same ↦ inl (sym (same_called c d same))
        | own q f same ↦ cc
        | inner i ↦
            let via = through fuel c (called d) i (λ t same. cc) in
            let low = via.lower r e in
            let less = low.2 in
            inr (elim (nested fuel via.call low.0 low.1 d via.member) [
              | inl same ↦ subst (λ d. IsNested g parts (suc fuel) c r d) (sym same) (nested_up fuel c r via.call low.0 e low.1 less via.within)
              | inr deep ↦
                  let deeper = deep.lower in
                  nested_up fuel c r d deep.result e deep.is_result (omega (arith, less, deeper)) (λ x k. via.within x (deep.within x k))
            ])
      ]

  pub of_call : (fuel : ℕ) (c : Call) (r : Result) → Contains (reach g parts fuel c) (answered r) → IsOfCall g parts fuel c r
  of_call zero c r h = absurd (let e = reach_none g parts c (answered r) h in cc)
  of_call (suc fuel) c r h =
      elim (any_reached fuel c (answered r) h) [
        | itself same ↦ cc
        | own q e same ↦ record { call = c; is_met = call_met g parts fuel c; is_result = e ∙ ap Some (same_answered q r same) }
        | inner i ↦
            let via = through fuel c (answered r) i (λ t same. cc) in
            let of = of_call fuel via.call r via.member in
            let low = visit_bounded g parts fuel of.call r of.is_result in
            record {
              call = of.call;
              is_met = via.within (called of.call) of.is_met;
              is_result = visit_same g parts fuel (suc fuel) of.call r of.is_result (omega (arith, low));
            }
      ]
