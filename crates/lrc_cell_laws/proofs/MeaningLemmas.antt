-- Remembered calls have one result at most, none is nil, and what they reach is closed.
use Rattle.std.proofs.Common.{◌≡◌, ◌≢◌, ℕ, ◌+◌, ◌≤◌, List, [], Contains, Some, refl, sym, ap, ◌∙◌, subst, arith}
use Rattle.std.specs.Option.{option_map_or}
use Rattle.std.proofs.lemmas.Option.{same_Some}
use Rattle.lrc_meaning.specs.Grammar.{Grammar}
use Rattle.lrc_order_meaning.specs.declared.Partition.{Partition}
use Rattle.lrc_visit_meaning.specs.Values.{Call, Result}
use Rattle.lrc_visit_meaning.specs.Visits.{plain_visit}
use Rattle.lrc_visit_meaning.specs.Demand.{reach}
use Rattle.lrc_store.specs.Cells.{CellTree, nil, IsClosed}
use Rattle.lrc_laws.proofs.FuelLemmas.{visit_same}
use Rattle.lrc_call_meaning.specs.Spelled.{HasSpelledLiterals, IsSpelledCall}
use Rattle.lrc_call_meaning.specs.Forms.{call_form, result_form}
use Rattle.lrc_call_meaning.specs.Decoding.{read_result}
use Rattle.lrc_call_meaning.specs.Reached.{cells_of}
use Rattle.lrc_call_meaning.specs.Meaning.{Allows, reached_by}
use Rattle.lrc_call_meaning.proofs.DecodingLemmas.{call-back, result-back}
use Rattle.lrc_cell_laws.proofs.ClosedLemmas.{cells_closed, cells_without_nil}
use Rattle.lrc_cell_laws.proofs.SpelledLemmas.{gives_spelled}

call_not_nil : (c : Call) → nil ≡ call_form c → ⊥
unfolding call_form
call_not_nil c e = cc

result_not_nil : (r : Result) → nil ≡ result_form r → ⊥
unfolding result_form
result_not_nil r e = cc

module _ (g : Grammar) (parts : List Partition) where
  one_result : (c d : Call) (q r : Result) → c ≡ d → plain_visit g parts q.height c ≡ Some q → plain_visit g parts r.height d ≡ Some r → q ≡ r
  one_result c d q r same e f =
      let high = q.height + r.height in
      let one = visit_same g parts q.height high c q e (omega arith) in
      let other = visit_same g parts r.height high d r f (omega arith) in
      same_Some q r (sym one ∙ ap (plain_visit g parts high) same ∙ other)

  pub single : (call one other : CellTree) → Allows g parts call one → Allows g parts call other → one ≡ other
  single call one other a b =
      let same = same_Some a.asked b.asked (sym a.is_read ∙ b.is_read) in
      a.is_outcome ∙ ap result_form (one_result a.asked b.asked a.result b.result same a.is_result b.is_result) ∙ sym b.is_outcome

  pub filled : (call outcome : CellTree) → Allows g parts call outcome → (call ≢ nil) × (outcome ≢ nil)
  filled call outcome a = (λ e. call_not_nil a.asked (sym e ∙ a.is_call), λ e. result_not_nil a.result (sym e ∙ a.is_outcome))

  -- what is read off the cells is what the call meets
  pub reached_is : (call outcome : CellTree) (a : Allows g parts call outcome) → reached_by g parts call outcome ≡ cells_of (reach g parts a.result.height a.asked)
  unfolding reached_by
  reached_is call outcome a =
      ap (λ o. option_map_or (λ c. option_map_or (λ (r : Result). cells_of (reach g parts r.height c)) (read_result outcome) []) o []) a.is_read
      ∙ ap (λ o. option_map_or (λ (r : Result). cells_of (reach g parts r.height a.asked)) o []) (ap read_result a.is_outcome ∙ result-back a.result a.spelled_result)

  pub closed : (call outcome : CellTree) → Allows g parts call outcome → (¬ Contains (reached_by g parts call outcome) nil) × IsClosed (reached_by g parts call outcome)
  closed call outcome a =
      let met = reach g parts a.result.height a.asked in
      let same = reached_is call outcome a in (
        subst (λ (cells : List CellTree). ¬ Contains cells nil) (sym same) (cells_without_nil met),
        subst IsClosed (sym same) (cells_closed met),
      )

  -- what the visit of a spelled call gives may be remembered
  pub allowed : HasSpelledLiterals g → (fuel : ℕ) (c : Call) (r : Result) → IsSpelledCall c → c.visit ≤ 223 → plain_visit g parts fuel c ≡ Some r → Allows g parts (call_form c) (result_form r)
  allowed literals fuel c r h tag e = record {
    asked = c;
    result = r;
    spelled_call = h;
    spelled_result = gives_spelled g parts literals fuel c r h e;
    is_call = refl;
    is_read = call-back c h tag;
    is_outcome = refl;
    is_result = visit_same g parts fuel r.height c r e (omega arith);
  }
