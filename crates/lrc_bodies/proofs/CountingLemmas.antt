-- What is remembered of the calls that a body made so far, and that a memo stays whole where a body ends.
use Rattle.std.proofs.Common.{◌≡◌, ◌⊎◌, inl, inr, ℕ, ◌+◌, List, [], ◌∷◌, ◌++◌, map, Option, Some, None, Contains, sym, ap, ◌∙◌, subst, arith}
use Rattle.std.specs.Option.{option_map_or}
use Rattle.std.proofs.lemmas.Option.{same_Some}
use Rattle.std.proofs.lemmas.List.Elements.{Contains-append_cases}
use Rattle.lrc_base.specs.declared.grammar.Equation.{Equation}
use Rattle.lrc_meaning.specs.Tree.{Tree}
use Rattle.lrc_meaning.specs.Grammar.{Grammar}
use Rattle.lrc_order_meaning.specs.declared.Partition.{Partition}
use Rattle.lrc_order_meaning.proofs.MemberLemmas.{member_cases, no_member}
use Rattle.lrc_visit_meaning.specs.Values.{Call, Result}
use Rattle.lrc_visit_meaning.specs.Visits.{leaf_in, equation_of, values_in, plain_visit}
use Rattle.lrc_visit_meaning.specs.Demand.{Met, called, answered, built, equation_met, reach}
use Rattle.lrc_store.specs.Cells.{CellTree}
use Rattle.lrc_store.specs.Standing.{IsRemembered, Told}
use Rattle.lrc_store.specs.Words.{Remembers}
use Rattle.lrc_laws.proofs.FuelLemmas.{visit_bounded, visit_same}
use Rattle.lrc_laws.proofs.SameReachLemmas.{reach_same}
use Rattle.lrc_call_meaning.specs.Forms.{call_form, result_form}
use Rattle.lrc_call_meaning.specs.Spelled.{IsSpelledCall}
use Rattle.lrc_call_meaning.proofs.DecodingLemmas.{calls-injective}
use Rattle.lrc_cell_laws.proofs.NestedLemmas.{same_called}
use Rattle.lrc_frames.specs.Frames.{Run}
use Rattle.lrc_machine.specs.Counts.{Pairs, KeepsPairs}
use Rattle.lrc_machine.proofs.CountLemmas.{gained_keeps, gained_pair, gained_there}
use Rattle.lrc_bodies.specs.Points.{evaluation_met}
use Rattle.lrc_bodies.specs.Counting.{MeetsCall, IsWhole, IsWholeIn, IsMade, AreMade}

-- the pair is in the memo, where that is told
abbrev pub HasPair : Option Pairs → Call → Result → Type 0
HasPair memo c r = Told memo (λ pairs. Contains pairs (call_form c, result_form r))

pub has_pair : (before after : Option Pairs) (c : Call) (r : Result) → Remembers before after (call_form c) (result_form r) → HasPair after c r
has_pair None None c r h = tt
has_pair (Some old) (Some new) c r h = gained_there old new (call_form c) (result_form r) h
has_pair None (Some new) c r h = absurd h
has_pair (Some old) None c r h = absurd h

pub pair_on : (before after : Option Pairs) (c : Call) (r : Result) → after ≡ before → HasPair before c r → HasPair after c r
pair_on before after c r same h = subst (λ memo. HasPair memo c r) (sym same) h

pub pair_is : (memo : Option Pairs) (call outcome : CellTree) (c : Call) (r : Result) → call ≡ call_form c → outcome ≡ result_form r → Told memo (λ pairs. Contains pairs (call, outcome)) → HasPair memo c r
pair_is memo call outcome c r is_call is_outcome h =
    subst (λ o. Told memo (λ pairs. Contains pairs (call_form c, o))) is_outcome
    (subst (λ d. Told memo (λ pairs. Contains pairs (d, outcome))) is_call h)

pub remembers_is : (before old after : Option Pairs) (call outcome : CellTree) (c : Call) (r : Result) → old ≡ before → call ≡ call_form c → outcome ≡ result_form r → Remembers old after call outcome
    → Remembers before after (call_form c) (result_form r)
remembers_is before old after call outcome c r same is_call is_outcome h =
    subst (λ memo. Remembers memo after (call_form c) (result_form r)) same
    (subst (λ o. Remembers old after (call_form c) o) is_outcome
    (subst (λ d. Remembers old after d outcome) is_call h))

-- at the end what was met are the call, what its body met and its result
pub calls_at_end : (c : Call) (met : List Met) (r : Result) (d : Call) → Contains (called c ∷ (met ++ answered r ∷ [])) (called d) → (c ≡ d) ⊎ Contains met (called d)
calls_at_end c met r d h =
    elim (member_cases (called c) (met ++ answered r ∷ []) (called d) h) [
      | inl e ↦ inl (same_called c d e)
      | inr behind ↦
          elim (Contains-append_cases met (answered r ∷ []) (called d) behind) [
            | inl k ↦ inr k
            | inr last ↦
                elim (member_cases (answered r) [] (called d) last) [ inl e ↦ cc | inr more ↦ absurd (no_member (called d) more) ]
          ]
    ]

-- an evaluation makes no call
no_call_built : (ts : List Tree) (d : Call) → Contains (map built ts) (called d) → ⊥
no_call_built [] d h = no_member (called d) h
no_call_built (t ∷ ts) d h = elim (member_cases (built t) (map built ts) (called d) h) [ inl e ↦ cc | inr k ↦ no_call_built ts d k ]

module _ (g : Grammar) (parts : List Partition) where
  no_call_evaluated : (r : Run) (found : Option Equation) (d : Call)
      → Contains (option_map_or (equation_met g (values_in g r.production r.held) (leaf_in r.production.kids r.kids)) found []) (called d) → ⊥
  no_call_evaluated r None d h = no_member (called d) h
  no_call_evaluated r (Some e) d h = no_call_built _ d h

  -- ---- the calls that were made so far

  pub made_none : (memo : Option Pairs) → Told memo (AreMade g parts [])
  made_none None = tt
  made_none (Some pairs) = λ d h. absurd (no_member (called d) h)

  pub made_evaluating : (memo : Option Pairs) (met : List Met) (r : Run) (o : ℕ) → Told memo (AreMade g parts met) → Told memo (AreMade g parts (met ++ evaluation_met g parts r o))
  made_evaluating None met r o h = tt
  made_evaluating (Some pairs) met r o h = λ d there.
      elim (Contains-append_cases met (evaluation_met g parts r o) (called d) there) [
        | inl k ↦ h d k
        | inr k ↦ absurd (no_call_evaluated r (equation_of r.production o) d k)
      ]

  pub made_visiting : (memo : Option Pairs) (met : List Met) (fuel : ℕ) (c : Call) (r : Result) → IsSpelledCall c → plain_visit g parts fuel c ≡ Some r → HasPair memo c r → Told memo (AreMade g parts met)
      → Told memo (AreMade g parts (met ++ reach g parts fuel c))
  made_visiting None met fuel c r spelled is pair h = tt
  made_visiting (Some pairs) met fuel c r spelled is pair h = λ d there.
      elim (Contains-append_cases met (reach g parts fuel c) (called d) there) [
        | inl k ↦ h d k
        | inr k ↦ record {
          call = c;
          result = r;
          spelled = spelled;
          is_result = visit_same g parts fuel r.height c r is (omega arith);
          remembered = pair;
          makes = subst (λ ms. Contains ms (called d)) (reach_same g parts fuel r.height c r is (omega arith)) k;
        }
      ]

  made_still : (before after : Pairs) (d : Call) → ((call outcome : CellTree) → Contains before (call, outcome) → Contains after (call, outcome)) → IsMade g parts before d → IsMade g parts after d
  made_still before after d keeps m = record {
    call = m.call;
    result = m.result;
    spelled = m.spelled;
    is_result = m.is_result;
    remembered = keeps (call_form m.call) (result_form m.result) m.remembered;
    makes = m.makes;
  }

  pub made_on : (before after : Option Pairs) (met : List Met) → KeepsPairs before after → Told before (AreMade g parts met) → Told after (AreMade g parts met)
  made_on None None met keeps h = tt
  made_on (Some old) (Some new) met keeps h = λ d there. made_still old new d keeps (h d there)
  made_on None (Some new) met keeps h = absurd keeps
  made_on (Some old) None met keeps h = absurd keeps

  -- ---- whole memos

  -- in a whole memo, with a call those are remembered that its visit makes
  pub whole_sure : (memo : Option Pairs) (fuel : ℕ) (c : Call) (r : Result) → IsSpelledCall c → plain_visit g parts fuel c ≡ Some r → HasPair memo c r → IsWhole g parts memo
      → (d : Call) → MeetsCall g parts fuel c d → Told memo (λ pairs. IsRemembered pairs (call_form d))
  whole_sure None fuel c r spelled is pair whole d meets = tt
  whole_sure (Some pairs) fuel c r spelled is pair whole d meets =
      whole c r pair spelled (visit_same g parts fuel r.height c r is (omega arith)) d (subst (λ ms. Contains ms (called d)) (reach_same g parts fuel r.height c r is (omega arith)) meets)

  one_result : (fuel : ℕ) (c : Call) (r : Result) (d : Call) (q : Result) → c ≡ d → plain_visit g parts fuel c ≡ Some r → plain_visit g parts q.height d ≡ Some q → r ≡ q
  one_result fuel c r d q same is other =
      let high = fuel + q.height in
      let low = visit_bounded g parts fuel c r is in
      same_Some r q
      (sym (visit_same g parts fuel high c r is (omega (arith, low)))
      ∙ ap (plain_visit g parts high) same
      ∙ visit_same g parts q.height high d q other (omega arith))

  -- A whole memo that gains a call with its result, where all that its visit made is made by remembered calls, is whole.
  module _ (before after : Pairs) (fuel : ℕ) (c : Call) (r : Result) (met : List Met) (spelled : IsSpelledCall c) (is : plain_visit g parts fuel c ≡ Some r)
      (all : (d : Call) → MeetsCall g parts fuel c d → (c ≡ d) ⊎ Contains met (called d)) (gains : Remembers (Some before) (Some after) (call_form c) (result_form r)) (made : AreMade g parts met before) (whole : IsWholeIn g parts before) where
    still : (cell : CellTree) → IsRemembered before cell → IsRemembered after cell
    still cell (other, there) = (other, gained_keeps before after (call_form c) (result_form r) gains cell other there)

    own_made : (d : Call) → MeetsCall g parts fuel c d → IsRemembered after (call_form d)
    own_made d meets =
        elim (all d meets) [
          | inl same ↦ subst (λ e. IsRemembered after (call_form e)) same (result_form r, gained_there before after (call_form c) (result_form r) gains)
          | inr there ↦
              let m = made d there in
              still (call_form d) (whole m.call m.result m.remembered m.spelled m.is_result d m.makes)
        ]

    stays_whole : IsWholeIn g parts after
    stays_whole e q there spelled_other is_other d meets =
        elim (gained_pair before after (call_form c) (result_form r) gains (call_form e) (result_form q) there) [
          | inl old ↦ still (call_form d) (whole e q old spelled_other is_other d meets)
          | inr same ↦
              let same_call = calls-injective c e spelled spelled_other same.0 in
              let same_result = one_result fuel c r e q same_call is is_other in
              own_made d
              (subst (λ ms. Contains ms (called d)) (sym (reach_same g parts fuel r.height c r is (omega arith)))
              (subst (λ (h : Result). MeetsCall g parts h.height c d) (sym same_result)
              (subst (λ a. MeetsCall g parts q.height a d) (sym same_call) meets)))
        ]

  pub whole_ended : (before after : Option Pairs) (fuel : ℕ) (c : Call) (r : Result) (met : List Met) → IsSpelledCall c → plain_visit g parts fuel c ≡ Some r
      → ((d : Call) → MeetsCall g parts fuel c d → (c ≡ d) ⊎ Contains met (called d)) → Remembers before after (call_form c) (result_form r) → Told before (AreMade g parts met) → IsWhole g parts before → IsWhole g parts after
  whole_ended None None fuel c r met spelled is all gains made whole = tt
  whole_ended (Some old) (Some new) fuel c r met spelled is all gains made whole = stays_whole old new fuel c r met spelled is all gains made whole
  whole_ended None (Some new) fuel c r met spelled is all gains made whole = absurd gains
  whole_ended (Some old) None fuel c r met spelled is all gains made whole = absurd gains

  pub whole_on : (before after : Option Pairs) → after ≡ before → IsWhole g parts before → IsWhole g parts after
  whole_on before after same whole = subst (IsWhole g parts) (sym same) whole
