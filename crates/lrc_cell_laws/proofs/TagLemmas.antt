-- The visits of the calls that are met have numbers that fit their tags: a sort has few visits.
use Rattle.std.proofs.Common.{◌≡◌, ℕ, zero, suc, ◌<◌, ◌≤◌, inl, inr, true, List, [], length, Contains, Some, slice_get, sym, ap, subst, arith}
use Rattle.std.specs.Option.{option_map_or}
use Rattle.std.proofs.lemmas.Bool.{cases_lt, and_parts, leb-true}
use Rattle.std.proofs.lemmas.Option.{slice_get-get_or, slice_get_past}
use Rattle.std.proofs.lemmas.List.Elements.{All-contains}
use Rattle.lrc_base.specs.declared.limits.TheConstants.{ATTRIBUTE_LIMIT}
use Rattle.lrc_base.specs.declared.grammar.Sort.{Sort}
use Rattle.lrc_base.specs.declared.grammar.Production.{Production}
use Rattle.lrc_meaning.specs.Tree.{Trees}
use Rattle.lrc_meaning.specs.Grammar.{Grammar, attrs_of_sort}
use Rattle.lrc_meaning.specs.Limits.{IsWithinLimits}
use Rattle.lrc_order_meaning.specs.declared.Partition.{Partition}
use Rattle.lrc_order_meaning.specs.Ordered.{Partitions, HasOrder}
use Rattle.lrc_plan_meaning.specs.declared.Action.{Action}
use Rattle.lrc_plan_meaning.specs.Items.{symbol_at, visits_of}
use Rattle.lrc_plan_meaning.specs.Sequences.{segment}
use Rattle.lrc_plan_meaning.specs.Sound.{IsSound}
use Rattle.lrc_visit_meaning.specs.Values.{Call}
use Rattle.lrc_visit_meaning.specs.Visits.{Held, is_call}
use Rattle.lrc_visit_meaning.specs.Demand.{called, reach}
use Rattle.lrc_order_meaning.proofs.MemberLemmas.{member_slice}
use Rattle.lrc_laws.proofs.FewLemmas.{few_visits}
use Rattle.lrc_laws.proofs.SoundLemmas.{sound_plan}
use Rattle.lrc_cell_laws.specs.Laws.{HasTag}
use Rattle.lrc_cell_laws.proofs.ReachedLemmas.{itself, inner, own, ByAction, made, visits, by_action, reach_none}
use Rattle.lrc_cell_laws.proofs.NestedLemmas.{any_reached, same_called}

-- what has the form of a call visits one of the left side's visits
call_bounds : (g : Grammar) (parts : List Partition) (q : Production) (c : Call) → is_call g parts q c ≡ true → (1 ≤ c.visit) × (c.visit ≤ visits_of parts q.left)
unfolding is_call
call_bounds g parts q c h =
    let both = and_parts _ _ (and_parts _ _ h).0 in
    (leb-true 1 c.visit both.0, leb-true c.visit (visits_of parts q.left) both.1)

module _ (g : Grammar) (found : Partitions) (order : HasOrder g found) (small : IsWithinLimits g) where
  abbrev parts : List Partition
  parts = found.sorts

  few_attrs : (s : ℕ) → s < length g.sorts → length (attrs_of_sort g.sorts s) ≤ ATTRIBUTE_LIMIT
  few_attrs s less =
      let d : Sort = record { name = []; attrs = [] } in
      subst (λ o. length (option_map_or (λ (t : Sort). t.attrs) o []) ≤ ATTRIBUTE_LIMIT) (sym (slice_get-get_or g.sorts s d less)) (small.attrs s d less)

  visits_there : (s : ℕ) → s < length g.sorts → visits_of parts s ≤ 9
  visits_there s less = let few = few_visits g found order s less in let attrs = few_attrs s less in omega (arith, few, attrs)

  no_visits : (s : ℕ) → length g.sorts ≤ s → visits_of parts s ≡ 0
  no_visits s above =
      let past = slice_get_past parts s (let same = order.partitions.sorts in omega (arith, same, above)) in
      ap (λ o. option_map_or (λ (q : Partition). q.visits) o 0) past

  -- no sort has more than nine visits
  pub nine_visits : (s : ℕ) → visits_of parts s ≤ 9
  nine_visits s =
      elim (cases_lt s (length g.sorts)) [ inl less ↦ visits_there s less | inr above ↦ let none = no_visits s above in omega (arith, none) ]

  sound_at : (n : ℕ) (q : Production) → slice_get g.prods n ≡ Some q → IsSound g.sorts parts q
  sound_at n q there = All-contains (IsSound g.sorts parts) g.prods q (sound_plan g found order).sound (member_slice g.prods n q there)

  action_tag : (fuel : ℕ) (c : Call) (q : Production) (kids : Trees) (m : Held) (y : Action) (d : Call) → IsSound g.sorts parts q → is_call g parts q c ≡ true
      → Contains (segment g.sorts parts q c.visit) y → ByAction g parts fuel q kids m (called d) y
      → ((e : Call) → HasTag e → Contains (reach g parts fuel e) (called d) → HasTag d) → HasTag d
  action_tag fuel c q kids m _ d sound is there (made o t e f k same) below = cc
  action_tag fuel c q kids m _ d sound is there (visits s v kind member) below =
      let bounds = call_bounds g parts q c is in
      let made = (sound.complete.visits s v).1 (c.visit, bounds.0, bounds.1, there) in
      let last = made.last in
      let few = nine_visits (symbol_at g.sorts q s).sort in
      below _ (made.first, omega (arith, last, few)) member

  pub reach_tags : (fuel : ℕ) (c : Call) → HasTag c → (d : Call) → Contains (reach g parts fuel c) (called d) → HasTag d
  reach_tags zero c h d member =
      subst (λ (e : Call). HasTag e) (same_called c d (reach_none g parts c (called d) member)) h
  reach_tags (suc fuel) c h d member =
      elim (any_reached g parts fuel c (called d) member) [
        | itself same ↦ subst (λ (e : Call). HasTag e) (same_called c d same) h
        | own r e same ↦ cc
        | inner i ↦
            action_tag fuel c i.production i.kids i.held i.action d (sound_at i.number i.production i.is_there) (and_parts _ _ i.visited).0 i.in_segment
            (by_action g parts fuel i.production i.kids i.held (called d) i.action i.member) (λ e k there. reach_tags fuel e k d there)
      ]
