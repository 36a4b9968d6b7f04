-- A sort has few visits for its attributes: no set of attributes is empty, but perhaps the first, and a visit has two.
use Rattle.std.proofs.Common.{◌≡◌, ℕ, zero, suc, ◌+◌, ◌-◌, ◌*◌, ◌<◌, ◌≤◌, ◌⊎◌, inl, inr, List, [], ◌++◌, map, length, Contains, sym, ap, ◌∙◌, subst, arith}
use Rattle.std.specs.Option.{option_map_or}
use Rattle.std.specs.List.{range_with_len}
use Rattle.std.proofs.Math.Bool.{not-not}
use Rattle.std.proofs.lemmas.Bool.{cases_lt, cases_eq}
use Rattle.std.proofs.lemmas.Cmp.{nat_eq_equiv}
use Rattle.std.proofs.lemmas.List.{length-map}
use Rattle.std.proofs.lemmas.List.FromFn.{length-range_with_len}
use Rattle.std.proofs.lemmas.List.Elements.{All-nil, All-append, All-weaker, Contains-append_left, Contains-append_right, Contains-append_cases}
use Rattle.std.proofs.lemmas.Map.Steps.{le-length_from_below}
use Rattle.std.proofs.lemmas.Map.Views.{list_any-from_Contains}
use Rattle.lrc_base.specs.declared.grammar.Given.{Given}
use Rattle.lrc_meaning.specs.Grammar.{Grammar, attrs_of_sort}
use Rattle.lrc_order_meaning.specs.declared.Partition.{Partition}
use Rattle.lrc_order_meaning.specs.Sets.{is_of_inherited, HasTurn, CanStand, InGreatest, Placed, InSet, IsVisits}
use Rattle.lrc_order_meaning.specs.Ordered.{Partitions, HasOrder}
use Rattle.lrc_order_meaning.proofs.SetLemmas.{placed-later}
use Rattle.lrc_order_meaning.proofs.TurnLemmas.{look_below, placed_within}
use Rattle.lrc_order_meaning.proofs.MemberLemmas.{member_map, member_range, no_member}
use Rattle.lrc_plan_meaning.specs.Items.{visits_of}
use Rattle.lrc_plan_meaning.proofs.ExtendedLemmas.{partition_of}
use Rattle.lrc_ordered.proofs.PartitionLemmas.{one_set}

module _ (g : Grammar) (given : List Given) (s : ℕ) where
  abbrev count : ℕ
  count = length (attrs_of_sort g.sorts s)

  -- the set before the one before has the same direction
  turn_back : (k a : ℕ) → HasTurn g s (suc (suc k)) a → HasTurn g s k a
  turn_back k a h = record { attr = h.attr; is_there = h.is_there; direction = h.direction ∙ not-not (is_of_inherited k) }

  -- what can stand behind the same earlier ones can stand together
  stand_together : (k : ℕ) (Earlier : ℕ → Type 0) (one other : List ℕ) → CanStand g given s k Earlier one → CanStand g given s k Earlier other → CanStand g given s k Earlier (one ++ other)
  stand_together k Earlier one other h i = record {
    turn = All-append (HasTurn g s k) one other h.turn i.turn;
    closed = λ a b c pair.
        elim (Contains-append_cases one other a c) [
          | inl l ↦ elim (h.closed a b l pair) [ inl e ↦ inl e | inr m ↦ inr (Contains-append_left one other b m) ]
          | inr r ↦ elim (i.closed a b r pair) [ inl e ↦ inl e | inr m ↦ inr (Contains-append_right one other b m) ]
        ];
  }

  -- all of the first n attributes that are in set k + 1 can stand there together
  record StandTogether (k n : ℕ) : Type 0 where
    set : List ℕ
    can_stand : CanStand g given s (suc k) (Placed g given s k) set
    has : (a : ℕ) → a < n → InSet g given s (suc k) a → Contains set a

  -- a member of set k + 1 is in the greatest that can stand there
  in_greatest : (k a : ℕ) → InSet g given s (suc k) a → InGreatest g given s (suc k) (Placed g given s k) a
  in_greatest k a h = elim h.0 [ inl early ↦ absurd (h.1 k (omega arith) early) | inr great ↦ great ]

  module _ (set_of : (a : ℕ) → a < count → (k : ℕ) × InSet g given s k a) where
    decide_placed : (k a : ℕ) → Placed g given s k a ⊎ (¬ Placed g given s k a)
    decide_placed k a =
        elim (cases_lt a count) [
          | inr above ↦ inr (λ h. let within = placed_within g given s k a h in absurd (omega (arith, within, above)))
          | inl less ↦
              let at = set_of a less in
              elim (cases_lt k at.0) [ inl early ↦ inr (at.1.1 k early) | inr late ↦ inl (placed-later g given s at.0 k a late at.1.0) ]
        ]

    decide_set : (k a : ℕ) → InSet g given s k a ⊎ (¬ InSet g given s k a)
    decide_set k a =
        elim (cases_lt a count) [
          | inr above ↦ inr (λ h. let within = placed_within g given s k a h.0 in absurd (omega (arith, within, above)))
          | inl less ↦
              let at = set_of a less in
              elim (cases_eq at.0 k) [ inl e ↦ inl (subst (λ n. InSet g given s n a) e at.1) | inr ne ↦ inr (λ h. let e = one_set g given s a at.0 k at.1 h in absurd (omega (arith, e, ne))) ]
        ]

    -- what is placed by set k + 1 is in it, or was placed before
    placed_there : (k a : ℕ) → Placed g given s (suc k) a → Placed g given s k a ⊎ InSet g given s (suc k) a
    placed_there k a h =
        let at = set_of a (placed_within g given s (suc k) a h) in
        elim (cases_lt k at.0) [
          | inr late ↦ inl (placed-later g given s at.0 k a late at.1.0)
          | inl early ↦
              elim (cases_lt (suc k) at.0) [
                | inl above ↦ absurd (at.1.1 (suc k) above h)
                | inr within ↦ let e : at.0 ≡ suc k = omega (arith, early, within) in inr (subst (λ n. InSet g given s n a) e at.1)
              ]
        ]

    one_more : (k n : ℕ) → InSet g given s (suc k) n ⊎ (¬ InSet g given s (suc k) n) → StandTogether k n → StandTogether k (suc n)
    one_more k n (inl in_set) rest =
        let great = in_greatest k n in_set in
        record {
          set = great.set ++ rest.set;
          can_stand = stand_together (suc k) (Placed g given s k) great.set rest.set great.can_stand rest.can_stand;
          has = λ a less h.
              elim (cases_eq a n) [
                | inl e ↦ Contains-append_left great.set rest.set a (subst (Contains great.set) (sym e) great.member)
                | inr ne ↦ Contains-append_right great.set rest.set a (rest.has a (omega (arith, less, ne)) h)
              ];
        }
    one_more k n (inr other) rest = record {
      set = rest.set;
      can_stand = rest.can_stand;
      has = λ a less h. elim (cases_eq a n) [ inl e ↦ absurd (other (subst (InSet g given s (suc k)) e h)) | inr ne ↦ rest.has a (omega (arith, less, ne)) h ];
    }

    all_of_set : (k n : ℕ) → StandTogether k n
    all_of_set k zero = record {
      set = [];
      can_stand = record { turn = All-nil (HasTurn g s (suc k)); closed = λ a b c pair. absurd (no_member a c) };
      has = λ a less h. absurd (omega (arith, less));
    }
    all_of_set k (suc n) = one_more k n (decide_set (suc k) n) (all_of_set k n)

    -- what follows an empty set could have stood before it
    none_follows : (k a : ℕ) → ((b : ℕ) → b < count → ¬ InSet g given s (suc (suc k)) b) → InGreatest g given s (suc (suc (suc k))) (Placed g given s (suc (suc k))) a → Placed g given s (suc k) a
    none_follows k a empty great =
        let before = all_of_set k count in
        inr (record {
          set = great.set ++ before.set;
          can_stand = record {
            turn =
                All-append (HasTurn g s (suc k)) great.set before.set
                (All-weaker (HasTurn g s (suc (suc (suc k)))) (HasTurn g s (suc k)) (λ b. turn_back (suc k) b) great.set great.can_stand.turn) before.can_stand.turn;
            closed = λ x y c pair.
                elim (Contains-append_cases great.set before.set x c) [
                  | inr r ↦ elim (before.can_stand.closed x y r pair) [ inl e ↦ inl e | inr m ↦ inr (Contains-append_right great.set before.set y m) ]
                  | inl l ↦
                      elim (great.can_stand.closed x y l pair) [
                        | inr m ↦ inr (Contains-append_left great.set before.set y m)
                        | inl placed ↦
                            let within = placed_within g given s (suc (suc k)) y placed in
                            elim (placed_there (suc k) y placed) [
                              | inr never ↦ absurd (empty y within never)
                              | inl earlier ↦
                                  elim (placed_there k y earlier) [ inl e ↦ inl e | inr there ↦ inr (Contains-append_right great.set before.set y (before.has y within there)) ]
                            ]
                      ]
                ];
          };
          member = Contains-append_left great.set before.set a great.member;
        })

    -- a set below one with a member has a member, but perhaps the first
    below_one : (k a : ℕ) → InSet g given s (suc (suc (suc k))) a → (b : ℕ) × InSet g given s (suc (suc k)) b
    below_one k a h =
        elim (look_below (InSet g given s (suc (suc k))) (decide_set (suc (suc k))) count) [
          | inl w ↦ (w.0, w.2)
          | inr empty ↦ absurd (h.1 (suc k) (omega arith) (none_follows k a empty (in_greatest (suc (suc k)) a h)))
        ]

    pub each_below : (m a j : ℕ) → InSet g given s m a → 2 ≤ j → j ≤ m → (b : ℕ) × InSet g given s j b
    each_below zero a j h low high = absurd h.0
    each_below (suc zero) a j h low high = absurd (omega (arith, low, high))
    each_below (suc (suc zero)) a j h low high = let at : 2 ≡ j = omega (arith, low, high) in (a, subst (λ n. InSet g given s n a) at h)
    each_below (suc (suc (suc k))) a j h low high =
        elim (cases_eq j (suc (suc (suc k)))) [
          | inl e ↦ (a, subst (λ n. InSet g given s n a) (sym e) h)
          | inr ne ↦ let next = below_one k a h in each_below (suc (suc k)) next.0 j next.1 low (omega (arith, high, ne))
        ]

    -- the number of an attribute's set, counted from 2
    abbrev number_over : (a : ℕ) → (a < count) ⊎ (count ≤ a) → ℕ
    number_over a (inl less) = (set_of a less).0 - 2
    number_over a (inr above) = 0

    abbrev number : ℕ → ℕ
    number a = number_over a (cases_lt a count)

    number_is : (j a : ℕ) (c : (a < count) ⊎ (count ≤ a)) → InSet g given s j a → number_over a c ≡ j - 2
    number_is j a (inl less) h = ap (λ k. k - 2) (one_set g given s a (set_of a less).0 j (set_of a less).1 h)
    number_is j a (inr above) h = let within = placed_within g given s j a h.0 in absurd (omega (arith, within, above))

    -- so there are as many attributes as sets from the second to any with a member
    pub sets_counted : (m a : ℕ) → InSet g given s m a → m ≤ count + 1
    sets_counted m a h =
        let numbers = map number (range_with_len 0 count) in
        let has : (q : ℕ) → q < m - 1 → Contains numbers q =
        λ q less.
        let member = each_below m a (q + 2) h (omega arith) (omega (arith, less)) in
        let within = placed_within g given s (q + 2) member.0 member.1.0 in
        let is = number_is (q + 2) member.0 (cases_lt member.0 count) member.1 in
        let at : number member.0 ≡ q = omega (arith, is) in
        subst (Contains numbers) at (member_map number (range_with_len 0 count) member.0 (member_range 0 count member.0 (omega arith) (omega (arith, within)))) in
        let long = le-length_from_below numbers (m - 1) (λ q less. list_any-from_Contains nat_eq_equiv q numbers (has q less)) in
        let all : length numbers ≡ count = length-map (range_with_len 0 count) number ∙ length-range_with_len 0 count in
        omega (arith, long, all)

    -- with one visit less not all attributes would be taken and given
    pub visits_few : (n : ℕ) → IsVisits g given s n → 2 * n ≤ count + 2
    visits_few zero h = omega arith
    visits_few (suc zero) h = omega arith
    visits_few (suc (suc m)) h =
        elim (look_below (λ a. ¬ Placed g given s (2 * suc m) a) decide_late count) [
          | inr none ↦
              absurd (h.1 (suc m) (omega arith)
              (record { some = omega arith; all = λ a less. elim (decide_placed (2 * suc m) a) [ inl placed ↦ placed | inr later ↦ absurd (none a less later) ] }))
          | inl w ↦
              let at = set_of w.0 w.1 in
              elim (cases_lt (2 * suc m) at.0) [
                | inr early ↦ absurd (w.2 (placed-later g given s at.0 (2 * suc m) w.0 early at.1.0))
                | inl late ↦ let most = sets_counted at.0 w.0 at.1 in omega (arith, late, most)
              ]
        ]
      where
        decide_late : (a : ℕ) → (¬ Placed g given s (2 * suc m) a) ⊎ (¬ (¬ Placed g given s (2 * suc m) a))
        decide_late a = elim (decide_placed (2 * suc m) a) [ inl placed ↦ inr (λ later. later placed) | inr later ↦ inl later ]

pub few_visits : (g : Grammar) (found : Partitions) → HasOrder g found → (s : ℕ) → s < length g.sorts → 2 * visits_of found.sorts s ≤ length (attrs_of_sort g.sorts s) + 2
few_visits g found order s less =
    let at = partition_of g found order.partitions order.given s less in
    let partition = at.2 in
    let set_of : (a : ℕ) → a < length (attrs_of_sort g.sorts s) → (k : ℕ) × InSet g found.given s k a =
    λ a within.
    let of = partition.visit_of a (subst (λ n. a < n) (sym partition.attributes) within) in (of.set, of.in_set) in
    let visits : visits_of found.sorts s ≡ at.0.visits = ap (λ o. option_map_or (λ (q : Partition). q.visits) o 0) at.1 in
    let few = visits_few g found.given s set_of at.0.visits partition.visits in
    omega (arith, visits, few)
