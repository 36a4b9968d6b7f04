-- No set between two with members is empty, so that their members come in turn.
use Rattle.std.proofs.Common.{◌≡◌, ℕ, zero, suc, ◌+◌, ◌<◌, ◌≤◌, Bool, not, true, false, List, All, length, ◌⊎◌, inl, inr, refl, ◌∙◌, subst, arith}
use Rattle.std.proofs.lemmas.Bool.{cases_eq}
use Rattle.lrc_base.specs.declared.grammar.Given.{Given}
use Rattle.lrc_meaning.specs.Grammar.{Grammar, attrs_of_sort}
use Rattle.lrc_graph.specs.Pairs.{Pairs, Has, HasExactly, paired, Path, step, onward}
use Rattle.lrc_order_meaning.specs.Induced.{Induced}
use Rattle.lrc_order_meaning.specs.Sets.{is_of_inherited, HasTurn, InGreatest, Placed, InSet, Before}
use Rattle.lrc_order_meaning.specs.Ordered.{IsGivenThere}
use Rattle.lrc_order_meaning.proofs.SetLemmas.{placed-later}
use Rattle.lrc_order_meaning.proofs.TransitiveLemmas.{has_place, induced_transitive}
use Rattle.lrc_order_meaning.proofs.GreatestLemmas.{decide_turn, decide_pair, greatest_turn, turn_greatest, turn_within}

-- some number below n has the property, or none has
pub look_below : (P : ℕ → Type 0) → ((x : ℕ) → P x ⊎ (¬ P x)) → (n : ℕ) → ((x : ℕ) × (x < n) × P x) ⊎ ((x : ℕ) → x < n → ¬ P x)
look_below P decide zero = inr (λ x less has. omega arith)
look_below P decide (suc n) =
    elim (decide n) [
      | inl has ↦ inl (n, omega arith, has)
      | inr not_n ↦
          elim (look_below P decide n) [
            | inl w ↦ let less = w.1 in inl (w.0, omega arith, w.2)
            | inr nobody ↦ inr (λ x less has. elim (cases_eq x n) [ inl e ↦ not_n (subst P e has) | inr ne ↦ nobody x (omega arith) has ])
          ]
    ]

module _ (g : Grammar) (given : List Given) (s : ℕ) where
  -- an attribute that is placed is one of the sort
  pub placed_within : (k a : ℕ) → Placed g given s k a → a < length (attrs_of_sort g.sorts s)
  placed_within zero a h = elim h [ ]
  placed_within (suc k) a (inl h) = placed_within k a h
  placed_within (suc k) a (inr h) = turn_within g s (suc k) a (greatest_turn g given s (suc k) (Placed g given s k) a h).turn

  -- the set after the next has the same direction
  turn_again : (k a : ℕ) → HasTurn g s (suc (suc k)) a → HasTurn g s k a
  turn_again k a h = record { attr = h.attr; is_there = h.is_there; direction = h.direction ∙ twice (is_of_inherited k) }
    where
      twice : (b : Bool) → not (not b) ≡ b
      twice true = refl
      twice false = refl

  module _ (r : Pairs) (there : All (IsGivenThere g.sorts) given) (exact : HasExactly r (Induced g given s)) where
    abbrev count : ℕ
    count = length (attrs_of_sort g.sorts s)

    -- an attribute after a that does not stand as set k asks
    record Hinders (k a b : ℕ) : Type 0 where
      pair : Has r a b
      not_earlier : ¬ Placed g given s k b
      no_turn : ¬ HasTurn g s (suc k) b

    hinders_over : (k a b : ℕ) → Has r a b ⊎ (¬ Has r a b) → Placed g given s k b ⊎ (¬ Placed g given s k b) → HasTurn g s (suc k) b ⊎ (¬ HasTurn g s (suc k) b)
        → Hinders k a b ⊎ (¬ Hinders k a b)
    hinders_over k a b (inr none) earlier turn = inr (λ h. none h.pair)
    hinders_over k a b (inl pair) (inl placed) turn = inr (λ h. h.not_earlier placed)
    hinders_over k a b (inl pair) (inr later) (inl turn) = inr (λ h. h.no_turn turn)
    hinders_over k a b (inl pair) (inr later) (inr other) = inl (record { pair = pair; not_earlier = later; no_turn = other })

    no_hindrance : (k a b : ℕ) → (¬ Hinders k a b) → Has r a b → Placed g given s k b ⊎ (¬ Placed g given s k b) → HasTurn g s (suc k) b ⊎ (¬ HasTurn g s (suc k) b)
        → Placed g given s k b ⊎ HasTurn g s (suc k) b
    no_hindrance k a b free pair (inl placed) turn = inl placed
    no_hindrance k a b free pair (inr later) (inl turn) = inr turn
    no_hindrance k a b free pair (inr later) (inr other) = absurd (free (record { pair = pair; not_earlier = later; no_turn = other }))

    module _ (k a : ℕ) (decide : (b : ℕ) → Placed g given s k b ⊎ (¬ Placed g given s k b)) where
      decide_greatest : InGreatest g given s (suc k) (Placed g given s k) a ⊎ (¬ InGreatest g given s (suc k) (Placed g given s k) a)
      decide_greatest =
          elim (decide_turn g s (suc k) a) [
            | inr other ↦ inr (λ h. other (greatest_turn g given s (suc k) (Placed g given s k) a h).turn)
            | inl turn ↦
                elim (look_below (Hinders k a)
                (λ b. hinders_over k a b (decide_pair r a b (paired r a b) refl) (decide b) (decide_turn g s (suc k) b)) count) [
                  | inl w ↦
                      inr (λ h.
                      let b = w.0 in
                      let hinders = w.2 in
                      elim ((greatest_turn g given s (suc k) (Placed g given s k) a h).after b ((exact a b).0 hinders.pair)) [
                        | inl p ↦ hinders.not_earlier p
                        | inr q ↦ hinders.no_turn q
                      ])
                  | inr free ↦
                      inl (turn_greatest g given s (suc k) (Placed g given s k) r exact (induced_transitive g given there s) a
                      (record {
                        turn = turn;
                        after = λ b p.
                            no_hindrance k a b (free b (has_place g given there s a b p).b_in) ((exact a b).1 p) (decide b) (decide_turn g s (suc k) b);
                      }))
                ]
          ]

      decide_next : Placed g given s (suc k) a ⊎ (¬ Placed g given s (suc k) a)
      decide_next =
          elim (decide a) [
            | inl placed ↦ inl (inl placed)
            | inr later ↦
                elim decide_greatest [
                  | inl found ↦ inl (inr found)
                  | inr other ↦ inr (λ h. elim h [ inl p ↦ later p | inr q ↦ other q ])
                ]
          ]

    -- whether an attribute is in one of the first k sets can be found out
    pub decide_placed : (k a : ℕ) → Placed g given s k a ⊎ (¬ Placed g given s k a)
    decide_placed zero a = inr (λ h. h)
    decide_placed (suc k) a = decide_next k a (λ b. decide_placed k b)

    -- newly in set k + 1
    record IsNew (k a : ℕ) : Type 0 where
      now : Placed g given s (suc k) a
      not_before : ¬ Placed g given s k a

    new_over : (k a : ℕ) → Placed g given s (suc k) a ⊎ (¬ Placed g given s (suc k) a) → Placed g given s k a ⊎ (¬ Placed g given s k a) → IsNew k a ⊎ (¬ IsNew k a)
    new_over k a (inr later) before = inr (λ h. later h.now)
    new_over k a (inl placed) (inl before) = inr (λ h. h.not_before before)
    new_over k a (inl placed) (inr not_before) = inl (record { now = placed; not_before = not_before })

    new_in_set : (k a : ℕ) → IsNew k a → InSet g given s (suc k) a
    new_in_set k a h = (h.now, λ n less early. h.not_before (placed-later g given s n k a (omega arith) early))

    old_placed : (k a : ℕ) → (¬ IsNew k a) → Placed g given s (suc k) a → Placed g given s k a ⊎ (¬ Placed g given s k a) → Placed g given s k a
    old_placed k a old placed (inl before) = before
    old_placed k a old placed (inr not_before) = absurd (old (record { now = placed; not_before = not_before }))

    -- behind an empty set none follows, but behind the first
    none_follows : (k a : ℕ) → ((b : ℕ) → b < count → ¬ IsNew (suc k) b) → InSet g given s (suc (suc (suc k))) a → ⊥
    none_follows k a empty h =
        let found : InGreatest g given s (suc (suc (suc k))) (Placed g given s (suc (suc k))) a =
        elim h.0 [ inl p ↦ absurd (h.1 (suc (suc k)) (omega arith) p) | inr q ↦ q ] in
        let look = greatest_turn g given s (suc (suc (suc k))) (Placed g given s (suc (suc k))) a found in
        let early : InGreatest g given s (suc k) (Placed g given s k) a =
        turn_greatest g given s (suc k) (Placed g given s k) r exact (induced_transitive g given there s) a
        (record {
          turn = turn_again (suc k) a look.turn;
          after = λ b p.
              elim (look.after b p) [
                | inr turn ↦ inr (turn_again (suc k) b turn)
                | inl placed ↦
                    elim (old_placed (suc k) b (empty b (has_place g given there s a b p).b_in) placed (decide_placed (suc k) b)) [
                      | inl before ↦ inl before
                      | inr now ↦ inr (greatest_turn g given s (suc k) (Placed g given s k) b now).turn
                    ]
              ];
        }) in
        h.1 (suc k) (omega arith) (inr early)

    has_member : (k a : ℕ) → InSet g given s (suc (suc (suc k))) a → (b : ℕ) × InSet g given s (suc (suc k)) b
    has_member k a h =
        elim (look_below (IsNew (suc k)) (λ b. new_over (suc k) b (decide_placed (suc (suc k)) b) (decide_placed (suc k) b)) count) [
          | inl w ↦ (w.0, new_in_set (suc k) w.0 w.2)
          | inr empty ↦ absurd (none_follows k a empty h)
        ]

    pub none_is_empty : (k a : ℕ) → 2 ≤ k → InSet g given s (k + 1) a → (b : ℕ) × InSet g given s k b
    none_is_empty zero a le h = absurd (omega arith)
    none_is_empty (suc zero) a le h = absurd (omega arith)
    none_is_empty (suc (suc k)) a le h =
        let up : suc (suc k) + 1 ≡ suc (suc (suc k)) = omega arith in
        has_member k a (subst (λ n. InSet g given s n a) up h)

    -- from set k down to set m
    in_turn : (k m a b : ℕ) → m < suc k → InSet g given s (suc k) a → InSet g given s m b → Path (Before g given s) a b
    in_turn k zero a b less one other = absurd (other.0)
    in_turn zero (suc m) a b less one other = absurd (omega arith)
    in_turn (suc k) (suc m) a b less one other =
        elim (cases_eq k m) [
          | inl e ↦ step a b (inr (suc m, subst (λ n. InSet g given s (suc (suc n)) a) e one, other))
          | inr ne ↦
              let up : suc (suc k) ≡ suc k + 1 = omega arith in
              let via = none_is_empty (suc k) a (omega arith) (subst (λ n. InSet g given s n a) up one) in
              onward a via.0 b (inr (suc k, one, via.1)) (in_turn k (suc m) via.0 b (omega arith) via.1 other)
        ]

    pub sets_in_turn : (k m a b : ℕ) → m < k → InSet g given s k a → InSet g given s m b → Path (Before g given s) a b
    sets_in_turn zero m a b less one other = absurd (one.0)
    sets_in_turn (suc k) m a b less one other = in_turn k m a b less one other
