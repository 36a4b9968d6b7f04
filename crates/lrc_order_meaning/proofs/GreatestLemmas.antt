-- Which attributes the greatest set has: over a transitive relation one look at each attribute tells.
use Rattle.std.proofs.Common.{◌≡◌, ℕ, zero, suc, ◌<◌, Bool, true, false, List, [], ◌∷◌, Option, Some, None, All, Contains, slice_get, length, ◌⊎◌, inl, inr, refl, sym, ap, ◌∙◌, subst, arith}
use Rattle.std.proofs.lemmas.Bool.{cases_eq, true≢false}
use Rattle.std.proofs.lemmas.Option.{none-some, same_Some, slice_get_within}
use Rattle.std.proofs.lemmas.List.Elements.{All-nil, All-cons, All-contains, All-weaker}
use Rattle.lrc_base.specs.declared.grammar.Attr.{Attr}
use Rattle.lrc_base.specs.declared.grammar.Given.{Given}
use Rattle.lrc_meaning.specs.Grammar.{Grammar, attrs_of_sort}
use Rattle.lrc_graph.specs.Pairs.{Pairs, Has, HasExactly, IsTransitive, paired}
use Rattle.lrc_order_meaning.specs.Induced.{Induced}
use Rattle.lrc_order_meaning.specs.Sets.{is_of_inherited, HasTurn, InGreatest}
use Rattle.lrc_order_meaning.specs.Laws.{HasItsTurn}

-- the numbers below n with a property that is decided
abbrev pub add : (P : ℕ → Type 0) (n : ℕ) → List ℕ → P n ⊎ (¬ P n) → List ℕ
add P n rest (inl h) = n ∷ rest
add P n rest (inr h) = rest

abbrev pub collect : (P : ℕ → Type 0) → ((x : ℕ) → P x ⊎ (¬ P x)) → ℕ → List ℕ
collect P decide zero = []
collect P decide (suc n) = add P n (collect P decide n) (decide n)

all_added : (P : ℕ → Type 0) (n : ℕ) (rest : List ℕ) (d : P n ⊎ (¬ P n)) → All P rest → All P (add P n rest d)
all_added P n rest (inl h) all = All-cons P n rest h all
all_added P n rest (inr h) all = all

pub all_collected : (P : ℕ → Type 0) (decide : (x : ℕ) → P x ⊎ (¬ P x)) (n : ℕ) → All P (collect P decide n)
all_collected P decide zero = All-nil P
all_collected P decide (suc n) = all_added P n (collect P decide n) (decide n) (all_collected P decide n)

member_added : (P : ℕ → Type 0) (n x : ℕ) (rest : List ℕ) (d : P n ⊎ (¬ P n)) → (x < n → Contains rest x) → x < suc n → P x → Contains (add P n rest d) x
member_added P n x rest (inl h) earlier small has =
    elim (cases_eq x n) [
      | inl e ↦ (0, omega arith, sym e)
      | inr ne ↦ let m = earlier (omega arith) in let l = m.1 in (suc m.0, omega arith, m.2)
    ]
member_added P n x rest (inr h) earlier small has =
    elim (cases_eq x n) [
      | inl e ↦ absurd (h (subst P e has))
      | inr ne ↦ earlier (omega arith)
    ]

pub member_collected : (P : ℕ → Type 0) (decide : (x : ℕ) → P x ⊎ (¬ P x)) (n x : ℕ) → x < n → P x → Contains (collect P decide n) x
member_collected P decide zero x small has = absurd (omega arith)
member_collected P decide (suc n) x small has =
    member_added P n x (collect P decide n) (decide n) (λ l. member_collected P decide n x l has) small has

same_truth : (a b : Bool) → (a ≡ b) ⊎ (¬ (a ≡ b))
same_truth true true = inl refl
same_truth true false = inr true≢false
same_truth false true = inr (λ e. true≢false (sym e))
same_truth false false = inl refl

module _ (g : Grammar) (s k : ℕ) where
  turn_over : (x : ℕ) (found : Option Attr) → slice_get (attrs_of_sort g.sorts s) x ≡ found → HasTurn g s k x ⊎ (¬ HasTurn g s k x)
  turn_over x None e = inr (λ h. none-some h.attr (sym e ∙ h.is_there))
  turn_over x (Some attr) e =
      elim (same_truth attr.inherited (is_of_inherited k)) [
        | inl same ↦ inl (record { attr = attr; is_there = e; direction = same })
        | inr other ↦ inr (λ h. other (ap (λ (a : Attr). a.inherited) (same_Some attr h.attr (sym e ∙ h.is_there)) ∙ h.direction))
      ]

  pub decide_turn : (x : ℕ) → HasTurn g s k x ⊎ (¬ HasTurn g s k x)
  decide_turn x = turn_over x (slice_get (attrs_of_sort g.sorts s) x) refl

  -- an attribute with a turn is one of the sort
  pub turn_within : (x : ℕ) → HasTurn g s k x → x < length (attrs_of_sort g.sorts s)
  turn_within x h = slice_get_within (attrs_of_sort g.sorts s) x h.attr h.is_there

pub decide_pair : (r : Pairs) (x y : ℕ) (b : Bool) → paired r x y ≡ b → Has r x y ⊎ (¬ Has r x y)
decide_pair r x y true e = inl e
decide_pair r x y false e = inr (λ h. true≢false (sym h ∙ e))

module _ (g : Grammar) (given : List Given) (s k : ℕ) (Earlier : ℕ → Type 0) where
  pub greatest_turn : (a : ℕ) → InGreatest g given s k Earlier a → HasItsTurn g given s k Earlier a
  greatest_turn a h = record {
    turn = All-contains (HasTurn g s k) h.set a h.can_stand.turn h.member;
    after = λ b p.
        elim (h.can_stand.closed a b h.member p) [
          | inl e ↦ inl e
          | inr m ↦ inr (All-contains (HasTurn g s k) h.set b h.can_stand.turn m)
        ];
  }

  module _ (r : Pairs) (exact : HasExactly r (Induced g given s)) (whole : IsTransitive (Induced g given s)) (a : ℕ) where
    -- the attribute and what must come after it, where it has the turn
    record Follows (x : ℕ) : Type 0 where
      turn : HasTurn g s k x
      after : (x ≡ a) ⊎ Has r a x

    follows_over : (x : ℕ) → HasTurn g s k x ⊎ (¬ HasTurn g s k x) → (x ≡ a) ⊎ (¬ (x ≡ a)) → Has r a x ⊎ (¬ Has r a x) → Follows x ⊎ (¬ Follows x)
    follows_over x (inr no_turn) same pair = inr (λ f. no_turn f.turn)
    follows_over x (inl turn) (inl e) pair = inl (record { turn = turn; after = inl e })
    follows_over x (inl turn) (inr ne) (inl p) = inl (record { turn = turn; after = inr p })
    follows_over x (inl turn) (inr ne) (inr q) = inr (λ f. elim f.after [ inl e ↦ ne e | inr p ↦ q p ])

    decide_follows : (x : ℕ) → Follows x ⊎ (¬ Follows x)
    decide_follows x = follows_over x (decide_turn g s k x) (cases_eq x a) (decide_pair r a x (paired r a x) refl)

    abbrev count : ℕ
    count = length (attrs_of_sort g.sorts s)

    -- so one look at what comes after an attribute tells whether it is in the greatest set
    pub turn_greatest : HasItsTurn g given s k Earlier a → InGreatest g given s k Earlier a
    turn_greatest h = record {
      set = collect Follows decide_follows count;
      can_stand = record {
        turn = All-weaker Follows (HasTurn g s k) (λ x f. f.turn) (collect Follows decide_follows count) (all_collected Follows decide_follows count);
        closed = λ x y m p.
            let f = All-contains Follows (collect Follows decide_follows count) x (all_collected Follows decide_follows count) m in
            let from_a : Induced g given s a y =
            elim f.after [ inl e ↦ subst (λ z. Induced g given s z y) e p | inr q ↦ whole a x y ((exact a x).0 q) p ] in
            elim (h.after y from_a) [
              | inl e ↦ inl e
              | inr turn ↦
                  inr (member_collected Follows decide_follows count y (turn_within g s k y turn)
                  (record { turn = turn; after = inr ((exact a y).1 from_a) }))
            ];
      };
      member = member_collected Follows decide_follows count a (turn_within g s k a h.turn) (record { turn = h.turn; after = inl refl });
    }
