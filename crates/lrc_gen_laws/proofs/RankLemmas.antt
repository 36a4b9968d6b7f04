-- A grammar is ordered where the occurrences of each production have ranks, along which all needs and the attributes at
-- each place go up in order of declaration, and each sort declares its inherited attributes first.
use Rattle.std.proofs.Common.{◌≡◌, ℕ, zero, suc, ◌+◌, ◌<◌, Bool, true, false, not, List, [], All, Contains, slice_get, Some, length, inl, inr, refl, sym, ap, ◌∙◌, subst, arith}
use Rattle.std.proofs.lemmas.Bool.{cases_lt, cases_eq}
use Rattle.std.proofs.lemmas.Option.{slice_get_cases}
use Rattle.std.proofs.lemmas.List.Elements.{All-contains, All-weaker}
use Rattle.lrc_base.specs.declared.grammar.Attr.{Attr}
use Rattle.lrc_base.specs.declared.grammar.Production.{Production}
use Rattle.lrc_meaning.specs.Grammar.{Grammar, attrs_of_sort}
use Rattle.lrc_graph.specs.Pairs.{step, onward}
use Rattle.lrc_order_meaning.specs.declared.Place.{Place}
use Rattle.lrc_order_meaning.specs.Needs.{need, needs_of, places_of}
use Rattle.lrc_order_meaning.specs.Induced.{Leads, Induced}
use Rattle.lrc_order_meaning.specs.Sets.{is_of_inherited, HasTurn, Placed, InSet, Before}
use Rattle.lrc_order_meaning.specs.Extended.{Extended, ExtendedPath}
use Rattle.lrc_order_meaning.specs.Ordered.{IsAcyclic, IsOrdered}
use Rattle.lrc_order_meaning.proofs.LeastLemmas.{KeepsRules, leads_least, induced_least}
use Rattle.lrc_order_meaning.proofs.MemberLemmas.{no_member}
use Rattle.lrc_order_meaning.proofs.GreatestLemmas.{collect, all_collected, member_collected, decide_turn, turn_within}

module _ (g : Grammar) where
  -- the ranks of a production's occurrences go up along its needs and along the attributes of each place
  pub record GoesUp (p : Production) (rank : ℕ → ℕ) : Type 0 where
    pub needs : (x y : ℕ) → Contains (needs_of g.sorts p) (need x y) → rank x < rank y
    pub places : (place : Place) (a b : ℕ) → Contains (places_of g.sorts p) place → a < b → b < length (attrs_of_sort g.sorts place.sort)
        → rank (place.start + a) < rank (place.start + b)

  -- there are such ranks
  pub record IsRanked (p : Production) : Type 0 where
    pub rank : ℕ → ℕ
    pub goes_up : GoesUp p rank

  -- each sort declares its inherited attributes before the synthesised ones
  abbrev pub InheritedFirst : Type 0
  InheritedFirst = (s a b : ℕ) (x y : Attr) → slice_get (attrs_of_sort g.sorts s) a ≡ Some x → slice_get (attrs_of_sort g.sorts s) b ≡ Some y
      → x.inherited ≡ true → y.inherited ≡ false → a < b

  module _ (ranked : All IsRanked g.prods) (first : InheritedFirst) where
    -- whatever the ranks of a production that go up
    abbrev Above : Production → ℕ → ℕ → Type 0
    Above p x y = (rank : ℕ → ℕ) → GoesUp p rank → rank x < rank y

    -- an attribute of the sort, and one that is declared earlier
    abbrev Earlier : ℕ → ℕ → ℕ → Type 0
    Earlier s a b = (a < b) × (b < length (attrs_of_sort g.sorts s))

    -- at a place ranks tell which attribute is declared earlier
    told_by_ranks : (p : Production) (place : Place) (rank : ℕ → ℕ) → GoesUp p rank → Contains (places_of g.sorts p) place → (a b : ℕ)
        → a < length (attrs_of_sort g.sorts place.sort) → rank (place.start + a) < rank (place.start + b) → a < b
    told_by_ranks p place rank up at a b a_in less =
        elim (cases_lt a b) [
          | inl h ↦ h
          | inr le ↦
              elim (cases_eq a b) [
                | inl e ↦ let same = ap (λ c. rank (place.start + c)) e in absurd (omega arith)
                | inr ne ↦ let other = up.places place b a at (omega arith) a_in in absurd (omega arith)
              ]
        ]

    rules : KeepsRules g [] Above Earlier
    rules = record {
      needs = λ p x y n rank up. up.needs x y n;
      sorts = λ p place a b at h rank up. up.places place a b at h.0 h.1;
      paths = λ p x y z one other rank up. let l = one rank up in let m = other rank up in omega arith;
      given_pairs = λ p s a b there stands pair. absurd (no_member (record { sort = s; first = a; then = b }) pair);
      joined = λ p place s a b there at of_sort a_in b_in above.
          let r = All-contains IsRanked g.prods p ranked there in
          (told_by_ranks p place r.rank r.goes_up at a b (subst (λ t. a < length (attrs_of_sort g.sorts t)) (sym of_sort) a_in) (above r.rank r.goes_up), b_in);
    }

    induced_earlier : (s a b : ℕ) → Induced g [] s a b → Earlier s a b
    induced_earlier = induced_least g [] Above Earlier rules

    -- ---- the sets

    -- no inherited attribute comes behind a synthesised one
    stays_synthesised : (s a b : ℕ) (x y : Attr) (i : Bool) → slice_get (attrs_of_sort g.sorts s) a ≡ Some x → slice_get (attrs_of_sort g.sorts s) b ≡ Some y
        → x.inherited ≡ false → a < b → y.inherited ≡ i → y.inherited ≡ false
    stays_synthesised s a b x y true at_a at_b is_syn less e = let other = first s b a y x at_b at_a e is_syn in absurd (omega arith)
    stays_synthesised s a b x y false at_a at_b is_syn less e = e

    -- so all synthesised attributes stand in the first set
    synthesised_after : (s a b : ℕ) → HasTurn g s 1 a → Induced g [] s a b → HasTurn g s 1 b
    synthesised_after s a b h pair =
        let later = induced_earlier s a b pair in
        elim (slice_get_cases (attrs_of_sort g.sorts s) b).1 [
          | inl y ↦ record {
            attr = y.0;
            is_there = y.2;
            direction = stays_synthesised s a b h.attr y.0 y.0.inherited h.is_there y.2 h.direction later.0 refl;
          }
          | inr none ↦ let past = none.0 in let within = later.1 in absurd (omega arith)
        ]

    abbrev synthesised : ℕ → List ℕ
    synthesised s = collect (HasTurn g s 1) (decide_turn g s 1) (length (attrs_of_sort g.sorts s))

    all_synthesised : (s : ℕ) → All (HasTurn g s 1) (synthesised s)
    all_synthesised s = all_collected (HasTurn g s 1) (decide_turn g s 1) (length (attrs_of_sort g.sorts s))

    is_synthesised : (s a : ℕ) → HasTurn g s 1 a → Contains (synthesised s) a
    is_synthesised s a h = member_collected (HasTurn g s 1) (decide_turn g s 1) (length (attrs_of_sort g.sorts s)) a (turn_within g s 1 a h) h

    in_first_set : (s a : ℕ) → HasTurn g s 1 a → Placed g [] s 1 a
    in_first_set s a h = inr (record {
      set = synthesised s;
      can_stand = record {
        turn = all_synthesised s;
        closed = λ x y m pair.
            inr (is_synthesised s y (synthesised_after s x y (All-contains (HasTurn g s 1) (synthesised s) x (all_synthesised s) m) pair));
      };
      member = is_synthesised s a h;
    })

    -- the turn of a member of a set
    turn_of : (s k a : ℕ) → InSet g [] s (suc k) a → HasTurn g s (suc k) a
    turn_of s k a h =
        elim h.0 [
          | inl before ↦ absurd (h.1 k (omega arith) before)
          | inr here ↦ All-contains (HasTurn g s (suc k)) here.set a here.can_stand.turn here.member
        ]

    -- a synthesised attribute stands in no later set
    in_no_later : (s k a : ℕ) (x : Attr) → slice_get (attrs_of_sort g.sorts s) a ≡ Some x → x.inherited ≡ false → InSet g [] s (suc (suc k)) a → ⊥
    in_no_later s k a x there is_syn h = h.1 1 (omega arith) (in_first_set s a (record { attr = x; is_there = there; direction = is_syn }))

    by_directions : (s k a b : ℕ) (i : Bool) → is_of_inherited (suc k) ≡ i → InSet g [] s (suc (suc k)) a → InSet g [] s (suc k) b → a < b
    by_directions s k a b true e above below =
        let h = turn_of s (suc k) a above in
        absurd (in_no_later s k a h.attr h.is_there (h.direction ∙ ap not e) above)
    by_directions s k a b false e above below =
        let h = turn_of s (suc k) a above in
        let m = turn_of s k b below in
        first s a b h.attr m.attr h.is_there m.is_there (h.direction ∙ ap not e) (m.direction ∙ e)

    -- a member of a set is declared earlier than one of the next lower set
    by_sets : (s k a b : ℕ) → InSet g [] s (suc k) a → InSet g [] s k b → Earlier s a b
    by_sets s zero a b above below = elim below.0 [ ]
    by_sets s (suc k) a b above below = (
      by_directions s k a b (is_of_inherited (suc k)) refl above below,
      turn_within g s (suc k) b (turn_of s k b below),
    )

    before_earlier : (s a b : ℕ) → Before g [] s a b → Earlier s a b
    before_earlier s a b (inl pair) = induced_earlier s a b pair
    before_earlier s a b (inr sets) = by_sets s sets.0 a b sets.1 sets.2

    -- ---- paths

    module _ (p : Production) (rank : ℕ → ℕ) (up : GoesUp p rank) where
      extended_up : (x y : ℕ) → Extended g [] p x y → rank x < rank y
      extended_up x y (inl n) = up.needs x y n
      extended_up x y (inr h) =
          let e = before_earlier h.place.sort h.first h.then h.before in
          let less = up.places h.place h.first h.then h.is_place e.0 e.1 in
          rw (h.x_is, h.y_is) less

      path_up : (x y : ℕ) → ExtendedPath g [] p x y → rank x < rank y
      path_up _ _ (step a b h) = extended_up a b h
      path_up _ _ (onward a b c h more) = let one = extended_up a b h in let rest = path_up b c more in omega arith

    no_induced_cycle : (p : Production) → IsRanked p → IsAcyclic (Leads g [] p)
    no_induced_cycle p r x path = let less = leads_least g [] Above Earlier rules p x x path r.rank r.goes_up in absurd (omega arith)

    no_extended_cycle : (p : Production) → IsRanked p → IsAcyclic (ExtendedPath g [] p)
    no_extended_cycle p r x path = let less = path_up p r.rank r.goes_up x x path in absurd (omega arith)

    pub ranked_is_ordered : IsOrdered g []
    ranked_is_ordered = record {
      induced = All-weaker IsRanked (λ p. IsAcyclic (Leads g [] p)) no_induced_cycle g.prods ranked;
      extended = All-weaker IsRanked (λ p. IsAcyclic (ExtendedPath g [] p)) no_extended_cycle g.prods ranked;
    }
