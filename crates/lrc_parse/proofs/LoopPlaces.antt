-- A loop's reading has a place for each stop where each turn's has.
use Rattle.std.proofs.Common.{◌≡◌, ℕ, suc, zero, ◌+◌, ◌<◌, ◌≤◌, ltb, Bool, true, false, cond, List, [], ◌∷◌, ◌++◌, length, refl, sym, ap, ◌∙◌, subst, ◌⊎◌, inl, inr, append_assoc, length-append, arith}
use Rattle.std.proofs.lemmas.List.{append-nil}
use Rattle.std.proofs.lemmas.Bool.{lt-ltb}
use Rattle.lrc_parse.specs.Kinds.{starts}
use Rattle.lrc_parse.specs.Language.{Lang, Turns, Loop}
use Rattle.lrc_parse.specs.Reading.{Cause, Reading, took, stops, on_took, read_turns, read_loop}
use Rattle.lrc_parse.specs.Faults.{next, through, Widening, Begins, Grows, Taken, Ended, Placed}
use Rattle.lrc_parse.proofs.Back.{same_value, same_rest, stops_not_took, on_took_back, cond_cases}
use Rattle.lrc_parse.proofs.Parts.{two_parts}
use Rattle.lrc_parse.proofs.Loops.{read_loop_end, read_loop_stops, read_loop_more}
use Rattle.lrc_parse.proofs.Places.{next_behind, starts_next, on_took_stops, stays_wide}

pub cond_cases_stops : {T A : Type 0} (b : Bool) (o p : Reading T A) (c : Cause) (r : List T) →
    cond b o p ≡ stops c r → ((b ≡ true) × (o ≡ stops c r)) ⊎ ((b ≡ false) × (p ≡ stops c r))
cond_cases_stops true o p c r e = inl (refl, e)
cond_cases_stops false o p c r e = inr (refl, e)

module _ {I T : Type 0} (kind : T → ℕ) (le : I → I → Type 0) (wide : Widening le) where
  turns_grow : {S : Type 0} (step : S → I → Lang T S) → ((z : S) → Grows le (step z)) → (i j : I) → le i j →
      (n : ℕ) (z : S) (u : List T) (y : S) → Turns (λ x. step x i) n z u y → Turns (λ x. step x j) n z u y
  turns_grow step g i j l zero z u y m = m
  turns_grow step g i j l (suc n) z u y m = (m.0, m.1, m.2, m.3, g z i j l m.0 m.2 m.4, turns_grow step g i j l n m.2 m.1 y m.5)

  pub loop_grows : {S : Type 0} (step : S → I → Lang T S) → ((z : S) → Grows le (step z)) → (z : S) → Grows le (λ j. Loop (λ x. step x j) z)
  loop_grows step g z i j l u y m = (m.0, turns_grow step g i j l m.0 z u y m.1)

  module _ {S : Type 0} (first : List ℕ) (step : S → I → Lang T S) (read : S → I → List T → Reading T S)
      (filled : (z : S) (i : I) (x : S) → step z i [] x → ⊥) (grows : (z : S) → Grows le (step z)) (i : I) (placed : (z : S) → Placed le (step z) (read z) i) where
    -- the languages and readings of the loop from each state
    abbrev loops : S → I → Lang T S
    loops z j = Loop (λ x. step x j) z

    abbrev loop_reads : S → I → List T → Reading T S
    loop_reads z j = read_loop kind first (λ x. read x j) z

    shorter_turn : (z w : S) (p m : List T) → step z i p w → length m < length (p ++ m)
    shorter_turn z w [] m l = absurd (filled z i w l)
    shorter_turn z w (t ∷ p) m l = let f : length (p ++ m) ≡ length p + length m = length-append p m in omega (arith, f)

    -- the loop ends before what begins no turn
    done : (z : S) (u : List T) (y : S) (r : List T) → starts kind first u ≡ false → took z u ≡ took y r → Taken le (loops z) (loop_reads z) i u y r
    done z u y r st h = (
      [],
      same_rest _ _ _ _ h,
      (zero, (refl, sym (same_value _ _ _ _ h))),
      λ j w l n. read_loop_end kind first (λ x. read x j) z w (starts_next kind first u w (n ∙ ap next (sym (same_rest _ _ _ _ h))) ∙ st) ∙
          ap (λ v. took v w) (same_value _ _ _ _ h),
    )

    -- a turn is made again before other tokens, and the loop goes on from there
    turn_again : (j : I) (z w : S) (u p m q r v : List T) → starts kind first u ≡ true → u ≡ p ++ m → m ≡ q ++ r → step z i p w →
        ((v : List T) → next v ≡ next m → read z j (p ++ v) ≡ took w v) → next v ≡ next r →
        loop_reads z j ((p ++ q) ++ v) ≡ loop_reads w j (q ++ v)
    turn_again j z w u p m q r v st e f l again n =
        let behind : next (q ++ v) ≡ next m = next_behind q r v n ∙ ap next (sym f) in
        ap (read_loop kind first (λ x. read x j) z) (append_assoc p q v) ∙
        read_loop_more kind first (λ x. read x j) z w (p ++ (q ++ v)) (q ++ v)
        (starts_next kind first u (p ++ (q ++ v)) (next_behind p m (q ++ v) behind ∙ ap next (sym e)) ∙ st)
        (again (q ++ v) behind) (shorter_turn z w p (q ++ v) l)

    one_more : (k : ℕ) (u m : List T) (z w : S) (p : List T) → length u ≤ suc k → u ≡ p ++ m → step z i p w → length m ≤ k
    one_more k u m z w p h e l =
        let f : length m < length (p ++ m) = shorter_turn z w p m l in
        let g : length u ≡ length (p ++ m) = ap length e in omega (arith, h, f, g)

    taken_turn : (k : ℕ) (z w : S) (u m : List T) (y : S) (r : List T) → length u ≤ suc k → starts kind first u ≡ true → Taken le (step z) (read z) i u w m →
        cond (ltb (length m) (length u)) (read_turns kind first (λ x. read x i) k w m) (took w m) ≡ took y r →
        ((u : List T) → length u ≤ k → read_turns kind first (λ x. read x i) k w u ≡ took y r → Taken le (loops w) (loop_reads w) i u y r) →
        Taken le (loops z) (loop_reads z) i u y r
    taken_turn k z w u m y r h st v c ih =
        let lt : length m < length u = subst (λ b. length m < length b) (sym v.1) (shorter_turn z w v.0 m v.2) in
        let on : read_turns kind first (λ x. read x i) k w m ≡ took y r = ap (λ b. cond b (read_turns kind first (λ x. read x i) k w m) (took w m)) (sym (lt-ltb (length m) (length u) lt)) ∙ c in
        let o : Taken le (loops w) (loop_reads w) i m y r = ih m (one_more k u m z w v.0 h v.1 v.2) on in (
          v.0 ++ o.0,
          two_parts u v.0 m o.0 r v.1 o.1,
          (suc o.2.0, (v.0, o.0, w, refl, v.2, o.2.1)),
          λ j q l n. turn_again j z w u v.0 m o.0 r q st v.1 o.1 v.2 (λ b e. v.3 j b l e) n ∙ o.3 j q l n,
        )

    take_turns : (k : ℕ) (z : S) (u : List T) (y : S) (r : List T) → length u ≤ k → read_turns kind first (λ x. read x i) k z u ≡ took y r →
        Taken le (loops z) (loop_reads z) i u y r
    unfolding read_turns
    take_turns zero z [] y r h e = done z [] y r refl e
    take_turns zero z (t ∷ u) y r h e = absurd (omega (arith, h))
    take_turns (suc k) z u y r h e = go (cond_cases (starts kind first u) _ _ y r e) (λ w m. take_turns k w m y r)
      where
        go : ((starts kind first u ≡ true) × (on_took (read z i u) (λ x m. cond (ltb (length m) (length u)) (read_turns kind first (λ x. read x i) k x m) (took x m)) ≡ took y r)) ⊎ ((starts kind first u ≡ false) × (took z u ≡ took y r)) →
            ((w : S) (m : List T) → length m ≤ k → read_turns kind first (λ x. read x i) k w m ≡ took y r → Taken le (loops w) (loop_reads w) i m y r) →
            Taken le (loops z) (loop_reads z) i u y r
        go (inl g) ih =
            let v : _ = on_took_back (read z i u) (λ x m. cond (ltb (length m) (length u)) (read_turns kind first (λ x. read x i) k x m) (took x m)) y r g.1 in
            taken_turn k z v.0 u v.1 y r h g.0 ((placed z).takes u v.0 v.1 v.2) v.3 (ih v.0)
        go (inr g) ih = done z u y r g.0 g.1

    one_turn : (z : S) (p : List T) → Begins (step z) p → Begins (loops z) p
    one_turn z p b = (b.0, b.1, b.2, (suc zero, (p ++ b.1, [], b.2, sym (append-nil (p ++ b.1)), b.3, (refl, refl))))

    turn_then : (z w : S) (p q v : List T) → step z i p w → Begins (loops w) (q ++ v) → Begins (loops z) ((p ++ q) ++ v)
    turn_then z w p q v l b =
        let k : _ = wide.upper i b.0 in (
          k.0,
          b.1,
          b.2,
          (
            suc b.3.0,
            (
              p,
              (q ++ v) ++ b.1,
              w,
              ap (λ o. o ++ b.1) (append_assoc p q v) ∙ append_assoc p (q ++ v) b.1,
              grows z i k.0 k.1 p w l,
              turns_grow step grows b.0 k.0 k.2 b.3.0 w ((q ++ v) ++ b.1) b.2 b.3.1,
            ),
          ),
        )

    -- a turn that stops ends the loop there
    ended_first_turn : (z : S) (c : Cause) (u r : List T) → starts kind first u ≡ true → Ended le (step z) (read z) i c u r → Ended le (loops z) (loop_reads z) i c u r
    ended_first_turn z c u r st v = (
      v.0,
      v.1,
      one_turn z (v.0 ++ through c r) v.2,
      (λ j w l n. read_loop_stops kind first (λ x. read x j) z (v.0 ++ w) w c
          (starts_next kind first u (v.0 ++ w) (next_behind v.0 r w n ∙ ap next (sym v.1)) ∙ st) (v.3 j w l n)),
      v.4,
    )

    ended_turn : (k : ℕ) (z w : S) (u m : List T) (c : Cause) (r : List T) → length u ≤ suc k → starts kind first u ≡ true → Taken le (step z) (read z) i u w m →
        cond (ltb (length m) (length u)) (read_turns kind first (λ x. read x i) k w m) (took w m) ≡ stops c r →
        ((u : List T) → length u ≤ k → read_turns kind first (λ x. read x i) k w u ≡ stops c r → Ended le (loops w) (loop_reads w) i c u r) →
        Ended le (loops z) (loop_reads z) i c u r
    ended_turn k z w u m c r h st v e ih =
        let lt : length m < length u = subst (λ b. length m < length b) (sym v.1) (shorter_turn z w v.0 m v.2) in
        let on : read_turns kind first (λ x. read x i) k w m ≡ stops c r = ap (λ b. cond b (read_turns kind first (λ x. read x i) k w m) (took w m)) (sym (lt-ltb (length m) (length u) lt)) ∙ e in
        let o : Ended le (loops w) (loop_reads w) i c m r = ih m (one_more k u m z w v.0 h v.1 v.2) on in (
          v.0 ++ o.0,
          two_parts u v.0 m o.0 r v.1 o.1,
          turn_then z w v.0 o.0 (through c r) v.2 o.2,
          (λ j q l n. turn_again j z w u v.0 m o.0 r q st v.1 o.1 v.2 (λ b f. v.3 j b (stays_wide kind le wide c i j l) f) n ∙ o.3 j q l n),
          o.4,
        )

    end_turns : (k : ℕ) (z : S) (c : Cause) (u r : List T) → length u ≤ k → read_turns kind first (λ x. read x i) k z u ≡ stops c r →
        Ended le (loops z) (loop_reads z) i c u r
    unfolding read_turns
    end_turns zero z c u r h e = absurd (stops_not_took c z r u (sym e))
    end_turns (suc k) z c u r h e = go (cond_cases_stops (starts kind first u) _ _ c r e) (λ w m. end_turns k w c m r)
      where
        later : (starts kind first u ≡ true) →
            (read z i u ≡ stops c r) ⊎ ((w : S) × (m : List T) × (read z i u ≡ took w m) × (cond (ltb (length m) (length u)) (read_turns kind first (λ x. read x i) k w m) (took w m) ≡ stops c r)) →
            ((w : S) (m : List T) → length m ≤ k → read_turns kind first (λ x. read x i) k w m ≡ stops c r → Ended le (loops w) (loop_reads w) i c m r) →
            Ended le (loops z) (loop_reads z) i c u r
        later st (inl g) ih = ended_first_turn z c u r st ((placed z).ends c u r g)
        later st (inr g) ih = ended_turn k z g.0 u g.1 c r h st ((placed z).takes u g.0 g.1 g.2) g.3 (ih g.0)

        go : ((starts kind first u ≡ true) × (on_took (read z i u) (λ x m. cond (ltb (length m) (length u)) (read_turns kind first (λ x. read x i) k x m) (took x m)) ≡ stops c r)) ⊎ ((starts kind first u ≡ false) × (took z u ≡ stops c r)) →
            ((w : S) (m : List T) → length m ≤ k → read_turns kind first (λ x. read x i) k w m ≡ stops c r → Ended le (loops w) (loop_reads w) i c m r) →
            Ended le (loops z) (loop_reads z) i c u r
        go (inl g) ih = later g.0 (on_took_stops (read z i u) (λ x m. cond (ltb (length m) (length u)) (read_turns kind first (λ x. read x i) k x m) (took x m)) c r g.1) ih
        go (inr g) ih = absurd (stops_not_took c z r u (sym g.1))

    pub placed_loop : (z : S) → Placed le (λ j. Loop (λ x. step x j) z) (λ j. read_loop kind first (λ x. read x j) z) i
    unfolding read_loop
    placed_loop z = record {
      takes = λ u y r h. take_turns (length u) z u y r (omega arith) h;
      ends = λ c u r h. end_turns (length u) z c u r (omega arith) h;
    }
