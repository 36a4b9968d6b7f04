-- What a full reading says of a whole text: the value, or the cause and the place of the first fault.
use Rattle.std.proofs.Common.{◌≡◌, ℕ, List, [], ◌∷◌, ◌++◌, refl, sym, ap, ◌∙◌, subst, append_assoc}
use Rattle.std.proofs.lemmas.List.{append-nil}
use Rattle.lrc_parse.specs.Language.{Lang}
use Rattle.lrc_parse.specs.Reading.{Cause, expected, nested, limit, Reading, took, stops}
use Rattle.lrc_parse.specs.Exact.{Shape}
use Rattle.lrc_parse.specs.Faults.{through, Widening, Begins, Stays, Stands, Taken, Ended, Placed, Full, Wanting, Passing, Caused}
use Rattle.lrc_parse.proofs.Back.{stops_not_took, same_rest}
use Rattle.lrc_parse.proofs.Whole.{whole_read}

module _ {I T A : Type 0} (kind : T → ℕ) (le : I → I → Type 0) (wide : Widening le) (s : Shape) (L : I → Lang T A) (read : I → List T → Reading T A)
    (i : I) (e : Full kind le s L read i) where
  -- no sentence within any limits goes on with a token before which the reading took or wanted something else
  none_on : (p : List T) (t : T) → ((j : I) (q : List T) → le i j → (x : A) → read j (p ++ t ∷ q) ≡ took x [] → ⊥) → ¬ Begins L (p ++ t ∷ [])
  none_on p t other b =
      let k : _ = wide.upper i b.0 in
      let m : L k.0 (p ++ t ∷ b.1) b.2 = subst (λ u. L k.0 u b.2) (append_assoc p (t ∷ []) b.1) (e.grows b.0 k.0 k.2 _ _ b.3) in
      other k.0 b.1 k.1 b.2 (whole_read kind s (L k.0) (read k.0) (e.exact k.0) (p ++ t ∷ b.1) b.2 m)

  begun : (p : List T) → Begins L (p ++ []) → Begins L p
  begun p b = subst (Begins L) (append-nil p) b

  wanting : (u r : List T) → Ended le L read i expected u r → (p : List T) × (u ≡ p ++ r) × Wanting L p r
  wanting u [] v = (v.0, v.1, (begun v.0 v.2, ended))
    where
      ended : (j : I) (x : A) → ¬ L j v.0 x
      ended j x m =
          let k : _ = wide.upper i j in
          let a : read k.0 v.0 ≡ took x [] = whole_read kind s (L k.0) (read k.0) (e.exact k.0) v.0 x (e.grows j k.0 k.2 _ _ m) in
          stops_not_took expected x [] [] (sym (v.3 k.0 [] k.1 refl) ∙ ap (read k.0) (append-nil v.0) ∙ a)
  wanting u (t ∷ r) v = (v.0, v.1, (begun v.0 v.2, none_on v.0 t other))
    where
      other : (j : I) (q : List T) → le i j → (x : A) → read j (v.0 ++ t ∷ q) ≡ took x [] → ⊥
      other j q l x h = stops_not_took expected x (t ∷ q) [] (sym (v.3 j (t ∷ q) l refl) ∙ h)

  passing : (c : Cause) (u r : List T) (p : List T) (t : T) (q : List T) → r ≡ t ∷ q → Begins L (p ++ t ∷ []) →
      ((w : List T) → read i (p ++ t ∷ w) ≡ stops c (t ∷ w)) → Passing L i p r
  passing c u r p t q h b f =
      subst (Passing L i p) (sym h) (b, λ w x m. stops_not_took c x (t ∷ w) [] (sym (f w) ∙ whole_read kind s (L i) (read i) (e.exact i) (p ++ t ∷ w) x m))

  -- where the reading stops, the cause tells what is wrong there
  pub stop_place : (c : Cause) (u r : List T) → read i u ≡ stops c r → (p : List T) × (u ≡ p ++ r) × Caused L i c p r
  stop_place expected u r h = wanting u r (e.placed.ends expected u r h)
  stop_place nested u r h = go (e.placed.ends nested u r h)
    where
      go : Ended le L read i nested u r → (p : List T) × (u ≡ p ++ r) × Passing L i p r
      go v = (
        v.0,
        v.1,
        passing nested u r v.0 v.4.0 v.4.1 v.4.2 (subst (λ o. Begins L (v.0 ++ through nested o)) v.4.2 v.2)
            (λ w. v.3 i (v.4.0 ∷ w) refl (sym (ap Rattle.lrc_parse.specs.Faults.next v.4.2))),
      )
  stop_place (limit n) u r h = go (e.placed.ends (limit n) u r h)
    where
      go : Ended le L read i (limit n) u r → (p : List T) × (u ≡ p ++ r) × Passing L i p r
      go v = (
        v.0,
        v.1,
        passing (limit n) u r v.0 v.4.0 v.4.1 v.4.2 (subst (λ o. Begins L (v.0 ++ through (limit n) o)) v.4.2 v.2)
            (λ w. v.3 i (v.4.0 ∷ w) refl (sym (ap Rattle.lrc_parse.specs.Faults.next v.4.2))),
      )

  -- where a sentence is read and a token is left, no sentence goes on with that token
  pub left_place : (u r : List T) (t : T) (x : A) → read i u ≡ took x (t ∷ r) → (p : List T) × (u ≡ p ++ t ∷ r) × L i p x × ¬ Begins L (p ++ t ∷ [])
  left_place u r t x h = go (e.placed.takes u x (t ∷ r) h)
    where
      left : (q : List T) → t ∷ q ≡ [] → ⊥
      left q e = cc

      go : Taken le L read i u x (t ∷ r) → (p : List T) × (u ≡ p ++ t ∷ r) × L i p x × ¬ Begins L (p ++ t ∷ [])
      go v = (v.0, v.1, v.2, none_on v.0 t (λ j q l y g. left q (same_rest x y (t ∷ q) [] (sym (v.3 j (t ∷ q) l refl) ∙ g))))
