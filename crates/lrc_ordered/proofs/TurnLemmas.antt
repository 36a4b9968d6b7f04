-- A round that places attributes in place gives what one that looked at the old sets would give.
use Rattle.std.proofs.Common.{◌≡◌, ◌≢◌, ℕ, ◌+◌, ◌<◌, ◌≤◌, Bool, List, length, slice_index, set, ◌⊎◌, inl, inr, refl, sym, ◌∙◌, subst, arith, get_or-set_same, get_or-set_other, length-set, le_refl}
use Rattle.std.proofs.lemmas.Bool.{cases_eq}
use Rattle.lrc_base.specs.declared.grammar.Attr.{Attr}
use Rattle.lrc_graph.specs.Pairs.{Pairs}
use Rattle.lrc_ordered.specs.Turns.{IsOf, IsNext, IsFilled}

-- the attributes below n are done, the others are as they were, and one that is placed newly is of the direction
pub record AreFilled (attrs : List Attr) (sort : Pairs) (old now : List ℕ) (inherited : Bool) (number n : ℕ) : Type 0 where
  pub count : length now ≡ length old
  pub done : (a : ℕ) → a < n → a < length attrs → IsFilled attrs sort old now inherited number a
  pub rest : (a : ℕ) → n ≤ a → slice_index now a ≡ slice_index old a
  pub fresh : (b : ℕ) → slice_index now b ≢ 0 → (slice_index old b ≢ 0) ⊎ IsOf attrs inherited b
  pub grows : (b : ℕ) → slice_index old b ≢ 0 → slice_index now b ≢ 0

pub none_filled : (attrs : List Attr) (sort : Pairs) (old : List ℕ) (inherited : Bool) (number : ℕ) → AreFilled attrs sort old old inherited number 0
none_filled attrs sort old inherited number = record {
  count = refl;
  done = λ a small there. absurd (omega arith);
  rest = λ a le. refl;
  fresh = λ b h. inl h;
  grows = λ b h. h;
}

module _ (attrs : List Attr) (sort : Pairs) (old now : List ℕ) (inherited : Bool) (number n : ℕ) (some : 0 < number) (there : n < length attrs)
    (counts : length old ≡ length attrs) (before : AreFilled attrs sort old now inherited number n) where
  -- whether an attribute is next does not depend on which sets are looked at
  pub next_now : IsNext attrs sort now inherited n → IsNext attrs sort old inherited n
  next_now h = record {
    direction = h.direction;
    after = λ b small p. elim (h.after b small p) [ inl q ↦ before.fresh b q | inr q ↦ inr q ];
  }

  pub next_old : IsNext attrs sort old inherited n → IsNext attrs sort now inherited n
  next_old h = record {
    direction = h.direction;
    after = λ b small p. elim (h.after b small p) [ inl q ↦ inl (before.grows b q) | inr q ↦ inr q ];
  }

  -- an attribute that is left as it is
  pub filled_left : (slice_index now n ≢ 0) ⊎ (¬ IsNext attrs sort now inherited n) → AreFilled attrs sort old now inherited number (n + 1)
  filled_left why =
      let same = before.rest n (le_refl n) in
      record {
        count = before.count;
        done = λ a small within.
            elim (cases_eq a n) [
              | inr ne ↦ before.done a (omega arith) within
              | inl e ↦
                  subst (λ k. IsFilled attrs sort old now inherited number k) (sym e)
                  (record {
                    kept = λ h. same;
                    newly = λ zero_old.
                        elim why [ inl placed ↦ absurd (placed (same ∙ zero_old)) | inr other ↦ inr ((λ h. other (next_old h)), same ∙ zero_old) ];
                  })
            ];
        rest = λ a le. before.rest a (omega arith);
        fresh = before.fresh;
        grows = before.grows;
      }

  -- an attribute that is placed
  pub filled_next : slice_index now n ≡ 0 → IsNext attrs sort now inherited n → AreFilled attrs sort old (set now n number) inherited number (n + 1)
  filled_next zero_now is_next =
      let same = before.rest n (le_refl n) in
      let len = before.count in
      let here : slice_index (set now n number) n ≡ number = get_or-set_same now n number 0 (omega arith) in
      let other : (a : ℕ) → a ≢ n → slice_index (set now n number) a ≡ slice_index now a = λ a ne. get_or-set_other now n a number 0 ne in
      record {
        count = length-set now n number ∙ before.count;
        done = λ a small within.
            elim (cases_eq a n) [
              | inr ne ↦
                  let held = before.done a (omega arith) within in
                  record {
                    kept = λ h. other a ne ∙ held.kept h;
                    newly = λ z. elim (held.newly z) [ inl p ↦ inl (p.0, other a ne ∙ p.1) | inr p ↦ inr (p.0, other a ne ∙ p.1) ];
                  }
              | inl e ↦
                  subst (λ k. IsFilled attrs sort old (set now n number) inherited number k) (sym e)
                  (record {
                    kept = λ h. absurd (h (sym same ∙ zero_now));
                    newly = λ z. inl (next_now is_next, here);
                  })
            ];
        rest = λ a le. let ne : a ≢ n = omega arith in other a ne ∙ before.rest a (omega arith);
        fresh = λ b h.
            elim (cases_eq b n) [
              | inl e ↦ inr (subst (λ k. IsOf attrs inherited k) (sym e) is_next.direction)
              | inr ne ↦ before.fresh b (λ z. h (other b ne ∙ z))
            ];
        grows = λ b h.
            elim (cases_eq b n) [
              | inl e ↦ λ z. let at : slice_index (set now n number) n ≡ 0 = subst (λ k. slice_index (set now n number) k ≡ 0) e z in omega arith
              | inr ne ↦ λ z. before.grows b h (sym (other b ne) ∙ z)
            ];
      }
