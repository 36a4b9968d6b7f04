-- Whether an item is among some.
use Rattle.std.proofs.Common.{◌≡◌, ℕ, zero, suc, ◌<◌, Bool, true, false, IsTrue, ◌&&◌, List, [], ◌∷◌, length, get_or, Contains, inl, inr, refl, sym, ap, ◌∙◌, arith}
use Rattle.std.specs.Prelude.{nat_eq}
use Rattle.std.specs.List.{list_any}
use Rattle.std.proofs.lemmas.Bool.{and_parts, and_from, or_cases, or_left, or_right, eqb-true, eq-eqb, true≢false}
use Rattle.lrc_plan_meaning.specs.declared.Bound.{Bound}
use Rattle.lrc_plan_meaning.specs.declared.Bound.TheVariants as b
use Rattle.lrc_plan_meaning.specs.Items.{same_item, is_among}

pub same_bool : (p q : Bool) → (IsTrue p → IsTrue q) → (IsTrue q → IsTrue p) → p ≡ q
same_bool true true there back = refl
same_bool true false there back = sym (there refl)
same_bool false true there back = back refl
same_bool false false there back = refl

pub same_items : (x y : Bound) → same_item x y ≡ true → x ≡ y
same_items (b.Value x) (b.Value y) h = ap b.Value (eqb-true x y h)
same_items (b.Value x) (b.Kid t k l) h = absurd (true≢false (sym h))
same_items (b.Kid s i j) (b.Value y) h = absurd (true≢false (sym h))
same_items (b.Kid s i j) (b.Kid t k l) h =
    let one = and_parts (nat_eq s t) (nat_eq i k && nat_eq j l) h in
    let two = and_parts (nat_eq i k) (nat_eq j l) one.1 in
    let x : s ≡ t = eqb-true s t one.0 in
    let y : i ≡ k = eqb-true i k two.0 in
    let z : j ≡ l = eqb-true j l two.1 in
    cc

pub item_itself : (x : Bound) → same_item x x ≡ true
item_itself (b.Value x) = eq-eqb x x refl
item_itself (b.Kid s i j) =
    and_from (nat_eq s s) (nat_eq i i && nat_eq j j) (eq-eqb s s refl) (and_from (nat_eq i i) (nat_eq j j) (eq-eqb i i refl) (eq-eqb j j refl))

pub contained : (items : List Bound) (x : Bound) → is_among items x ≡ true → Contains items x
contained [] x h = absurd (true≢false (sym h))
contained (y ∷ ys) x h =
    elim (or_cases (same_item x y) (list_any (same_item x) ys) h) [
      | inl e ↦ (0, omega arith, sym (same_items x y e))
      | inr m ↦ let c = contained ys x m in let l = c.1 in (suc c.0, omega arith, c.2)
    ]

among_at : (items : List Bound) (x : Bound) (k : ℕ) → k < length items → get_or items k x ≡ x → is_among items x ≡ true
among_at [] x k less is = absurd (omega arith)
among_at (y ∷ ys) x zero less is =
    or_left (same_item x y) (list_any (same_item x) ys) (ap (same_item x) is ∙ item_itself x)
among_at (y ∷ ys) x (suc k) less is =
    or_right (same_item x y) (list_any (same_item x) ys) (among_at ys x k (omega arith) is)

pub among : (items : List Bound) (x : Bound) → Contains items x → is_among items x ≡ true
among items x c = among_at items x c.0 c.1 c.2
