-- The pairs that order lines name are of sorts and attributes that are there.
use Rattle.std.proofs.Common.{◌≡◌, ℕ, ◌<◌, Bool, false, bytes_eq, List, [], ◌∷◌, length, position, Option, Some, None, Result, Ok, Err, All, refl, sym, subst, arith}
use Rattle.std.proofs.lemmas.List.Elements.{All-cons}
use Rattle.std.proofs.lemmas.List.Quantifiers.{position-Some}
use Rattle.lrc_base.specs.declared.grammar.Kind.TheVariants as k
use Rattle.lrc_base.specs.declared.grammar.Attr.{Attr}
use Rattle.lrc_base.specs.declared.grammar.Sort.{Sort}
use Rattle.lrc_base.specs.declared.grammar.Given.{Given}
use Rattle.lrc_meaning.specs.Grammar.{attrs_of_sort}
use Rattle.lrc_fault_meaning.specs.Faults.{Name}
use Rattle.lrc_order_meaning.specs.Ordered.{IsGivenThere}
use Rattle.lrc_augment.specs.declared.order.RawOrder.{RawOrder}
use Rattle.lrc_augment.specs.Orders.{sort_number, attr_number, or_unknown, and_then, pair_of, pairs_of}

-- what is found first is there
there : {A : Type 0} (p : A → Bool) (xs : List A) (d : A) (n : Name) (i : ℕ) → or_unknown n (position p xs) ≡ Ok i → i < length xs
there p xs d n i found = by (position p xs) refl found
  where
    by : (o : Option ℕ) → position p xs ≡ o → or_unknown n o ≡ Ok i → i < length xs
    by None at found = absurd (cc)
    by (Some j) at found = let same : j ≡ i = cc in subst (λ m. m < length xs) same (position-Some p xs j d at).0

-- what was made of a part had the part
part_of : {A B : Type 0} (f : A → Result B Name) (r : Result A Name) (b : B) → and_then f r ≡ Ok b → (a : A) × (r ≡ Ok a) × (f a ≡ Ok b)
part_of f (Ok a) b made = (a, refl, made)
part_of f (Err n) b made = absurd (cc)

module _ (sorts : List Sort) where
  attr_there : (s : ℕ) (n : Name) (i : ℕ) → or_unknown n (attr_number (attrs_of_sort sorts s) n) ≡ Ok i → i < length (attrs_of_sort sorts s)
  attr_there s n i found =
      there (λ (a : Attr). bytes_eq a.name n) (attrs_of_sort sorts s) (record { name = []; inherited = false; kind = k.Int }) n i found

  pair_there : (line : RawOrder) (g : Given) → pair_of sorts line ≡ Ok g → IsGivenThere sorts g
  pair_there line g made =
      let sort = part_of _ (or_unknown line.sort (sort_number sorts line.sort)) g made in
      let s = sort.0 in
      let first = part_of _ (or_unknown line.first (attr_number (attrs_of_sort sorts s) line.first)) g sort.2 in
      let then' = part_of _ (or_unknown line.then (attr_number (attrs_of_sort sorts s) line.then)) g first.2 in
      let found : Given = record { sort = s; first = first.0; then = then'.0 } in
      let same : found ≡ g = cc in
      subst (IsGivenThere sorts) same
      (record {
        sort = there (λ (t : Sort). bytes_eq t.name line.sort) sorts (record { name = []; attrs = [] }) line.sort s sort.1;
        first = attr_there s line.first first.0 first.1;
        then = attr_there s line.then then'.0 then'.1;
      })

  pub pairs_there : (lines : List RawOrder) (pairs : List Given) → pairs_of sorts lines ≡ Ok pairs → All (IsGivenThere sorts) pairs
  pairs_there [] pairs made = subst (All (IsGivenThere sorts)) (let same : [] ≡ pairs = cc in same) (λ k d lt. absurd (omega (arith, lt)))
  pairs_there (line ∷ lines) pairs made =
      let first = part_of _ (pair_of sorts line) pairs made in
      let rest = part_of _ (pairs_of sorts lines) pairs first.2 in
      let same : first.0 ∷ rest.0 ≡ pairs = cc in
      subst (All (IsGivenThere sorts)) same
      (All-cons (IsGivenThere sorts) first.0 rest.0 (pair_there line first.0 first.1) (pairs_there lines rest.0 rest.1))
