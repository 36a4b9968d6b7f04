-- What visits take and give are items of the production, and lists of their numbers are those of the items.
use Rattle.std.proofs.Common.{◌≡◌, ℕ, suc, ◌+◌, ◌-◌, ◌<◌, ◌≤◌, Bool, List, [], ◌∷◌, length, map, Contains, inl, inr, refl, sym, ap, ◌∙◌, subst, arith}
use Rattle.std.specs.Prelude.{flat_map}
use Rattle.std.specs.List.{range_with_len}
use Rattle.std.proofs.lemmas.List.Elements.{All-contains, Contains-append_cases}
use Rattle.std.proofs.lemmas.Bool.{cases_lt}
use Rattle.std.proofs.lemmas.Option.{same_Some}
use Rattle.lrc_base.specs.declared.grammar.Sort.{Sort}
use Rattle.lrc_base.specs.declared.grammar.Production.{Production}
use Rattle.lrc_meaning.specs.Grammar.{attrs_of_sort, occurrences_of}
use Rattle.lrc_order_meaning.specs.declared.Partition.{Partition}
use Rattle.lrc_order_meaning.specs.Needs.{symbols_of, left_place}
use Rattle.lrc_order_meaning.proofs.MemberLemmas.{member_of_map, member_of_flat, member_of_range}
use Rattle.lrc_ordered.proofs.PlaceLemmas.{places_within}
use Rattle.lrc_plan_meaning.specs.declared.Bound.{Bound}
use Rattle.lrc_plan_meaning.specs.declared.Bound.TheVariants as b
use Rattle.lrc_plan_meaning.specs.Items.{visits_of, attrs_of_visit, values_of_visit, symbol_at}
use Rattle.lrc_plan_meaning.specs.Bindings.{bindings_at, items_of}
use Rattle.lrc_plan.proofs.InLemmas.{values_in}
use Rattle.lrc_plan.proofs.ListedLemmas.{value_listed, kid_listed}
use Rattle.lrc_functions.specs.Numbers.{number}
use Rattle.lrc_functions.specs.Functions.{values_from}
use Rattle.lrc_functions.proofs.NumberLemmas.{told}

pub map_map : {X Y Z : Type 0} (g : Y → Z) (f : X → Y) (xs : List X) → map g (map f xs) ≡ map (λ x. g (f x)) xs
map_map g f [] = refl
map_map g f (x ∷ xs) = ap (λ zs. g (f x) ∷ zs) (map_map g f xs)

one_value : (o i : ℕ) → ◌≡◌ {A = Bound} (b.Value o) (b.Value i) → o ≡ i
one_value o i e = cc

no_value : (n i j o : ℕ) → ◌≡◌ {A = Bound} (b.Kid n i j) (b.Value o) → ⊥
no_value n i j o e = cc

module _ (sorts : List Sort) (parts : List Partition) (p : Production) where
  abbrev total : ℕ
  total = length (occurrences_of sorts p)

  abbrev visits_at_symbol : ℕ → ℕ
  visits_at_symbol n = visits_of parts (symbol_at sorts p n).sort

  values_listed : (inherited : Bool) (s start v : ℕ) → start + length (attrs_of_sort sorts s) ≤ total → (x : Bound) → Contains (values_of_visit sorts parts inherited s start v) x
      → Contains (items_of sorts parts p) x
  values_listed inherited s start v le x c =
      All-contains (Contains (items_of sorts parts p)) (values_of_visit sorts parts inherited s start v) x
      (values_in sorts parts (Contains (items_of sorts parts p)) inherited s start v (λ k less. value_listed sorts parts p (start + k) (omega arith))) c

  -- the values of a visit of the left side, and of a symbol
  pub left_listed : (inherited : Bool) (v : ℕ) (x : Bound) → Contains (values_of_visit sorts parts inherited p.left 0 v) x → Contains (items_of sorts parts p) x
  left_listed inherited v =
      let within = places_within sorts p 0 (left_place p) (omega arith) in
      values_listed inherited p.left 0 v within

  pub symbol_listed : (inherited : Bool) (n v : ℕ) → n < length (symbols_of sorts p) → (x : Bound)
      → Contains (values_of_visit sorts parts inherited (symbol_at sorts p n).sort (symbol_at sorts p n).start v) x → Contains (items_of sorts parts p) x
  symbol_listed inherited n v there =
      let within = places_within sorts p (suc n) (left_place p) (omega arith) in
      values_listed inherited (symbol_at sorts p n).sort (symbol_at sorts p n).start v within

  -- the bindings that a visit of a symbol gives
  abbrev pub later_of : ℕ → ℕ → List Bound
  later_of n v = map (λ w. b.Kid n v w) (range_with_len (v + 1) (visits_at_symbol n - v))

  pub later_listed : (n v : ℕ) → n < length (symbols_of sorts p) → 1 ≤ v → v ≤ visits_at_symbol n → (x : Bound) → Contains (later_of n v) x → Contains (items_of sorts parts p) x
  later_listed n v there one le x c =
      let found = member_of_map (λ w. b.Kid n v w) (range_with_len (v + 1) (visits_at_symbol n - v)) x c in
      let within = member_of_range (v + 1) (visits_at_symbol n - v) found.0 found.1 in
      subst (Contains (items_of sorts parts p)) found.2 (kid_listed sorts parts p n v found.0 there one (omega (arith, within)) (omega (arith, within, le)))

  -- ---- numbers

  pub values_numbered : (inherited : Bool) (s start v : ℕ) → values_from sorts parts inherited s start v ≡ map (number sorts parts p) (values_of_visit sorts parts inherited s start v)
  values_numbered inherited s start v = sym (map_map (number sorts parts p) (λ x. b.Value (start + x)) (attrs_of_visit sorts parts inherited s v))

  pub later_numbered : (n v : ℕ) → map (λ w. number sorts parts p (b.Kid n v w)) (range_with_len (v + 1) (visits_at_symbol n - v)) ≡ map (number sorts parts p) (later_of n v)
  later_numbered n v = sym (map_map (number sorts parts p) (λ w. b.Kid n v w) (range_with_len (v + 1) (visits_at_symbol n - v)))

  -- an occurrence that is listed has a number below the count of occurrences, and a binding has none below it
  pub occurrence_below : (o : ℕ) → Contains (items_of sorts parts p) (b.Value o) → o < total
  occurrence_below o c =
      elim (Contains-append_cases (map b.Value (range_with_len 0 total)) (flat_map (λ n. bindings_at n (visits_at_symbol n)) (range_with_len 0 (length (symbols_of sorts p)))) (b.Value o) c) [
        | inl k ↦
            let found = member_of_map b.Value (range_with_len 0 total) (b.Value o) k in
            let within = member_of_range 0 total found.0 found.1 in
            let same = one_value found.0 o found.2 in
            omega (arith, within, same)
        | inr k ↦
            let symbol = member_of_flat (λ n. bindings_at n (visits_at_symbol n)) (range_with_len 0 (length (symbols_of sorts p))) (b.Value o) k in
            let all = visits_at_symbol symbol.0 in
            let from = member_of_flat (λ i. map (b.Kid symbol.0 i) (range_with_len (i + 1) (all - i))) (range_with_len 1 all) (b.Value o) symbol.2 in
            let to = member_of_map (b.Kid symbol.0 from.0) (range_with_len (from.0 + 1) (all - from.0)) (b.Value o) from.2 in
            absurd (no_value symbol.0 from.0 to.0 o to.2)
      ]

  pub binding_behind : (n i j : ℕ) → Contains (items_of sorts parts p) (b.Kid n i j) → total ≤ number sorts parts p (b.Kid n i j)
  binding_behind n i j c =
      elim (cases_lt (number sorts parts p (b.Kid n i j)) total) [
        | inl less ↦
            let o = number sorts parts p (b.Kid n i j) in
            absurd (no_value n i j o (same_Some (b.Kid n i j) (b.Value o) (sym (told sorts parts p (b.Kid n i j) c) ∙ told sorts parts p (b.Value o) (value_listed sorts parts p o less))))
        | inr le ↦ le
      ]
