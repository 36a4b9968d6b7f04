-- Each item stands at its number among all items, and they are counted.
use Rattle.std.proofs.Common.{◌≡◌, ℕ, zero, suc, ◌+◌, ◌-◌, ◌<◌, ◌≤◌, List, [], ◌∷◌, ◌++◌, length, map, Some, slice_get, Contains, ◌⊎◌, inl, inr, refl, sym, ap, ◌∙◌, subst, arith, append_assoc}
use Rattle.std.specs.Prelude.{flat_map, slice_index, slice_index_or}
use Rattle.std.specs.List.{range_with_len}
use Rattle.std.proofs.lemmas.List.{length-append}
use Rattle.std.proofs.lemmas.List.FromFn.{length-map-range_with_len}
use Rattle.std.proofs.lemmas.List.Elements.{Contains-append_cases}
use Rattle.lrc_meaning.proofs.ListLemmas.{slice_left, slice_right}
use Rattle.lrc_base.specs.declared.grammar.Sort.{Sort}
use Rattle.lrc_base.specs.declared.grammar.Production.{Production}
use Rattle.lrc_meaning.specs.Grammar.{occurrences_of}
use Rattle.lrc_order_meaning.specs.declared.Partition.{Partition}
use Rattle.lrc_order_meaning.proofs.MemberLemmas.{member_of_map, member_of_flat, member_of_range}
use Rattle.lrc_plan_meaning.specs.declared.Bound.{Bound}
use Rattle.lrc_plan_meaning.specs.declared.Bound.TheVariants as b
use Rattle.lrc_plan_meaning.specs.Bindings.{bindings_at, items_of}
use Rattle.lrc_plan.specs.Handing.{listed_items}
use Rattle.lrc_plan.proofs.BindingLemmas.{items_listed}
use Rattle.lrc_functions.specs.Numbers.{binding_count, row_from, rows_from, end_from, number_in, symbol_visits, number, item_count}

-- what stands in a row of numbers that are mapped
mapped_at : {X : Type 0} (f : ℕ → X) (a n i : ℕ) → i < n → slice_get (map f (range_with_len a n)) i ≡ Some (f (a + i))
mapped_at f a zero i less = absurd (omega arith)
mapped_at f a (suc n) zero less = let e : a ≡ a + 0 = omega arith in ap (λ k. Some (f k)) e
mapped_at f a (suc n) (suc i) less =
    let e : (a + 1) + i ≡ a + suc i = omega arith in mapped_at f (a + 1) n i (omega arith) ∙ ap (λ k. Some (f k)) e

regroup : {X : Type 0} (pre row rest post : List X) → pre ++ ((row ++ rest) ++ post) ≡ (pre ++ row) ++ (rest ++ post)
regroup pre row rest post = ap (λ xs. pre ++ xs) (append_assoc row rest post) ∙ sym (append_assoc pre row (rest ++ post))

-- the bindings of a symbol from its visit i on, of which there are m
module _ (s : ℕ) where
  abbrev from_visit : ℕ → ℕ → ℕ → List Bound
  from_visit n i m = flat_map (λ k. map (b.Kid s k) (range_with_len (k + 1) (n - k))) (range_with_len i m)

  -- the same by how many there are behind each
  abbrev block : ℕ → ℕ → List Bound
  block i zero = []
  block i (suc m) = map (b.Kid s i) (range_with_len (i + 1) m) ++ block (i + 1) m

  block_is : (n i m : ℕ) → i + m ≡ n + 1 → from_visit n i m ≡ block i m
  block_is n i zero e = refl
  block_is n i (suc m) e =
      let left : n - i ≡ m = omega arith in
      ap (λ k. map (b.Kid s i) (range_with_len (i + 1) k) ++ from_visit n (i + 1) m) left
      ∙ ap (λ xs. map (b.Kid s i) (range_with_len (i + 1) m) ++ xs) (block_is n (i + 1) m (omega arith))

  block_length : (i m : ℕ) → length (block i m) ≡ binding_count m
  block_length i zero = refl
  block_length i (suc m) =
      let here = length-map-range_with_len (b.Kid s i) (i + 1) m in
      let rest = block_length (i + 1) m in
      length-append (map (b.Kid s i) (range_with_len (i + 1) m)) (block (i + 1) m) ∙ ap (λ k. k + length (block (i + 1) m)) here ∙ ap (λ k. m + k) rest

  -- the binding of visit i + d to the visit that is e behind the next
  in_block : (pre post : List Bound) (i m d e : ℕ) (start : ℕ) → start ≡ length pre → d + e + 1 < m
      → slice_get (pre ++ (block i m ++ post)) (slice_index (row_from start m) d + e) ≡ Some (b.Kid s (i + d) (i + d + 1 + e))
  in_block pre post i zero d e start at less = absurd (omega arith)
  in_block pre post i (suc m) zero e start at less =
      let row = map (b.Kid s i) (range_with_len (i + 1) m) in
      let rest = block (i + 1) m in
      let place : start + e ≡ length pre + e = omega arith in
      let inside : e < length row = subst (λ k. e < k) (sym (length-map-range_with_len (b.Kid s i) (i + 1) m)) (omega arith) in
      let left : i ≡ i + 0 = omega arith in
      let right : i + 1 + e ≡ i + 0 + 1 + e = omega arith in
      slice_right pre ((row ++ rest) ++ post) (start + e) e place
      ∙ ap (λ xs. slice_get xs e) (append_assoc row rest post)
      ∙ slice_left row (rest ++ post) e inside
      ∙ mapped_at (b.Kid s i) (i + 1) m e (omega arith)
      ∙ ap (λ k. Some (b.Kid s k (i + 1 + e))) left
      ∙ ap (λ k. Some (b.Kid s (i + 0) k)) right
  in_block pre post i (suc m) (suc d) e start at less =
      let row = map (b.Kid s i) (range_with_len (i + 1) m) in
      let rest = block (i + 1) m in
      let counted = length-map-range_with_len (b.Kid s i) (i + 1) m in
      let joined = length-append pre row in
      let behind : start + m ≡ length (pre ++ row) = omega arith in
      let left : i + 1 + d ≡ i + suc d = omega arith in
      let right : i + 1 + d + 1 + e ≡ i + suc d + 1 + e = omega arith in
      ap (λ xs. slice_get xs (slice_index (row_from (start + m) m) d + e)) (regroup pre row rest post)
      ∙ in_block (pre ++ row) post (i + 1) m d e (start + m) behind (omega arith)
      ∙ ap (λ k. Some (b.Kid s k (i + 1 + d + 1 + e))) left
      ∙ ap (λ k. Some (b.Kid s (i + suc d) k)) right

-- the bindings of symbols with so many visits each, the first of which has this number
abbrev symbols_from : ℕ → List ℕ → List Bound
symbols_from s [] = []
symbols_from s (n ∷ ns) = block s 1 n ++ symbols_from (s + 1) ns

symbols_length : (s start : ℕ) (ns : List ℕ) → end_from start ns ≡ start + length (symbols_from s ns)
symbols_length s start [] = omega arith
symbols_length s start (n ∷ ns) =
    let joined = length-append (block s 1 n) (symbols_from (s + 1) ns) in
    let here = block_length s 1 n in
    let rest = symbols_length (s + 1) (start + binding_count n) ns in
    rest ∙ (omega arith)

-- the binding of symbol s + t from visit d + 1 to the one that is e behind the next
in_symbols : (pre : List Bound) (s : ℕ) (ns : List ℕ) (t d e start : ℕ) → start ≡ length pre → t < length ns → d + e + 1 < slice_index ns t
    → slice_get (pre ++ symbols_from s ns) (slice_index (slice_index_or (rows_from start ns) t []) d + e) ≡ Some (b.Kid (s + t) (1 + d) (1 + d + 1 + e))
in_symbols pre s [] t d e start at there less = absurd (omega arith)
in_symbols pre s (n ∷ ns) zero d e start at there less =
    let same : s ≡ s + 0 = omega arith in
    in_block s pre (symbols_from (s + 1) ns) 1 n d e start at less ∙ ap (λ k. Some (b.Kid k (1 + d) (1 + d + 1 + e))) same
in_symbols pre s (n ∷ ns) (suc t) d e start at there less =
    let here = block s 1 n in
    let counted = block_length s 1 n in
    let joined = length-append pre here in
    let behind : start + binding_count n ≡ length (pre ++ here) = omega arith in
    let same : s + 1 + t ≡ s + suc t = omega arith in
    ap (λ xs. slice_get xs (slice_index (slice_index_or (rows_from (start + binding_count n) ns) t []) d + e)) (sym (append_assoc pre here (symbols_from (s + 1) ns)))
    ∙ in_symbols (pre ++ here) (s + 1) ns t d e (start + binding_count n) behind (omega arith) less
    ∙ ap (λ k. Some (b.Kid k (1 + d) (1 + d + 1 + e))) same

-- the bindings of symbols, by how many visits the symbol of each number has
symbols_are : (f : ℕ → ℕ) (s : ℕ) (ns : List ℕ) → ((i : ℕ) → i < length ns → f (s + i) ≡ slice_index ns i)
    → flat_map (λ k. bindings_at k (f k)) (range_with_len s (length ns)) ≡ symbols_from s ns
symbols_are f s [] same = refl
symbols_are f s (n ∷ ns) same =
    let at : s ≡ s + 0 = omega arith in
    let here : f s ≡ n = ap f at ∙ same 0 (omega arith) in
    let all : 1 + n ≡ n + 1 = omega arith in
    let rest = symbols_are f (s + 1) ns (λ i less. let next : s + 1 + i ≡ s + suc i = omega arith in ap f next ∙ same (suc i) (omega arith)) in
    ap (λ k. bindings_at s k ++ flat_map (λ k. bindings_at k (f k)) (range_with_len (s + 1) (length ns))) here
    ∙ ap (λ xs. xs ++ flat_map (λ k. bindings_at k (f k)) (range_with_len (s + 1) (length ns))) (block_is s n 1 n all)
    ∙ ap (λ xs. block s 1 n ++ xs) rest

-- the items of so many occurrences and of symbols with so many visits each
module _ (total : ℕ) (visits : List ℕ) where
  abbrev values : List Bound
  values = map b.Value (range_with_len 0 total)

  items_are : listed_items total visits ≡ values ++ symbols_from 0 visits
  items_are =
      ap (λ xs. values ++ xs) (symbols_are (slice_index visits) 0 visits (λ i less. let e : 0 + i ≡ i = omega arith in ap (slice_index visits) e))

  all_counted : end_from total visits ≡ length (listed_items total visits)
  all_counted =
      let all = symbols_length 0 total visits in
      let joined = length-append values (symbols_from 0 visits) in
      let front = length-map-range_with_len b.Value 0 total in
      let same = ap length items_are in
      omega arith

  value_told : (o : ℕ) → o < total → slice_get (listed_items total visits) o ≡ Some (b.Value o)
  value_told o less =
      let front = length-map-range_with_len b.Value 0 total in
      let at : 0 + o ≡ o = omega arith in
      ap (λ xs. slice_get xs o) items_are
      ∙ slice_left values (symbols_from 0 visits) o (omega arith)
      ∙ mapped_at b.Value 0 total o less
      ∙ ap (λ k. Some (b.Value k)) at

  kid_told : (s d e : ℕ) → s < length visits → d + e + 1 < slice_index visits s
      → slice_get (listed_items total visits) (slice_index (slice_index_or (rows_from total visits) s []) d + e) ≡ Some (b.Kid s (1 + d) (1 + d + 1 + e))
  kid_told s d e there less =
      let front = length-map-range_with_len b.Value 0 total in
      let at : 0 + s ≡ s = omega arith in
      ap (λ xs. slice_get xs (slice_index (slice_index_or (rows_from total visits) s []) d + e)) items_are
      ∙ in_symbols values 0 visits s d e total (sym front) there less
      ∙ ap (λ k. Some (b.Kid k (1 + d) (1 + d + 1 + e))) at

  abbrev IsTold : Bound → Type 0
  IsTold x = slice_get (listed_items total visits) (number_in (rows_from total visits) x) ≡ Some x

  binding_told : (s i j : ℕ) → s < length visits → 1 ≤ i → i < j → j ≤ slice_index visits s → IsTold (b.Kid s i j)
  binding_told s i j there one less le =
      let from : 1 + (i - 1) ≡ i = omega arith in
      let to : 1 + (i - 1) + 1 + (j - i - 1) ≡ j = omega arith in
      kid_told s (i - 1) (j - i - 1) there (omega arith)
      ∙ ap (λ k. Some (b.Kid s k (1 + (i - 1) + 1 + (j - i - 1)))) from
      ∙ ap (λ k. Some (b.Kid s i k)) to

  in_values : (x : Bound) → Contains values x → IsTold x
  in_values x there =
      let found = member_of_map b.Value (range_with_len 0 total) x there in
      let within = member_of_range 0 total found.0 found.1 in
      subst IsTold found.2 (value_told found.0 (omega arith))

  in_bindings : (x : Bound) → Contains (flat_map (λ s. bindings_at s (slice_index visits s)) (range_with_len 0 (length visits))) x → IsTold x
  in_bindings x there =
      let symbol = member_of_flat (λ s. bindings_at s (slice_index visits s)) (range_with_len 0 (length visits)) x there in
      let s = symbol.0 in
      let n = slice_index visits s in
      let s_within = member_of_range 0 (length visits) s symbol.1 in
      let earlier = member_of_flat (λ i. map (b.Kid s i) (range_with_len (i + 1) (n - i))) (range_with_len 1 n) x symbol.2 in
      let i = earlier.0 in
      let i_within = member_of_range 1 n i earlier.1 in
      let later = member_of_map (b.Kid s i) (range_with_len (i + 1) (n - i)) x earlier.2 in
      let j = later.0 in
      let j_within = member_of_range (i + 1) (n - i) j later.1 in
      subst IsTold later.2 (binding_told s i j (omega arith) (omega arith) (omega arith) (omega arith))

  all_told : (x : Bound) → Contains (listed_items total visits) x → IsTold x
  all_told x there =
      elim (Contains-append_cases values (flat_map (λ s. bindings_at s (slice_index visits s)) (range_with_len 0 (length visits))) x there) [
        | inl value ↦ in_values x value
        | inr binding ↦ in_bindings x binding
      ]

module _ (sorts : List Sort) (parts : List Partition) (p : Production) where
  abbrev listed : List Bound
  listed = listed_items (length (occurrences_of sorts p)) (symbol_visits sorts parts p)

  pub counted : item_count sorts parts p ≡ length (items_of sorts parts p)
  counted = all_counted (length (occurrences_of sorts p)) (symbol_visits sorts parts p) ∙ ap length (items_listed sorts parts p)

  pub told : (x : Bound) → Contains (items_of sorts parts p) x → slice_get (items_of sorts parts p) (number sorts parts p x) ≡ Some x
  told x there =
      subst (λ items. Contains items x → slice_get items (number sorts parts p x) ≡ Some x) (items_listed sorts parts p)
      (all_told (length (occurrences_of sorts p)) (symbol_visits sorts parts p) x) there
