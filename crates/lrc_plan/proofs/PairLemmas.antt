-- Lists of pairs, one more at a time.
use Rattle.std.proofs.Common.{◌≡◌, ℕ, zero, suc, ◌+◌, ◌<◌, Bool, true, false, ◌==◌, cond, List, [], ◌∷◌, ◌++◌, map, take, length, get_or, slice_set, All, subst, length-append, refl, sym, ap, ◌∙◌, append-nil, append_assoc, arith}
use Rattle.std.specs.Prelude.{filter, flat_map}
use Rattle.std.specs.List.{range_with_len}
use Rattle.std.proofs.lemmas.Bool.{eq-eqb, ne_eqb}
use Rattle.std.proofs.lemmas.List.{map-append, take_more, get_or_append_left}
use Rattle.std.proofs.lemmas.List.Elements.{filter-append}
use Rattle.std.proofs.lemmas.List.Concat.{flat_map-append}
use Rattle.std.proofs.lemmas.List.FromFn.{get_or-map-range_with_len, length-map-range_with_len}
use Rattle.lrc_order_meaning.specs.declared.Need.{Need}
use Rattle.lrc_plan_meaning.specs.declared.Bound.{Bound}
use Rattle.lrc_plan_meaning.specs.declared.Bound.TheVariants as item
use Rattle.lrc_plan_meaning.specs.Items.{firsts_of}
use Rattle.lrc_plan.proofs.VisitLemmas.{range_more}

pub flat_range_more : {X : Type 0} (f : ℕ → List X) (old items now : List X) (n : ℕ) → items ≡ old ++ flat_map f (range_with_len 0 n) → now ≡ items ++ f n
    → now ≡ old ++ flat_map f (range_with_len 0 (n + 1))
flat_range_more f old items now n before one =
    let at : 0 + n ≡ n = omega arith in
    let more : flat_map f (range_with_len 0 (n + 1)) ≡ flat_map f (range_with_len 0 n) ++ f n =
    ap (flat_map f) (range_more 0 n ∙ ap (λ k. range_with_len 0 n ++ k ∷ []) at)
    ∙ flat_map-append f (range_with_len 0 n) (n ∷ [])
    ∙ ap (λ xs. flat_map f (range_with_len 0 n) ++ xs) (append-nil (f n)) in
    one ∙ ap (λ xs. xs ++ f n) before ∙ append_assoc old (flat_map f (range_with_len 0 n)) (f n) ∙ ap (λ xs. old ++ xs) (sym more)

pub flat_row_more : {X : Type 0} (f : ℕ → List X) (old items now : List X) (a n k : ℕ) → items ≡ old ++ flat_map f (range_with_len a n) → now ≡ items ++ f k → a + n ≡ k
    → now ≡ old ++ flat_map f (range_with_len a (n + 1))
flat_row_more f old items now a n k before one at =
    let more : flat_map f (range_with_len a (n + 1)) ≡ flat_map f (range_with_len a n) ++ f k =
    ap (flat_map f) (range_more a n ∙ ap (λ m. range_with_len a n ++ m ∷ []) at)
    ∙ flat_map-append f (range_with_len a n) (k ∷ [])
    ∙ ap (λ xs. flat_map f (range_with_len a n) ++ xs) (append-nil (f k)) in
    one ∙ ap (λ xs. xs ++ f k) before ∙ append_assoc old (flat_map f (range_with_len a n)) (f k) ∙ ap (λ xs. old ++ xs) (sym more)

map_same : {X : Type 0} (f g : ℕ → X) (a n t : ℕ) → t < a → ((o : ℕ) → ¬ (o ≡ t) → g o ≡ f o) → map f (range_with_len a n) ≡ map g (range_with_len a n)
map_same f g a zero t less same = refl
map_same f g a (suc n) t less same =
    ap (λ x. x ∷ map f (range_with_len (a + 1) n)) (sym (same a (λ e. absurd (omega arith))))
    ∙ ap (λ xs. g a ∷ xs) (map_same f g (a + 1) n t (omega arith) same)

-- a function that differs at one number alone
map_set : {X : Type 0} (f g : ℕ → X) (a n t k : ℕ) (x : X) → a + t ≡ k → t < n → x ≡ g k → ((o : ℕ) → ¬ (o ≡ k) → g o ≡ f o)
    → slice_set (map f (range_with_len a n)) t x ≡ map g (range_with_len a n)
map_set f g a zero t k x at less is same = absurd (omega arith)
map_set f g a (suc n) zero k x at less is same =
    let e : k ≡ a = omega arith in
    ap (λ y. y ∷ map f (range_with_len (a + 1) n)) (is ∙ ap g e) ∙ ap (λ xs. g a ∷ xs) (map_same f g (a + 1) n k (omega arith) same)
map_set f g a (suc n) (suc t) k x at less is same =
    ap (λ y. y ∷ slice_set (map f (range_with_len (a + 1) n)) t x) (sym (same a (λ e. absurd (omega arith))))
    ∙ ap (λ xs. g a ∷ xs) (map_set f g (a + 1) n t k x (omega arith) (omega arith) is same)

-- the values that are paired with an occurrence, with one pair more
firsts_over : (n : Need) (o : ℕ) (b : Bool) → (n.then == o) ≡ b → firsts_of (n ∷ []) o ≡ cond b (item.Value n.first ∷ []) []
firsts_over n o true e = rw e refl
firsts_over n o false e = rw e refl

firsts_more : (pairs : List Need) (n : Need) (o : ℕ) → firsts_of (pairs ++ n ∷ []) o ≡ firsts_of pairs o ++ firsts_of (n ∷ []) o
firsts_more pairs n o =
    ap (map (λ (m : Need). item.Value m.first)) (filter-append (λ (m : Need). m.then == o) pairs (n ∷ []))
    ∙ map-append (λ (m : Need). item.Value m.first) (filter (λ (m : Need). m.then == o) pairs) (filter (λ (m : Need). m.then == o) (n ∷ []))

firsts_other : (pairs : List Need) (n : Need) (o : ℕ) → ¬ (o ≡ n.then) → firsts_of (pairs ++ n ∷ []) o ≡ firsts_of pairs o
firsts_other pairs n o other =
    firsts_more pairs n o ∙ ap (λ xs. firsts_of pairs o ++ xs) (firsts_over n o false (ne_eqb n.then o (λ e. other (sym e)))) ∙ append-nil (firsts_of pairs o)

firsts_this : (pairs : List Need) (n : Need) → firsts_of (pairs ++ n ∷ []) n.then ≡ firsts_of pairs n.then ++ item.Value n.first ∷ []
firsts_this pairs n = firsts_more pairs n n.then ∙ ap (λ xs. firsts_of pairs n.then ++ xs) (firsts_over n n.then true (eq-eqb n.then n.then refl))

pub lists_more : (pairs : List Need) (i count : ℕ) (n : Need) (lists : List (List Bound)) (list : List Bound) → i < length pairs → get_or pairs i n ≡ n → n.then < count
    → lists ≡ map (firsts_of (take i pairs)) (range_with_len 0 count)
    → list ≡ get_or lists n.then [] ++ item.Value n.first ∷ []
    → slice_set lists n.then list ≡ map (firsts_of (take (i + 1) pairs)) (range_with_len 0 count)
lists_more pairs i count n lists list there is small before grown =
    let next : take (i + 1) pairs ≡ take i pairs ++ n ∷ [] = take_more pairs i n there ∙ ap (λ m. take i pairs ++ m ∷ []) is in
    let old : get_or lists n.then [] ≡ firsts_of (take i pairs) n.then =
    ap (λ (all : List (List Bound)). get_or all n.then []) before
    ∙ get_or-map-range_with_len (firsts_of (take i pairs)) 0 count n.then n.then [] small (omega arith) in
    let made : list ≡ firsts_of (take (i + 1) pairs) n.then =
    grown ∙ ap (λ xs. xs ++ item.Value n.first ∷ []) old ∙ sym (firsts_this (take i pairs) n) ∙ ap (λ ps. firsts_of ps n.then) (sym next) in
    ap (λ (all : List (List Bound)). slice_set all n.then list) before
    ∙ map_set (firsts_of (take i pairs)) (firsts_of (take (i + 1) pairs)) 0 count n.then n.then list (omega arith) small made
    (λ o other. ap (λ ps. firsts_of ps o) next ∙ firsts_other (take i pairs) n o other)

pub lists_count : (pairs : List Need) (count : ℕ) (lists : List (List Bound)) → lists ≡ map (firsts_of pairs) (range_with_len 0 count) → length lists ≡ count
lists_count pairs count lists is = ap (length {A = List Bound}) is ∙ length-map-range_with_len (firsts_of pairs) 0 count

pub lists_are : (pairs those : List Need) (count total : ℕ) (lists : List (List Bound)) → lists ≡ map (firsts_of pairs) (range_with_len 0 count) → pairs ≡ those → count ≡ total
    → lists ≡ map (firsts_of those) (range_with_len 0 total)
lists_are pairs those count total lists made same number =
    made ∙ ap (λ ps. map (firsts_of ps) (range_with_len 0 count)) same ∙ ap (λ n. map (firsts_of those) (range_with_len 0 n)) number

pub all_front : {X : Type 0} (P : X → Type 0) (xs ys : List X) → All P (xs ++ ys) → All P xs
all_front P xs ys all k d less =
    let more = length-append xs ys in
    subst P (get_or_append_left xs ys d k less) (all k d (omega arith))

pub flat_list_more : {X Y : Type 0} (f : X → List Y) (xs : List X) (i : ℕ) (x : X) (items now : List Y) → i < length xs → x ≡ get_or xs i x
    → items ≡ flat_map f (take i xs) → now ≡ items ++ f x → now ≡ flat_map f (take (i + 1) xs)
flat_list_more f xs i x items now there is before one =
    one
    ∙ ap (λ ys. ys ++ f x) before
    ∙ sym (ap (flat_map f) (take_more xs i x there ∙ ap (λ z. take i xs ++ z ∷ []) (sym is))
    ∙ flat_map-append f (take i xs) (x ∷ [])
    ∙ ap (λ ys. flat_map f (take i xs) ++ ys) (append-nil (f x)))
