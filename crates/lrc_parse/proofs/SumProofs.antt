-- The example's reading is exact, with a place for each stop: a line for each nonterminal.
use Rattle.std.proofs.Common.{◌≡◌, ℕ, zero, suc, ◌+◌, ◌<◌, length, true, false, Some, List, [], ◌∷◌, refl, inl, arith}
use Rattle.lrc_parse.specs.Kinds.{has}
use Rattle.lrc_parse.specs.Language.{Lang, Nothing, One, Skip, Ends}
use Rattle.lrc_parse.specs.Reading.{Reading, nested, took, read_one, read_skip, read_ends}
use Rattle.lrc_parse.specs.Exact.{Shape, Exact, shape_one, shape_skip, shape_ends, shape_either}
use Rattle.lrc_parse.specs.Faults.{Widening, Begins, Tame, Rich, Placed, Full, Deeper}
use Rattle.lrc_parse.specs.declared.sums.Sign.{Sign}
use Rattle.lrc_parse.specs.declared.sums.Sign.TheVariants.{Number, Plus, Open, Close}
use Rattle.lrc_parse.specs.Sums.{kind_of, number_of, added, IsAtom, SumOf, IsSum, reads_atom, reads_sum_of, reads_sum, reads_inside, reads_atom_at, sum_shape, deeper}
use Rattle.lrc_parse.proofs.Parts.{exact_nothing, exact_one, exact_skip, exact_ends, exact_either}
use Rattle.lrc_parse.proofs.Lists.{exact_chain}
use Rattle.lrc_parse.proofs.Whole.{shorter}
use Rattle.lrc_parse.proofs.Loops.{exact_nested}
use Rattle.lrc_parse.proofs.Grow.{Sub, sub_same, sub_either, sub_chain, sub_skip, sub_ends}
use Rattle.lrc_parse.proofs.TameRich.{tame_either, tame_chain, tame_skip, rich_one, rich_skip, rich_either, rich_chain, some_ends}
use Rattle.lrc_parse.proofs.Full.{full_one, full_skip, full_ends, full_either, full_chain}
use Rattle.lrc_parse.proofs.Deep.{inner, deeper_wide, full_nested, full_chosen}

-- a number's kind is among the numbers' kinds, and a sign of that kind has a value
number_kind : (t : Sign) (x : ℕ) → number_of t ≡ Some x → has (0 ∷ []) (kind_of t) ≡ true
number_kind (Number n) x h = refl
number_kind Plus x h = cc
number_kind Open x h = cc
number_kind Close x h = cc

kind_number : (t : Sign) → has (0 ∷ []) (kind_of t) ≡ true → (x : ℕ) × (number_of t ≡ Some x)
kind_number (Number n) h = (n, refl)
kind_number Plus h = absurd (no_kind h)
  where
    no_kind : false ≡ true → ⊥
    no_kind h = cc
kind_number Open h = absurd (no_kind h)
  where
    no_kind : false ≡ true → ⊥
    no_kind h = cc
kind_number Close h = absurd (no_kind h)
  where
    no_kind : false ≡ true → ⊥
    no_kind h = cc

abbrev atom_shape : Shape
atom_shape = shape_either (shape_one (0 ∷ [])) (shape_skip 2 (shape_ends sum_shape 3))

exact_atom : (L : Lang Sign ℕ) (a : List Sign → Reading Sign ℕ) → Exact kind_of sum_shape L a → Exact kind_of atom_shape (IsAtom L) (reads_atom a)
unfolding reads_atom
exact_atom L a e =
    exact_either kind_of (shape_one (0 ∷ [])) (shape_skip 2 (shape_ends sum_shape 3)) (One number_of) (Skip kind_of 2 (Ends kind_of L 3)) _ _ refl refl
    (exact_one kind_of (0 ∷ []) number_of number_kind)
    (exact_skip kind_of 2 (shape_ends sum_shape 3) (Ends kind_of L 3) _ (exact_ends kind_of sum_shape L a 3 refl e))

exact_sum_of : (L : Lang Sign ℕ) (a : List Sign → Reading Sign ℕ) → Exact kind_of sum_shape L a → Exact kind_of sum_shape (SumOf L) (reads_sum_of a)
unfolding reads_sum_of
exact_sum_of L a e =
    exact_chain kind_of added atom_shape (shape_skip 1 atom_shape) (IsAtom L) (Skip kind_of 1 (IsAtom L)) (reads_atom a) _ refl refl refl
    (exact_atom L a e) (exact_skip kind_of 1 atom_shape (IsAtom L) (reads_atom a) (exact_atom L a e))

pub exact_sum : (depth : ℕ) → Exact kind_of sum_shape (IsSum depth) (reads_sum depth)
unfolding reads_sum
exact_sum depth = exact_nested kind_of sum_shape SumOf reads_sum_of exact_sum_of depth

exact_inside : (depth : ℕ) → Exact kind_of sum_shape (inner SumOf depth) (reads_inside depth)
unfolding reads_inside
exact_inside zero = exact_nothing kind_of sum_shape nested
exact_inside (suc depth) = exact_sum depth

-- nothing but the depth is limited
abbrev free : Unit {0} → Unit {0} → Type 0
free i j = Unit {0}

free_wide : Widening free
free_wide = record { same = λ i. tt; upper = λ i j. (tt, tt, tt) }

sum_grows : (L M : Lang Sign ℕ) → Sub L M → Sub (SumOf L) (SumOf M)
sum_grows L M h =
    let a : Sub (IsAtom L) (IsAtom M) = sub_either (One number_of) (One number_of) (Skip kind_of 2 (Ends kind_of L 3)) (Skip kind_of 2 (Ends kind_of M 3))
    (sub_same (One number_of)) (sub_skip kind_of 2 (Ends kind_of L 3) (Ends kind_of M 3) (sub_ends kind_of L M 3 h)) in
    sub_chain added (IsAtom L) (IsAtom M) (Skip kind_of 1 (IsAtom L)) (Skip kind_of 1 (IsAtom M)) a (sub_skip kind_of 1 (IsAtom L) (IsAtom M) a)

atom_tame : (a : List Sign → Reading Sign ℕ) → Tame kind_of atom_shape (reads_atom a)
unfolding reads_atom
atom_tame a = tame_either kind_of (shape_one (0 ∷ [])) (shape_skip 2 (shape_ends sum_shape 3)) _ _ (tame_skip kind_of 2 (shape_ends sum_shape 3) (read_ends kind_of a 3))

sum_tame : (a : List Sign → Reading Sign ℕ) → Tame kind_of sum_shape (reads_sum_of a)
unfolding reads_sum_of
sum_tame a = tame_chain kind_of added atom_shape (shape_skip 1 atom_shape) (reads_atom a) _ (atom_tame a)

module _ {I : Type 0} (le : I → I → Type 0) (wide : Widening le) where
  atom_rich : (N : I → Lang Sign ℕ) → Begins N [] → Rich kind_of atom_shape (λ j. IsAtom (N j))
  atom_rich N b =
      rich_either kind_of (shape_one (0 ∷ [])) (shape_skip 2 (shape_ends sum_shape 3)) (λ _. One number_of) (λ j. Skip kind_of 2 (Ends kind_of (N j) 3))
      (rich_one kind_of (0 ∷ []) number_of b.0 kind_number (Number 0) refl)
      (rich_skip kind_of 2 (shape_ends sum_shape 3) (λ j. Ends kind_of (N j) 3) Open refl (some_ends kind_of N 3 Close refl b))

  sum_rich : (N : I → Lang Sign ℕ) → Begins N [] → Rich kind_of sum_shape (λ j. SumOf (N j))
  sum_rich N b =
      rich_chain kind_of added atom_shape (shape_skip 1 atom_shape) (λ j. IsAtom (N j)) (λ j. Skip kind_of 1 (IsAtom (N j))) refl (atom_rich N b)

  full_atom : (N : I → Lang Sign ℕ) (a : I → List Sign → Reading Sign ℕ) (i : I) → Full kind_of le sum_shape N a i →
      Full kind_of le atom_shape (λ j. IsAtom (N j)) (λ j. reads_atom (a j)) i
  unfolding reads_atom
  full_atom N a i e =
      full_either kind_of le wide (shape_one (0 ∷ [])) (shape_skip 2 (shape_ends sum_shape 3)) (λ _. One number_of) (λ j. Skip kind_of 2 (Ends kind_of (N j) 3))
      (λ _. read_one number_of) (λ j. read_skip kind_of 2 (read_ends kind_of (a j) 3)) refl refl i
      (full_one kind_of le wide (0 ∷ []) number_of number_kind kind_number (Number 0) refl i)
      (full_skip kind_of le wide 2 Open refl (shape_ends sum_shape 3) (λ j. Ends kind_of (N j) 3) (λ j. read_ends kind_of (a j) 3) i
      (full_ends kind_of le wide sum_shape N a 3 Close refl refl i e))

  sum_placed : (N : I → Lang Sign ℕ) (a : I → List Sign → Reading Sign ℕ) (i : I) → Full kind_of le sum_shape N a i →
      Placed le (λ j. SumOf (N j)) (λ j. reads_sum_of (a j)) i
  unfolding reads_sum_of
  sum_placed N a i e =
      (full_chain kind_of le wide added atom_shape (shape_skip 1 atom_shape) (λ j. IsAtom (N j)) (λ j. Skip kind_of 1 (IsAtom (N j))) (λ j. reads_atom (a j))
      (λ j. read_skip kind_of 1 (reads_atom (a j))) refl refl refl i (full_atom N a i e)
      (full_skip kind_of le wide 1 Plus refl atom_shape (λ j. IsAtom (N j)) (λ j. reads_atom (a j)) i (full_atom N a i e))).placed

-- the least sum is a number alone
one_number : SumOf Nothing (Number 0 ∷ []) 0
one_number = (Number 0 ∷ [], [], 0, [], refl, inl (Number 0, refl, refl), refl, refl)

pub full_sum : (depth : ℕ) → Full kind_of deeper sum_shape IsSum reads_sum depth
unfolding reads_sum
full_sum depth =
    full_chosen kind_of (Deeper free) deeper (deeper_wide free free_wide) (λ n. (tt, n)) (λ i j l. (tt, l)) (λ i. (i.1, (tt, omega arith))) sum_shape
    (λ j. IsSum j.1) (λ j. reads_sum j.1) depth
    (full_nested kind_of free free_wide sum_shape (λ _. SumOf) (λ _. reads_sum_of) refl (λ _. exact_sum_of) (λ i j l. sum_grows) (tt, Number 0 ∷ [], 0, one_number)
    (λ _ a e. sum_tame a) (λ N g b. sum_rich (Deeper free) (deeper_wide free free_wide) N b) (sum_placed (Deeper free) (deeper_wide free free_wide)) (tt, depth))

pub deeper_widens : Widening deeper
deeper_widens = record { same = λ i. omega arith; upper = λ i j. (i + j, omega arith, omega arith) }

-- an atom takes a sign
pub atom_shorter : (d : ℕ) (u r : List Sign) (x : ℕ) → reads_atom_at d u ≡ took x r → length r < length u
unfolding reads_atom_at
atom_shorter d u r x h =
    shorter kind_of atom_shape (IsAtom (inner SumOf d)) (reads_atom (reads_inside d)) (exact_atom (inner SumOf d) (reads_inside d) (exact_inside d)) refl u r x h
