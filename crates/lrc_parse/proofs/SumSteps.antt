-- The steps of the example's reading.
use Rattle.std.proofs.Common.{◌≡◌, ℕ, zero, suc, ◌-◌, ◌<◌, true, false, List, [], ◌∷◌, length, refl, ap, ◌∙◌, arith}
use Rattle.lrc_parse.specs.Kinds.{starts}
use Rattle.lrc_parse.specs.Reading.{Cause, expected, nested, Reading, took, stops, read_one, read_skip, read_ends, read_nested}
use Rattle.lrc_parse.specs.declared.sums.Sign.{Sign}
use Rattle.lrc_parse.specs.declared.sums.Sign.TheVariants.{Number, Plus, Open, Close}
use Rattle.lrc_parse.specs.Sums.{kind_of, number_of, added, reads_atom, reads_sum_of, reads_sum, reads_inside, reads_atom_at, reads_brackets, reads_rest}
use Rattle.lrc_parse.proofs.Steps.{read_one_took, read_either_first, read_either_second, read_skip_took, read_skip_stops, read_skip_end, read_ends_took, read_ends_first, read_ends_stops, read_ends_end, read_nothing_first, read_nothing_other}
use Rattle.lrc_parse.proofs.ListSteps.{read_chain_more, read_chain_stops, read_joined_more, read_joined_end, read_joined_stops}

-- an opening bracket is read by the sum behind it and a closing one
abbrev in_brackets : (List Sign → Reading Sign ℕ) → List Sign → Reading Sign ℕ
in_brackets sum u = read_skip kind_of 2 (read_ends kind_of sum 3) u

pub atom_open : (d : ℕ) (u : List Sign) → reads_atom_at d (Open ∷ u) ≡ reads_brackets d u
unfolding reads_atom_at reads_atom reads_brackets
atom_open d u = read_either_second kind_of (0 ∷ []) (read_one number_of) (in_brackets (reads_inside d)) (Open ∷ u) refl ∙ read_skip_took kind_of 2 _ Open u refl

pub atom_number : (d n : ℕ) (u : List Sign) → reads_atom_at d (Number n ∷ u) ≡ took n u
unfolding reads_atom_at reads_atom
atom_number d n u = read_either_first kind_of (0 ∷ []) (read_one number_of) (in_brackets (reads_inside d)) (Number n ∷ u) refl ∙ read_one_took number_of (Number n) u n refl

pub inside_first : (u : List Sign) → starts kind_of (0 ∷ 2 ∷ []) u ≡ true → reads_inside 0 u ≡ stops nested u
unfolding reads_inside
inside_first u h = read_nothing_first kind_of (0 ∷ 2 ∷ []) nested u h

pub inside_other : (u : List Sign) → starts kind_of (0 ∷ 2 ∷ []) u ≡ false → reads_inside 0 u ≡ stops expected u
unfolding reads_inside
inside_other u h = read_nothing_other kind_of (0 ∷ 2 ∷ []) nested u h

-- what begins no atom
pub atom_other : (d : ℕ) (u : List Sign) → starts kind_of (0 ∷ 2 ∷ []) u ≡ false → reads_atom_at d u ≡ stops expected u
unfolding reads_atom_at reads_atom
atom_other d [] h = read_either_second kind_of (0 ∷ []) (read_one number_of) (in_brackets (reads_inside d)) [] refl ∙ read_skip_end kind_of 2 _
atom_other d (Number n ∷ u) h = cc
atom_other d (Open ∷ u) h = cc
atom_other d (Plus ∷ u) h = read_either_second kind_of (0 ∷ []) (read_one number_of) (in_brackets (reads_inside d)) (Plus ∷ u) refl ∙ read_skip_stops kind_of 2 _ Plus u (λ e. cc)
atom_other d (Close ∷ u) h = read_either_second kind_of (0 ∷ []) (read_one number_of) (in_brackets (reads_inside d)) (Close ∷ u) refl ∙ read_skip_stops kind_of 2 _ Close u (λ e. cc)

pub brackets_no_room : (u r : List Sign) (c : Cause) → reads_inside 0 u ≡ stops c r → reads_brackets 0 u ≡ stops c r
unfolding reads_brackets
brackets_no_room u r c h = read_ends_first kind_of (reads_inside 0) 3 u r c h

inside_less : (d : ℕ) (u : List Sign) → 0 < d → reads_inside d u ≡ reads_sum (d - 1) u
unfolding reads_inside
inside_less zero u h = absurd (omega (arith, h))
inside_less (suc d) u h = ap (λ n. reads_sum n u) (omega arith)

pub brackets_stops : (d : ℕ) (u r : List Sign) (c : Cause) → 0 < d → reads_sum (d - 1) u ≡ stops c r → reads_brackets d u ≡ stops c r
unfolding reads_brackets
brackets_stops d u r c h e = read_ends_first kind_of (reads_inside d) 3 u r c (inside_less d u h ∙ e)

pub brackets_closed : (d : ℕ) (u r : List Sign) (x : ℕ) → 0 < d → reads_sum (d - 1) u ≡ took x (Close ∷ r) → reads_brackets d u ≡ took x r
unfolding reads_brackets
brackets_closed d u r x h e = read_ends_took kind_of (reads_inside d) 3 u Close r x (inside_less d u h ∙ e) refl

pub brackets_unclosed : (d : ℕ) (u r : List Sign) (x : ℕ) → 0 < d → reads_sum (d - 1) u ≡ took x r → starts kind_of (3 ∷ []) r ≡ false → reads_brackets d u ≡ stops expected r
unfolding reads_brackets
brackets_unclosed d u [] x h e n = read_ends_end kind_of (reads_inside d) 3 u x (inside_less d u h ∙ e)
brackets_unclosed d u (t ∷ r) x h e n = read_ends_stops kind_of (reads_inside d) 3 u t r x (inside_less d u h ∙ e) (other t n)
  where
    other : (t : Sign) → starts kind_of (3 ∷ []) (t ∷ r) ≡ false → kind_of t ≡ 3 → ⊥
    other (Number n) h e = cc
    other Plus h e = cc
    other Open h e = cc
    other Close h e = cc

sum_of_inside : (d : ℕ) (u : List Sign) → reads_sum d u ≡ reads_sum_of (reads_inside d) u
unfolding reads_sum read_nested reads_inside
sum_of_inside zero u = refl
sum_of_inside (suc d) u = refl

pub sum_start : (d : ℕ) (u r : List Sign) (x : ℕ) → reads_atom_at d u ≡ took x r → reads_sum d u ≡ reads_rest d x r
unfolding reads_sum_of reads_atom_at reads_rest
sum_start d u r x e = sum_of_inside d u ∙ read_chain_more kind_of added (reads_atom (reads_inside d)) (1 ∷ []) (read_skip kind_of 1 (reads_atom (reads_inside d))) u r x e

pub sum_stops : (d : ℕ) (u r : List Sign) (c : Cause) → reads_atom_at d u ≡ stops c r → reads_sum d u ≡ stops c r
unfolding reads_sum_of reads_atom_at
sum_stops d u r c e = sum_of_inside d u ∙ read_chain_stops kind_of added (reads_atom (reads_inside d)) (1 ∷ []) (read_skip kind_of 1 (reads_atom (reads_inside d))) u r c e

pub rest_more : (d x y : ℕ) (u r : List Sign) → reads_atom_at d u ≡ took y r → length r < length (Plus ∷ u) → reads_rest d x (Plus ∷ u) ≡ reads_rest d (added x y) r
unfolding reads_rest
rest_more d x y u r e h =
    read_joined_more kind_of added (1 ∷ []) (read_skip kind_of 1 (reads_atom_at d)) x (Plus ∷ u) r y refl (read_skip_took kind_of 1 (reads_atom_at d) Plus u refl ∙ e) h

pub rest_stops : (d x : ℕ) (u r : List Sign) (c : Cause) → reads_atom_at d u ≡ stops c r → reads_rest d x (Plus ∷ u) ≡ stops c r
unfolding reads_rest
rest_stops d x u r c e =
    read_joined_stops kind_of added (1 ∷ []) (read_skip kind_of 1 (reads_atom_at d)) x (Plus ∷ u) r c refl (read_skip_took kind_of 1 (reads_atom_at d) Plus u refl ∙ e)

pub rest_end : (d x : ℕ) (u : List Sign) → starts kind_of (1 ∷ []) u ≡ false → reads_rest d x u ≡ took x u
unfolding reads_rest
rest_end d x u e = read_joined_end kind_of added (1 ∷ []) (read_skip kind_of 1 (reads_atom_at d)) x u e

-- the steps of the example's reading
pub ruleset sum_steps = (atom_number, atom_open, atom_other, brackets_no_room, brackets_stops, brackets_closed, brackets_unclosed, sum_start, sum_stops, rest_more, rest_stops, rest_end, inside_first, inside_other)
