-- An example: sums of numbers by `+`, left to right, with sums in brackets as numbers; they count modulo 256.
use Rattle.std.specs.Prelude.{◌≡◌, ℕ, zero, suc, ◌+◌, ◌%◌, ◌≤◌, false, Option, Some, None, List, [], ◌∷◌, ◌++◌, Result, Ok, Err}
use Rattle.std.specs.Borrow.{Bor}
use Rattle.lrc_parse.specs.Language.{Lang, One, Either, Chain, Nested, Skip, Ends}
use Rattle.lrc_parse.specs.Reading.{Cause, expected, nested, Reading, took, stops, read_nothing, read_joined, read_one, read_either, read_chain, read_skip, read_ends, read_nested}
use Rattle.lrc_parse.specs.Exact.{Shape}
use Rattle.lrc_parse.specs.Faults.{Caused}
use Rattle.lrc_parse.specs.declared.sums.Sign.{Sign}
use Rattle.lrc_parse.specs.declared.sums.Sign.TheVariants.{Number, Plus, Open, Close}
use Rattle.lrc_parse.specs.declared.sum_reader.Why.{Why}
use Rattle.lrc_parse.specs.declared.sum_reader.Why.TheVariants.{Expected, TooDeep}
use Rattle.lrc_parse.specs.declared.sum_reader.Stop.{Stop}

-- a sign's kind: 0 a number, 1 a plus, 2 an opening bracket, 3 a closing one
abbrev pub kind_of : Sign → ℕ
kind_of (Number n) = 0
kind_of Plus = 1
kind_of Open = 2
kind_of Close = 3

-- the number that a sign is
abbrev pub number_of : Sign → Option ℕ
number_of (Number n) = Some n
number_of Plus = None
number_of Open = None
number_of Close = None

-- the sum of two, modulo 256
abbrev pub added : ℕ → ℕ → ℕ
added x y = (x + y) % 256

-- a number, or a sum in brackets
abbrev pub IsAtom : Lang Sign ℕ → Lang Sign ℕ
IsAtom Sum = Either (One number_of) (Skip kind_of 2 (Ends kind_of Sum 3))

-- atoms with a plus between each two
abbrev pub SumOf : Lang Sign ℕ → Lang Sign ℕ
SumOf Sum = Chain added (IsAtom Sum) (Skip kind_of 1 (IsAtom Sum))

-- a sum whose brackets stand at most `depth` deep within one another
abbrev pub IsSum : ℕ → Lang Sign ℕ
IsSum depth = Nested SumOf depth

-- how an atom is read, where `sum` reads what stands in brackets
unfoldable pub reads_atom : (List Sign → Reading Sign ℕ) → List Sign → Reading Sign ℕ
reads_atom sum u = read_either kind_of (0 ∷ []) (read_one number_of) (read_skip kind_of 2 (read_ends kind_of sum 3)) u

unfoldable pub reads_sum_of : (List Sign → Reading Sign ℕ) → List Sign → Reading Sign ℕ
reads_sum_of sum u = read_chain kind_of added (reads_atom sum) (1 ∷ []) (read_skip kind_of 1 (reads_atom sum)) u

unfoldable pub reads_sum : ℕ → List Sign → Reading Sign ℕ
reads_sum depth u = read_nested kind_of reads_sum_of (0 ∷ 2 ∷ []) depth u

-- a sum begins with a number or a bracket, and goes on with a plus
abbrev pub sum_shape : Shape
sum_shape = record { first = 0 ∷ 2 ∷ []; empty = false; more = 1 ∷ [] }

-- a greater depth is wider
abbrev pub deeper : ℕ → ℕ → Type 0
deeper m n = m ≤ n

-- how what stands in brackets is read, with `depth` to go
unfoldable pub reads_inside : ℕ → List Sign → Reading Sign ℕ
reads_inside zero u = read_nothing kind_of (0 ∷ 2 ∷ []) nested u
reads_inside (suc depth) u = reads_sum depth u

-- how an atom is read, with `depth` to go
unfoldable pub reads_atom_at : ℕ → List Sign → Reading Sign ℕ
reads_atom_at depth u = reads_atom (reads_inside depth) u

-- how what stands behind an opening bracket is read, with `depth` to go
unfoldable pub reads_brackets : ℕ → List Sign → Reading Sign ℕ
reads_brackets depth u = read_ends kind_of (reads_inside depth) 3 u

-- how the sum goes on behind `total`, with `depth` to go
unfoldable pub reads_rest : ℕ → ℕ → List Sign → Reading Sign ℕ
reads_rest depth total u = read_joined kind_of added (1 ∷ []) (read_skip kind_of 1 (reads_atom_at depth)) total u

-- the cause of a stop
abbrev pub cause_of : Why → Cause
cause_of Expected = expected
cause_of TooDeep = nested

-- an answer gives a reading: the value with the signs behind it, or the cause with the signs from the stop on
abbrev pub Gives : Reading Sign ℕ → Result (ℕ × Bor (List Sign)) Stop → Type 0
Gives o (Ok p) = o ≡ took p.0 p.1.now
Gives o (Err s) = o ≡ stops (cause_of s.why) s.left.now

-- the first fault of signs that are no sum of this depth: its cause, and the signs from there on
abbrev pub IsFault : ℕ → Cause → List Sign → List Sign → Type 0
IsFault depth c u r = (p : List Sign) × (u ≡ p ++ r) × Caused IsSum depth c p r
