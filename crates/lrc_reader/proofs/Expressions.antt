-- The readings of expressions are exact, with a place for each stop.
use Rattle.std.proofs.Common.{◌≡◌, ℕ, ◌+◌, ◌≤◌, ltb, Bool, true, false, List, [], ◌∷◌, refl, inl, inr, arith, pos}
use Rattle.std.proofs.lemmas.Bool.{lt-ltb}
use Rattle.lrc_base.specs.declared.raw.RawExpr.{RawExpr}
use Rattle.lrc_base.specs.declared.raw.RawExpr.TheVariants as e
use Rattle.lrc_parse.specs.Limited.{Limited, Beyond, Given, Loop, Levels}
use Rattle.lrc_parse.specs.Reading.{nested}
use Rattle.lrc_parse.specs.Exact.{Shape, shape_empty, shape_then, shape_either, shape_many}
use Rattle.lrc_parse.specs.Faults.{Widening, Limit, Deeper}
use Rattle.lrc_parse.proofs.Deep.{deeper_wide}
use Rattle.lrc_parse.proofs.Staged.{Staged, staged_loop, staged_more, stages}
use Rattle.lrc_parse.proofs.Levels.{staged_levels, staged_chosen}
use Rattle.lrc_reader.specs.declared.lexeme.Lexeme.{Lexeme}
use Rattle.lrc_reader.specs.declared.lexeme.Lexeme.TheVariants as l
use Rattle.lrc_reader.specs.declared.lexeme.Mark.TheVariants as m
use Rattle.lrc_reader.specs.declared.fault.Limit.TheVariants.{Nodes}
use Rattle.lrc_reader.specs.Lexeme.{kind, number}
use Rattle.lrc_reader.specs.Limits.{node_limit, level_limit}
use Rattle.lrc_reader.specs.Grammar as g
use Rattle.lrc_reader.specs.Grammar.{Name, Counted, literal_expr, times_of, plus_of, comparison_of}
use Rattle.lrc_reader.specs.First.{only, words, literals, times, plus, comparisons, atoms, exprs}
use Rattle.lrc_reader.specs.Reading.{Reader, read_node, read_literal, read_name, read_if_mark, read_times, read_plus, read_comparison, read_two, read_brackets, read_push_argument, read_argument, read_more_arguments, read_arguments, read_any_arguments, read_make, read_named, read_atom, read_factor, read_factors, read_product, read_addend, read_addends, read_sum, read_compared, read_compare, read_if, read_expr_over, read_expr_at, read_expr}
use Rattle.lrc_reader.proofs.Tables.{tells_literal, tells_times, tells_plus, tells_comparison}
use Rattle.lrc_reader.proofs.Exactly.{then, end, either, one, roomy, begins, mark, word}

-- more slack is wider
abbrev pub slacker : ℕ → ℕ → Type 0
slacker i j = i ≤ j

pub slack_wide : Widening slacker
slack_wide = record { same = λ i. omega arith; upper = λ i j. (i + j, omega arith, omega arith) }

-- a slack, and how many levels
abbrev pub Room : Type 0
Room = ℕ × ℕ

abbrev pub roomier : Room → Room → Type 0
roomier = Deeper slacker

pub wide : Widening roomier
wide = deeper_wide slacker slack_wide

node_room : Limit roomier (λ k. node_limit k.0)
node_room = record {
  keeps = λ i j l. let b : i.0 ≤ j.0 = l.0 in omega (arith, b);
  any = λ m. ((m, 0), omega arith);
}

node : {A : Type 0} {o r p : Bool} {s : Shape} {L : Limited Lexeme A} {a : Reader A} {j : Room} (n : ℕ) → s.empty ≡ false → Staged kind roomier o true p s (λ _. L) (λ _. a) j →
    Staged kind roomier o r p s (λ k. g.IsNode k.0 n s.first L) (λ k. read_node k.0 n s.first a) j
node n z e = roomy wide n (λ k. node_limit k.0) Nodes node_room z e

-- the shape of an expression
abbrev pub expr_shape : Shape
expr_shape = record {
  first = exprs;
  empty = false;
  more = number m.Dot ∷ number m.LeftParen ∷ number m.Star ∷ number m.Plus ∷ number m.Minus ∷ number m.SameAs ∷ number m.Less ∷ [];
}

-- of an atom, of a product and of a sum
abbrev atom_shape : Shape
atom_shape = record { first = atoms; empty = false; more = number m.Dot ∷ number m.LeftParen ∷ [] }

-- what begins with these, and goes on as this does
abbrev behind : List ℕ → Shape → Shape
behind ks s = record { first = ks; empty = false; more = s.more }

abbrev product_shape : Shape
product_shape = shape_then atom_shape (shape_many (behind times atom_shape))

abbrev sum_shape : Shape
sum_shape = shape_then product_shape (shape_many (behind plus product_shape))

literal : {o r p : Bool} {j : Room} (n : ℕ) → Staged kind roomier o r p (begins literals) (λ k. g.IsLiteral k.0 n) (λ k. read_literal k.0 n) j
unfolding read_literal
literal n = then wide (node n refl (one wide literals literal_expr (tells_literal e.Int e.Bool e.Name) (l.Natural (pos 0)) refl)) (λ x. end wide _) refl

a_name : {o r p : Bool} {j : Room} (n : ℕ) → Staged kind roomier o r p (begins words) (λ k. g.IsNode k.0 n words g.IsWord) (λ k. read_name k.0 n) j
unfolding read_name
a_name n = node n refl (word wide)

two : {o r p : Bool} {j : Room} (name : Name) (n : ℕ) → Staged kind roomier o r p (begins (only m.Dot)) (λ k. g.IsTwo name n) (λ k. read_two name n) j
unfolding read_two
two name n = then wide (mark wide m.Dot) (λ _. then wide (word wide) (λ attribute. end wide _) refl) refl

module _ (N : Room → ℕ → Limited Lexeme Counted) (a : Room → ℕ → Reader Counted) {o p : Bool} {j : Room} (inner : (n : ℕ) → Staged kind roomier o false p expr_shape (λ k. N k n) (λ k. a k n) j) where
  brackets : {r : Bool} (n : ℕ) → Staged kind roomier o r p (begins (only m.LeftParen)) (λ k. g.IsBrackets k.0 (N k) n) (λ k. read_brackets k.0 (a k) n) j
  unfolding read_brackets
  brackets n = then wide (mark wide m.LeftParen) (λ _. then wide (inner n) (λ x. then wide (mark wide m.RightParen) (λ _. end wide _) refl) refl) refl

  push_argument : (s : List RawExpr × ℕ) → Staged kind roomier o false p expr_shape (λ k. g.IsArgument k.0 (N k) s) (λ k. read_push_argument k.0 (a k) s) j
  unfolding read_push_argument
  push_argument s = then wide (inner s.1) (λ x. end wide _) refl

  pub argument : (s : List RawExpr × ℕ) → Staged kind roomier o false p (behind (only m.Comma) expr_shape) (λ k. Given (g.mark m.Comma) (λ _. g.IsArgument k.0 (N k) s)) (λ k. read_argument k.0 (a k) s) j
  unfolding read_argument
  argument s = then wide (mark wide m.Comma) (λ _. push_argument s) refl

  more_arguments : (s : List RawExpr × ℕ) → Staged kind roomier o false p (shape_many (behind (only m.Comma) expr_shape)) (λ k. Loop (λ z. Given (g.mark m.Comma) (λ _. g.IsArgument k.0 (N k) z)) s) (λ k. read_more_arguments k.0 (a k) s) j
  unfolding read_more_arguments
  more_arguments s = staged_loop kind roomier wide o false p (behind (only m.Comma) expr_shape) (λ z k. Given (g.mark m.Comma) (λ _. g.IsArgument k.0 (N k) z)) (λ z k. read_argument k.0 (a k) z) refl refl j argument s

  arguments : (n : ℕ) → Staged kind roomier o false p (shape_then expr_shape (shape_many (behind (only m.Comma) expr_shape))) (λ k. g.IsArguments k.0 (N k) n) (λ k. read_arguments k.0 (a k) n) j
  unfolding read_arguments
  arguments n = then wide (push_argument ([], n)) (λ s. more_arguments s) refl

  make : {r : Bool} (name : Name) (n : ℕ) → Staged kind roomier o r p (begins (only m.LeftParen)) (λ k. g.IsMake k.0 (N k) name n) (λ k. read_make k.0 (a k) name n) j
  unfolding read_make read_any_arguments
  make name n =
      then wide (mark wide m.LeftParen) (λ _. then wide (either wide (arguments n) (end wide _) refl refl) (λ s. then wide (mark wide m.RightParen) (λ _. end wide _) refl) refl) refl

  named : {r : Bool} (n : ℕ) → Staged kind roomier o r p (behind words atom_shape) (λ k. g.IsNamed k.0 (N k) n) (λ k. read_named k.0 (a k) n) j
  unfolding read_named
  named n = then wide (a_name n) (λ name. either wide (make name (n + 1)) (either wide (two name (n + 1)) (end wide _) refl refl) refl refl) refl

  atom : {r : Bool} (n : ℕ) → Staged kind roomier o r p atom_shape (λ k. g.IsAtom k.0 (N k) n) (λ k. read_atom k.0 (a k) n) j
  unfolding read_atom
  atom n = either wide (literal n) (either wide (brackets n) (named n) refl refl) refl refl

  pub factor : {r : Bool} (x : Counted) → Staged kind roomier o r p (behind times atom_shape) (λ k. g.IsStep k.0 times times_of (g.IsAtom k.0 (N k)) x) (λ k. read_factor k.0 (a k) x) j
  unfolding read_factor read_times
  factor x = then wide (node x.1 refl (one wide times times_of tells_times (l.Mark m.Star) refl)) (λ o. then wide (atom (x.1 + 1)) (λ y. end wide _) refl) refl

  factors : {r : Bool} (x : Counted) → Staged kind roomier o r p (shape_many (behind times atom_shape)) (λ k. Loop (g.IsStep k.0 times times_of (g.IsAtom k.0 (N k))) x) (λ k. read_factors k.0 (a k) x) j
  unfolding read_factors
  factors {r} x = staged_loop kind roomier wide o r p (behind times atom_shape) (λ z k. g.IsStep k.0 times times_of (g.IsAtom k.0 (N k)) z) (λ z k. read_factor k.0 (a k) z) refl refl j factor x

  product : {r : Bool} (n : ℕ) → Staged kind roomier o r p product_shape (λ k. g.IsProduct k.0 (N k) n) (λ k. read_product k.0 (a k) n) j
  unfolding read_product
  product n = then wide (atom n) (λ x. factors x) refl

  pub addend : {r : Bool} (x : Counted) → Staged kind roomier o r p (behind plus product_shape) (λ k. g.IsStep k.0 plus plus_of (g.IsProduct k.0 (N k)) x) (λ k. read_addend k.0 (a k) x) j
  unfolding read_addend read_plus
  addend x = then wide (node x.1 refl (one wide plus plus_of tells_plus (l.Mark m.Plus) refl)) (λ o. then wide (product (x.1 + 1)) (λ y. end wide _) refl) refl

  addends : {r : Bool} (x : Counted) → Staged kind roomier o r p (shape_many (behind plus product_shape)) (λ k. Loop (g.IsStep k.0 plus plus_of (g.IsProduct k.0 (N k))) x) (λ k. read_addends k.0 (a k) x) j
  unfolding read_addends
  addends {r} x = staged_loop kind roomier wide o r p (behind plus product_shape) (λ z k. g.IsStep k.0 plus plus_of (g.IsProduct k.0 (N k)) z) (λ z k. read_addend k.0 (a k) z) refl refl j addend x

  sum : {r : Bool} (n : ℕ) → Staged kind roomier o r p sum_shape (λ k. g.IsSum k.0 (N k) n) (λ k. read_sum k.0 (a k) n) j
  unfolding read_sum
  sum n = then wide (product n) (λ x. addends x) refl

  compared : {r : Bool} (x : Counted) → Staged kind roomier o r p (behind comparisons sum_shape) (λ k. g.IsStep k.0 comparisons comparison_of (g.IsSum k.0 (N k)) x) (λ k. read_compared k.0 (a k) x) j
  unfolding read_compared read_comparison
  compared x = then wide (node x.1 refl (one wide comparisons comparison_of tells_comparison (l.Mark m.Less) refl)) (λ o. then wide (sum (x.1 + 1)) (λ y. end wide _) refl) refl

  compare : {r : Bool} (n : ℕ) → Staged kind roomier o r p (shape_then sum_shape (shape_either (behind comparisons sum_shape) shape_empty)) (λ k. g.IsCompare k.0 (N k) n) (λ k. read_compare k.0 (a k) n) j
  unfolding read_compare
  compare n = then wide (sum n) (λ x. either wide (compared x) (end wide x) refl refl) refl

  conditional : {r : Bool} (n : ℕ) → Staged kind roomier o r p (behind (only m.If) expr_shape) (λ k. g.IsIf k.0 (N k) n) (λ k. read_if k.0 (a k) n) j
  unfolding read_if read_if_mark
  conditional n =
      then wide (node n refl (mark wide m.If)) (λ _. then wide (inner (n + 1)) (λ c. then wide (mark wide m.Then) (λ _. then wide (inner c.1) (λ t. then wide (mark wide m.Else) (λ _. then wide (inner t.1) (λ x. end wide _) refl) refl) refl) refl) refl) refl

  pub expr_over : {r : Bool} (n : ℕ) → Staged kind roomier o r p expr_shape (λ k. g.IsExprOver k.0 (N k) n) (λ k. read_expr_over k.0 (a k) n) j
  unfolding read_expr_over
  expr_over {r} n = staged_more kind roomier o r p expr_shape.more _ _ _ j refl (either wide (conditional n) (compare n) refl refl)

-- the least expression is a literal
a_literal : (n : ℕ) → (i : ℕ) × (u : List Lexeme) × (x : Counted) × (g.IsExprOver i (λ _. Beyond kind exprs nested) n).derives u x
a_literal n =
    let u : List Lexeme = l.Natural (pos 0) ∷ [] in
    let x : Counted = (e.Int (pos 0), n + 1) in
    let room : ltb n (node_limit n) ≡ true = lt-ltb n (node_limit n) (omega arith) in
    (n, u, x, inr (u, [], x, refl, (u, [], x, refl, (u, [], x, refl, inl (u, [], e.Int (pos 0), refl, (room, (l.Natural (pos 0), refl, refl)), (refl, refl)), (0, (refl, refl))), (0, (refl, refl))), inr (refl, refl)))

-- an expression behind so many nodes
pub expr_at : (j : Room) (n : ℕ) → Staged kind roomier true true true expr_shape (λ k. Levels kind exprs (g.IsExprOver k.0) k.1 n) (λ k. read_expr_at k.0 k.1 n) j
unfolding read_expr_at
expr_at j n =
    staged_levels kind slacker slack_wide expr_shape refl (λ i. g.IsExprOver i) (λ i. read_expr_over i) a_literal (λ o p N a i inner q. expr_over N a inner {r = true} q) j n

-- the levels that a slack leaves
abbrev chosen : ℕ → Room
chosen i = (i, level_limit i)

chosen_keeps : (i j : ℕ) → slacker i j → roomier (chosen i) (chosen j)
chosen_keeps i j h = (h, omega (arith, h))

chosen_reach : (k : Room) → (i : ℕ) × roomier k (chosen i)
chosen_reach k = (k.0 + k.1, (omega arith, omega arith))

pub expr : {o r p : Bool} {i : ℕ} → Staged kind slacker o r p expr_shape (λ j. g.IsExpr j) (λ j. read_expr j) i
unfolding read_expr
expr {o} {r} {p} {i} =
    then slack_wide
    (stages kind slacker o r p expr_shape (λ j. Levels kind exprs (g.IsExprOver j) (level_limit j) 0) (λ j. read_expr_at j (level_limit j) 0) i
    (staged_chosen kind roomier slacker chosen chosen_keeps chosen_reach wide expr_shape (λ k. Levels kind exprs (g.IsExprOver k.0) k.1 0) (λ k. read_expr_at k.0 k.1 0) i (expr_at (chosen i) 0)))
    (λ x. end slack_wide _) refl
