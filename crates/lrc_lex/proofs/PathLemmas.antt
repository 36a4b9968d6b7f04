-- Paths: the longest one at the front of a text, and its steps.
use Rattle.std.proofs.Common.{◌≡◌, ℕ, zero, suc, ◌+◌, ◌==◌, ◌<◌, ◌≤◌, Bool, true, false, cond, ◌&&◌, ◌||◌, inl, inr, List, [], ◌∷◌, length, get_or, take, drop, sym, ap, refl, subst, arith, add-one, drop-cons, length-take-le}
use Rattle.std.specs.Char.{is_ascii_digit}
use Rattle.std.specs.List.{take_while}
use Rattle.std.proofs.lemmas.Bool.{false≢true, eq-eqb}
use Rattle.std.proofs.lemmas.Bool.Decides.{nat_tests}
use Rattle.lrc_lex.specs.Decimal.{natural_value}
use Rattle.lrc_lex.specs.Forms.{begins_with, continues_path, path_len, IsPath}
use Rattle.lrc_lex.specs.Front.{path_token_len}
use Rattle.lrc_lex.specs.Tokens.{path_steps}

-- one character more
pub path_len_at : (text : List ℕ) (i : ℕ) → i < length text → path_len (drop i text) ≡ cond (continues_path (get_or text i 0) (drop (i + 1) text)) (suc (path_len (drop (i + 1) text))) 0
path_len_at text i h = rw add-one (ap path_len (drop-cons text i 0 h))

-- the step that begins with a character, if it is a `/` before a digit
pub path_steps_at : (text : List ℕ) (i : ℕ) → i < length text
    → path_steps (drop i text) ≡ cond (get_or text i 0 == 47 && begins_with is_ascii_digit (drop (i + 1) text)) (natural_value (take_while is_ascii_digit (drop (i + 1) text)) ∷ path_steps (drop (i + 1) text)) (path_steps (drop (i + 1) text))
path_steps_at text i h = rw add-one (ap path_steps (drop-cons text i 0 h))

-- what begins a front begins the list
begins_with-front : (test : ℕ → Bool) (xs : List ℕ) (m : ℕ) → begins_with test (take m xs) ≡ true → begins_with test xs ≡ true
begins_with-front test xs zero h = absurd (false≢true h)
begins_with-front test [] (suc m) h = h
begins_with-front test (x ∷ xs) (suc m) h = h

-- so a character that continues the front continues the list
continues-front : (c : ℕ) (xs : List ℕ) (m : ℕ) → continues_path c (take m xs) ≡ true → continues_path c xs ≡ true
continues-front c xs m h = over (is_ascii_digit c) (c == 47) h
  where
    over : (digit slash : Bool) → (digit || (slash && begins_with is_ascii_digit (take m xs))) ≡ true → (digit || (slash && begins_with is_ascii_digit xs)) ≡ true
    over true slash e = refl
    over false true e = begins_with-front is_ascii_digit xs m e
    over false false e = e

path_len-le : (xs : List ℕ) → path_len xs ≤ length xs
path_len-le [] = omega arith
path_len-le (c ∷ rest) = over (continues_path c rest) (path_len-le rest)
  where
    over : (b : Bool) → path_len rest ≤ length rest → cond b (suc (path_len rest)) 0 ≤ suc (length rest)
    over true h = omega arith
    over false h = omega arith

-- a front in which each character continues a path is no longer than the longest
path_len-most : (xs : List ℕ) (m : ℕ) → m ≤ length xs → path_len (take m xs) ≡ length (take m xs) → m ≤ path_len xs
path_len-most [] m h e = omega arith
path_len-most (c ∷ rest) zero h e = omega arith
path_len-most (c ∷ rest) (suc m) h e = over (continues_path c (take m rest)) refl e (path_len-most rest m (omega arith))
  where
    over : (b : Bool) → continues_path c (take m rest) ≡ b → cond b (suc (path_len (take m rest))) 0 ≡ suc (length (take m rest))
        → (path_len (take m rest) ≡ length (take m rest) → m ≤ path_len rest) → suc m ≤ cond (continues_path c rest) (suc (path_len rest)) 0
    over true f g ih =
        let below : m ≤ path_len rest = ih (omega arith) in
        subst (λ b. suc m ≤ cond b (suc (path_len rest)) 0) (sym (continues-front c rest m f)) (omega arith)
    over false f g ih = absurd (omega arith)

-- a digit that begins the list begins its longest front
begins-kept : (rest : List ℕ) → begins_with is_ascii_digit rest ≡ true → begins_with is_ascii_digit (take (path_len rest) rest) ≡ true
begins-kept [] e = absurd (false≢true e)
begins-kept (d ∷ ds) e = subst (λ b. begins_with is_ascii_digit (take (cond (b || (d == 47 && begins_with is_ascii_digit ds)) (suc (path_len ds)) 0) (d ∷ ds)) ≡ true) (sym e) e

continues-kept : (c : ℕ) (rest : List ℕ) → continues_path c rest ≡ true → continues_path c (take (path_len rest) rest) ≡ true
continues-kept c rest h = over (is_ascii_digit c) (c == 47) h
  where
    over : (digit slash : Bool) → (digit || (slash && begins_with is_ascii_digit rest)) ≡ true → (digit || (slash && begins_with is_ascii_digit (take (path_len rest) rest))) ≡ true
    over true slash e = refl
    over false true e = begins-kept rest e
    over false false e = e

-- in the longest front each character continues a path
path_len-form : (xs : List ℕ) → path_len (take (path_len xs) xs) ≡ length (take (path_len xs) xs)
path_len-form [] = refl
path_len-form (c ∷ rest) = over (continues_path c rest) refl (path_len-form rest)
  where
    over : (b : Bool) → continues_path c rest ≡ b → path_len (take (path_len rest) rest) ≡ length (take (path_len rest) rest)
        → path_len (take (cond b (suc (path_len rest)) 0) (c ∷ rest)) ≡ length (take (cond b (suc (path_len rest)) 0) (c ∷ rest))
    over true e ih =
        subst (λ b. cond b (suc (path_len (take (path_len rest) rest))) 0 ≡ suc (length (take (path_len rest) rest))) (sym (continues-kept c rest e)) (ap suc ih)
    over false e ih = refl

-- a path has one character or more
pub path_some : (rest : List ℕ) → 1 ≤ path_token_len rest
path_some rest = over (begins_with is_ascii_digit rest)
  where
    over : (b : Bool) → 1 ≤ cond b (suc (path_len rest)) 1
    over true = omega arith
    over false = omega arith

pub path_within : (c : ℕ) (rest : List ℕ) → path_token_len rest ≤ length (c ∷ rest)
path_within c rest = over (begins_with is_ascii_digit rest)
  where
    over : (b : Bool) → cond b (suc (path_len rest)) 1 ≤ suc (length rest)
    over true = omega (arith, path_len-le rest)
    over false = omega arith

-- the longest path is one
pub path_form : (c : ℕ) (rest : List ℕ) → c ≡ 47 → IsPath (take (path_token_len rest) (c ∷ rest))
path_form c rest slash = over (begins_with is_ascii_digit rest) refl
  where
    over : (b : Bool) → begins_with is_ascii_digit rest ≡ b → IsPath (take (cond b (suc (path_len rest)) 1) (c ∷ rest))
    over true e = (eq-eqb c 47 slash, inr (begins-kept rest e, path_len-form rest))
    over false e = (eq-eqb c 47 slash, inl refl)

-- and no path is longer
pub path_most : (c : ℕ) (rest : List ℕ) (m : ℕ) → m ≤ length (c ∷ rest) → IsPath (take m (c ∷ rest)) → m ≤ path_token_len rest
path_most c rest zero within h = omega arith
path_most c rest (suc m) within h =
    elim h.1 [
      | inl one ↦ omega (arith, one, length-take-le (suc m) (c ∷ rest) within, path_some rest)
      | inr more ↦
          let below : m ≤ path_len rest = path_len-most rest m (omega arith) more.1 in
          subst (λ b. suc m ≤ cond b (suc (path_len rest)) 1) (sym (begins_with-front is_ascii_digit rest m more.0)) (omega arith)
    ]

-- the bytes of a path are ASCII
run_ascii : (xs : List ℕ) (k : ℕ) → k < path_len xs → get_or xs k 0 < 128
run_ascii [] k h = absurd (omega arith)
run_ascii (c ∷ rest) k h = over (is_ascii_digit c) (c == 47) refl refl k h (run_ascii rest)
  where
    over : (digit slash : Bool) → is_ascii_digit c ≡ digit → (c == 47) ≡ slash → (k : ℕ) → k < cond (digit || (slash && begins_with is_ascii_digit rest)) (suc (path_len rest)) 0
        → ((j : ℕ) → j < path_len rest → get_or rest j 0 < 128) → get_or (c ∷ rest) k 0 < 128
    over digit slash e f (suc k) h more = more k (inner (digit || (slash && begins_with is_ascii_digit rest)) h)
      where
        inner : (b : Bool) → suc k < cond b (suc (path_len rest)) 0 → k < path_len rest
        inner true h = omega arith
        inner false h = absurd (omega arith)
    over true slash e f zero h more = grind (arith, nat_tests)
    over false true e f zero h more = grind (arith, nat_tests)
    over false false e f zero h more = absurd (omega arith)

pub path_ascii : (c : ℕ) (rest : List ℕ) → c ≡ 47 → (k : ℕ) → k < path_token_len rest → get_or (c ∷ rest) k 0 < 128
path_ascii c rest slash zero h = omega arith
path_ascii c rest slash (suc k) h = over (begins_with is_ascii_digit rest) h
  where
    over : (b : Bool) → suc k < cond b (suc (path_len rest)) 1 → get_or rest k 0 < 128
    over true h = run_ascii rest k (omega arith)
    over false h = absurd (omega arith)
