-- What stands at the front of what is left of a text: what separates tokens, the longest token, or a character with which no token goes on.
use Rattle.std.specs.Prelude.{◌≡◌, ℕ, ◌<◌, ◌≤◌, ◌==◌, not, if◌then◌else◌, List, [], ◌∷◌, ◌++◌, length, take}
use Rattle.std.specs.List.{prefix_len}
use Rattle.std.specs.Str.{IsUtf8}
use Rattle.lrc_lex.specs.declared.TokenClass.{TokenClass}
use Rattle.lrc_lex.specs.Forms.{is_blank, IsToken}

-- from `#`, which is 35, up to the next line feed, which is 10, or the end
abbrev pub comment_len : List ℕ → ℕ
comment_len left = prefix_len (λ c. not (c == 10)) left

-- the length of a blank or a comment at the front; 0 where none stands there
abbrev pub separator_len : List ℕ → ℕ
separator_len [] = 0
separator_len (c ∷ rest) = if is_blank c then 1 else (if c == 35 then comment_len (c ∷ rest) else 0)

-- The first n bytes are a token of this class, and no more of them are a token.
pub record IsLongest (left : List ℕ) (class : TokenClass) (n : ℕ) : Type 0 where
  pub within : n ≤ length left
  pub form : IsToken class (take n left)
  pub longest : (other : TokenClass) (m : ℕ) → n < m → m ≤ length left → IsToken other (take m left) → ⊥

-- a token begins with these bytes
abbrev pub Begins : List ℕ → Type 0
Begins bytes = (class : TokenClass) × (more : List ℕ) × IsToken class (bytes ++ more)

-- No token stands at the front. The first n bytes are the most characters with which a token begins, so that behind them stands one with which none goes on, or the end.
pub record IsBad (left : List ℕ) (n : ℕ) : Type 0 where
  pub some : 1 ≤ length left
  pub no_separator : separator_len left ≡ 0
  pub no_token : (class : TokenClass) (m : ℕ) → m ≤ length left → IsToken class (take m left) → ⊥
  pub within : n ≤ length left
  pub front : IsUtf8 (take n left)
  pub begun : Begins (take n left)
  pub most : (m : ℕ) → n < m → m ≤ length left → IsUtf8 (take m left) → Begins (take m left) → ⊥
