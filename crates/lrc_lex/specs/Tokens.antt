-- The tokens of a text, or its first lexical fault.
use Rattle.std.specs.Prelude.{◌≡◌, ℕ, ◌+◌, ◌==◌, ◌≤◌, Bool, true, false, ◌&&◌, if◌then◌else◌, nat_le, List, [], ◌∷◌, length, take, drop}
use Rattle.std.specs.Char.{is_ascii_digit}
use Rattle.std.specs.List.{take_while, list_all}
use Rattle.std.specs.Str.{IsUtf8, IsValidUpTo}
use Rattle.lrc_base.specs.declared.limits.TheConstants.{NAME_LIMIT}
use Rattle.lrc_lex.specs.declared.TokenClass.{TokenClass}
use Rattle.lrc_lex.specs.declared.TokenClass.TheVariants.{Word, Natural, Negative, NameLit, Text, Path, Symbol}
use Rattle.lrc_lex.specs.declared.Token.{Token}
use Rattle.lrc_lex.specs.declared.LexFault.{LexFault}
use Rattle.lrc_lex.specs.declared.LexFault.TheVariants.{NotUtf8, BadChar, NumberRange, NameLong}
use Rattle.lrc_lex.specs.Decimal.{natural_value}
use Rattle.lrc_lex.specs.Forms.{begins_with}
use Rattle.lrc_lex.specs.Place.{separator_len, IsLongest, IsBad}

-- the steps of a path: for each `/` that a digit follows, the value of the digits directly behind it
abbrev pub path_steps : List ℕ → List ℕ
path_steps [] = []
path_steps (c ∷ rest) =
    if c == 47 && begins_with is_ascii_digit rest then natural_value (take_while is_ascii_digit rest) ∷ path_steps rest
    else path_steps rest

-- each step of a path is at most 255
abbrev pub are_steps_small : List ℕ → Bool
are_steps_small bytes = list_all (λ step. nat_le step 255) (path_steps bytes)

-- a name has 64 bytes at most, a number lies from -2^63 to 2^63 - 1, and a step of a path is at most 255
abbrev pub fits : TokenClass → List ℕ → Bool
fits Word bytes = nat_le (length bytes) NAME_LIMIT
fits NameLit bytes = nat_le (length bytes) (1 + NAME_LIMIT)
fits Natural bytes = nat_le (natural_value bytes) 9223372036854775807
fits Negative bytes = nat_le (natural_value (drop 1 bytes)) 9223372036854775808
fits Path bytes = are_steps_small bytes
fits Text bytes = true
fits Symbol bytes = true

-- the fault of a token that doesn't fit, at its first byte
abbrev pub excess : TokenClass → ℕ → LexFault
excess Word at = NameLong at
excess NameLit at = NameLong at
excess Natural at = NumberRange at
excess Negative at = NumberRange at
excess Path at = NumberRange at
excess Text at = NumberRange at
excess Symbol at = NumberRange at

-- the token of this class that begins at this place and has this many bytes
abbrev pub token_at : TokenClass → ℕ → ℕ → Token
token_at class at n = record { class = class; at = at; «end» = at + n }

-- The text that is left at a place has these tokens.
pub data TokensFrom : List ℕ → ℕ → List Token → Type 0 where
  ends : {left : List ℕ} {at : ℕ} → left ≡ [] → TokensFrom left at []
  skips : {left : List ℕ} {at n : ℕ} {tokens : List Token} → separator_len left ≡ n → 1 ≤ n → TokensFrom (drop n left) (at + n) tokens → TokensFrom left at tokens
  takes : {left : List ℕ} {at n : ℕ} {class : TokenClass} {tokens : List Token} → IsLongest left class n → fits class (take n left) ≡ true
      → TokensFrom (drop n left) (at + n) tokens → TokensFrom left at (token_at class at n ∷ tokens)

-- The text that is left at a place has this fault first.
pub data FaultFrom : List ℕ → ℕ → LexFault → Type 0 where
  refuses : {left : List ℕ} {at n : ℕ} → IsBad left n → FaultFrom left at (BadChar (at + n))
  exceeds : {left : List ℕ} {at n : ℕ} {class : TokenClass} → IsLongest left class n → fits class (take n left) ≡ false → FaultFrom left at (excess class at)
  past_skip : {left : List ℕ} {at n : ℕ} {fault : LexFault} → separator_len left ≡ n → 1 ≤ n → FaultFrom (drop n left) (at + n) fault → FaultFrom left at fault
  past_token : {left : List ℕ} {at n : ℕ} {class : TokenClass} {fault : LexFault} → IsLongest left class n → fits class (take n left) ≡ true
      → FaultFrom (drop n left) (at + n) fault → FaultFrom left at fault

-- The whole text, in UTF-8, has these tokens.
pub record Tokens (text : List ℕ) (tokens : List Token) : Type 0 where
  pub utf8 : IsUtf8 text
  pub cut : TokensFrom text 0 tokens

-- The first fault of a text: where its longest front in UTF-8 ends, or else the first among its tokens.
pub data FirstFault (text : List ℕ) : LexFault → Type 0 where
  not_utf8 : {n : ℕ} → IsValidUpTo text n → FirstFault text (NotUtf8 n)
  among_tokens : {fault : LexFault} → IsUtf8 text → FaultFrom text 0 fault → FirstFault text fault
