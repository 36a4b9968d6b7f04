-- The form of a token of each class. Words are told by their characters, all else by bytes.
use Rattle.std.specs.Prelude.{◌≡◌, ℕ, suc, ◌==◌, ◌≤◌, ◌⊎◌, Bool, true, false, not, ◌&&◌, ◌||◌, nat_le, if◌then◌else◌, List, [], ◌∷◌, length, drop, slice_index, codes}
use Rattle.std.specs.Char.{is_ascii_digit}
use Rattle.std.specs.List.{AllPass, list_any, list_all}
use Rattle.std.specs.Str.{IsUtf8, chars}
use Rattle.unicode_ident.specs.Ident.{is_xid_start, is_xid_continue}
use Rattle.lrc_lex.specs.declared.TokenClass.{TokenClass}
use Rattle.lrc_lex.specs.declared.TokenClass.TheVariants.{Word, Natural, Negative, NameLit, Text, Path, Symbol}

-- space, tab, line feed and carriage return
abbrev pub is_blank : ℕ → Bool
is_blank c = c == 32 || c == 9 || c == 10 || c == 13

-- a character with which identifiers start, or `_`, which is 95
abbrev pub starts_word : ℕ → Bool
starts_word c = is_xid_start c || c == 95

-- characters that spell a word: one that starts it, and then those that continue identifiers
abbrev pub is_word : List ℕ → Bool
is_word [] = false
is_word (c ∷ rest) = starts_word c && list_all is_xid_continue rest

-- a symbol of one character
abbrev pub is_symbol : ℕ → Bool
is_symbol c = list_any (λ symbol. symbol == c) (codes "{}():;,.=<+-*")

-- `"`, which is 34, or `\`, which is 92: in a text in quotes they stand behind a `\`
abbrev pub is_escaped : ℕ → Bool
is_escaped c = c == 34 || c == 92

-- a byte of a text in quotes that stands for itself
abbrev pub is_plain : ℕ → Bool
is_plain c = nat_le 32 c && nat_le c 126 && not (is_escaped c)

-- the first character is there and passes the test
abbrev pub begins_with : (ℕ → Bool) → List ℕ → Bool
begins_with test [] = false
begins_with test (c ∷ rest) = test c

-- a digit, or a `/`, which is 47, with a digit directly behind it
abbrev pub continues_path : ℕ → List ℕ → Bool
continues_path c rest = is_ascii_digit c || (c == 47 && begins_with is_ascii_digit rest)

-- the length of the longest front in which each character continues a path
abbrev pub path_len : List ℕ → ℕ
path_len [] = 0
path_len (c ∷ rest) = if continues_path c rest then suc (path_len rest) else 0

-- one digit or more
abbrev pub IsDigits : List ℕ → Type 0
IsDigits bytes = (1 ≤ length bytes) × AllPass is_ascii_digit bytes

-- the bytes of a word in UTF-8
abbrev pub IsWord : List ℕ → Type 0
IsWord bytes = IsUtf8 bytes × (is_word (chars bytes) ≡ true)

-- what stands behind the `"` that opens a text, up to the one that closes it
pub data IsTextRest : List ℕ → Type 0 where
  closed : {c : ℕ} → c ≡ 34 → IsTextRest (c ∷ [])
  plain : {c : ℕ} {rest : List ℕ} → is_plain c ≡ true → IsTextRest rest → IsTextRest (c ∷ rest)
  escaped : {c d : ℕ} {rest : List ℕ} → c ≡ 92 → is_escaped d ≡ true → IsTextRest rest → IsTextRest (c ∷ d ∷ rest)

-- `/` alone, or one or more groups of `/` directly followed by digits
abbrev pub IsPath : List ℕ → Type 0
IsPath bytes =
    (begins_with (λ c. c == 47) bytes ≡ true)
    × ((length bytes ≡ 1) ⊎ ((begins_with is_ascii_digit (drop 1 bytes) ≡ true) × (path_len (drop 1 bytes) ≡ length (drop 1 bytes))))

-- The bytes have the form of a token of this class, whatever their number and value; 45 is `-`, and 39 is `'`.
abbrev pub IsToken : TokenClass → List ℕ → Type 0
IsToken Word bytes = IsWord bytes
IsToken Natural bytes = IsDigits bytes
IsToken Negative bytes = (begins_with (λ c. c == 45) bytes ≡ true) × IsDigits (drop 1 bytes)
IsToken NameLit bytes = (begins_with (λ c. c == 39) bytes ≡ true) × IsWord (drop 1 bytes)
IsToken Text bytes = (begins_with (λ c. c == 34) bytes ≡ true) × IsTextRest (drop 1 bytes)
IsToken Path bytes = IsPath bytes
IsToken Symbol bytes = ((length bytes ≡ 1) × (is_symbol (slice_index bytes 0) ≡ true)) ⊎ (bytes ≡ codes "==")
