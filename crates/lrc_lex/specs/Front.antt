-- What stands at the front of a text, by its first character.
use Rattle.std.specs.Prelude.{ℕ, suc, ◌+◌, ◌==◌, Bool, true, false, ◌&&◌, if◌then◌else◌, List, [], ◌∷◌}
use Rattle.std.specs.Char.{is_ascii_digit, len_utf8}
use Rattle.std.specs.List.{prefix_len}
use Rattle.std.specs.Str.{chars}
use Rattle.unicode_ident.specs.Ident.{is_xid_continue}
use Rattle.lrc_lex.specs.declared.TokenClass.TheVariants.{Word, Natural, Negative, NameLit, Text, Path, Symbol}
use Rattle.lrc_lex.specs.declared.scan.Step.{Step}
use Rattle.lrc_lex.specs.declared.scan.Step.TheVariants.{End, Skip, Take, Refuse}
use Rattle.lrc_lex.specs.Place.{comment_len}
use Rattle.lrc_lex.specs.Forms.{is_blank, starts_word, is_symbol, is_plain, is_escaped, begins_with, path_len}

-- the bytes of the longest run of characters that continue a word
abbrev pub run_len : List ℕ → ℕ
run_len [] = 0
run_len (c ∷ rest) = if is_xid_continue c then len_utf8 c + run_len rest else 0

-- the bytes of the longest word that these characters begin with; 0 where no word stands there
abbrev pub word_len : List ℕ → ℕ
word_len [] = 0
word_len (c ∷ rest) = if starts_word c then len_utf8 c + run_len rest else 0

-- the longest path whose `/` this follows: `/` alone where no digit follows
abbrev pub path_token_len : List ℕ → ℕ
path_token_len rest = if begins_with is_ascii_digit rest then suc (path_len rest) else 1

-- the longest symbol that begins with c; 61 is `=`. A `-` before a digit begins a negative number
abbrev pub symbol_step : ℕ → List ℕ → Step
symbol_step c rest =
    if c == 61 && begins_with (λ d. d == 61) rest then Take Symbol 2
    else (if c == 45 && begins_with is_ascii_digit rest then Take Negative (suc (prefix_len is_ascii_digit rest))
    else Take Symbol 1)

-- a text of which n bytes are read, the last of them a `\` or not: up to its end, or to the first character that isn't allowed
abbrev pub text_step : Bool → ℕ → List ℕ → Step
text_step behind n [] = Refuse n
text_step true n (c ∷ rest) = if is_escaped c then text_step false (suc n) rest else Refuse n
text_step false n (c ∷ rest) =
    if is_plain c then text_step false (suc n) rest
    else (if c == 34 then Take Text (suc n)
    else (if c == 92 then text_step true (suc n) rest
    else Refuse n))

-- a word of so many bytes, alone and behind a `'`; none where they are 0
abbrev pub word_step : ℕ → Step
word_step n = if n == 0 then Refuse 0 else Take Word n

abbrev pub name_lit_step : ℕ → Step
name_lit_step n = if n == 0 then Refuse 1 else Take NameLit (suc n)

-- by the first character, and what follows it; 35 is `#`
abbrev pub step_by : ℕ → List ℕ → List ℕ → Step
step_by c rest left =
    if is_blank c then Skip 1
    else (if c == 35 then Skip (comment_len left)
    else (if is_ascii_digit c then Take Natural (prefix_len is_ascii_digit left)
    else (if c == 47 then Take Path (path_token_len rest)
    else (if is_symbol c then symbol_step c rest
    else (if c == 34 then text_step false 1 rest
    else (if c == 39 then name_lit_step (word_len (chars rest))
    else word_step (word_len (chars left))))))))

-- What stands at the front of a text: its end, what separates tokens, the longest token, or the place of the first character that can't begin or continue a token.
unfoldable pub next : List ℕ → Step
next [] = End
next (c ∷ rest) = step_by c rest (c ∷ rest)
