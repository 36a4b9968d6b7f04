-- What the reader sees of a token.
use Rattle.std.specs.Prelude.{ℕ, pos, neg_ℤ, List, [], ◌∷◌, map, drop, slice_range, Option, Some, None, if◌then◌else◌, codes}
use Rattle.std.specs.Str.{bytes_eq}
use Rattle.lrc_lex.specs.declared.Token.{Token}
use Rattle.lrc_lex.specs.declared.TokenClass.{TokenClass}
use Rattle.lrc_lex.specs.declared.TokenClass.TheVariants as class
use Rattle.lrc_base.specs.declared.job.Path.{Path}
use Rattle.lrc_lex.specs.Decimal.{natural_value}
use Rattle.lrc_lex.specs.Quoted.{unquoted}
use Rattle.lrc_reader.specs.Place.{place}
use Rattle.lrc_reader.specs.declared.lexeme.Mark.{Mark}
use Rattle.lrc_reader.specs.declared.lexeme.Mark.TheVariants as m
use Rattle.lrc_reader.specs.declared.lexeme.Lexeme.{Lexeme}
use Rattle.lrc_reader.specs.declared.lexeme.Lexeme.TheVariants as l

-- the first mark of a table that is spelled so
abbrev pub mark_in : List (List ℕ × Mark) → List ℕ → Option Mark
mark_in [] spelling = None
mark_in (entry ∷ table) spelling = if bytes_eq entry.0 spelling then Some entry.1 else mark_in table spelling

-- each reserved word and symbol with its spelling
abbrev pub marks : List (List ℕ × Mark)
marks =
    (codes "{", m.LeftBrace) ∷
    (codes "}", m.RightBrace) ∷
    (codes "(", m.LeftParen) ∷
    (codes ")", m.RightParen) ∷
    (codes ":", m.Colon) ∷
    (codes ";", m.Semicolon) ∷
    (codes ",", m.Comma) ∷
    (codes ".", m.Dot) ∷
    (codes "=", m.Equals) ∷
    (codes "==", m.SameAs) ∷
    (codes "<", m.Less) ∷
    (codes "+", m.Plus) ∷
    (codes "-", m.Minus) ∷
    (codes "*", m.Star) ∷
    (codes "lrc", m.Lrc) ∷
    (codes "sort", m.Sort) ∷
    (codes "prod", m.Prod) ∷
    (codes "start", m.Start) ∷
    (codes "session", m.Session) ∷
    (codes "inh", m.Inh) ∷
    (codes "syn", m.Syn) ∷
    (codes "local", m.Local) ∷
    (codes "attach", m.Attach) ∷
    (codes "text", m.Text) ∷
    (codes "on", m.On) ∷
    (codes "put", m.Put) ∷
    (codes "copy", m.Copy) ∷
    (codes "show", m.Show) ∷
    (codes "forget", m.Forget) ∷
    (codes "if", m.If) ∷
    (codes "then", m.Then) ∷
    (codes "else", m.Else) ∷
    (codes "true", m.True) ∷
    (codes "false", m.False) ∷
    (codes "Int", m.Int) ∷
    (codes "Bool", m.Bool) ∷
    (codes "Name", m.Name) ∷
    []

-- the reserved word or symbol that is spelled so
unfoldable pub mark_of : List ℕ → Option Mark
mark_of = mark_in marks

-- a mark, or else a word
abbrev pub word_or : List ℕ → Option Mark → Lexeme
word_or spelling (Some m) = l.Mark m
word_or spelling None = l.Word spelling

abbrev pub mark_or_other : Option Mark → Lexeme
mark_or_other (Some m) = l.Mark m
mark_or_other None = l.Other

-- what the reader sees of a token of this class with this text
unfoldable pub seen : TokenClass → List ℕ → Lexeme
seen class.Word spelling = word_or spelling (mark_of spelling)
seen class.Symbol spelling = mark_or_other (mark_of spelling)
seen class.Natural spelling = l.Natural (pos (natural_value spelling))
seen class.Negative spelling = l.Negative (neg_ℤ (pos (natural_value (drop 1 spelling))))
seen class.NameLit spelling = l.Name (drop 1 spelling)
seen class.Text spelling = l.Text (unquoted spelling)
seen class.Path spelling = l.Path (place spelling)

-- the same by the mark that the token is, if it is one
abbrev pub seen_as : TokenClass → List ℕ → Option Mark → Lexeme
seen_as class.Word spelling mark = word_or spelling mark
seen_as class.Symbol spelling mark = mark_or_other mark
seen_as class.Natural spelling mark = l.Natural (pos (natural_value spelling))
seen_as class.Negative spelling mark = l.Negative (neg_ℤ (pos (natural_value (drop 1 spelling))))
seen_as class.NameLit spelling mark = l.Name (drop 1 spelling)
seen_as class.Text spelling mark = l.Text (unquoted spelling)
seen_as class.Path spelling mark = l.Path (place spelling)

abbrev pub lexeme_of : List ℕ → Token → Lexeme
lexeme_of text t = seen t.class (slice_range text t.at t.end)

-- the mark that a token of this class with this text is, if it is one
abbrev pub mark_seen : TokenClass → List ℕ → Option Mark
mark_seen class.Word spelling = mark_of spelling
mark_seen class.Symbol spelling = mark_of spelling
mark_seen class.Natural spelling = None
mark_seen class.Negative spelling = None
mark_seen class.NameLit spelling = None
mark_seen class.Text spelling = None
mark_seen class.Path spelling = None

abbrev pub mark_at : List ℕ → Token → Option Mark
mark_at text t = mark_seen t.class (slice_range text t.at t.end)

-- the mark that the next of some tokens is, if it is one
abbrev pub next_mark : List ℕ → List Token → Option Mark
next_mark text [] = None
next_mark text (token ∷ tokens) = mark_at text token

abbrev pub lexemes : List ℕ → List Token → List Lexeme
lexemes text toks = map (lexeme_of text) toks

-- marks by number; 0 to 6 are the kinds of other lexemes
abbrev pub number : Mark → ℕ
number m.LeftBrace = 7
number m.RightBrace = 8
number m.LeftParen = 9
number m.RightParen = 10
number m.Colon = 11
number m.Semicolon = 12
number m.Comma = 13
number m.Dot = 14
number m.Equals = 15
number m.SameAs = 16
number m.Less = 17
number m.Plus = 18
number m.Minus = 19
number m.Star = 20
number m.Lrc = 21
number m.Sort = 22
number m.Prod = 23
number m.Start = 24
number m.Session = 25
number m.Inh = 26
number m.Syn = 27
number m.Local = 28
number m.Attach = 29
number m.Text = 30
number m.On = 31
number m.Put = 32
number m.Copy = 33
number m.Show = 34
number m.Forget = 35
number m.If = 36
number m.Then = 37
number m.Else = 38
number m.True = 39
number m.False = 40
number m.Int = 41
number m.Bool = 42
number m.Name = 43

abbrev pub word_kind : ℕ
word_kind = 0

abbrev pub natural_kind : ℕ
natural_kind = 1

abbrev pub negative_kind : ℕ
negative_kind = 2

abbrev pub name_kind : ℕ
name_kind = 3

abbrev pub text_kind : ℕ
text_kind = 4

abbrev pub path_kind : ℕ
path_kind = 5

abbrev pub other_kind : ℕ
other_kind = 6

-- the kind of a mark, or else this
abbrev pub number_or : ℕ → Option Mark → ℕ
number_or k (Some m) = number m
number_or k None = k

-- the kind of a token of this class that is this mark, if it is one
abbrev pub kind_seen : TokenClass → Option Mark → ℕ
kind_seen class.Word mark = number_or word_kind mark
kind_seen class.Symbol mark = number_or other_kind mark
kind_seen class.Natural mark = natural_kind
kind_seen class.Negative mark = negative_kind
kind_seen class.NameLit mark = name_kind
kind_seen class.Text mark = text_kind
kind_seen class.Path mark = path_kind

-- what a grammar tells lexemes by
abbrev pub kind : Lexeme → ℕ
kind (l.Word name) = word_kind
kind (l.Natural value) = natural_kind
kind (l.Negative value) = negative_kind
kind (l.Name name) = name_kind
kind (l.Text bytes) = text_kind
kind (l.Path path) = path_kind
kind l.Other = other_kind
kind (l.Mark m) = number m

-- the name that a word is
abbrev pub word_of : Lexeme → Option (List ℕ)
word_of (l.Word name) = Some name
word_of _ = None

-- the place that a path names
abbrev pub path_of : Lexeme → Option Path
path_of (l.Path path) = Some path
path_of _ = None
