-- The parts of a production's spelling: what stands in the spelling of each of its trees, in order. The tokens of a pattern's
-- texts are those that a job's text of the same bytes has.
use Rattle.std.specs.Prelude.{◌≡◌, ℕ, suc, ◌==◌, if◌then◌else◌, List, [], ◌∷◌, ◌++◌, map, Option, Some, None, slice_get, slice_range, codes}
use Rattle.lrc_base.specs.declared.grammar.Kind.{Kind}
use Rattle.lrc_base.specs.declared.grammar.Kid.{Kid}
use Rattle.lrc_base.specs.declared.grammar.Piece.{Piece}
use Rattle.lrc_base.specs.declared.grammar.Piece.TheVariants as piece
use Rattle.lrc_base.specs.declared.grammar.Production.{Production}
use Rattle.lrc_lex.specs.declared.TokenClass.TheVariants as class
use Rattle.lrc_lex.specs.declared.Token.{Token}
use Rattle.lrc_lex.specs.Tokens.{Tokens}
use Rattle.lrc_syntax.specs.declared.part.Lexeme.{Lexeme}
use Rattle.lrc_syntax.specs.declared.part.Part.{Part}
use Rattle.lrc_syntax.specs.declared.part.Part.TheVariants as part

-- a token of a text, by its class and its bytes
abbrev pub lexeme : List ℕ → Token → Lexeme
lexeme text token = record { class = token.class; bytes = slice_range text token.at token.end }

-- the text has these tokens, and no lexical fault
abbrev pub Lexemes : List ℕ → List Lexeme → Type 0
Lexemes text xs = (found : List Token) × Tokens text found × (xs ≡ map (lexeme text) found)

abbrev pub word : List ℕ → Lexeme
word bytes = record { class = class.Word; bytes = bytes }

abbrev pub symbol : List ℕ → Lexeme
symbol bytes = record { class = class.Symbol; bytes = bytes }

-- ---- without a pattern: the production's name, and its children in brackets with commas between them

-- a child, behind a comma unless it is the first
abbrev pub behind_comma : ℕ → Kind → List Part
behind_comma i kind = if i == 0 then part.Child i kind ∷ [] else part.Token (symbol (codes ",")) ∷ part.Child i kind ∷ []

-- the children, which are numbered from i on
abbrev pub listed : ℕ → List Kid → List Part
listed i [] = []
listed i (x ∷ rest) = behind_comma i x.kind ++ listed (suc i) rest

abbrev pub plain_parts : List ℕ → List Kid → List Part
plain_parts name kids =
    part.Token (word name) ∷ part.Token (symbol (codes "(")) ∷ (listed 0 kids ++ part.Token (symbol (codes ")")) ∷ [])

-- ---- with a pattern: its pieces in order

-- the tokens of a text
abbrev pub AreTokensOf : List ℕ → List Part → Type 0
AreTokensOf text parts = (xs : List Lexeme) × Lexemes text xs × (parts ≡ map part.Token xs)

-- a text is its tokens, a child its spelling
abbrev pub IsPieceSpelling : List Kid → Piece → List Part → Type 0
IsPieceSpelling kids (piece.Text text) parts = AreTokensOf text parts
IsPieceSpelling kids (piece.Kid i) parts = (x : Kid) × (slice_get kids i ≡ Some x) × (parts ≡ part.Child i x.kind ∷ [])

abbrev pub ArePartsOf : List Kid → List Piece → List Part → Type 0
ArePartsOf kids [] parts = parts ≡ []
ArePartsOf kids (x ∷ rest) parts =
    (front more : List Part) × IsPieceSpelling kids x front × ArePartsOf kids rest more × (parts ≡ front ++ more)

-- ---- a production, and all of them

abbrev pub HasParts : Option (List Piece) → List ℕ → List Kid → List Part → Type 0
HasParts None name kids parts = parts ≡ plain_parts name kids
HasParts (Some pieces) name kids parts = ArePartsOf kids pieces parts

-- the parts of a production's spelling
abbrev pub AreParts : Production → List Part → Type 0
AreParts q parts = HasParts q.pattern q.name q.kids parts

-- the parts of each production, in order
abbrev pub AreSpelled : List Production → List (List Part) → Type 0
AreSpelled [] all = all ≡ []
AreSpelled (q ∷ rest) all = (parts : List Part) × (more : List (List Part)) × AreParts q parts × AreSpelled rest more × (all ≡ parts ∷ more)
