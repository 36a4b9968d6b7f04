-- The faults of a production's syntax, in order: its pattern holds a token that no pattern may hold, a child does not stand exactly
-- once in it, or it is bare.
use Rattle.std.specs.Prelude.{◌≡◌, ◌≢◌, ℕ, ◌==◌, ◌<◌, ◌≤◌, ◌⊎◌, Bool, true, false, not, ◌&&◌, List, length, count_by, All, Any, IfSome, IsSomeAnd, bytes_eq, codes}
use Rattle.std.specs.List.{list_all}
use Rattle.lrc_base.specs.declared.limits.TheConstants.{TEXT_LIMIT, CHILD_LIMIT}
use Rattle.lrc_base.specs.declared.grammar.Kid.{Kid}
use Rattle.lrc_base.specs.declared.grammar.Piece.{Piece}
use Rattle.lrc_base.specs.declared.grammar.Piece.TheVariants as piece
use Rattle.lrc_base.specs.declared.grammar.Production.{Production}
use Rattle.lrc_meaning.specs.Tree.{is_sort}
use Rattle.lrc_lex.specs.declared.TokenClass.{TokenClass}
use Rattle.lrc_lex.specs.declared.TokenClass.TheVariants.{Word, Natural, Negative, NameLit, Text, Path, Symbol}
use Rattle.lrc_lex.specs.declared.LexFault.{LexFault}
use Rattle.lrc_lex.specs.Forms.{IsToken}
use Rattle.lrc_lex.specs.Tokens.{FirstFault}
use Rattle.lrc_syntax.specs.declared.part.Lexeme.{Lexeme}
use Rattle.lrc_syntax.specs.declared.part.Part.{Part}
use Rattle.lrc_syntax.specs.declared.part.Part.TheVariants as part
use Rattle.lrc_syntax.specs.declared.fault.ProductionFault.{ProductionFault}
use Rattle.lrc_syntax.specs.declared.fault.ProductionFault.TheVariants as fault
use Rattle.lrc_syntax.specs.Spelling.{Lexemes, AreParts}

-- ---- tokens

-- a pattern may hold words but `true` and `false`, and symbols
abbrev pub may_stand : TokenClass → List ℕ → Bool
may_stand Word bytes = not (bytes_eq bytes (codes "true")) && not (bytes_eq bytes (codes "false"))
may_stand Natural bytes = false
may_stand Negative bytes = false
may_stand NameLit bytes = false
may_stand Text bytes = false
may_stand Path bytes = false
may_stand Symbol bytes = true

-- a token that a pattern may hold, of the form of its class
abbrev pub IsTerminal : Lexeme → Type 0
IsTerminal x = (may_stand x.class x.bytes ≡ true) × IsToken x.class x.bytes

abbrev pub IsTerminalPart : Part → Type 0
IsTerminalPart (part.Token x) = IsTerminal x
IsTerminalPart (part.Child i kind) = Unit {0}

-- each token among the parts is one that a pattern may hold
abbrev pub AreTerminals : List Part → Type 0
AreTerminals parts = All IsTerminalPart parts

-- ---- what a production is asked for before: its name is one word that may stand, and the texts of its pattern are no longer than
-- that of a job

abbrev pub IsShortPiece : Piece → Type 0
IsShortPiece (piece.Text text) = length text ≤ TEXT_LIMIT
IsShortPiece (piece.Kid i) = Unit {0}

pub record IsLegible (q : Production) : Type 0 where
  pub name : IsTerminal (record { class = Word; bytes = q.name })
  pub texts : IfSome q.pattern (All IsShortPiece)

-- the same of a production of a well-formed grammar within the limits
abbrev pub IsPieceReady : List Kid → Piece → Type 0
IsPieceReady kids (piece.Text text) = length text ≤ TEXT_LIMIT
IsPieceReady kids (piece.Kid i) = i < length kids

pub record IsReady (q : Production) : Type 0 where
  pub name : IsTerminal (record { class = Word; bytes = q.name })
  pub kids : length q.kids ≤ CHILD_LIMIT
  pub pieces : IfSome q.pattern (All (IsPieceReady q.kids))

-- ---- faults

-- a text has a lexical fault, or a token that no pattern may hold
abbrev pub IsBadText : List ℕ → Type 0
IsBadText text =
    ((f : LexFault) × FirstFault text f)
    ⊎ ((xs : List Lexeme) × Lexemes text xs × Any (λ (x : Lexeme). may_stand x.class x.bytes ≡ false) xs)

abbrev pub IsBadPiece : Piece → Type 0
IsBadPiece (piece.Text text) = IsBadText text
IsBadPiece (piece.Kid i) = ⊥

-- a text among the pieces is bad
abbrev pub HasBadText : List Piece → Type 0
HasBadText pieces = Any IsBadPiece pieces

-- a text of the pattern is bad
abbrev pub HasBadPattern : Production → Type 0
HasBadPattern q = IsSomeAnd q.pattern HasBadText

-- the piece is the child of this number
abbrev pub is_child : ℕ → Piece → Bool
is_child i (piece.Text text) = false
is_child i (piece.Kid k) = k == i

-- one of n children does not stand exactly once in a pattern
abbrev pub MissesChild : ℕ → List Piece → Type 0
MissesChild n pieces = (i : ℕ) × (i < n) × (count_by (is_child i) pieces ≢ 1)

-- a child does not stand exactly once
abbrev pub MissesSomeChild : Production → Type 0
MissesSomeChild q = IsSomeAnd q.pattern (MissesChild (length q.kids))

abbrev pub is_child_part : Part → Bool
is_child_part (part.Token x) = false
is_child_part (part.Child i kind) = true

abbrev pub is_sort_kid : Kid → Bool
is_sort_kid kid = is_sort kid.kind

-- no token among the parts, no leaf among the children, and these are not exactly one
abbrev pub are_bare : List Kid → List Part → Bool
are_bare kids parts = list_all is_child_part parts && (list_all is_sort_kid kids && not (length kids == 1))

-- the spelling has no token and no leaf, and the children are not exactly one
abbrev pub IsBare : Production → Type 0
IsBare q = (parts : List Part) × AreParts q parts × (are_bare q.kids parts ≡ true)

-- no fault
pub record IsRight (q : Production) : Type 0 where
  pub pattern : ¬ HasBadPattern q
  pub children : ¬ MissesSomeChild q
  pub covered : ¬ IsBare q

-- the first fault; want of memory is free
abbrev pub IsFaultOf : Production → ProductionFault → Type 0
IsFaultOf q fault.BadPattern = HasBadPattern q
IsFaultOf q fault.Kids = (¬ HasBadPattern q) × MissesSomeChild q
IsFaultOf q fault.Bare = (¬ HasBadPattern q) × (¬ MissesSomeChild q) × IsBare q
IsFaultOf q fault.Memory = Unit {0}
