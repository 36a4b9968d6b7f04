-- The texts that the program prints: values, unparsed trees, replies and finals.
use Rattle.std.specs.Prelude.{ℕ, ◌+◌, Bool, true, false, nat_lt, List, [], ◌∷◌, ◌++◌, length, flat_map, Option, Some, None, slice_get, codes, decimal, if◌then◌else◌, cond}
use Rattle.std.specs.Fmt.{signed_decimal}
use Rattle.std.specs.Option.{option_map_or}
use Rattle.lrc_base.specs.declared.limits.TheConstants.{PRINT_LIMIT}
use Rattle.lrc_base.specs.declared.grammar.Attr.{Attr}
use Rattle.lrc_base.specs.declared.grammar.Piece.{Piece}
use Rattle.lrc_base.specs.declared.grammar.Piece.TheVariants as piece
use Rattle.lrc_base.specs.declared.grammar.Production.{Production}
use Rattle.lrc_meaning.specs.Tree.{Tree, int, bool, name, node, Trees, none, more, same_tree}
use Rattle.lrc_meaning.specs.Grammar.{Grammar, attrs_of_sort}
use Rattle.lrc_meaning.specs.Editing.{Reply, values, bad_path, wrong_sort, too_deep, full, unopened, shown, forgot}

-- texts with a comma and a space between them
abbrev pub joined : List (List ℕ) → List ℕ
joined [] = []
joined (x ∷ []) = x
joined (x ∷ (y ∷ rest)) = x ++ (codes ", " ++ joined (y ∷ rest))

abbrev pub production_name : List Production → ℕ → List ℕ
production_name prods p = option_map_or (λ (q : Production). q.name) (slice_get prods p) []

abbrev pub bool_text : Bool → List ℕ
bool_text true = codes "true"
bool_text false = codes "false"

-- a tree as its production's name and its children's texts in brackets
abbrev pub applied : List ℕ → List (List ℕ) → List ℕ
applied called kids = called ++ (codes "(" ++ (joined kids ++ codes ")"))

-- The text of a value: an Int in decimal, a Name behind a `'`.
module _ (prods : List Production) where
  abbrev mutual
    pub value_text : Tree → List ℕ
    value_text (int i) = signed_decimal i
    value_text (bool b) = bool_text b
    value_text (name n) = codes "'" ++ n
    value_text (node p kids) = applied (production_name prods p) (value_texts kids)

    pub value_texts : Trees → List (List ℕ)
    value_texts none = []
    value_texts (more t ts) = value_text t ∷ value_texts ts

  abbrev pub piece_text : List (List ℕ) → Piece → List ℕ
  piece_text kids (piece.Text bytes) = bytes
  piece_text kids (piece.Kid i) = option_map_or (λ x. x) (slice_get kids i) []

  abbrev pub patterned : Option (List Piece) → List ℕ → List (List ℕ) → List ℕ
  patterned None called kids = applied called kids
  patterned (Some pieces) called kids = flat_map (piece_text kids) pieces

  abbrev pub pattern_of : ℕ → Option (List Piece)
  pattern_of p = option_map_or (λ (q : Production). q.pattern) (slice_get prods p) None

  -- The unparsed tree: each node by its production's pattern, a Name leaf as its bytes alone.
  abbrev mutual
    pub unparsed : Tree → List ℕ
    unparsed (int i) = signed_decimal i
    unparsed (bool b) = bool_text b
    unparsed (name n) = n
    unparsed (node p kids) = patterned (pattern_of p) (production_name prods p) (unparsed_all kids)

    pub unparsed_all : Trees → List (List ℕ)
    unparsed_all none = []
    unparsed_all (more t ts) = unparsed t ∷ unparsed_all ts

-- the text of a value or of a tree prints as `<long>` where it has more than 65,536 bytes
abbrev pub limited : List ℕ → List ℕ
limited text = if nat_lt PRINT_LIMIT (length text) then codes "<long>" else text

abbrev pub line_feed : List ℕ
line_feed = 10 ∷ []

-- ` name=value` for each attribute
abbrev pub named_values : List Production → List Attr → List Tree → List ℕ
named_values prods [] vs = []
named_values prods (a ∷ rest) [] = []
named_values prods (a ∷ rest) (v ∷ vs) =
    codes " " ++ (a.name ++ (codes "=" ++ (limited (value_text prods v) ++ named_values prods rest vs)))

-- the synthesised attributes of a sort, in order of declaration
abbrev pub synthesised_attrs : List Attr → List Attr
synthesised_attrs [] = []
synthesised_attrs (a ∷ rest) = cond a.inherited (synthesised_attrs rest) (a ∷ synthesised_attrs rest)

abbrev pub reply_body : Grammar → Reply → List ℕ
reply_body g (values vs) = named_values g.prods (synthesised_attrs (attrs_of_sort g.sorts g.start)) vs
reply_body g bad_path = codes " badpath"
reply_body g wrong_sort = codes " wrongsort"
reply_body g too_deep = codes " toodeep"
reply_body g full = codes " full"
reply_body g unopened = codes " unopened"
reply_body g (shown text) = codes " shown " ++ limited text
reply_body g forgot = codes " forgot"

-- the lines of replies, numbered from n on
abbrev pub reply_lines : Grammar → ℕ → List Reply → List ℕ
reply_lines g n [] = []
reply_lines g n (r ∷ rs) = decimal n ++ (reply_body g r ++ (line_feed ++ reply_lines g (n + 1) rs))

-- the block of a session by its number
abbrev pub session_text : Grammar → ℕ → List Reply → List ℕ
session_text g s replies = codes "session " ++ (decimal s ++ (line_feed ++ reply_lines g 0 replies))

-- the blocks of sessions, numbered from s on
abbrev pub sessions_text : Grammar → ℕ → List (List Reply) → List ℕ
sessions_text g s [] = []
sessions_text g s (rs ∷ rest) = session_text g s rs ++ sessions_text g (s + 1) rest

abbrev pub is_same_last : Tree → Option Tree → Bool
is_same_last t None = false
is_same_last t (Some u) = same_tree t u

-- the number of the first session, from n on, whose last tree is this one
abbrev pub first_with : Tree → ℕ → List (Option Tree) → ℕ
first_with t n [] = n
first_with t n (last ∷ rest) = if is_same_last t last then n else first_with t (n + 1) rest

abbrev pub final_number : List (Option Tree) → Option Tree → List ℕ
final_number lasts None = codes "-"
final_number lasts (Some t) = decimal (first_with t 1 lasts)

-- the final lines of sessions, numbered from s on: the first session with an equal last tree
abbrev pub finals_text : List (Option Tree) → ℕ → List (Option Tree) → List ℕ
finals_text lasts s [] = []
finals_text lasts s (last ∷ rest) =
    codes "final " ++ (decimal s ++ (codes " " ++ (final_number lasts last ++ (line_feed ++ finals_text lasts (s + 1) rest))))

-- What a run prints: a block for each session, then a final line for each.
abbrev pub run_text : Grammar → List (List Reply) → List (Option Tree) → List ℕ
run_text g replies lasts = sessions_text g 1 replies ++ finals_text lasts 1 lasts
