-- How trees are printed: as values, or by the patterns of their productions. The text of a tree is defined once for both.
use Rattle.std.specs.Prelude.{ℕ, List, [], ◌∷◌, ◌++◌, Option, None, unwrap_or, codes}
use Rattle.std.specs.Fmt.{signed_decimal}
use Rattle.lrc_base.specs.declared.grammar.Piece.{Piece}
use Rattle.lrc_base.specs.declared.grammar.Production.{Production}
use Rattle.lrc_meaning.specs.Tree.{Tree, int, bool, name, node, Trees, none, more}
use Rattle.lrc_meaning.specs.Text.{production_name, bool_text, patterned, pattern_of}
use Rattle.lrc_unparse.specs.declared.styles.Style.{Style}
use Rattle.lrc_unparse.specs.declared.styles.Style.TheVariants as a_style

-- what stands before a name
abbrev pub mark : Style → List ℕ
mark a_style.Value = codes "'"
mark a_style.Tree = []

-- the pattern by which the nodes of a production are printed
abbrev pub pattern_in : Style → List Production → ℕ → Option (List Piece)
pattern_in a_style.Value prods p = None
pattern_in a_style.Tree prods p = pattern_of prods p

-- the pieces of a production's pattern
abbrev pub pieces_of : List Production → ℕ → List Piece
pieces_of prods p = unwrap_or (pattern_of prods p) []

-- the text of a tree in a style
module _ (style : Style) (prods : List Production) where
  abbrev mutual
    pub text_of : Tree → List ℕ
    text_of (int i) = signed_decimal i
    text_of (bool b) = bool_text b
    text_of (name n) = mark style ++ n
    text_of (node p kids) = patterned prods (pattern_in style prods p) (production_name prods p) (texts_of kids)

    pub texts_of : Trees → List (List ℕ)
    texts_of none = []
    texts_of (more t ts) = text_of t ∷ texts_of ts
