-- The text of pieces.
use Rattle.std.specs.Prelude.{ℕ, List, map, decimal}
use Rattle.std.specs.List.{concat}
use Rattle.lrc_failures.specs.declared.pieces.Piece.{Piece}
use Rattle.lrc_failures.specs.declared.pieces.Piece.TheVariants as p

-- the parts, one behind the other
unfoldable pub joined : List (List ℕ) → List ℕ
joined parts = concat parts

abbrev pub piece_text : Piece → List ℕ
piece_text (p.Text bytes) = bytes.now
piece_text (p.Name name) = name.now
piece_text (p.Number n) = decimal n

abbrev pub pieces_text : List Piece → List ℕ
pieces_text pieces = joined (map piece_text pieces)
