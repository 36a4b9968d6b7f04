-- The pattern of a production, item by item: the one that is named so far, and the rest.
use Rattle.std.proofs.Common.{◌≡◌, ℕ, List, [], ◌∷◌, flat_map, drop, Option, Some, None}
use Rattle.lrc_base.specs.declared.grammar.Kid.{Kid}
use Rattle.lrc_base.specs.declared.grammar.Piece.{Piece}
use Rattle.lrc_base.specs.declared.raw.RawPiece.{RawPiece}
use Rattle.lrc_base.specs.declared.raw.RawItem.{RawItem}
use Rattle.lrc_meaning.specs.Naming.{only_pattern, pattern_of, named_pattern}

module _ (kids : List Kid) where
  -- the one that is named so far, and then the patterns that are left
  abbrev pub then_patterns : Option (List Piece) → List (List RawPiece) → Option (Option (List Piece))
  then_patterns None rest = only_pattern kids rest
  then_patterns (Some found) [] = Some (Some found)
  then_patterns (Some found) (pieces ∷ rest) = None

  -- the first i items are read, and this is their pattern
  abbrev pub PatternFirst : List RawItem → ℕ → Option (List Piece) → Type 0
  PatternFirst items i found =
      named_pattern kids items ≡ then_patterns found (flat_map pattern_of (drop i items))
