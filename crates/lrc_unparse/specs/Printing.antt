-- Texts in the making: what was printed, and what the parts stand for that are still to be printed.
use Rattle.std.specs.Prelude.{ℕ, suc, ◌≡◌, ◌+◌, ◌-◌, ◌<◌, ◌≤◌, Bool, true, false, List, [], ◌∷◌, ◌++◌, length, take, drop, flat_map, Option, Some, None, unwrap_or, codes}
use Rattle.std.specs.List.{AllByRecursion, slice_get}
use Rattle.lrc_base.specs.declared.limits.TheConstants.{PRINT_LIMIT}
use Rattle.lrc_base.specs.declared.grammar.Piece.{Piece}
use Rattle.lrc_base.specs.declared.grammar.Piece.TheVariants as a_piece
use Rattle.lrc_base.specs.declared.grammar.Production.{Production}
use Rattle.lrc_meaning.specs.Text.{piece_text}
use Rattle.lrc_store.specs.Cells.{CellTree, nil, number, pair}
use Rattle.lrc_store.specs.Standing.{Standing, IsKnown, meant}
use Rattle.lrc_code.specs.Decoding.{bytes_of_name, tree_in, trees_in}
use Rattle.lrc_unparse.specs.declared.printer.Part.{Part}
use Rattle.lrc_unparse.specs.declared.printer.Part.TheVariants as a_part
use Rattle.lrc_unparse.specs.declared.printer.Printer.{Printer}
use Rattle.lrc_unparse.specs.declared.styles.Style.{Style}
use Rattle.lrc_unparse.specs.Styles.{pattern_in, pieces_of, text_of, texts_of}

-- ---- what is made of a text

-- as many bytes of a text as are made
unfoldable pub cut : List ℕ → List ℕ
cut text = take (PRINT_LIMIT + 1) text

-- no more bytes were made than that
abbrev pub IsShort : Printer → Type 0
IsShort p = length p.text.items ≤ PRINT_LIMIT + 1

-- the bytes were put behind the text
pub record Puts (before : Printer) (bytes : List ℕ) (after : Printer) : Type 0 where
  pub text : after.text.items ≡ cut (before.text.items ++ bytes)
  pub short : IsShort after
  pub pending : after.pending ≡ before.pending

-- ---- what is pending

-- what stands before a child
abbrev pub comma : Bool → List ℕ
comma true = []
comma false = codes ", "

-- the texts of children with commas between them, and the closing bracket; whether the first is the node's first
abbrev pub closing : Bool → List (List ℕ) → List ℕ
closing first [] = codes ")"
closing first (text ∷ texts) = comma first ++ (text ++ closing false texts)

abbrev pub handle_of : Part → ℕ
handle_of (a_part.Tree h) = h.0
handle_of (a_part.Words h) = h.0
handle_of (a_part.Kids h first) = h.0
handle_of (a_part.Pieces production next kids) = kids.0

-- the cell of each part is known
abbrev pub AreKnown : Standing → List Part → Type 0
AreKnown s parts = AllByRecursion (λ p. IsKnown s (handle_of p)) parts

-- how many cells there are in a cell, one within another counted each time
abbrev pub cell_size : CellTree → ℕ
cell_size nil = 1
cell_size (number n) = 1
cell_size (pair tag left right) = suc (cell_size left + cell_size right)

-- ---- measures

-- a measure of children, whose own measures these are, and the closing bracket
abbrev pub kids_size : List ℕ → ℕ
kids_size [] = 1
kids_size (kid ∷ kids) = suc (kid + kids_size kids)

-- a measure of pieces of a pattern: a child is counted each time it is named
abbrev pub piece_size : List ℕ → Piece → ℕ
piece_size kids (a_piece.Text bytes) = 0
piece_size kids (a_piece.Kid i) = unwrap_or (slice_get kids i) 0

abbrev pub pieces_size : List ℕ → List Piece → ℕ
pieces_size kids [] = 1
pieces_size kids (piece ∷ pieces) = suc (piece_size kids piece + pieces_size kids pieces)

abbrev pub node_size : Option (List Piece) → List ℕ → ℕ
node_size None kids = kids_size kids
node_size (Some pieces) kids = pieces_size kids pieces

-- ---- parts in a style

module _ (style : Style) (prods : List Production) where
  -- a measure of the tree in a cell, and those of the trees of a list
  abbrev mutual
    pub tree_size : CellTree → ℕ
    tree_size nil = 1
    tree_size (number n) = 1
    tree_size (pair tag left right) = suc (cell_size (pair tag left right) + node_size (pattern_in style prods (tag - 256)) (tree_sizes left))

    pub tree_sizes : CellTree → List ℕ
    tree_sizes nil = []
    tree_sizes (number n) = []
    tree_sizes (pair tag left right) = tree_size left ∷ tree_sizes right

  -- the texts of the children in a list
  abbrev pub kid_texts : CellTree → List (List ℕ)
  kid_texts kids = texts_of style prods (trees_in kids)

  -- the text that a part stands for
  abbrev pub part_text : Standing → Part → List ℕ
  part_text s (a_part.Tree h) = text_of style prods (tree_in (meant s h.0))
  part_text s (a_part.Words h) = bytes_of_name (meant s h.0)
  part_text s (a_part.Kids h first) = closing first (kid_texts (meant s h.0))
  part_text s (a_part.Pieces production next kids) = flat_map (piece_text prods (kid_texts (meant s kids.0))) (drop next (pieces_of prods production))

  -- the text that parts stand for, of which the last one comes first
  abbrev pub pending_text : Standing → List Part → List ℕ
  pending_text s [] = []
  pending_text s (p ∷ ps) = pending_text s ps ++ part_text s p

  -- a measure of a part: what it opens is smaller
  abbrev pub part_size : Standing → Part → ℕ
  part_size s (a_part.Tree h) = tree_size (meant s h.0)
  part_size s (a_part.Words h) = cell_size (meant s h.0)
  part_size s (a_part.Kids h first) = kids_size (tree_sizes (meant s h.0))
  part_size s (a_part.Pieces production next kids) = pieces_size (tree_sizes (meant s kids.0)) (drop next (pieces_of prods production))

  abbrev pub pending_size : Standing → List Part → ℕ
  pending_size s [] = 0
  pending_size s (p ∷ ps) = part_size s p + pending_size s ps

-- ---- steps

-- A text was begun: some bytes of it were put, and parts were opened that stand for the rest of it. They are smaller than this
-- size.
pub record Prints (style : Style) (prods : List Production) (s : Standing) (text : List ℕ) (size : ℕ) (before after : Printer) : Type 0 where
  pub bytes : List ℕ
  pub parts : List Part
  pub put : after.text.items ≡ cut (before.text.items ++ bytes)
  pub pending : after.pending ≡ before.pending ++ parts
  pub whole : text ≡ bytes ++ pending_text style prods s parts
  pub known : AreKnown s parts
  pub smaller : pending_size style prods s parts < size

-- A part was begun: what it stood for before is put or open.
abbrev pub Begins : Style → List Production → Standing → Standing → Part → Printer → Printer → Type 0
Begins style prods s t p before after = Prints style prods t (part_text style prods s p) (part_size style prods s p) before after
