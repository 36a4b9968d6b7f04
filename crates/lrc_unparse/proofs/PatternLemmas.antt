-- Children by their numbers, and the pieces of patterns.
use Rattle.std.proofs.Common.{◌≡◌, ◌⊎◌, inl, inr, ℕ, ℤ, zero, suc, ◌+◌, ◌-◌, ◌<◌, List, [], ◌∷◌, ◌++◌, drop, refl, sym, ap, subst, ◌∙◌, arith, add-one, Option, Some, None}
use Rattle.std.proofs.lemmas.Option.{same_Some}
use Rattle.std.specs.Prelude.{flat_map, unwrap_or, option_map, slice_get}
use Rattle.std.specs.Option.{option_map_or}
use Rattle.lrc_base.specs.declared.grammar.Piece.TheVariants as a_piece
use Rattle.lrc_base.specs.declared.grammar.Production.{Production}
use Rattle.lrc_meaning.specs.Text.{piece_text}
use Rattle.lrc_store.specs.Cells.{CellTree, nil, number, pair}
use Rattle.lrc_store.specs.Standing.{Standing, IsKnown, meant}
use Rattle.lrc_store.specs.declared.cells.Cell.{Cell}
use Rattle.lrc_store.specs.declared.cells.Cell.TheVariants as a_cell
use Rattle.lrc_store.specs.declared.cells.Handle.{Handle}
use Rattle.lrc_store.specs.Words.{Keeps, Shows}
use Rattle.lrc_store.proofs.Known.{kept-meant}
use Rattle.lrc_code.specs.Decoding.{items_in, tree_in}
use Rattle.lrc_unparse.specs.declared.printer.Part.TheVariants as a_part
use Rattle.lrc_unparse.specs.declared.printer.Printer.{Printer}
use Rattle.lrc_unparse.specs.declared.styles.Style.{Style}
use Rattle.lrc_unparse.specs.Styles.{pieces_of, text_of}
use Rattle.lrc_unparse.specs.Printing.{IsShort, Puts, kid_texts, tree_size, tree_sizes, piece_size, pieces_size, Prints, Begins}
use Rattle.lrc_unparse.proofs.StepLemmas.{puts-nothing, opens-one, opens-before, puts-all, known-kept}

-- ---- children by their numbers

-- what is no pair has no items
pub no-items : (s : Standing) (shown : Cell) (c : CellTree) → ((tag : ℕ) (left right : Handle) → shown ≡ a_cell.Pair tag left right → ⊥) → Shows s shown c → items_in c ≡ []
no-items s a_cell.Nil c h shows = ap items_in shows
no-items s (a_cell.Number z) c h shows = ap items_in shows
no-items s (a_cell.Pair tag left right) c h shows = absurd (h tag left right refl)

pub plain-no-items : (s : Standing) (shown : Cell) (c : CellTree) → (shown ≡ a_cell.Nil) ⊎ ((z : ℤ) × (shown ≡ a_cell.Number z)) → Shows s shown c → items_in c ≡ []
plain-no-items s shown c (inl is) shows = ap items_in (subst (λ x. Shows s x c) is shows)
plain-no-items s shown c (inr (z, is)) shows = ap items_in (subst (λ x. Shows s x c) is shows)

-- where no child is left, there is none
pub none-left : (items : List CellTree) (n : ℕ) (wanted : Option CellTree) → items ≡ [] → slice_get items n ≡ wanted → None ≡ wanted
none-left items n wanted none behind = ap (λ list. slice_get list n) (sym none) ∙ behind

-- one child is passed
pub passed-on : (c : CellTree) (tag : ℕ) (left right : CellTree) (n passed : ℕ) → c ≡ pair tag left right → passed < n → slice_get (items_in c) (n - passed) ≡ slice_get (items_in right) (n - (passed + 1))
passed-on c tag left right n passed is h =
    let more : n - passed ≡ suc (n - (passed + 1)) = omega (arith, h) in ap (λ d. slice_get (items_in d) (n - passed)) is ∙ ap (slice_get (left ∷ items_in right)) more

texts-at : (style : Style) (prods : List Production) (c : CellTree) (n : ℕ) → slice_get (kid_texts style prods c) n ≡ option_map (λ kid. text_of style prods (tree_in kid)) (slice_get (items_in c) n)
texts-at style prods nil n = refl
texts-at style prods (number z) n = refl
texts-at style prods (pair tag left right) zero = refl
texts-at style prods (pair tag left right) (suc n) = texts-at style prods right n

sizes-at : (style : Style) (prods : List Production) (c : CellTree) (n : ℕ) → slice_get (tree_sizes style prods c) n ≡ option_map (tree_size style prods) (slice_get (items_in c) n)
sizes-at style prods nil n = refl
sizes-at style prods (number z) n = refl
sizes-at style prods (pair tag left right) zero = refl
sizes-at style prods (pair tag left right) (suc n) = sizes-at style prods right n

-- the child is there, and its part is opened
pub kid-begun : (style : Style) (prods : List Production) (t : Standing) (c : CellTree) (n : ℕ) (kid : Handle) (a b : Printer) → IsShort a → Some (meant t kid.0) ≡ slice_get (items_in c) n → IsKnown t kid.0 →
    b.text.items ≡ a.text.items → b.pending ≡ a.pending ++ a_part.Tree kid ∷ [] →
    Prints style prods t (piece_text prods (kid_texts style prods c) (a_piece.Kid n)) (suc (piece_size (tree_sizes style prods c) (a_piece.Kid n))) a b
kid-begun style prods t c n kid a b short found known same opened =
    let text : piece_text prods (kid_texts style prods c) (a_piece.Kid n) ≡ text_of style prods (tree_in (meant t kid.0)) =
    ap (λ o. option_map_or (λ x. x) o []) (texts-at style prods c n ∙ ap (option_map (λ k. text_of style prods (tree_in k))) (sym found)) in
    let size : piece_size (tree_sizes style prods c) (a_piece.Kid n) ≡ tree_size style prods (meant t kid.0) =
    ap (λ o. unwrap_or o 0) (sizes-at style prods c n ∙ ap (option_map (tree_size style prods)) (sym found)) in
    opens-one style prods t _ [] _ (a_part.Tree kid) a a b (puts-nothing a short) same opened known text (omega (arith, size))

-- there is no such child
pub no-kid : (style : Style) (prods : List Production) (t : Standing) (c : CellTree) (n : ℕ) (a : Printer) → IsShort a → None ≡ slice_get (items_in c) n →
    Prints style prods t (piece_text prods (kid_texts style prods c) (a_piece.Kid n)) (suc (piece_size (tree_sizes style prods c) (a_piece.Kid n))) a a
no-kid style prods t c n a short found =
    puts-all style prods t _ [] _ a a (puts-nothing a short)
    (ap (λ o. option_map_or (λ x. x) o []) (texts-at style prods c n ∙ ap (option_map (λ k. text_of style prods (tree_in k))) (sym found))) (omega arith)

-- ---- pieces

from-one : {A : Type 0} (xs : List A) (i : ℕ) (x : A) → slice_get xs i ≡ Some x → drop i xs ≡ x ∷ drop (suc i) xs
from-one [] i x e = cc
from-one (y ∷ xs) zero x e = ap (λ z. z ∷ xs) (same_Some y x e)
from-one (y ∷ xs) (suc i) x e = from-one xs i x e

pub from-piece : {A : Type 0} (xs : List A) (i : ℕ) (x : A) → slice_get xs i ≡ Some x → drop i xs ≡ x ∷ drop (i + 1) xs
from-piece xs i x e = rw add-one (from-one xs i x e)

past-all : {A : Type 0} (xs : List A) (i : ℕ) → slice_get xs i ≡ None → drop i xs ≡ []
past-all [] zero e = refl
past-all [] (suc i) e = refl
past-all (y ∷ xs) zero e = cc
past-all (y ∷ xs) (suc i) e = past-all xs i e

module _ (style : Style) (prods : List Production) (s t : Standing) (production next : ℕ) (kids : Handle) where
  -- no piece is left
  pub pieces-done : (a : Printer) → IsShort a → slice_get (pieces_of prods production) next ≡ None → Begins style prods s s (a_part.Pieces production next kids) a a
  pieces-done a short none =
      puts-all style prods s _ [] _ a a (puts-nothing a short) (ap (flat_map (piece_text prods (kid_texts style prods (meant s kids.0)))) (past-all (pieces_of prods production) next none))
      (omega (arith, ap (pieces_size (tree_sizes style prods (meant s kids.0))) (past-all (pieces_of prods production) next none)))

  -- the bytes of a piece are put, and the pieces behind it are pending
  pub text-begun : (bytes : List ℕ) (a b c : Printer) → slice_get (pieces_of prods production) next ≡ Some (a_piece.Text bytes) → IsKnown s kids.0 → Puts a bytes b → c.text.items ≡ b.text.items →
      c.pending ≡ b.pending ++ a_part.Pieces production (next + 1) kids ∷ [] → Begins style prods s s (a_part.Pieces production next kids) a c
  text-begun bytes a b c found known puts same opened =
      let left = from-piece (pieces_of prods production) next (a_piece.Text bytes) found in
      let size = ap (pieces_size (tree_sizes style prods (meant s kids.0))) left in
      opens-one style prods s _ bytes _ (a_part.Pieces production (next + 1) kids) a b c puts same opened known
      (ap (flat_map (piece_text prods (kid_texts style prods (meant s kids.0)))) left) (omega (arith, size))

  -- the pieces behind a child are pending, and the child is begun
  pub child-begun : (n : ℕ) (a b c : Printer) → Keeps s t → slice_get (pieces_of prods production) next ≡ Some (a_piece.Kid n) → IsKnown s kids.0 → b.text.items ≡ a.text.items →
      b.pending ≡ a.pending ++ a_part.Pieces production (next + 1) kids ∷ [] →
      Prints style prods t (piece_text prods (kid_texts style prods (meant s kids.0)) (a_piece.Kid n)) (suc (piece_size (tree_sizes style prods (meant s kids.0)) (a_piece.Kid n))) b c →
      Begins style prods s t (a_part.Pieces production next kids) a c
  child-begun n a b c keeps found known same opened prints =
      let left = from-piece (pieces_of prods production) next (a_piece.Kid n) found in
      let kept : meant t kids.0 ≡ meant s kids.0 = kept-meant s t kids.0 keeps known in
      let rest = drop (next + 1) (pieces_of prods production) in
      let size = ap (pieces_size (tree_sizes style prods (meant s kids.0))) left in
      let after = ap (λ c. pieces_size (tree_sizes style prods c) rest) kept in
      opens-before style prods t _ _ _ _ (a_part.Pieces production (next + 1) kids) a b c same opened (known-kept s t kids.0 keeps known) prints
      (ap (flat_map (piece_text prods (kid_texts style prods (meant s kids.0)))) left
      ∙ ap (λ c. piece_text prods (kid_texts style prods (meant s kids.0)) (a_piece.Kid n) ++ flat_map (piece_text prods (kid_texts style prods c)) rest) (sym kept)) (omega (arith, size, after))
