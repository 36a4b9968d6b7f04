-- Steps of a printer: bytes that are put, parts that are opened, and what is pending while a store is read.
use Rattle.std.proofs.Common.{◌≡◌, ◌⊎◌, inl, inr, ℕ, suc, ℤ, ◌+◌, ◌<◌, ◌≤◌, List, [], ◌∷◌, ◌++◌, length, refl, sym, ap, ◌∙◌, subst, arith, append_assoc, drop, Some}
use Rattle.std.proofs.lemmas.List.{append-nil}
use Rattle.std.specs.Prelude.{codes, true, flat_map}
use Rattle.lrc_base.specs.declared.grammar.Production.{Production}
use Rattle.lrc_meaning.specs.Tree.{node}
use Rattle.lrc_meaning.specs.Text.{production_name, applied, patterned, piece_text}
use Rattle.lrc_store.specs.Cells.{CellTree, nil, number, pair}
use Rattle.lrc_store.specs.Standing.{Standing, IsKnown, meant}
use Rattle.lrc_store.specs.declared.cells.Cell.{Cell}
use Rattle.lrc_store.specs.declared.cells.Cell.TheVariants as a_cell
use Rattle.lrc_store.specs.declared.cells.Handle.{Handle}
use Rattle.lrc_store.specs.Words.{Keeps, Reads, Shows}
use Rattle.lrc_store.proofs.Known.{kept-meant, known-stands, stands-known}
use Rattle.lrc_code.specs.Decoding.{bytes_of_word, bytes_of_name, tree_in, trees_in}
use Rattle.lrc_unparse.specs.declared.printer.Part.{Part}
use Rattle.lrc_unparse.specs.declared.printer.Part.TheVariants as a_part
use Rattle.lrc_unparse.specs.declared.printer.Printer.{Printer}
use Rattle.lrc_unparse.specs.declared.styles.Style.{Style}
use Rattle.lrc_unparse.specs.Styles.{pattern_in, pieces_of, text_of}
use Rattle.lrc_unparse.specs.Printing.{cut, IsShort, Puts, closing, handle_of, kid_texts, part_text, pending_text, AreKnown, cell_size, kids_size, node_size, pieces_size, tree_size, tree_sizes, part_size, pending_size, Prints}
use Rattle.lrc_unparse.proofs.TextLemmas.{closed, cut-again, cut-short, cut-all}

-- ---- bytes

pub puts-nothing : (p : Printer) → IsShort p → Puts p [] p
puts-nothing p h = record { text = sym (cut-all p.text.items h) ∙ ap cut (sym (append-nil p.text.items)); short = h; pending = refl }

pub puts-then : (a b c : Printer) (xs ys : List ℕ) → Puts a xs b → Puts b ys c → Puts a (xs ++ ys) c
puts-then a b c xs ys h k = record {
  text = k.text ∙ ap (λ t. cut (t ++ ys)) h.text ∙ cut-again (a.text.items ++ xs) ys ∙ ap cut (append_assoc a.text.items xs ys);
  short = k.short;
  pending = k.pending ∙ h.pending;
}

-- ---- parts

-- a part is opened behind the bytes
pub opens-one : (style : Style) (prods : List Production) (s : Standing) (text bytes : List ℕ) (size : ℕ) (p : Part) (a b c : Printer) → Puts a bytes b → c.text.items ≡ b.text.items → c.pending ≡ b.pending ++ p ∷ [] →
    IsKnown s (handle_of p) → text ≡ bytes ++ part_text style prods s p → part_size style prods s p < size → Prints style prods s text size a c
opens-one style prods s text bytes size p a b c puts same opened known whole less = record {
  bytes = bytes;
  parts = p ∷ [];
  put = same ∙ puts.text;
  pending = opened ∙ ap (λ ps. ps ++ p ∷ []) puts.pending;
  whole = whole;
  known = (known, tt);
  smaller = omega (arith, less);
}

-- a text that is put whole
pub puts-all : (style : Style) (prods : List Production) (s : Standing) (text bytes : List ℕ) (size : ℕ) (a b : Printer) → Puts a bytes b → text ≡ bytes → 1 ≤ size → Prints style prods s text size a b
puts-all style prods s text bytes size a b puts whole some = record {
  bytes = bytes;
  parts = [];
  put = puts.text;
  pending = puts.pending ∙ sym (append-nil a.pending);
  whole = whole ∙ sym (append-nil bytes);
  known = tt;
  smaller = omega (arith, some);
}

pub some-cell : (c : CellTree) → 1 ≤ cell_size c
some-cell nil = omega arith
some-cell (number n) = omega arith
some-cell (pair tag l r) = omega arith

-- a part is opened before the others
pub opens-before : (style : Style) (prods : List Production) (s : Standing) (text rest : List ℕ) (size large : ℕ) (p : Part) (a b c : Printer) → b.text.items ≡ a.text.items → b.pending ≡ a.pending ++ p ∷ [] → IsKnown s (handle_of p) →
    Prints style prods s text size b c → rest ≡ text ++ part_text style prods s p → size + part_size style prods s p ≤ large → Prints style prods s rest large a c
opens-before style prods s text rest size large p a b c same opened known prints whole less = record {
  bytes = prints.bytes;
  parts = p ∷ prints.parts;
  put = prints.put ∙ ap (λ x. cut (x ++ prints.bytes)) same;
  pending = prints.pending ∙ ap (λ ps. ps ++ prints.parts) opened ∙ append_assoc a.pending (p ∷ []) prints.parts;
  whole =
      whole ∙ ap (λ x. x ++ part_text style prods s p) prints.whole ∙ append_assoc prints.bytes (pending_text style prods s prints.parts) (part_text style prods s p);
  known = (known, prints.known);
  smaller = omega (arith, less, prints.smaller);
}

-- what is no number is no word
pub no-word : (s : Standing) (shown : Cell) (c : CellTree) → (shown ≡ a_cell.Nil) ⊎ ((tag : ℕ) × (l : Handle) × (r : Handle) × (shown ≡ a_cell.Pair tag l r)) → Shows s shown c → bytes_of_word c ≡ []
no-word s shown c (inl is) shows = ap bytes_of_word (subst (λ x. Shows s x c) is shows)
no-word s shown c (inr (tag, l, r, is)) shows = ap bytes_of_word (subst (λ x. Shows s x c) is shows).2

-- what is no pair has no words
pub no-words : (s : Standing) (shown : Cell) (c : CellTree) → (shown ≡ a_cell.Nil) ⊎ ((z : ℤ) × (shown ≡ a_cell.Number z)) → Shows s shown c → bytes_of_name c ≡ []
no-words s shown c (inl is) shows = ap bytes_of_name (subst (λ x. Shows s x c) is shows)
no-words s shown c (inr (z, is)) shows = ap bytes_of_name (subst (λ x. Shows s x c) is shows)

-- ---- what is pending

pub text-append : (style : Style) (prods : List Production) (s : Standing) (ps qs : List Part) → pending_text style prods s (ps ++ qs) ≡ pending_text style prods s qs ++ pending_text style prods s ps
text-append style prods s [] qs = sym (append-nil (pending_text style prods s qs))
text-append style prods s (p ∷ ps) qs = ap (λ t. t ++ part_text style prods s p) (text-append style prods s ps qs) ∙ append_assoc (pending_text style prods s qs) (pending_text style prods s ps) (part_text style prods s p)

pub size-append : (style : Style) (prods : List Production) (s : Standing) (ps qs : List Part) → pending_size style prods s (ps ++ qs) ≡ pending_size style prods s ps + pending_size style prods s qs
size-append style prods s [] qs = omega arith
size-append style prods s (p ∷ ps) qs = let rest = size-append style prods s ps qs in omega (arith, rest)

pub known-append : (s : Standing) (ps qs : List Part) → AreKnown s ps → AreKnown s qs → AreKnown s (ps ++ qs)
known-append s [] qs h k = k
known-append s (p ∷ ps) qs h k = (h.0, known-append s ps qs h.1 k)

pub known-split : (s : Standing) (ps qs : List Part) → AreKnown s (ps ++ qs) → AreKnown s ps × AreKnown s qs
known-split s [] qs h = (tt, h)
known-split s (p ∷ ps) qs h = let (rest, last) = known-split s ps qs h.1 in ((h.0, rest), last)

-- ---- what is pending while the store is read

pub known-kept : (s t : Standing) (h : ℕ) → Keeps s t → IsKnown s h → IsKnown t h
known-kept s t h keeps known = stands-known t h (meant s h) (keeps h (meant s h) (known-stands s h known))

module _ (s t : Standing) (keeps : Keeps s t) where
  part-text-kept : (style : Style) (prods : List Production) (p : Part) → IsKnown s (handle_of p) → part_text style prods t p ≡ part_text style prods s p
  part-text-kept style prods (a_part.Tree h) known = ap (λ c. text_of style prods (tree_in c)) (kept-meant s t h.0 keeps known)
  part-text-kept style prods (a_part.Words h) known = ap bytes_of_name (kept-meant s t h.0 keeps known)
  part-text-kept style prods (a_part.Kids h first) known = ap (λ c. closing first (kid_texts style prods c)) (kept-meant s t h.0 keeps known)
  part-text-kept style prods (a_part.Pieces production next kids) known =
      ap (λ c. flat_map (piece_text prods (kid_texts style prods c)) (drop next (pieces_of prods production))) (kept-meant s t kids.0 keeps known)

  part-size-kept : (style : Style) (prods : List Production) (p : Part) → IsKnown s (handle_of p) → part_size style prods t p ≡ part_size style prods s p
  part-size-kept style prods (a_part.Tree h) known = ap (tree_size style prods) (kept-meant s t h.0 keeps known)
  part-size-kept style prods (a_part.Words h) known = ap cell_size (kept-meant s t h.0 keeps known)
  part-size-kept style prods (a_part.Kids h first) known = ap (λ c. kids_size (tree_sizes style prods c)) (kept-meant s t h.0 keeps known)
  part-size-kept style prods (a_part.Pieces production next kids) known =
      ap (λ c. pieces_size (tree_sizes style prods c) (drop next (pieces_of prods production))) (kept-meant s t kids.0 keeps known)

  pub text-kept : (style : Style) (prods : List Production) (ps : List Part) → AreKnown s ps → pending_text style prods t ps ≡ pending_text style prods s ps
  text-kept style prods [] known = refl
  text-kept style prods (p ∷ ps) known =
      ap (λ x. pending_text style prods t ps ++ x) (part-text-kept style prods p known.0) ∙ ap (λ x. x ++ part_text style prods s p) (text-kept style prods ps known.1)

  pub size-kept : (style : Style) (prods : List Production) (ps : List Part) → AreKnown s ps → pending_size style prods t ps ≡ pending_size style prods s ps
  size-kept style prods [] known = refl
  size-kept style prods (p ∷ ps) known = let one = part-size-kept style prods p known.0 in let rest = size-kept style prods ps known.1 in omega (arith, one, rest)

  pub all-kept : (ps : List Part) → AreKnown s ps → AreKnown t ps
  all-kept [] known = tt
  all-kept (p ∷ ps) known = (known-kept s t (handle_of p) keeps known.0, all-kept ps known.1)

-- ---- names and nodes

-- a word of a name is put, and the words behind it are pending
pub word-begun : (style : Style) (prods : List Production) (s t u : Standing) (words word rest : Handle) (tag : ℕ) (a b c : Printer) → Shows t (a_cell.Pair tag word rest) (meant s words.0) → Reads t u →
    Puts a (bytes_of_word (meant t word.0)) b → c.text.items ≡ b.text.items → c.pending ≡ b.pending ++ a_part.Words rest ∷ [] → Prints style prods u (bytes_of_name (meant s words.0)) (cell_size (meant s words.0)) a c
word-begun style prods s t u words word rest tag a b c shows reads puts same opened =
    let keeps = reads.stays.lasts.known in
    let kept : meant u rest.0 ≡ meant t rest.0 = kept-meant t u rest.0 keeps shows.1 in
    let size : cell_size (meant s words.0) ≡ suc (cell_size (meant t word.0) + cell_size (meant t rest.0)) = ap cell_size shows.2 in
    let left : cell_size (meant u rest.0) ≡ cell_size (meant t rest.0) = ap cell_size kept in
    opens-one style prods u (bytes_of_name (meant s words.0)) (bytes_of_word (meant t word.0)) (cell_size (meant s words.0)) (a_part.Words rest) a b c puts same opened (known-kept t u rest.0 keeps shows.1)
    (ap bytes_of_name shows.2 ∙ ap (λ x. bytes_of_word (meant t word.0) ++ bytes_of_name x) (sym kept)) (omega (arith, size, left))

-- the name and the opening bracket of a node are put, and its children are pending
pub applied-begun : (style : Style) (prods : List Production) (s : Standing) (name : List ℕ) (kids : Handle) (a b c d : Printer) → Puts a name b → Puts b (codes "(") c → d.text.items ≡ c.text.items →
    d.pending ≡ c.pending ++ a_part.Kids kids true ∷ [] → IsKnown s kids.0 → Prints style prods s (applied name (kid_texts style prods (meant s kids.0))) (suc (kids_size (tree_sizes style prods (meant s kids.0)))) a d
applied-begun style prods s name kids a b c d called bracket same opened known =
    let texts = kid_texts style prods (meant s kids.0) in
    opens-one style prods s (applied name texts) (name ++ codes "(") (suc (kids_size (tree_sizes style prods (meant s kids.0)))) (a_part.Kids kids true) a c d
    (puts-then a b c name (codes "(") called bracket) same opened known
    (ap (λ x. name ++ (codes "(" ++ x)) (closed texts) ∙ sym (append_assoc name (codes "(") (closing true texts))) (omega arith)

-- the pieces of a node's pattern are pending
pub pattern-begun : (style : Style) (prods : List Production) (s : Standing) (production : ℕ) (kids : Handle) (a b : Printer) → IsShort a → pattern_in style prods production ≡ Some (pieces_of prods production) → b.text.items ≡ a.text.items →
    b.pending ≡ a.pending ++ a_part.Pieces production 0 kids ∷ [] → IsKnown s kids.0 →
    Prints style prods s (text_of style prods (node production (trees_in (meant s kids.0)))) (suc (node_size (pattern_in style prods production) (tree_sizes style prods (meant s kids.0)))) a b
pattern-begun style prods s production kids a b short there same opened known =
    let size = ap (λ pattern. node_size pattern (tree_sizes style prods (meant s kids.0))) there in
    opens-one style prods s _ [] _ (a_part.Pieces production 0 kids) a a b (puts-nothing a short) same opened known
    (ap (λ pattern. patterned prods pattern (production_name prods production) (kid_texts style prods (meant s kids.0))) there) (omega (arith, size))

-- ---- a step

-- The text stays the same from printer to printer, what is pending is known and smaller, and no more bytes are made.
pub record Steps (style : Style) (prods : List Production) (s t : Standing) (a b : Printer) : Type 0 where
  pub text : cut (b.text.items ++ pending_text style prods t b.pending) ≡ cut (a.text.items ++ pending_text style prods s a.pending)
  pub short : IsShort b
  pub known : AreKnown t b.pending
  pub smaller : pending_size style prods t b.pending < pending_size style prods s a.pending

-- the last part is known
pub last-known : (s : Standing) (all rest : List Part) (p : Part) → all ≡ rest ++ p ∷ [] → AreKnown s all → IsKnown s (handle_of p)
last-known s all rest p popped known = (known-split s rest (p ∷ []) (subst (AreKnown s) popped known)).1.0

-- the last part is taken and begun
pub step : (style : Style) (prods : List Production) (s t : Standing) (p : Part) (a b c : Printer) → Keeps s t → b.text.items ≡ a.text.items → a.pending ≡ b.pending ++ p ∷ [] → AreKnown s a.pending → Prints style prods t (part_text style prods s p) (part_size style prods s p) b c → Steps style prods s t a c
step style prods s t p a b c keeps same popped known prints =
    let rest = b.pending in
    let rest-known = (known-split s rest (p ∷ []) (subst (AreKnown s) popped known)).0 in
    let behind = pending_text style prods s rest in
    let opened = pending_text style prods t prints.parts in
    let after : pending_text style prods t c.pending ≡ opened ++ behind =
    ap (pending_text style prods t) prints.pending ∙ text-append style prods t rest prints.parts ∙ ap (λ x. opened ++ x) (text-kept s t keeps style prods rest rest-known) in
    let before : pending_text style prods s a.pending ≡ part_text style prods s p ++ behind = ap (pending_text style prods s) popped ∙ text-append style prods s rest (p ∷ []) in
    let large : pending_size style prods s a.pending ≡ pending_size style prods s (rest ++ p ∷ []) = ap (pending_size style prods s) popped in
    let small : pending_size style prods t c.pending ≡ pending_size style prods t (rest ++ prints.parts) = ap (pending_size style prods t) prints.pending in
    let made : length c.text.items ≡ length (cut (b.text.items ++ prints.bytes)) = ap length prints.put in
    let short = cut-short (b.text.items ++ prints.bytes) in
    record {
      text =
          ap (λ x. cut (x ++ pending_text style prods t c.pending)) prints.put
          ∙ cut-again (b.text.items ++ prints.bytes) (pending_text style prods t c.pending)
          ∙ ap (λ x. cut ((b.text.items ++ prints.bytes) ++ x)) after
          ∙ ap cut (append_assoc b.text.items prints.bytes (opened ++ behind))
          ∙ ap (λ x. cut (b.text.items ++ x)) (sym (append_assoc prints.bytes opened behind) ∙ ap (λ x. x ++ behind) (sym prints.whole) ∙ sym before)
          ∙ ap (λ x. cut (x ++ pending_text style prods s a.pending)) same;
      short = omega (arith, made, short);
      known = subst (AreKnown t) (sym prints.pending) (known-append t rest prints.parts (all-kept s t keeps rest rest-known) prints.known);
      smaller = omega (arith, large, small, size-append style prods s rest (p ∷ []), size-append style prods t rest prints.parts, size-kept s t keeps style prods rest rest-known, prints.smaller);
    }
