-- Pieces that are appended one after another.
use Rattle.std.proofs.Common.{◌≡◌, ℕ, Result, Ok, Err, IsOk, IsErr, inl, inr, suc, ◌+◌, ◌<◌, ◌≤◌, Option, List, [], ◌∷◌, ◌++◌, length, take, drop, get_or, map, subst, sym, ap, ◌∙◌, arith, length-append, append-nil}
use Rattle.std.proofs.lemmas.List.{take-append-le, take-append-drop}
use Rattle.std.proofs.lemmas.List.{map-append}
use Rattle.std.proofs.lemmas.List.Folds.{concat-append}
use Rattle.std.proofs.Math.Seq.{take-append-add, take-suc}
use Rattle.std.proofs.KnownBytes.{Appends-trans, Appends-nil}
use Rattle.std.specs.Io.KnownBytes.{Appends}
use Rattle.lrc_outside.specs.Count.{Rose}
use Rattle.lrc_outside.specs.Known.{AppendsPart}
use Rattle.lrc_failures.specs.Gains.{Gains}
use Rattle.lrc_failures.specs.declared.pieces.Piece.{Piece}
use Rattle.lrc_failures.specs.Pieces.{joined, piece_text, pieces_text}

Rose-later : (a b c : ℕ) → a ≤ b → Rose b c → Rose a c
Rose-later a b c h (inl r) = inl (omega arith)
Rose-later a b c h (inr r) = inr r

part_of_whole : (old new : Option (List ℕ)) (xs ys : List ℕ) → AppendsPart old new xs → AppendsPart old new (xs ++ ys)
part_of_whole old new xs ys p =
    let within : p.0 < length xs = p.1 in
    (p.0, simp length-append (omega arith), (let at : p.0 ≤ length xs = omega arith in rw take-append-le p.2))

-- a part of the second piece, behind the whole of the first
part_behind : (old mid new : Option (List ℕ)) (xs ys : List ℕ) → Appends old mid xs → AppendsPart mid new ys → AppendsPart old new (xs ++ ys)
part_behind old mid new xs ys a p =
    let within : p.0 < length ys = p.1 in
    (length xs + p.0, simp length-append (omega arith), rw take-append-add (Appends-trans old mid new xs (take p.0 ys) a p.2))

joined-append : (xs ys : List (List ℕ)) → joined (xs ++ ys) ≡ joined xs ++ joined ys
unfolding joined
joined-append xs ys = concat-append xs ys

joined-one : (x : List ℕ) → joined (x ∷ []) ≡ x
unfolding joined
joined-one x = append-nil x

-- the text of some pieces, then one
pub one_more : (pieces : List Piece) (i : ℕ) (d : Piece) → i < length pieces → pieces_text (take (suc i) pieces) ≡ pieces_text (take i pieces) ++ piece_text (get_or pieces i d)
one_more pieces i d h =
    ap pieces_text (take-suc pieces i d h) ∙ ap joined (map-append piece_text (take i pieces) (get_or pieces i d ∷ []))
    ∙ joined-append (map piece_text (take i pieces)) (piece_text (get_or pieces i d) ∷ [])
    ∙ ap (λ last. pieces_text (take i pieces) ++ last) (joined-one (piece_text (get_or pieces i d)))

-- the pieces are those before one, it, and those behind it
apart : (pieces : List Piece) (i : ℕ) (d : Piece) → i < length pieces → pieces_text pieces ≡ (pieces_text (take i pieces) ++ piece_text (get_or pieces i d)) ++ pieces_text (drop (suc i) pieces)
apart pieces i d h =
    ap pieces_text (sym (take-append-drop (suc i) pieces)) ∙ ap joined (map-append piece_text (take (suc i) pieces) (drop (suc i) pieces))
    ∙ joined-append (map piece_text (take (suc i) pieces)) (map piece_text (drop (suc i) pieces))
    ∙ ap (λ front. front ++ pieces_text (drop (suc i) pieces)) (one_more pieces i d h)

pub part_so_far : (a b c : Option (List ℕ)) (pieces : List Piece) (i : ℕ) (d : Piece) → i < length pieces → Appends a b (pieces_text (take i pieces))
    → AppendsPart b c (piece_text (get_or pieces i d)) → AppendsPart a c (pieces_text pieces)
part_so_far a b c pieces i d h done part =
    subst (AppendsPart a c) (sym (apart pieces i d h))
    (part_of_whole a c (pieces_text (take i pieces) ++ piece_text (get_or pieces i d)) (pieces_text (drop (suc i) pieces))
    (part_behind a b c (pieces_text (take i pieces)) (piece_text (get_or pieces i d)) done part))

-- a piece that is appended behind the others
pub more_so_far : {T E : Type 0} (a b c : Option (List ℕ)) (h k : ℕ) (r : Result T E) (pieces : List Piece) (i : ℕ) (x : Piece) → i < length pieces → x ≡ get_or pieces i x
    → Appends a b (pieces_text (take i pieces)) → Gains b c h k r (piece_text x) → IsOk r → Appends a c (pieces_text (take (suc i) pieces))
more_so_far a b c h k (Ok y) pieces i x l is done gains ok =
    subst (Appends a c) (sym (one_more pieces i x l))
    (Appends-trans a b c (pieces_text (take i pieces)) (piece_text (get_or pieces i x)) done (subst (λ z. Appends b c (piece_text z)) is gains.all))
more_so_far a b c h k (Err e) pieces i x l is done gains ok = absurd (cc)

pub none_yet : (a : Option (List ℕ)) → Appends a a (pieces_text [])
unfolding joined
none_yet a = Appends-nil a

-- a piece of which a part is appended, or none
pub failed : {T E E' : Type 0} (a b c : Option (List ℕ)) (f h k : ℕ) (r : Result T E) (s : Result T E') (pieces : List Piece) (i : ℕ) (x : Piece) → i < length pieces → x ≡ get_or pieces i x
    → Appends a b (pieces_text (take i pieces)) → f ≤ h → Gains b c h k r (piece_text x) → IsErr r → IsErr s → Gains a c f k s (pieces_text pieces)
failed a b c f h k (Err e) (Err e') pieces i x l is done le gains bad also =
    let rose = gains.rose in
    let falls = gains.never_falls in
    record {
      all = tt;
      part = part_so_far a b c pieces i x l done (subst (λ z. AppendsPart b c (piece_text z)) is gains.part);
      rose = Rose-later f h k le rose;
      never_falls = omega arith;
    }
failed a b c f h k (Err e) (Ok y) pieces i x l is done le gains bad also = absurd (cc)
failed a b c f h k (Ok y) s pieces i x l is done le gains bad also = absurd (cc)
