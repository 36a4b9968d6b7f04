-- The parts of one more piece, and of one more production; and that a production has one list of parts.
use Rattle.std.proofs.Common.{◌≡◌, ℕ, List, [], ◌∷◌, ◌++◌, map, None, Some, Option, append_assoc, refl, sym, ap, ◌∙◌}
use Rattle.std.proofs.lemmas.List.{append-nil}
use Rattle.lrc_base.specs.declared.grammar.Kid.{Kid}
use Rattle.lrc_base.specs.declared.grammar.Piece.{Piece}
use Rattle.lrc_base.specs.declared.grammar.Piece.TheVariants as piece
use Rattle.lrc_base.specs.declared.grammar.Production.{Production}
use Rattle.lrc_lex.proofs.TokensLemmas.{one_list}
use Rattle.lrc_syntax.specs.declared.part.Lexeme.{Lexeme}
use Rattle.lrc_syntax.specs.declared.part.Part.{Part}
use Rattle.lrc_syntax.specs.declared.part.Part.TheVariants as part
use Rattle.lrc_syntax.specs.Spelling.{lexeme, Lexemes, IsPieceSpelling, ArePartsOf, HasParts, AreParts, AreSpelled}

pub pieces_push : (kids : List Kid) (xs : List Piece) (x : Piece) (parts front : List Part) → ArePartsOf kids xs parts → IsPieceSpelling kids x front → ArePartsOf kids (xs ++ x ∷ []) (parts ++ front)
pieces_push kids [] x parts front none here = (front, [], here, refl, ap (λ ps. ps ++ front) none ∙ sym (append-nil front))
pieces_push kids (y ∷ ys) x parts front (first, rest, of, more, is) here =
    (first, rest ++ front, of, pieces_push kids ys x rest front more here, ap (λ ps. ps ++ front) is ∙ append_assoc first rest front)

pub spelled_push : (qs : List Production) (q : Production) (all : List (List Part)) (parts : List Part) → AreSpelled qs all → AreParts q parts → AreSpelled (qs ++ q ∷ []) (all ++ parts ∷ [])
spelled_push [] q all parts none here = (parts, [], here, refl, ap (λ ps. ps ++ parts ∷ []) none)
spelled_push (r ∷ rs) q all parts (first, rest, of, more, is) here =
    (first, rest ++ parts ∷ [], of, spelled_push rs q rest parts more here, ap (λ ps. ps ++ parts ∷ []) is)

one_lexemes : (text : List ℕ) (xs ys : List Lexeme) → Lexemes text xs → Lexemes text ys → xs ≡ ys
one_lexemes text xs ys (found, tokens, is) (others, again, are) = is ∙ ap (map (lexeme text)) (one_list tokens again) ∙ sym are

one_piece : (kids : List Kid) (x : Piece) (a b : List Part) → IsPieceSpelling kids x a → IsPieceSpelling kids x b → a ≡ b
one_piece kids (piece.Text text) a b (xs, tokens, is) (ys, others, are) = is ∙ ap (map part.Token) (one_lexemes text xs ys tokens others) ∙ sym are
one_piece kids (piece.Kid i) a b (x, here, is) (y, there, are) =
    let same : x ≡ y = cc in is ∙ ap (λ (z : Kid). part.Child i z.kind ∷ []) same ∙ sym are

one_pattern : (kids : List Kid) (xs : List Piece) (a b : List Part) → ArePartsOf kids xs a → ArePartsOf kids xs b → a ≡ b
one_pattern kids [] a b none nil = none ∙ sym nil
one_pattern kids (x ∷ xs) a b (front, rest, of, more, is) (others, left, by, again, are) =
    let e = one_piece kids x front others of by in
    let f = one_pattern kids xs rest left more again in
    is ∙ ap (λ p. p ++ rest) e ∙ ap (λ p. others ++ p) f ∙ sym are

-- a production has one list of parts
pub one_parts : (q : Production) (a b : List Part) → AreParts q a → AreParts q b → a ≡ b
one_parts q = one_has q.pattern q.name q.kids
  where
    one_has : (pattern : Option (List Piece)) (called : List ℕ) (kids : List Kid) (a b : List Part) → HasParts pattern called kids a → HasParts pattern called kids b → a ≡ b
    one_has None called kids a b is are = is ∙ sym are
    one_has (Some pieces) called kids a b is are = one_pattern kids pieces a b is are
