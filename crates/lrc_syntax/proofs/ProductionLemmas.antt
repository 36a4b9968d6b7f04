-- Productions that are not bare, and productions of a well-formed grammar within the limits.
use Rattle.std.proofs.Common.{◌≡◌, ◌<◌, Bool, true, false, List, length, get_or, All, Option, None, Some, IfSome, IsTrue, sym, ap, ◌∙◌}
use Rattle.std.specs.List.{list_all}
use Rattle.std.specs.Option.{option_map_or}
use Rattle.std.proofs.lemmas.Bool.{false≢true, and_parts, ltb-true}
use Rattle.std.proofs.lemmas.List.Sums.{AllPass-from_list_all}
use Rattle.lrc_base.specs.declared.grammar.Kid.{Kid}
use Rattle.lrc_base.specs.declared.grammar.Piece.{Piece}
use Rattle.lrc_base.specs.declared.grammar.Piece.TheVariants as piece
use Rattle.lrc_base.specs.declared.grammar.Production.{Production}
use Rattle.lrc_meaning.specs.Grammar.{Grammar, is_piece_right, is_production_right, is_well_formed}
use Rattle.lrc_meaning.specs.Limits.{IsFew}
use Rattle.lrc_syntax.specs.declared.part.Part.{Part}
use Rattle.lrc_syntax.specs.Spelling.{AreParts}
use Rattle.lrc_syntax.specs.Faults.{are_bare, IsBare, IsShortPiece, IsPieceReady, IsLegible, IsReady}
use Rattle.lrc_syntax.proofs.PartLemmas.{one_parts}

pub not_bare : (q : Production) (parts : List Part) (kids : List Kid) (items : List Part) (r : Bool) → AreParts q parts → kids ≡ q.kids → items ≡ parts → r ≡ are_bare kids items → r ≡ false → ¬ IsBare q
not_bare q parts kids items r are same is tested no_bare (others, by, bare) =
    false≢true (sym no_bare ∙ tested ∙ ap (λ ks. are_bare ks items) same ∙ ap (are_bare q.kids) (is ∙ one_parts q parts others are by) ∙ bare)

ready_piece : (q : Production) (x : Piece) → is_piece_right q x ≡ true → IsShortPiece x → IsPieceReady q.kids x
ready_piece q (piece.Text text) right short = short
ready_piece q (piece.Kid i) right short = ltb-true i (length q.kids) right

ready_pieces : (q : Production) (o : Option (List Piece)) → option_map_or (list_all (is_piece_right q)) o true ≡ true → IfSome o (All IsShortPiece) → IfSome o (All (IsPieceReady q.kids))
ready_pieces q None right short = tt
ready_pieces q (Some pieces) right short = λ k d lt. ready_piece q (get_or pieces k d) (AllPass-from_list_all (is_piece_right q) pieces right k d lt) (short k d lt)

production_right : (g : Grammar) → IsTrue (is_well_formed g) → All (λ (p : Production). is_production_right g.sorts g.prods p ≡ true) g.prods
production_right g well = AllPass-from_list_all (is_production_right g.sorts g.prods) g.prods (and_parts _ _ (and_parts _ _ well).0).1

pub all_ready : (g : Grammar) → IsTrue (is_well_formed g) → All IsFew g.prods → All IsLegible g.prods → All IsReady g.prods
all_ready g well few legible k d lt =
    let q = get_or g.prods k d in
    record {
      name = (legible k d lt).name;
      kids = (few k d lt).kids;
      pieces = ready_pieces q q.pattern (and_parts _ _ (production_right g well k d lt)).1 (legible k d lt).texts;
    }

pub all_left : (g : Grammar) → IsTrue (is_well_formed g) → All (λ (q : Production). q.left < length g.sorts) g.prods
all_left g well k d lt =
    let right = production_right g well k d lt in
    ltb-true _ _ (and_parts _ _ (and_parts _ _ (and_parts _ _ (and_parts _ _ (and_parts _ _ (and_parts _ _ right).0).0).0).0).0).0
