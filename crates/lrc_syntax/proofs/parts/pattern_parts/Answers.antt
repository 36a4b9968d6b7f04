use Rattle.std.proofs.Common.{◌++◌, [], ◌∷◌, take, List, sym, subst}
use Rattle.std.proofs.lemmas.List.Elements.{All-append}
use Rattle.lrc_base.specs.declared.grammar.Piece.{Piece}
use Rattle.lrc_syntax.specs.declared.part.Part.{Part}
use Rattle.lrc_syntax.specs.Spelling.{ArePartsOf}
use Rattle.lrc_syntax.specs.Faults.{IsBadPiece, IsTerminalPart, AreTerminals}
use Rattle.lrc_syntax.proofs.ListLemmas.{none_more, take_one_more}
use Rattle.lrc_syntax.proofs.PartLemmas.{pieces_push}
use Rattle.lrc_syntax.proofs.parts.pattern_parts.Goals as goal

pub loop-piece-preserved : goal.loop-piece-preserved
loop-piece-preserved c =
    let kids = c.args.kids.now in
    let pieces = c.args.pieces.now in
    let i = c.loop-piece.piece-index in
    let x = c.piece-item.result in
    let before = c.loop-piece.invariant in
    let added = c.in_ok-push_piece.ensures.parts in
    let is = added.3 in
    record {
      parts = subst (λ (xs : List Piece). ArePartsOf kids xs c.push_piece.new.parts) (sym (take_one_more pieces i x c.loop-piece-test.true c.piece-item.is))
          (subst (λ (ps : List Part). ArePartsOf kids (take i pieces ++ x ∷ []) ps) (sym is) (pieces_push kids (take i pieces) x c.loop-piece.parts added.0 before.parts added.1));
      terminals = subst (λ (ps : List Part). AreTerminals ps) (sym is) (All-append IsTerminalPart c.loop-piece.parts added.0 before.terminals added.2);
      right = none_more IsBadPiece pieces i x before.right c.loop-piece-test.true c.piece-item.is c.in_ok-push_piece.ensures.right;
    }
