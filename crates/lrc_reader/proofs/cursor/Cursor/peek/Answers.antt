use Rattle.std.proofs.Common.{List, Some, slice_get, sym, ap, ◌∙◌}
use Rattle.lrc_reader.specs.declared.lexeme.Lexeme.{Lexeme}
use Rattle.lrc_reader.proofs.Next.{next_lexeme}
use Rattle.lrc_reader.proofs.cursor.Cursor.peek.Goals as goal

pub returns : goal.returns
returns c =
    ap Some c.lexeme_of.ensures
    ∙ next_lexeme c.self.inside.text.now c.self.inside.tokens.now c.in_ok-token.token.now c.self.inside.mark (sym c.in_ok-token.ensures.value) c.self.invariant.1
    ∙ ap (λ (u : List Lexeme). slice_get u 0) c.self.view_is
