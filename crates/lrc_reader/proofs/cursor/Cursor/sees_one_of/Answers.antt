use Rattle.std.proofs.Common.{List, sym, ap, ◌∙◌}
use Rattle.lrc_parse.specs.Kinds.{has, starts}
use Rattle.lrc_reader.specs.declared.lexeme.Lexeme.{Lexeme}
use Rattle.lrc_reader.specs.Lexeme.{kind}
use Rattle.lrc_reader.proofs.Next.{starts_next}
use Rattle.lrc_reader.proofs.cursor.Cursor.sees_one_of.Goals as goal

pub returns-in-Some : goal.returns-in-Some
returns-in-Some c =
    c.has.ensures
    ∙ ap (has c.args.kinds.now) c.kind_of.ensures
    ∙ sym (starts_next c.args.kinds.now c.self.inside.text.now c.self.inside.tokens.now c.in-Some.first.now c.self.inside.mark (sym c.in-Some.ensures.value) c.self.invariant.1)
    ∙ ap (λ (u : List Lexeme). starts kind c.args.kinds.now u) c.self.view_is
