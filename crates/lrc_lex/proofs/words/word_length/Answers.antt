use Rattle.std.proofs.Common.{◌≡◌, ◌++◌, true, sym, ◌∙◌, subst, refl}
use Rattle.std.specs.Str.{IsCharBoundary}
use lib.Utf8.{encode}
use Rattle.lrc_lex.specs.Forms.{starts_word}
use Rattle.lrc_lex.proofs.Utf8Lemmas.{first_boundary, word_len_at}
use Rattle.lrc_lex.proofs.words.word_length.Goals as goal

pub range_from-requires : goal.range_from-requires
range_from-requires c _ =
    let front : c.args.text.now ≡ encode c.in-Some.first ++ c.next.new.self.rest.now = sym c.chars.ensures.rest ∙ c.in-Some.ensures.steps.0 in
    subst (IsCharBoundary c.args.text.now) (sym c.len_utf8-width.ensures.value) (first_boundary _ _ _ c.utf8.text front)

pub returns-clause-length : goal.returns-clause-length
returns-clause-length c =
    let front : c.args.text.now ≡ encode c.in-Some.first ++ c.next.new.self.rest.now = sym c.chars.ensures.rest ∙ c.in-Some.ensures.steps.0 in
    let starts : starts_word c.in-Some.first ≡ true = sym c.starts_word.ensures ∙ c.if-not-starts_word.false in
    let whole = word_len_at _ _ _ c.utf8.text front in
    rw (whole, starts, c.run_length.ensures.length, c.range_from.ensures.value, c.len_utf8-width.ensures.value) refl
