use Rattle.std.proofs.Common.{◌≡◌, true, false, sym, ap, length, get_or, drop, ◌∙◌}
use Rattle.std.proofs.lemmas.Bool.{eqb-true}
use Rattle.lrc_lex.specs.declared.scan.Step.TheVariants.{Take}
use Rattle.lrc_lex.specs.declared.TokenClass.TheVariants.{Path}
use Rattle.lrc_lex.specs.Forms.{is_symbol}
use Rattle.lrc_lex.specs.Front.{path_token_len, symbol_step, text_step}
use Rattle.lrc_lex.proofs.NextLemmas.{next_end, next_path, next_symbol, next_quoted, rest_is, not_empty}
use Rattle.lrc_lex.proofs.scan.next.Goals as goal

pub returns-then-is_empty : goal.returns-then-is_empty
returns-then-is_empty c = sym (next_end _ (sym (ap length c.as_bytes-bytes.ensures.value) ∙ eqb-true _ 0 (sym c.if-is_empty.ensures)))

pub returns-then-first-eq47 : goal.returns-then-first-eq47
returns-then-first-eq47 c =
    let some = not_empty _ _ c.as_bytes-bytes.ensures.value c.if-is_empty.ensures in
    let slash : get_or c.args.text.now 0 0 ≡ 47 = ap (λ l. get_or l 0 0) (sym c.as_bytes-bytes.ensures.value) ∙ c.if-first-eq47.true in
    let rest = rest_is _ _ _ c.as_bytes-bytes.ensures.value c.as_bytes-bytes.ensures.len in
    ap (Take Path) (c.path_token_length.ensures ∙ ap path_token_len rest) ∙ sym (next_path c.args.text.now some slash)

pub returns-then-is_symbol : goal.returns-then-is_symbol
returns-then-is_symbol c =
    let some = not_empty _ _ c.as_bytes-bytes.ensures.value c.if-is_empty.ensures in
    let first : get_or c.as_bytes-bytes.result.now 0 0 ≡ get_or c.args.text.now 0 0 = ap (λ l. get_or l 0 0) c.as_bytes-bytes.ensures.value in
    let symbol : is_symbol (get_or c.args.text.now 0 0) ≡ true = ap is_symbol (sym first) ∙ sym c.if-is_symbol.ensures in
    let rest = rest_is _ _ _ c.as_bytes-bytes.ensures.value c.as_bytes-bytes.ensures.len in
    c.symbol.ensures ∙ ap (symbol_step (get_or c.as_bytes-bytes.result.now 0 0)) rest ∙ ap (λ d. symbol_step d (drop 1 c.args.text.now)) first ∙ sym (next_symbol c.args.text.now some symbol)

pub returns-then-first-eq34 : goal.returns-then-first-eq34
returns-then-first-eq34 c =
    let some = not_empty _ _ c.as_bytes-bytes.ensures.value c.if-is_empty.ensures in
    let quote : get_or c.args.text.now 0 0 ≡ 34 = ap (λ l. get_or l 0 0) (sym c.as_bytes-bytes.ensures.value) ∙ c.if-first-eq34.true in
    let rest = rest_is _ _ _ c.as_bytes-bytes.ensures.value c.as_bytes-bytes.ensures.len in
    c.quoted.ensures ∙ ap (text_step false 1) rest ∙ sym (next_quoted c.args.text.now some quote)
