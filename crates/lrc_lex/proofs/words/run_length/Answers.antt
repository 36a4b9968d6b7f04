use Rattle.std.proofs.Common.{◌≡◌, ◌++◌, drop, length, true, false, sym, ap, ◌∙◌}
use lib.Utf8.{encode}
use Rattle.unicode_ident.specs.Ident.{is_xid_continue}
use Rattle.lrc_lex.proofs.Utf8Lemmas.{run_more, run_stops, run_ends}
use Rattle.lrc_lex.proofs.words.run_length.Goals as goal

pub loop-character-preserved : goal.loop-character-preserved
loop-character-preserved c =
    let front : drop c.loop-character.at c.args.text.now ≡ encode c.in-Some.character ++ c.next.new.self.rest.now = sym c.range_from.ensures.value ∙ sym c.chars.ensures.rest ∙ c.in-Some.ensures.steps.0 in
    let ok : is_xid_continue c.in-Some.character ≡ true = sym c.is_xid_continue.ensures.value ∙ c.if-not-is_xid_continue.false in
    rw c.len_utf8-at.ensures.value (run_more _ _ _ _ c.loop-character.invariant front ok)

pub returns-then-not-is_xid_continue-clause-length :
    goal.returns-then-not-is_xid_continue-clause-length
returns-then-not-is_xid_continue-clause-length c =
    let front : drop c.loop-character.at c.args.text.now ≡ encode c.in-Some.character ++ c.next.new.self.rest.now = sym c.range_from.ensures.value ∙ sym c.chars.ensures.rest ∙ c.in-Some.ensures.steps.0 in
    let stops : is_xid_continue c.in-Some.character ≡ false = sym c.is_xid_continue.ensures.value ∙ c.if-not-is_xid_continue.true in
    run_stops _ _ _ _ c.loop-character.invariant front stops

pub returns-in_default-clause-length : goal.returns-in_default-clause-length
returns-in_default-clause-length c = run_ends _ _ c.loop-character.invariant (ap length (sym c.range_from.ensures.value ∙ sym c.chars.ensures.rest) ∙ c.in_default.ensures.steps.0.0)
