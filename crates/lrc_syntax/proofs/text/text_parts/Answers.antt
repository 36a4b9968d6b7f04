use Rattle.std.proofs.Common.{List, refl, sym, subst}
use Rattle.lrc_syntax.specs.declared.part.Part.{Part}
use Rattle.lrc_syntax.specs.Faults.{AreTerminals}
use Rattle.lrc_syntax.proofs.TextLemmas.{bad_token, tokens_more, terminals_more, all_tokens}
use Rattle.lrc_syntax.proofs.text.text_parts.Goals as goal

pub returns-in_default-clause-bad : goal.returns-in_default-clause-bad
returns-in_default-clause-bad c other =
    (refl, bad_token c.args.text.now c.in-Ok.found c.as_slice-token-items.result.now c.loop-token.token-index _ c.as_slice-token-items.ensures c.in-Ok.ensures.ok c.loop-token-test.true c.in_default.ensures)

pub loop-token-preserved : goal.loop-token-preserved
loop-token-preserved c =
    let text = c.args.text.now in
    let items = c.as_slice-token-items.result.now in
    let i = c.loop-token.token-index in
    let here = c.in-Some.ensures in
    record {
      tokens = tokens_more text items i _ c.in-Some.lexeme c.loop-token.parts c.push.new.self c.loop-token-test.true here.0 c.loop-token.invariant.tokens c.in_ok-push.ensures.ok;
      terminals = terminals_more text items i _ c.in-Some.lexeme c.loop-token-test.true here.0 c.loop-token.invariant.terminals here.1;
    }

pub returns-clause-terminals : goal.returns-clause-terminals
returns-clause-terminals c =
    subst (λ (ps : List Part). AreTerminals ps) (sym c.loop-token.invariant.tokens) (all_tokens _ c.loop-token.invariant.terminals)
