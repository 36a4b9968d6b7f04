use Rattle.std.proofs.Common.{sym, subst}
use Rattle.lrc_lex.specs.Tokens.{FirstFault, not_utf8}
use Rattle.lrc_lex.specs.declared.LexFault.TheVariants.{NotUtf8}
use Rattle.lrc_lex.proofs.TokensLemmas.{ok_each, err_fault, err_only, not_both_utf8}
use Rattle.lrc_lex.proofs.tokens.Goals as goal

pub returns-in-Ok-clause-each : goal.returns-in-Ok-clause-each
returns-in-Ok-clause-each c = ok_each _ _ _ c.in-Ok.ensures.cases.0 c.in-Ok.ensures.cases.1 c.tokens_of.ensures.ok

pub returns-in-Ok-clause-fault : goal.returns-in-Ok-clause-fault
returns-in-Ok-clause-fault c = err_fault _ _ _ c.in-Ok.ensures.cases.0 c.in-Ok.ensures.cases.1 c.tokens_of.ensures.fault

pub returns-in-Err-clause-fault : goal.returns-in-Err-clause-fault
returns-in-Err-clause-fault c _ = subst (λ n. FirstFault c.args.text.now (NotUtf8 n)) (sym c.valid_up_to.ensures) (not_utf8 c.in-Err.ensures.cases.1)

pub returns-in-Ok-clause-only : goal.returns-in-Ok-clause-only
returns-in-Ok-clause-only c = err_only _ _ (err_fault _ _ _ c.in-Ok.ensures.cases.0 c.in-Ok.ensures.cases.1 c.tokens_of.ensures.fault)

pub returns-in-Err-clause-only : goal.returns-in-Err-clause-only
returns-in-Err-clause-only c _ tokens t = not_both_utf8 t.utf8 c.in-Err.ensures.cases.1
