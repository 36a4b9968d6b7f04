use Rattle.clap.specs.Words.{app_of}
use Rattle.lrc_words.specs.CommandLine.{texts}
use Rattle.lrc_words.proofs.ParseLemmas.{are_refused, if_err, is_parse}
use Rattle.lrc_words.proofs.reading.parsed.Goals as goal

pub returns-in_err-try_get_matches_from-clause-usage :
    goal.returns-in_err-try_get_matches_from-clause-usage
returns-in_err-try_get_matches_from-clause-usage c =
    if_err c.from_residual-in_err-try_get_matches_from.result _ _
    (λ fault gives usage. are_refused (app_of c.in_ok-command.command) (texts c.args.words.now) c.in_err-try_get_matches_from.field-0.0
    c.in_ok-command.ensures c.in_err-try_get_matches_from.ensures.passes c.in_err-try_get_matches_from.ensures.kinds (gives usage))
    c.from_residual-in_err-try_get_matches_from.ensures.1

pub returns-clause-ok : goal.returns-clause-ok
returns-clause-ok c = is_parse c.in_ok-command.command c.in_ok-try_get_matches_from.field-0 (texts c.args.words.now)
    c.in_ok-command.ensures c.in_ok-try_get_matches_from.ensures.parsed c.in_ok-try_get_matches_from.ensures.matches
    c.in_ok-try_get_matches_from.ensures.kinds
