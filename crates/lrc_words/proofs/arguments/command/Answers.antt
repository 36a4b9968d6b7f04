use Rattle.std.proofs.Common.{◌∙◌, ap₂}
use Rattle.std.proofs.lemmas.Result.{IfOk-weaker}
use Rattle.clap.specs.Words.{with_rule}
use Rattle.lrc_words.specs.CommandLine.{COMMAND}
use Rattle.lrc_words.proofs.arguments.command.Goals as goal

pub returns : goal.returns
unfolding COMMAND
returns c = IfOk-weaker c.arg-7.result _ _ (λ command added. added.shape c.whole_number-6.ensures.local
    ∙ ap₂ with_rule (c.in_ok-arg-6.ensures.shape c.whole_number-5.ensures.local
    ∙ ap₂ with_rule (c.in_ok-arg-5.ensures.shape c.whole_number-4.ensures.local
    ∙ ap₂ with_rule (c.in_ok-arg-4.ensures.shape c.whole_number-3.ensures.local
    ∙ ap₂ with_rule (c.in_ok-arg-3.ensures.shape c.whole_number-2.ensures.local
    ∙ ap₂ with_rule (c.in_ok-arg-2.ensures.shape c.whole_number.ensures.local
    ∙ ap₂ with_rule (c.in_ok-arg.ensures.shape c.command_word.ensures.local
    ∙ ap₂ with_rule c.new.ensures.app c.command_word.ensures.rule)
    c.whole_number.ensures.rule) c.whole_number-2.ensures.rule) c.whole_number-3.ensures.rule)
    c.whole_number-4.ensures.rule) c.whole_number-5.ensures.rule) c.whole_number-6.ensures.rule) c.arg-7.ensures
