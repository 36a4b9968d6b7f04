use Rattle.std.proofs.Common.{refl, ◌≡◌, ◌∷◌, []}
use Rattle.clap.specs.Faults.{fault_of}
use Rattle.clap.specs.declared.error.kind.ErrorKind.TheVariants.{ArgumentConflict, DisplayHelp, ValueValidation}
use Rattle.clap.proofs.OnLiterals.{clap_on_literals}
use Rattle.lrc_words.specs.CommandLine.{COMMAND}
use Rattle.lrc_words.specs.Examples.{a_number_too_large, a_repeated_option, a_wish_for_help}
use Rattle.lrc_words.proofs.ParseLemmas.{some_fault}
use Rattle.lrc_words.proofs.laws.other_words_are_refused.Goals as goal

repeated : fault_of COMMAND a_repeated_option ≡ ArgumentConflict ∷ []
unfolding clap_on_literals COMMAND
repeated = refl

range : fault_of COMMAND a_number_too_large ≡ ValueValidation ∷ []
unfolding clap_on_literals COMMAND
range = refl

help : fault_of COMMAND a_wish_for_help ≡ DisplayHelp ∷ []
unfolding clap_on_literals COMMAND
help = refl

pub returns-clause-repeated : goal.returns-clause-repeated
unfolding clap_on_literals COMMAND
returns-clause-repeated c = (refl, some_fault _ _ _ repeated)

pub returns-clause-range : goal.returns-clause-range
unfolding clap_on_literals COMMAND
returns-clause-range c = (refl, some_fault _ _ _ range)

pub returns-clause-help : goal.returns-clause-help
unfolding clap_on_literals COMMAND
returns-clause-help c = (refl, some_fault _ _ _ help)

pub returns-clause-unknown : goal.returns-clause-unknown
unfolding clap_on_literals COMMAND
returns-clause-unknown c = refl
