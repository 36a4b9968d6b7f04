use Rattle.std.proofs.Common.{refl}
use Rattle.clap.proofs.OnLiterals.{clap_on_literals}
use Rattle.lrc_words.specs.CommandLine.{COMMAND}
use Rattle.lrc_words.proofs.laws.options_set_their_numbers.Goals as goal

pub returns-clause-usual : goal.returns-clause-usual
unfolding clap_on_literals COMMAND
returns-clause-usual c = record { taken = refl; verb = refl; rows = refl; memo = refl; depth = refl; seed = refl; nodes = refl; sessions = refl }

pub returns-clause-set : goal.returns-clause-set
unfolding clap_on_literals COMMAND
returns-clause-set c = record { taken = refl; verb = refl; rows = refl; memo = refl; depth = refl; seed = refl; nodes = refl; sessions = refl }
