use Rattle.lrc_grammar.specs.Grammar.{grammar_of}
use Rattle.lrc_plan.proofs.SoundLemmas.{ordered_is_sound}
use Rattle.lrc_plan.proofs.planning.plan.Goals as goal

pub returns-clause-sound : goal.returns-clause-sound
returns-clause-sound c = ordered_is_sound (grammar_of c.args.grammar) c.args.parts c.requires
