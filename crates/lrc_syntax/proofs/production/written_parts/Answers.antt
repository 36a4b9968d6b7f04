use Rattle.std.proofs.Common.{List, sym, subst}
use Rattle.lrc_syntax.specs.declared.part.Part.{Part}
use Rattle.lrc_syntax.specs.Faults.{AreTerminals}
use Rattle.lrc_syntax.proofs.TextLemmas.{plain_terminals}
use Rattle.lrc_syntax.proofs.production.written_parts.Goals as goal

pub returns-in_ok-plain_parts-in-None-clause-terminals : goal.returns-in_ok-plain_parts-in-None-clause-terminals
returns-in_ok-plain_parts-in-None-clause-terminals c =
    subst (λ (ps : List Part). AreTerminals ps) (sym c.in_ok-plain_parts-in-None.ensures) (plain_terminals c.args.production.now.name _ c.requires.name)
