use Rattle.lrc_fault_laws.proofs.Grammars.{no_fault_is_named, named_has_no_fault}
use Rattle.lrc_fault_laws.proofs.no_fault_is_well_formed.Goals as goal

pub returns-clause-named : goal.returns-clause-named
returns-clause-named c = no_fault_is_named

pub returns-clause-no_fault : goal.returns-clause-no_fault
returns-clause-no_fault c = named_has_no_fault
