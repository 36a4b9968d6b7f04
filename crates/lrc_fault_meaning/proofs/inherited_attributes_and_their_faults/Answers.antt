use Rattle.std.proofs.Common.{refl}
use Rattle.lrc_fault_meaning.proofs.FaultLemmas.{found_of_equations}
use Rattle.lrc_fault_meaning.proofs.inherited_attributes_and_their_faults.Goals as goal

pub returns-clause-missing : goal.returns-clause-missing
returns-clause-missing c = simp found_of_equations refl

pub returns-clause-start : goal.returns-clause-start
returns-clause-start c = refl
