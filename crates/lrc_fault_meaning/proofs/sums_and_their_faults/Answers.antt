use Rattle.std.proofs.Common.{refl}
use Rattle.lrc_fault_meaning.proofs.FaultLemmas.{found_of_equations}
use Rattle.lrc_fault_meaning.proofs.sums_and_their_faults.Goals as goal

pub returns-clause-none : goal.returns-clause-none
returns-clause-none c = simp found_of_equations refl

pub returns-clause-missing : goal.returns-clause-missing
returns-clause-missing c = refl

pub returns-clause-unknown : goal.returns-clause-unknown
returns-clause-unknown c = simp found_of_equations refl

pub returns-clause-own : goal.returns-clause-own
returns-clause-own c = simp found_of_equations refl

pub returns-clause-double : goal.returns-clause-double
returns-clause-double c = simp found_of_equations refl

pub returns-clause-kind : goal.returns-clause-kind
returns-clause-kind c = simp found_of_equations refl

pub returns-clause-symbol : goal.returns-clause-symbol
returns-clause-symbol c = simp found_of_equations refl

pub returns-clause-local : goal.returns-clause-local
returns-clause-local c = refl
