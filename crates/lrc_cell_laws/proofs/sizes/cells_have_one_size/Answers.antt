use Rattle.lrc_cell_laws.proofs.SizeLemmas.{sized, one_size, same_size, size_within}
use Rattle.lrc_cell_laws.proofs.sizes.cells_have_one_size.Goals as goal

pub returns-clause-exists : goal.returns-clause-exists
returns-clause-exists c = sized

pub returns-clause-one : goal.returns-clause-one
returns-clause-one c cells m n = one_size cells cells m n (λ x. (λ h. h, λ h. h))

pub returns-clause-agree : goal.returns-clause-agree
returns-clause-agree c = same_size

pub returns-clause-grow : goal.returns-clause-grow
returns-clause-grow c = size_within
