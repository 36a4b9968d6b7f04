use Rattle.lrc_meaning.proofs.SignatureLemmas.{signed_roles}
use Rattle.lrc_meaning.proofs.NamedLemmas.{named_parts}
use Rattle.lrc_meaning.proofs.a_signature_tells_each_occurrence.Goals as goal

pub returns-clause-roles : goal.returns-clause-roles
returns-clause-roles c = signed_roles

pub returns-clause-calls : goal.returns-clause-calls
returns-clause-calls c raw sorts p named h = (named_parts raw sorts p named h).of_equations
