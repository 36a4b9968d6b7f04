-- Generated jobs are accepted.
use Rattle.std.proofs.Common.{◌≡◌, ℕ, IsTrue, None, refl, ◌∙◌}
use Rattle.lrc_meaning.specs.Grammar.{is_well_formed}
use Rattle.lrc_meaning.proofs.ExpressionLemmas.{expression_equations}
use Rattle.lrc_fault_meaning.specs.Faults.{first_fault}
use Rattle.lrc_fault_laws.proofs.Grammars.{named_has_no_fault}
use Rattle.lrc_gen.specs.Lets.{lets}
use Rattle.lrc_gen.specs.Generated.{generated}
use Rattle.lrc_gen_laws.specs.LetsGrammar.{lets_grammar}
use Rattle.lrc_gen_laws.specs.Accepted.{IsAccepted}
use Rattle.lrc_gen_laws.proofs.NamedLemmas.{lets_named}
use Rattle.lrc_gen_laws.proofs.DrawnLemmas.{generated_found}

lets_is_well_formed : IsTrue (is_well_formed lets_grammar)
lets_is_well_formed = simp expression_equations refl

lets_has_no_fault : first_fault lets ≡ None
lets_has_no_fault = named_has_no_fault lets lets_grammar lets_named lets_is_well_formed

pub is_accepted : (seed nodes sessions : ℕ) → IsAccepted (generated seed nodes sessions) sessions
is_accepted seed nodes sessions =
    let h = generated_found seed nodes sessions in
    record { found = h.0.found; has = record { no_fault = lets_has_no_fault; named = lets_named; sessions = h.0.are_found }; count = h.0.count ∙ h.1 }
