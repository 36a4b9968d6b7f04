-- What an answer that is a fault tells of the fault of the call before it.
use Rattle.std.proofs.Common.{◌≡◌, Result, Ok, Err, IsErrAnd, refl, ap, ◌∙◌}
use Rattle.std.proofs.lemmas.Result.{err_from_is_err_and}
use Rattle.lrc_visit.specs.declared.visits.VisitFault.{VisitFault}
use Rattle.lrc_visit.specs.declared.visits.VisitFault.TheVariants as visit
use Rattle.lrc_session.specs.declared.fault.StartFault.{StartFault}
use Rattle.lrc_session.specs.declared.fault.StartFault.TheVariants as start
use Rattle.lrc_session.specs.Faults.{start_fault}

-- an answer whose fault is this one
pub is_fault : {A F : Type 0} (answer : Result A F) (fault : F) → IsErrAnd answer (λ e. e ≡ fault) → answer ≡ Err fault
is_fault answer fault h = let p = err_from_is_err_and answer h in p.1 ∙ ap Err p.2

same_fault : {A F : Type 0} (answer : Result A F) (one other : F) → answer ≡ Err one → answer ≡ Err other → one ≡ other
same_fault (Ok a) one other e f = absurd (cc)
same_fault (Err x) one other e f = cc

-- an answer that passes on the fault of a refusal is that refusal
pub same_refusal : {A B F : Type 0} (answer : Result A F) (fault one : F) → IsErrAnd answer (λ e. e ≡ fault) → (let half : Result B F = Err fault in half ≡ Err one) → answer ≡ Err one
same_refusal {A} {B} {F} answer fault one is e = let half : Result B F = Err fault in is_fault answer fault is ∙ ap Err (same_fault half fault one refl e)

-- which fault of the visit an opening's fault was
deep_visit : (fault : VisitFault) → start_fault fault ≡ start.TooDeep → fault ≡ visit.TooDeep
deep_visit visit.Full e = absurd (cc)
deep_visit visit.TooDeep e = cc

module _ {A B : Type 0} (answer : Result A StartFault) (fault : VisitFault) (is : IsErrAnd answer (λ e. e ≡ start_fault fault)) where
  pub was_deep : answer ≡ Err start.TooDeep → (let visited : Result B VisitFault = Err fault in visited ≡ Err visit.TooDeep)
  was_deep e = ap Err (deep_visit fault (same_fault answer (start_fault fault) start.TooDeep (is_fault answer (start_fault fault) is) e))
