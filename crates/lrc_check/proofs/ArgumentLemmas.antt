-- What is found of arguments, one by one.
use Rattle.std.proofs.Common.{◌≡◌, ℕ, zero, suc, ◌+◌, ◌<◌, ◌≤◌, ◌≢◌, Bool, true, false, ◌&&◌, List, [], ◌∷◌, map, flat_map, length, drop, get_or, slice_get, Some, Ok, Err, refl, sym, ap, ◌∙◌, arith, add-one, nat_eq}
use Rattle.std.proofs.lemmas.Bool.{eqb-true}
use Rattle.std.proofs.lemmas.Bool.Decides.{nat_tests}
use Rattle.std.proofs.lemmas.Grind.{common_steps}
use Rattle.lrc_base.specs.declared.raw.RawKind.{RawKind}
use Rattle.lrc_base.specs.declared.raw.RawKid.{RawKid}
use Rattle.lrc_base.specs.declared.raw.RawExpr.{RawExpr}
use Rattle.lrc_grammar.proofs.ListLemmas.{next_left, and_false}
use Rattle.lrc_fault_meaning.specs.Faults.{Fault, Found, of_kind, is_right, are_right}
use Rattle.lrc_check.specs.declared.fault.GrammarFault.{GrammarFault}
use Rattle.lrc_check.specs.Verdict.{verdict, is_of_kind}
use Rattle.lrc_check.proofs.ListLemmas.{and_then, verdict_append}

abbrev pub faults_of : List Found → List Fault
faults_of found = flat_map (λ (x : Found). x.faults) found

-- the arguments before this one have no fault, and `right` says whether they are of the children's kinds, which are
-- as many
pub record ArgumentsBefore (found : RawExpr → Found) (args : List RawExpr) (kids : List RawKid) (i : ℕ) (right : Bool) : Type 0 where
  pub faults : verdict (faults_of (map found args)) ≡ verdict (faults_of (map found (drop i args)))
  pub kinds : are_right (map found args) kids ≡ (right && are_right (map found (drop i args)) (drop i kids))
  pub number : right ≡ true → length args ≡ length kids

other_number : (found : RawExpr → Found) (args : List RawExpr) (kids : List RawKid) → length args ≢ length kids → are_right (map found args) kids ≡ false
other_number found [] [] h = absurd (h refl)
other_number found [] (kid ∷ kids) h = refl
other_number found (x ∷ args) [] h = refl
other_number found (x ∷ args) (kid ∷ kids) h =
    rw (other_number found args kids (λ e. h (ap suc e))) (and_false (is_right (found x).kind kid.kind))

another_number : (m n : ℕ) → nat_eq m n ≡ false → m ≢ n
another_number m n e = grind (arith, nat_tests)

first_arguments : (found : RawExpr → Found) (args : List RawExpr) (kids : List RawKid) (right : Bool) → (right ≡ true → length args ≡ length kids) → (right ≡ false → length args ≢ length kids) →
    ArgumentsBefore found args kids 0 right
first_arguments found args kids true same other = record { faults = refl; kinds = refl; number = same }
first_arguments found args kids false same other =
    record { faults = refl; kinds = other_number found args kids (other refl); number = same }

pub no_arguments_yet : (found : RawExpr → Found) (args : List RawExpr) (kids : List RawKid) → ArgumentsBefore found args kids 0 (nat_eq (length args) (length kids))
no_arguments_yet found args kids =
    first_arguments found args kids (nat_eq (length args) (length kids)) (eqb-true (length args) (length kids)) (another_number (length args) (length kids))

next_faults : (found : RawExpr → Found) (args : List RawExpr) (i : ℕ) (x : RawExpr) → i < length args → x ≡ get_or args i x →
    verdict (faults_of (map found (drop i args))) ≡ and_then (verdict (found x).faults) (verdict (faults_of (map found (drop (i + 1) args))))
next_faults found args i x lt is =
    ap (λ xs. verdict (faults_of (map found xs))) (next_left args i x lt is)
    ∙ verdict_append (found x).faults (faults_of (map found (drop (i + 1) args)))

pub faulty_argument : (found : RawExpr → Found) (args : List RawExpr) (kids : List RawKid) (i : ℕ) (right : Bool) (x : RawExpr) (fault : GrammarFault) →
    ArgumentsBefore found args kids i right → i < length args → x ≡ get_or args i x → verdict (found x).faults ≡ Err fault →
    verdict (faults_of (map found args)) ≡ Err fault
faulty_argument found args kids i right x fault before lt is e =
    before.faults
    ∙ (next_faults found args i x lt is ∙ ap (λ v. and_then v (verdict (faults_of (map found (drop (i + 1) args))))) e)

one_further : {A : Type 0} (x : A) (xs : List A) (i : ℕ) → drop (i + 1) xs ≡ drop (suc i + 1) (x ∷ xs)
one_further x xs i = rw (add-one, add-one) refl

next_kinds : (found : RawExpr → Found) (xs : List RawExpr) (kids : List RawKid) (i : ℕ) (x : RawExpr) (kind : RawKind) → (found x).kind ≡ Some kind →
    are_right (found x ∷ map found xs) (drop i kids) ≡ (is_of_kind (slice_get kids i) kind && are_right (map found xs) (drop (i + 1) kids))
next_kinds found xs [] zero x kind e = refl
next_kinds found xs (kid ∷ kids) zero x kind e = ap (λ k. is_right k kid.kind && are_right (map found xs) kids) e
next_kinds found xs [] (suc i) x kind e = refl
next_kinds found xs (kid ∷ kids) (suc i) x kind e =
    next_kinds found xs kids i x kind e
    ∙ ap (λ ks. is_of_kind (slice_get kids i) kind && are_right (map found xs) ks) (one_further kid kids i)

and_assoc : (a b c : Bool) → (a && (b && c)) ≡ ((a && b) && c)
and_assoc true b c = refl
and_assoc false b c = refl

left_true : (a b : Bool) → (a && b) ≡ true → a ≡ true
left_true true b e = refl
left_true false b e = e

pub right_argument : (found : RawExpr → Found) (args : List RawExpr) (kids : List RawKid) (i : ℕ) (right agrees : Bool) (x : RawExpr) (kind : RawKind) →
    ArgumentsBefore found args kids i right → i < length args → x ≡ get_or args i x → found x ≡ of_kind kind → agrees ≡ is_of_kind (slice_get kids i) kind →
    ArgumentsBefore found args kids (i + 1) (right && agrees)
right_argument found args kids i right agrees x kind before lt is e same = record {
  faults = before.faults
      ∙ (next_faults found args i x lt is ∙ ap (λ (f : Found). and_then (verdict f.faults) (verdict (faults_of (map found (drop (i + 1) args))))) e);
  kinds = before.kinds
      ∙ (ap (λ xs. right && are_right (map found xs) (drop i kids)) (next_left args i x lt is)
      ∙ (ap (λ b. right && b) (next_kinds found (drop (i + 1) args) kids i x kind (ap (λ (f : Found). f.kind) e))
      ∙ (ap (λ b. right && (b && are_right (map found (drop (i + 1) args)) (drop (i + 1) kids))) (sym same)
      ∙ and_assoc right agrees (are_right (map found (drop (i + 1) args)) (drop (i + 1) kids)))));
  number = λ t. before.number (left_true right agrees t);
}

no_fault : (fs : List Fault) → verdict fs ≡ Ok tt → fs ≡ []
no_fault [] e = refl
no_fault (f ∷ fs) e = absurd (cc)

nothing_left : {A : Type 0} (xs : List A) (i : ℕ) → length xs ≤ i → drop i xs ≡ []
nothing_left xs i h = grind (arith, common_steps)

all_kinds : (found : RawExpr → Found) (args : List RawExpr) (kids : List RawKid) (i : ℕ) (right : Bool) → length args ≤ i → (right ≡ true → length args ≡ length kids) →
    (right && are_right (map found (drop i args)) (drop i kids)) ≡ right
all_kinds found args kids i false h number = refl
all_kinds found args kids i true h number =
    let same : length args ≡ length kids = number refl in
    ap (λ xs. are_right (map found xs) (drop i kids)) (nothing_left args i h)
    ∙ ap (λ ks. are_right [] ks) (nothing_left kids i (omega arith))

pub all_arguments : (found : RawExpr → Found) (args : List RawExpr) (kids : List RawKid) (i : ℕ) (right : Bool) → ArgumentsBefore found args kids i right → length args ≤ i →
    (faults_of (map found args) ≡ []) × (right ≡ are_right (map found args) kids)
all_arguments found args kids i right before h = (
  no_fault (faults_of (map found args)) (before.faults ∙ ap (λ xs. verdict (faults_of (map found xs))) (nothing_left args i h)),
  sym (before.kinds ∙ all_kinds found args kids i right h before.number),
)
