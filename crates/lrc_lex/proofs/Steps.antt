-- The tokens and the first fault by the steps of `next`: a text has one list of tokens or one first fault.
use Rattle.std.proofs.Common.{◌≡◌, ℕ, ◌+◌, true, false, List, [], ◌∷◌, length, take, drop, IsUtf8, ap, refl, subst}
use Rattle.lrc_lex.specs.declared.TokenClass.{TokenClass}
use Rattle.lrc_lex.specs.declared.Token.{Token}
use Rattle.lrc_lex.specs.declared.LexFault.{LexFault}
use Rattle.lrc_lex.specs.declared.LexFault.TheVariants.{BadChar}
use Rattle.lrc_lex.specs.declared.scan.Step.TheVariants.{End, Skip, Take, Refuse}
use Rattle.lrc_lex.specs.Front.{next}
use Rattle.lrc_lex.specs.Tokens as spec
use Rattle.lrc_lex.specs.Tokens.{fits, excess, token_at, TokensFrom, FaultFrom}
use Rattle.lrc_lex.proofs.NextLemmas.{found, separated, next_end, next_separator, next_from_longest, next_from_bad}

data StepTokens : List ℕ → ℕ → List Token → Type 0 where
  ends : {left : List ℕ} {at : ℕ} → next left ≡ End → StepTokens left at []
  skips : {left : List ℕ} {at n : ℕ} {tokens : List Token} → next left ≡ Skip n → StepTokens (drop n left) (at + n) tokens → StepTokens left at tokens
  takes : {left : List ℕ} {at n : ℕ} {class : TokenClass} {tokens : List Token} → next left ≡ Take class n → fits class (take n left) ≡ true
      → StepTokens (drop n left) (at + n) tokens → StepTokens left at (token_at class at n ∷ tokens)

data StepFault : List ℕ → ℕ → LexFault → Type 0 where
  refuses : {left : List ℕ} {at n : ℕ} → next left ≡ Refuse n → StepFault left at (BadChar (at + n))
  exceeds : {left : List ℕ} {at n : ℕ} {class : TokenClass} → next left ≡ Take class n → fits class (take n left) ≡ false → StepFault left at (excess class at)
  past_skip : {left : List ℕ} {at n : ℕ} {fault : LexFault} → next left ≡ Skip n → StepFault (drop n left) (at + n) fault → StepFault left at fault
  past_token : {left : List ℕ} {at n : ℕ} {class : TokenClass} {fault : LexFault} → next left ≡ Take class n → fits class (take n left) ≡ true
      → StepFault (drop n left) (at + n) fault → StepFault left at fault

-- what a text has, it has by steps
steps_of : {left : List ℕ} {at : ℕ} {tokens : List Token} → IsUtf8 left → TokensFrom left at tokens → StepTokens left at tokens
steps_of u (spec.ends {left = left} e) = ends (next_end left (ap length e))
steps_of u (spec.skips {left = left} {n = n} e some more) =
    let step = next_separator left n e some in
    skips step (steps_of (separated left n u step).behind more)
steps_of u (spec.takes {left = left} {n = n} {class = class} token fit more) =
    let step = next_from_longest left class n u token in
    takes step fit (steps_of (found left class n u step).behind more)

fault_steps_of : {left : List ℕ} {at : ℕ} {fault : LexFault} → IsUtf8 left → FaultFrom left at fault → StepFault left at fault
fault_steps_of u (spec.refuses {left = left} {n = n} bad) = refuses (next_from_bad left n u bad)
fault_steps_of u (spec.exceeds {left = left} {n = n} {class = class} token fit) = exceeds (next_from_longest left class n u token) fit
fault_steps_of u (spec.past_skip {left = left} {n = n} e some more) =
    let step = next_separator left n e some in
    past_skip step (fault_steps_of (separated left n u step).behind more)
fault_steps_of u (spec.past_token {left = left} {n = n} {class = class} token fit more) =
    let step = next_from_longest left class n u token in
    past_token step fit (fault_steps_of (found left class n u step).behind more)

-- what stands at a place has one list of tokens
one_list_by : {left : List ℕ} {at : ℕ} {a b : List Token} → StepTokens left at a → StepTokens left at b → a ≡ b
one_list_by (ends e) (ends f) = refl
one_list_by (ends e) (skips f more) = cc
one_list_by (ends e) (takes f fit more) = cc
one_list_by (skips e more) (ends f) = cc
one_list_by (skips {left = left} {at = at} {n = n} e more) (skips {n = m} {tokens = tokens} f others) =
    let same : m ≡ n = cc in
    one_list_by more (subst (λ k. StepTokens (drop k left) (at + k) tokens) same others)
one_list_by (skips e more) (takes f fit others) = cc
one_list_by (takes e fit more) (ends f) = cc
one_list_by (takes e fit more) (skips f others) = cc
one_list_by (takes {left = left} {at = at} {n = n} {class = class} e fit more) (takes {n = m} {class = other} {tokens = tokens} f fit_too others) =
    let same : m ≡ n = cc in
    let same_class : other ≡ class = cc in
    let same_rest = one_list_by more (subst (λ k. StepTokens (drop k left) (at + k) tokens) same others) in
    cc

-- and one first fault
one_fault_by : {left : List ℕ} {at : ℕ} {a b : LexFault} → StepFault left at a → StepFault left at b → a ≡ b
one_fault_by (refuses {at = at} {n = n} e) (refuses {n = m} f) = let same : n ≡ m = cc in ap (λ k. BadChar (at + k)) same
one_fault_by (refuses e) (exceeds f fit) = cc
one_fault_by (refuses e) (past_skip f more) = cc
one_fault_by (refuses e) (past_token f fit more) = cc
one_fault_by (exceeds e fit) (refuses f) = cc
one_fault_by (exceeds {at = at} {class = class} e fit) (exceeds {class = other} f fit_too) = let same : class ≡ other = cc in ap (λ k. excess k at) same
one_fault_by (exceeds e fit) (past_skip f more) = cc
one_fault_by (exceeds e fit) (past_token f fit_too more) = cc
one_fault_by (past_skip e more) (refuses f) = cc
one_fault_by (past_skip e more) (exceeds f fit) = cc
one_fault_by (past_skip {left = left} {at = at} {n = n} e more) (past_skip {n = m} {fault = fault} f others) =
    let same : m ≡ n = cc in
    one_fault_by more (subst (λ k. StepFault (drop k left) (at + k) fault) same others)
one_fault_by (past_skip e more) (past_token f fit others) = cc
one_fault_by (past_token e fit more) (refuses f) = cc
one_fault_by (past_token e fit more) (exceeds f fit_too) = cc
one_fault_by (past_token e fit more) (past_skip f others) = cc
one_fault_by (past_token {left = left} {at = at} {n = n} e fit more) (past_token {n = m} {fault = fault} f fit_too others) =
    let same : m ≡ n = cc in
    one_fault_by more (subst (λ k. StepFault (drop k left) (at + k) fault) same others)

-- but not both
never_both_by : {left : List ℕ} {at : ℕ} {tokens : List Token} {fault : LexFault} → StepTokens left at tokens → StepFault left at fault → ⊥
never_both_by (ends e) (refuses f) = cc
never_both_by (ends e) (exceeds f fit) = cc
never_both_by (ends e) (past_skip f more) = cc
never_both_by (ends e) (past_token f fit more) = cc
never_both_by (skips e more) (refuses f) = cc
never_both_by (skips e more) (exceeds f fit) = cc
never_both_by (skips {left = left} {at = at} {n = n} e more) (past_skip {n = m} {fault = fault} f others) =
    let same : m ≡ n = cc in
    never_both_by more (subst (λ k. StepFault (drop k left) (at + k) fault) same others)
never_both_by (skips e more) (past_token f fit others) = cc
never_both_by (takes e fit more) (refuses f) = cc
never_both_by (takes e fit more) (exceeds f fit_too) = cc
never_both_by (takes e fit more) (past_skip f others) = cc
never_both_by (takes {left = left} {at = at} {n = n} e fit more) (past_token {n = m} {fault = fault} f fit_too others) =
    let same : m ≡ n = cc in
    never_both_by more (subst (λ k. StepFault (drop k left) (at + k) fault) same others)

pub one_list_from : {left : List ℕ} {at : ℕ} {a b : List Token} → IsUtf8 left → TokensFrom left at a → TokensFrom left at b → a ≡ b
one_list_from u t s = one_list_by (steps_of u t) (steps_of u s)

pub one_fault_from : {left : List ℕ} {at : ℕ} {a b : LexFault} → IsUtf8 left → FaultFrom left at a → FaultFrom left at b → a ≡ b
one_fault_from u f g = one_fault_by (fault_steps_of u f) (fault_steps_of u g)

pub never_both_from : {left : List ℕ} {at : ℕ} {tokens : List Token} {fault : LexFault} → IsUtf8 left → TokensFrom left at tokens → FaultFrom left at fault → ⊥
never_both_from u t f = never_both_by (steps_of u t) (fault_steps_of u f)
