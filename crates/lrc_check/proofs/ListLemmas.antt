-- Names among lists, and verdicts on lists of faults, item by item.
use Rattle.std.proofs.Common.{◌≡◌, ℕ, ◌+◌, ◌<◌, Bool, ◌||◌, List, [], ◌∷◌, ◌++◌, map, flat_map, length, take, drop, get_or, Option, Some, None, Result, Ok, Err, refl, sym, ap, ◌∙◌, add-one}
use Rattle.std.specs.List.{list_any}
use Rattle.std.specs.Prelude.{option_map}
use Rattle.std.specs.Str.{bytes_eq}
use Rattle.std.proofs.lemmas.List.Folds.{list_any-append}
use Rattle.std.proofs.Math.Seq.{take-suc}
use Rattle.lrc_grammar.proofs.ListLemmas.{next_left}
use Rattle.lrc_fault_meaning.specs.Faults.{Name, Fault, each_after, is_among, first}
use Rattle.lrc_check.specs.declared.fault.GrammarFault.{GrammarFault}
use Rattle.lrc_check.specs.Verdict.{verdict, answered}

pub any_mapped : {A B : Type 0} (p : B → Bool) (h : A → B) (xs : List A) → list_any p (map h xs) ≡ list_any (λ x. p (h x)) xs
any_mapped p h [] = refl
any_mapped p h (x ∷ xs) = ap (λ b. p (h x) || b) (any_mapped p h xs)

pub any_flat : {A B : Type 0} (p : B → Bool) (f : A → List B) (xs : List A) → list_any p (flat_map f xs) ≡ list_any (λ x. list_any p (f x)) xs
any_flat p f [] = refl
any_flat p f (x ∷ xs) = list_any-append p (f x) (flat_map f xs) ∙ ap (λ b. list_any p (f x) || b) (any_flat p f xs)

-- tests that agree at each item find alike
pub any_same : {A : Type 0} (p q : A → Bool) (xs : List A) → ((x : A) → p x ≡ q x) → list_any p xs ≡ list_any q xs
any_same p q [] same = refl
any_same p q (x ∷ xs) same = ap (λ b. b || list_any p xs) (same x) ∙ ap (λ b. q x || b) (any_same p q xs same)

-- a name among names, and among others
pub among_append : (xs ys : List Name) (n : Name) → is_among (xs ++ ys) n ≡ (is_among xs n || is_among ys n)
among_append xs ys n = list_any-append (bytes_eq n) xs ys

pub ruleset amongs = (among_append)

abbrev pub Verdict : Type 0
Verdict = Result (Unit {0}) GrammarFault

-- one verdict, and where it is right the next
abbrev pub and_then : Verdict → Verdict → Verdict
and_then (Ok u) next = next
and_then (Err f) next = Err f

pub verdict_append : (fs gs : List Fault) → verdict (fs ++ gs) ≡ and_then (verdict fs) (verdict gs)
verdict_append [] gs = refl
verdict_append (f ∷ fs) gs = refl

-- the fault of a verdict
abbrev pub fault_in : Verdict → Option GrammarFault
fault_in (Ok u) = None
fault_in (Err f) = Some f

pub first_is : (fs : List Fault) → option_map answered (first fs) ≡ fault_in (verdict fs)
first_is [] = refl
first_is (f ∷ fs) = refl

pub verdict_err : (fs : List Fault) (fault : GrammarFault) → Some fault ≡ option_map answered (first fs) → verdict fs ≡ Err fault
verdict_err [] fault e = absurd (cc)
verdict_err (f ∷ fs) fault e = cc

pub verdict_ok : (fs : List Fault) → None ≡ option_map answered (first fs) → verdict fs ≡ Ok tt
verdict_ok [] e = refl
verdict_ok (f ∷ fs) e = absurd (cc)

pub ruleset verdicts = (verdict_append)

module _ {A : Type 0} where
  one_more : (xs : List A) (i : ℕ) (x : A) → i < length xs → x ≡ get_or xs i x → take i xs ++ x ∷ [] ≡ take (i + 1) xs
  one_more xs i x lt is =
      sym (rw add-one (take-suc xs i x lt) ∙ ap (λ y. take i xs ++ y ∷ []) (sym is))

  -- the items before this one are right, each by what stands before it
  abbrev pub RightBefore : (List A → A → List Fault) → List A → ℕ → Type 0
  RightBefore f xs i = verdict (each_after f [] xs) ≡ verdict (each_after f (take i xs) (drop i xs))

  next_after : (f : List A → A → List Fault) (xs : List A) (i : ℕ) (x : A) → i < length xs → x ≡ get_or xs i x →
      verdict (each_after f (take i xs) (drop i xs)) ≡ and_then (verdict (f (take i xs) x)) (verdict (each_after f (take (i + 1) xs) (drop (i + 1) xs)))
  next_after f xs i x lt is =
      ap (λ ys. verdict (each_after f (take i xs) ys)) (next_left xs i x lt is)
      ∙ (verdict_append (f (take i xs) x) (each_after f (take i xs ++ x ∷ []) (drop (i + 1) xs))
      ∙ ap (λ before. and_then (verdict (f (take i xs) x)) (verdict (each_after f before (drop (i + 1) xs)))) (one_more xs i x lt is))

  pub faulty_here : (f : List A → A → List Fault) (xs : List A) (i : ℕ) (x : A) (fault : GrammarFault) → RightBefore f xs i → i < length xs → x ≡ get_or xs i x → verdict (f (take i xs) x) ≡ Err fault →
      verdict (each_after f [] xs) ≡ Err fault
  faulty_here f xs i x fault right lt is e =
      right ∙ (next_after f xs i x lt is ∙ ap (λ v. and_then v (verdict (each_after f (take (i + 1) xs) (drop (i + 1) xs)))) e)

  pub right_here : (f : List A → A → List Fault) (xs : List A) (i : ℕ) (x : A) (u : Unit {0}) → RightBefore f xs i → i < length xs → x ≡ get_or xs i x → verdict (f (take i xs) x) ≡ Ok u →
      RightBefore f xs (i + 1)
  right_here f xs i x u right lt is e =
      right ∙ (next_after f xs i x lt is ∙ ap (λ v. and_then v (verdict (each_after f (take (i + 1) xs) (drop (i + 1) xs)))) e)

  -- the items before this one are right
  abbrev pub EachRightBefore : (A → List Fault) → List A → ℕ → Type 0
  EachRightBefore f xs i = verdict (flat_map f xs) ≡ verdict (flat_map f (drop i xs))

  next_item : (f : A → List Fault) (xs : List A) (i : ℕ) (x : A) → i < length xs → x ≡ get_or xs i x →
      verdict (flat_map f (drop i xs)) ≡ and_then (verdict (f x)) (verdict (flat_map f (drop (i + 1) xs)))
  next_item f xs i x lt is =
      ap (λ ys. verdict (flat_map f ys)) (next_left xs i x lt is) ∙ verdict_append (f x) (flat_map f (drop (i + 1) xs))

  pub faulty_item : (f : A → List Fault) (xs : List A) (i : ℕ) (x : A) (fault : GrammarFault) → EachRightBefore f xs i → i < length xs → x ≡ get_or xs i x → verdict (f x) ≡ Err fault →
      verdict (flat_map f xs) ≡ Err fault
  faulty_item f xs i x fault right lt is e =
      right ∙ (next_item f xs i x lt is ∙ ap (λ v. and_then v (verdict (flat_map f (drop (i + 1) xs)))) e)

  pub right_item : (f : A → List Fault) (xs : List A) (i : ℕ) (x : A) (u : Unit {0}) → EachRightBefore f xs i → i < length xs → x ≡ get_or xs i x → verdict (f x) ≡ Ok u →
      EachRightBefore f xs (i + 1)
  right_item f xs i x u right lt is e =
      right ∙ (next_item f xs i x lt is ∙ ap (λ v. and_then v (verdict (flat_map f (drop (i + 1) xs)))) e)
