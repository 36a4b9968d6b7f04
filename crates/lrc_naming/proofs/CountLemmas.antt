-- How many items are named, and how many occurrences there are.
use Rattle.std.proofs.Common.{◌≡◌, ℕ, zero, suc, ◌+◌, ◌*◌, ◌≤◌, cond, List, [], ◌∷◌, map, flat_map, length, count_by, Option, Some, None, refl, sym, ap, ◌∙◌, length-append, subst, arith, All}
use Rattle.std.specs.Prelude.{option_map, option_and_then}
use Rattle.std.proofs.lemmas.List.{length-map}
use Rattle.std.proofs.lemmas.List.Elements.{All-nil, All-cons}
use Rattle.std.proofs.lemmas.List.Sums.{sum_by-cons}
use Rattle.lrc_base.specs.declared.limits.TheConstants.{ATTRIBUTE_LIMIT}
use Rattle.lrc_base.specs.declared.grammar.Attr.{Attr}
use Rattle.lrc_base.specs.declared.grammar.Sort.{Sort}
use Rattle.lrc_base.specs.declared.grammar.Kid.{Kid}
use Rattle.lrc_base.specs.declared.grammar.Extra.{Extra}
use Rattle.lrc_base.specs.declared.raw.RawItem.{RawItem}
use Rattle.lrc_base.specs.declared.raw.RawItem.TheVariants as item
use Rattle.lrc_base.specs.declared.raw.RawSort.{RawSort}
use Rattle.lrc_meaning.specs.Limits.{is_declaration}
use Rattle.lrc_meaning.specs.Naming.{each_some, named_attr, named_sort, named_extra, named_extras}
use Rattle.lrc_meaning.specs.Signature.{signed_occurrences}
use Rattle.lrc_meaning.proofs.SignatureLemmas.{signed_few}
use Rattle.lrc_naming.specs.Counted.{HasFewAttrs}

-- a list that is named has as many items as before
module _ {A : Type 0} where
  cons_length : (x : A) (o : Option (List A)) (n : ℕ) (ys : List A) → ((zs : List A) → o ≡ Some zs → length zs ≡ n) →
      option_map (λ r. x ∷ r) o ≡ Some ys → length ys ≡ suc n
  cons_length x None n ys h e = absurd (cc)
  cons_length x (Some zs) n ys h e = let same : x ∷ zs ≡ ys = cc in ap length (sym same) ∙ ap (λ m. suc m) (h zs refl)

  length-each_some : (xs : List (Option A)) (ys : List A) → each_some xs ≡ Some ys → length ys ≡ length xs
  length-each_some [] ys e = let same : [] ≡ ys = cc in ap length (sym same)
  length-each_some (None ∷ xs) ys e = absurd (cc)
  length-each_some (Some x ∷ xs) ys e = cons_length x (each_some xs) (length xs) ys (length-each_some xs) e

pub length-named : {A B : Type 0} (f : A → Option B) (xs : List A) (ys : List B) → each_some (map f xs) ≡ Some ys → length ys ≡ length xs
length-named f xs ys e = length-each_some (map f xs) ys e ∙ length-map xs f

-- each that is named passes where what it is named from does
first_then : {B : Type 0} (Q : B → Type 0) (o : Option B) (r : Option (List B)) (ys : List B) → ((y : B) → o ≡ Some y → Q y) → ((zs : List B) → r ≡ Some zs → All Q zs) →
    option_and_then (λ (a : B). option_map (λ (as' : List B). a ∷ as') r) o ≡ Some ys → All Q ys
first_then {B} Q (Some y) (Some zs) ys p q h =
    let same : y ∷ zs ≡ ys = cc in subst (All Q) same (All-cons Q y zs (p y refl) (q zs refl))
first_then Q (Some y) None ys p q h = absurd (cc)
first_then Q None r ys p q h = absurd (cc)

pub each_gives : {A B : Type 0} (f : A → Option B) (P : A → Type 0) (Q : B → Type 0) → ((x : A) → P x → (y : B) → f x ≡ Some y → Q y) →
    (xs : List A) → All P xs → (ys : List B) → each_some (map f xs) ≡ Some ys → All Q ys
each_gives {A} {B} f P Q each [] all ys h = let same : [] ≡ ys = cc in subst (All Q) same (All-nil Q)
each_gives f P Q each (x ∷ xs) all ys h =
    first_then Q (f x) (each_some (map f xs)) ys (each x (all zero x (omega arith)))
    (λ zs k. each_gives f P Q each xs (λ i d l. all (suc i) d (omega arith)) zs k) h

-- as many locals and nonterminal attributes as are declared
one_declared : (sorts : List RawSort) (i : RawItem) → length (named_extra sorts i) ≡ cond (is_declaration i) 1 0
one_declared sorts (item.Local n kind x) = refl
one_declared sorts (item.Attach n sort x) = refl
one_declared sorts (item.Own n x) = refl
one_declared sorts (item.OfKid c n x) = refl
one_declared sorts (item.Pattern pieces) = refl

length-declared : (sorts : List RawSort) (items : List RawItem) → length (flat_map (named_extra sorts) items) ≡ count_by is_declaration items
length-declared sorts [] = refl
length-declared sorts (i ∷ items) =
    length-append (named_extra sorts i) (flat_map (named_extra sorts) items)
    ∙ (ap (λ n. n + length (flat_map (named_extra sorts) items)) (one_declared sorts i)
    ∙ (ap (λ n. cond (is_declaration i) 1 0 + n) (length-declared sorts items)
    ∙ sym (sum_by-cons (λ (j : RawItem). cond (is_declaration j) 1 0) i items)))

pub length-named_extras : (sorts : List RawSort) (items : List RawItem) (extras : List Extra) → named_extras sorts items ≡ Some extras →
    length extras ≡ count_by is_declaration items
length-named_extras sorts items extras e =
    length-each_some (flat_map (named_extra sorts) items) extras e ∙ length-declared sorts items

few_in : (raw : List RawSort) (s : RawSort) (attrs : Option (List Attr)) (t : Sort) → length s.attrs ≤ ATTRIBUTE_LIMIT → attrs ≡ each_some (map (named_attr raw) s.attrs) →
    option_map (λ as'. record { name = s.name; attrs = as' }) attrs ≡ Some t → HasFewAttrs t
few_in raw s None t few is e = absurd (cc)
few_in raw s (Some attrs) t few is e =
    let same : attrs ≡ t.attrs = cc in
    omega (arith, ap length (sym same), length-named (named_attr raw) s.attrs attrs (sym is))

-- sorts of few attributes are named as such
pub named_sorts-few : (raw some : List RawSort) (sorts : List Sort) → All (λ (s : RawSort). length s.attrs ≤ ATTRIBUTE_LIMIT) some → each_some (map (named_sort raw) some) ≡ Some sorts →
    All HasFewAttrs sorts
named_sorts-few raw some sorts few e =
    each_gives (named_sort raw) (λ (s : RawSort). length s.attrs ≤ ATTRIBUTE_LIMIT) HasFewAttrs (λ s h t i. few_in raw s (each_some (map (named_attr raw) s.attrs)) t h refl i) some few sorts e

-- few occurrences of the left side and of each child, and one more of each local or nonterminal attribute
pub few_occurrences : (sorts : List Sort) (left : ℕ) (kids : List Kid) (extras : List Extra) → All HasFewAttrs sorts →
    length (signed_occurrences sorts left kids extras) ≤ ATTRIBUTE_LIMIT + (ATTRIBUTE_LIMIT * length kids + (1 + ATTRIBUTE_LIMIT) * length extras)
few_occurrences sorts left kids extras few = signed_few sorts few left kids extras

pub ruleset occurrence_bounds = (few_occurrences)
