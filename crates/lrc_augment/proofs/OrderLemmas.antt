-- Order lines: the numbers of attributes are few, and the pairs that are named so far with the rest.
use Rattle.std.proofs.Common.{◌≡◌, ℕ, ◌+◌, ◌<◌, ◌≤◌, ◌⊎◌, inl, inr, List, [], ◌∷◌, ◌++◌, length, get_or, drop, slice_get, Result, Ok, Err, refl, sym, ap, ◌∙◌, subst, arith}
use Rattle.std.specs.Prelude.{IsErr, IsErrAnd}
use Rattle.std.specs.Option.{option_map_or}
use Rattle.std.proofs.lemmas.Bool.{cases_lt}
use Rattle.std.proofs.lemmas.Option.{slice_get-get_or, slice_get_past}
use Rattle.lrc_base.specs.declared.limits.TheConstants.{ATTRIBUTE_LIMIT}
use Rattle.lrc_base.specs.declared.grammar.Attr.{Attr}
use Rattle.lrc_base.specs.declared.grammar.Sort.{Sort}
use Rattle.lrc_base.specs.declared.grammar.Given.{Given}
use Rattle.lrc_grammar.proofs.ListLemmas.{next_left}
use Rattle.lrc_meaning.specs.Grammar.{Grammar, attrs_of_sort}
use Rattle.lrc_meaning.specs.Limits.{IsWithinLimits}
use Rattle.lrc_fault_meaning.specs.Faults.{Name}
use Rattle.lrc_augment.specs.declared.fault.OrderLineFault.{OrderLineFault}
use Rattle.lrc_augment.specs.declared.fault.OrderLineFault.TheVariants as fault
use Rattle.lrc_augment.specs.declared.order.RawOrder.{RawOrder}
use Rattle.lrc_augment.specs.Orders.{sort_number, attr_number, or_unknown, and_then, pair_of, pairs_of, IsUnknown, Answers}

few_attrs : (g : Grammar) → IsWithinLimits g → (s : ℕ) → length (attrs_of_sort g.sorts s) ≤ ATTRIBUTE_LIMIT
few_attrs g small s = by (cases_lt s (length g.sorts))
  where
    by : (s < length g.sorts) ⊎ (length g.sorts ≤ s) → length (attrs_of_sort g.sorts s) ≤ ATTRIBUTE_LIMIT
    by (inl less) =
        let d : Sort = record { name = []; attrs = [] } in
        subst (λ o. length (option_map_or (λ (t : Sort). t.attrs) o []) ≤ ATTRIBUTE_LIMIT) (sym (slice_get-get_or g.sorts s d less)) (small.attrs s d less)
    by (inr above) = subst (λ o. length (option_map_or (λ (t : Sort). t.attrs) o []) ≤ ATTRIBUTE_LIMIT) (sym (slice_get_past g.sorts s above)) (omega arith)

pub few_attrs_at : (g : Grammar) → IsWithinLimits g → (all : List Sort) (attrs : List Attr) (s : ℕ) → all ≡ g.sorts → attrs ≡ attrs_of_sort all s → length attrs ≤ ATTRIBUTE_LIMIT
few_attrs_at g small all attrs s same here =
    subst (λ as'. length as' ≤ ATTRIBUTE_LIMIT) (sym (subst (λ ss. attrs ≡ attrs_of_sort ss s) same here)) (few_attrs g small s)

-- the pairs so far, and then the rest
abbrev pub then_rest : List Given → Result (List Given) Name → Result (List Given) Name
then_rest done rest = and_then (λ r. Ok (done ++ r)) rest

-- what `?` hands on is told of the whole
pub told : {A : Type 0} (r : Result A OrderLineFault) (whole : Result A Name) (f : OrderLineFault) → IsErr r → IsErrAnd r (λ g. g ≡ f) → IsUnknown whole f → Answers whole r
told (Ok a) whole f wrong is unknown = absurd (cc)
told (Err g) whole f wrong is unknown = subst (IsUnknown whole) (sym is) unknown

module _ (sorts : List Sort) (line : RawOrder) (s : ℕ) (known : or_unknown line.sort (sort_number sorts line.sort) ≡ Ok s) where
  no_first : (n : Name) → or_unknown line.first (attr_number (attrs_of_sort sorts s) line.first) ≡ Err n → pair_of sorts line ≡ Err n
  no_first n unknown = rw (known, unknown) refl

  no_then : (a : ℕ) (n : Name) → or_unknown line.first (attr_number (attrs_of_sort sorts s) line.first) ≡ Ok a → or_unknown line.then (attr_number (attrs_of_sort sorts s) line.then) ≡ Err n → pair_of sorts line ≡ Err n
  no_then a n first unknown = rw (known, first, unknown) refl

module _ (sorts all : List Sort) (attrs : List Attr) (line : RawOrder) (s : ℕ) (same : all ≡ sorts) (here : attrs ≡ attrs_of_sort all s) (found : or_unknown line.sort (sort_number all line.sort) ≡ Ok s) where
  attrs_here : attrs ≡ attrs_of_sort sorts s
  attrs_here = subst (λ ss. attrs ≡ attrs_of_sort ss s) same here

  known_here : or_unknown line.sort (sort_number sorts line.sort) ≡ Ok s
  known_here = subst (λ ss. or_unknown line.sort (sort_number ss line.sort) ≡ Ok s) same found

  pub unknown_first : (f : OrderLineFault) → IsUnknown (or_unknown line.first (attr_number attrs line.first)) f → IsUnknown (pair_of sorts line) f
  unknown_first (fault.Unknown n) unknown =
      no_first sorts line s known_here n (subst (λ as'. or_unknown line.first (attr_number as' line.first) ≡ Err n) attrs_here unknown)
  unknown_first fault.Memory unknown = tt

  pub unknown_then : (a : ℕ) (f : OrderLineFault) → or_unknown line.first (attr_number attrs line.first) ≡ Ok a → IsUnknown (or_unknown line.then (attr_number attrs line.then)) f → IsUnknown (pair_of sorts line) f
  unknown_then a (fault.Unknown n) first unknown =
      no_then sorts line s known_here a n (subst (λ as'. or_unknown line.first (attr_number as' line.first) ≡ Ok a) attrs_here first) (subst (λ as'. or_unknown line.then (attr_number as' line.then) ≡ Err n) attrs_here unknown)
  unknown_then a fault.Memory first unknown = tt

-- the pairs so far, with the line that is next
pub next_pairs : (sorts : List Sort) (lines : List RawOrder) (i : ℕ) (line : RawOrder) (done : List Given) → i < length lines → line ≡ get_or lines i line → pairs_of sorts lines ≡ then_rest done (pairs_of sorts (drop i lines)) →
    pairs_of sorts lines ≡ then_rest done (and_then (λ pair. and_then (λ pairs. Ok (pair ∷ pairs)) (pairs_of sorts (drop (i + 1) lines))) (pair_of sorts line))
next_pairs sorts lines i line done lt is so_far = so_far ∙ ap (λ rest. then_rest done (pairs_of sorts rest)) (next_left lines i line lt is)

pub unknown_pair : (sorts : List Sort) (lines : List RawOrder) (i : ℕ) (line : RawOrder) (done : List Given) (f : OrderLineFault) → i < length lines → line ≡ get_or lines i line → pairs_of sorts lines ≡ then_rest done (pairs_of sorts (drop i lines)) → IsUnknown (pair_of sorts line) f →
    IsUnknown (pairs_of sorts lines) f
unknown_pair sorts lines i line done (fault.Unknown n) lt is so_far unknown =
    next_pairs sorts lines i line done lt is so_far
    ∙ ap (λ pair'. then_rest done (and_then (λ pair. and_then (λ pairs. Ok (pair ∷ pairs)) (pairs_of sorts (drop (i + 1) lines))) pair')) unknown
unknown_pair sorts lines i line done fault.Memory lt is so_far unknown = tt
