-- What order lines name: each a sort and two of its attributes, by their numbers. Where one is unknown, the first that
-- is: in the first such line its sort, or else its first attribute, or else its second. Where two share a name the
-- first counts. Source: the dependencies that are added to arrange a grammar orderly (Kastens 1980).
use Rattle.std.specs.Prelude.{◌≡◌, ℕ, List, [], ◌∷◌, position, Option, Some, None, Result, Ok, Err, MatchResult, bytes_eq}
use Rattle.lrc_base.specs.declared.grammar.Attr.{Attr}
use Rattle.lrc_base.specs.declared.grammar.Sort.{Sort}
use Rattle.lrc_base.specs.declared.grammar.Given.{Given}
use Rattle.lrc_meaning.specs.Grammar.{attrs_of_sort}
use Rattle.lrc_fault_meaning.specs.Faults.{Name}
use Rattle.lrc_augment.specs.declared.fault.OrderLineFault.{OrderLineFault}
use Rattle.lrc_augment.specs.declared.fault.OrderLineFault.TheVariants as fault
use Rattle.lrc_augment.specs.declared.order.RawOrder.{RawOrder}

-- the number of the sort of this name
abbrev pub sort_number : List Sort → Name → Option ℕ
sort_number sorts n = position (λ (s : Sort). bytes_eq s.name n) sorts

-- the number of the attribute of this name
abbrev pub attr_number : List Attr → Name → Option ℕ
attr_number attrs n = position (λ (a : Attr). bytes_eq a.name n) attrs

-- what is named, or else the name that is unknown
abbrev pub or_unknown : Name → Option ℕ → Result ℕ Name
or_unknown n (Some number) = Ok number
or_unknown n None = Err n

abbrev pub and_then : {A B : Type 0} → (A → Result B Name) → Result A Name → Result B Name
and_then f (Ok a) = f a
and_then f (Err n) = Err n

-- the pair that a line names
abbrev pub pair_of : List Sort → RawOrder → Result Given Name
pair_of sorts line =
    and_then
    (λ s. and_then
    (λ a. and_then (λ b. Ok (record { sort = s; first = a; then = b })) (or_unknown line.then (attr_number (attrs_of_sort sorts s) line.then)))
    (or_unknown line.first (attr_number (attrs_of_sort sorts s) line.first)))
    (or_unknown line.sort (sort_number sorts line.sort))

-- the pairs that lines name, in order
abbrev pub pairs_of : List Sort → List RawOrder → Result (List Given) Name
pairs_of sorts [] = Ok []
pairs_of sorts (line ∷ lines) = and_then (λ pair. and_then (λ pairs. Ok (pair ∷ pairs)) (pairs_of sorts lines)) (pair_of sorts line)

-- the name is the one that is unknown; want of memory is free
abbrev pub IsUnknown : {A : Type 0} → Result A Name → OrderLineFault → Type 0
IsUnknown found (fault.Unknown n) = found ≡ Err n
IsUnknown found fault.Memory = Unit {0}

-- what is answered is what is found
abbrev pub Answers : {A : Type 0} → Result A Name → Result A OrderLineFault → Type 0
Answers found r = MatchResult r (λ a. found ≡ Ok a) (IsUnknown found)
