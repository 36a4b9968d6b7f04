-- Terms that are found item by item: the trees that no node has taken yet, and their kinds.
use Rattle.std.specs.Prelude.{◌≡◌, ℕ, suc, ◌-◌, List, [], ◌∷◌, ◌++◌, length, map, take, drop, slice_get, Option, Some, None, Result, Ok, Err, MatchResult, nat_eq, cond, option_map}
use Rattle.lrc_base.specs.declared.grammar.Kind.{Kind}
use Rattle.lrc_base.specs.declared.grammar.Kind.TheVariants as k
use Rattle.lrc_base.specs.declared.grammar.Kid.{Kid}
use Rattle.lrc_base.specs.declared.grammar.Production.{Production}
use Rattle.lrc_base.specs.declared.item.RawTermItem.{RawTermItem}
use Rattle.lrc_base.specs.declared.item.RawTermItem.TheVariants as i
use Rattle.lrc_meaning.specs.Tree.{Tree, int, bool, name, same_kind, kids_of, kind_of}
use Rattle.lrc_meaning.specs.Naming.{production_number}
use Rattle.lrc_job.specs.declared.term_fault.TermFault.{TermFault}
use Rattle.lrc_job.specs.declared.term_fault.TermFault.TheVariants as fault
use Rattle.lrc_job.specs.Resolved.{map_ok, node_of}

-- these trees and what the item makes, or its fault
abbrev pub found_with : List Production → List Tree → RawTermItem → Result (List Tree) TermFault
found_with prods us (i.Int x) = Ok (us ++ int x ∷ [])
found_with prods us (i.Bool b) = Ok (us ++ bool b ∷ [])
found_with prods us (i.Name n) = Ok (us ++ name n ∷ [])
found_with prods us (i.Node n count) =
    map_ok (λ u. take (length us - count) us ++ u ∷ []) (node_of prods n (production_number prods n) (drop (length us - count) us))

-- the kinds of these trees
abbrev pub AreKinds : List Production → List Tree → List Kind → Type 0
AreKinds prods us kinds = map (kind_of prods) us ≡ map (λ kind. Some kind) kinds

-- the number of the first kind that is another than its child's, where they are numbered from i on
abbrev pub first_unlike_kind : ℕ → List Kind → List Kid → Option ℕ
first_unlike_kind i [] kids = None
first_unlike_kind i (x ∷ xs) [] = None
first_unlike_kind i (x ∷ xs) (kid ∷ kids) = cond (same_kind x kid.kind) (first_unlike_kind (suc i) xs kids) (Some i)

abbrev pub unless_unlike_kind : List ℕ → ℕ → Option ℕ → Result ℕ TermFault
unless_unlike_kind n p None = Ok p
unless_unlike_kind n p (Some i) = Err (fault.KidKind n i)

-- the production of a node over trees of these kinds, or its fault
abbrev pub production_over : List Production → List ℕ → Option ℕ → List Kind → Result ℕ TermFault
production_over prods n None xs = Err (fault.UnknownProduction n)
production_over prods n (Some p) xs =
    cond (nat_eq (length xs) (length (kids_of prods p))) (unless_unlike_kind n p (first_unlike_kind 0 xs (kids_of prods p))) (Err (fault.Arity n))

-- the production by its number, with the sort on its left side
abbrev pub IsOver : List Production → Result ℕ TermFault → Result (ℕ × Kind) TermFault → Type 0
IsOver prods found r =
    MatchResult r (λ o. (found ≡ Ok o.0) × (option_map (λ (q : Production). k.Sort q.left) (slice_get prods o.0) ≡ Some o.1)) (λ f. found ≡ Err f)
