-- A term as it is written: the tree that it is over a grammar's productions, or its first node at fault. Children are
-- examined before their node, from left to right.
use Rattle.std.specs.Prelude.{◌≡◌, ◌≢◌, ℕ, suc, Bool, false, List, [], ◌∷◌, length, Option, Some, None, Result, Ok, Err, MatchResult, nat_eq, cond}
use Rattle.lrc_base.specs.declared.grammar.Kind.{Kind}
use Rattle.lrc_base.specs.declared.grammar.Kid.{Kid}
use Rattle.lrc_base.specs.declared.grammar.Production.{Production}
use Rattle.lrc_base.specs.declared.term.TermTree.{TermTree}
use Rattle.lrc_base.specs.declared.raw_term.RawTermTree.{RawTermTree}
use Rattle.lrc_base.specs.declared.raw_term.RawTermTree.TheOpen.{RawTermTree-F}
use Rattle.lrc_base.specs.declared.raw_term.RawTermTree.TheFolds.{fold-RawTermTree}
use Rattle.lrc_meaning.specs.Tree.{Tree, int, bool, name, node, row, tree, same_kind, kids_of, kind_of}
use Rattle.lrc_meaning.specs.Naming.{production_number}
use Rattle.lrc_job.specs.declared.term_fault.TermFault.{TermFault}
use Rattle.lrc_job.specs.declared.term_fault.TermFault.TheVariants as fault

abbrev pub and_then : {A B E : Type 0} → (A → Result B E) → Result A E → Result B E
and_then f (Ok a) = f a
and_then f (Err e) = Err e

abbrev pub map_ok : {A B E : Type 0} → (A → B) → Result A E → Result B E
map_ok f (Ok a) = Ok (f a)
map_ok f (Err e) = Err e

-- each of a list, or the first fault among them
abbrev pub each_ok : {A E : Type 0} → List (Result A E) → Result (List A) E
each_ok [] = Ok []
each_ok (r ∷ rs) = and_then (λ a. map_ok (λ as'. a ∷ as') (each_ok rs)) r

abbrev pub is_of_kind : Kind → Option Kind → Bool
is_of_kind kind None = false
is_of_kind kind (Some found) = same_kind found kind

-- the number of the first tree of another kind than its child, where they are numbered from i on
abbrev pub first_unlike : List Production → ℕ → List Tree → List Kid → Option ℕ
first_unlike prods i [] kids = None
first_unlike prods i (t ∷ ts) [] = None
first_unlike prods i (t ∷ ts) (kid ∷ kids) =
    cond (is_of_kind kid.kind (kind_of prods t)) (first_unlike prods (suc i) ts kids) (Some i)

abbrev pub unless_unlike : List ℕ → ℕ → List Tree → Option ℕ → Result Tree TermFault
unless_unlike n p ts None = Ok (node p (row ts))
unless_unlike n p ts (Some i) = Err (fault.KidKind n i)

-- a node over trees that are right, by the number of its production: their number is that of the production's
-- children, and so are their kinds
abbrev pub node_of : List Production → List ℕ → Option ℕ → List Tree → Result Tree TermFault
node_of prods n None ts = Err (fault.UnknownProduction n)
node_of prods n (Some p) ts =
    cond (nat_eq (length ts) (length (kids_of prods p))) (unless_unlike n p ts (first_unlike prods 0 ts (kids_of prods p))) (Err (fault.Arity n))

-- one node, with what its children are in their places
abbrev pub resolved_step : List Production → RawTermTree-F (Result Tree TermFault) → Result Tree TermFault
resolved_step prods (RawTermTree-F.Int i) = Ok (int i)
resolved_step prods (RawTermTree-F.Bool b) = Ok (bool b)
resolved_step prods (RawTermTree-F.Name n) = Ok (name n)
resolved_step prods (RawTermTree-F.Node n kids) = and_then (node_of prods n (production_number prods n)) (each_ok kids)

unfoldable pub resolved : List Production → RawTermTree → Result Tree TermFault
resolved prods = fold-RawTermTree (Result Tree TermFault) (resolved_step prods)

-- the term with its kind
abbrev pub IsResolved : List Production → Result Tree TermFault → Result (Kind × TermTree) TermFault → Type 0
IsResolved prods found r =
    MatchResult r (λ t. (found ≡ Ok (tree t.1)) × (kind_of prods (tree t.1) ≡ Some t.0)) (λ f. f ≢ fault.Memory → found ≡ Err f)
