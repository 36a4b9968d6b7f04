-- What a copy answers, from what its calls do: those that look the places up, those that read the kinds, and the one that
-- builds the whole.
use Rattle.std.proofs.Common.{◌≡◌, ◌≢◌, List, ℕ, Option, Some, None, IsSome, IsTrue, refl, sym, ap, ◌∙◌, subst}
use Rattle.std.proofs.lemmas.Bool.{false≢true}
use Rattle.std.specs.Prelude.{Result, Ok, Err, IsErrAnd}
use Rattle.std.specs.Option.{ok_or}
use Rattle.lrc_base.specs.declared.grammar.Kind.{Kind}
use Rattle.lrc_base.specs.declared.grammar.Production.{Production}
use Rattle.lrc_meaning.specs.Tree.{Tree, kind_of, fits, at_place, replaced}
use Rattle.lrc_store.specs.Cells.{parts}
use Rattle.lrc_store.specs.Standing.{Standing, Stands}
use Rattle.lrc_store.specs.Words.{Reads}
use Rattle.lrc_store.specs.declared.cells.Handle.{Handle}
use Rattle.lrc_store.specs.declared.stores.Full.{Full}
use Rattle.lrc_code.specs.Forms.{tree_cell}
use Rattle.lrc_code.specs.Building.{Builds}
use Rattle.lrc_places.specs.declared.copying.CopyFault.{CopyFault}
use Rattle.lrc_places.specs.declared.copying.CopyFault.TheVariants as fault
use Rattle.lrc_places.specs.Replacing.{IsPlace}
use Rattle.lrc_places.specs.Places.{FindsPart}
use Rattle.lrc_places.specs.Copying.{CopiesPart, Copies, of_part}
use Rattle.lrc_places.proofs.BuildLemmas.{reads-adds, read-builds}
use Rattle.lrc_places.proofs.DeclaredLemmas.{part-kind}
use Rattle.lrc_places.proofs.PutLemmas.{found}

-- an answer whose fault is this one
is-fault : (answer : Result Handle CopyFault) (f : CopyFault) → IsErrAnd answer (λ e. e ≡ f) → answer ≡ Err f
is-fault (Ok handle) f is = absurd is
is-fault (Err e) f is = ap Err is

kind-there : (o : Option Kind) → IsSome o → (kind : Kind) × (o ≡ Some kind)
kind-there None h = absurd (false≢true h)
kind-there (Some kind) h = (kind, refl)

-- what was found in a tree that fits, along the steps as the path has them, is of some kind
pub found-kind : (prods : List Production) (s : Standing) (t : Tree) (sort : Kind) (steps own : List ℕ) (answer : Option Handle) (handle : Handle) → IsTrue (fits prods t sort)
    → FindsPart s (at_place t steps) answer → answer ≡ Some handle → steps ≡ own
    → (part : Tree) × (kind : Kind) × (at_place t own ≡ Some part) × (kind_of prods part ≡ Some kind) × Stands s handle.0 (tree_cell part)
found-kind prods s t sort steps own answer handle fit finds is same =
    let (part, there, here) = found s t steps own answer handle finds is same in
    let (kind, of_kind) = kind-there (kind_of prods part) (part-kind prods t part sort own fit there) in
    (part, kind, there, of_kind, here)

-- what a path that names no place turns into
pub missing : (o : Option Handle) (e : CopyFault) (answer : Result Handle CopyFault) → Err e ≡ ok_or o fault.BadPath → IsErrAnd answer (λ f. f ≡ e) → (o ≡ None) × IsErrAnd answer (λ f. f ≡ fault.BadPath)
missing None e answer is of = let same : e ≡ fault.BadPath = cc in (refl, subst (λ w. IsErrAnd answer (λ f. f ≡ w)) same of)
missing (Some handle) e answer is of = absurd (cc)

-- nothing was found
pub found-none : (s : Standing) (t : Tree) (steps own : List ℕ) (answer : Option Handle) → FindsPart s (at_place t steps) answer → answer ≡ None → steps ≡ own → at_place t own ≡ None
found-none s t steps own answer finds is same = subst (λ l. at_place t l ≡ None) same (subst (FindsPart s (at_place t steps)) is finds)

module _ (prods : List Production) (whole : Tree) (from to : List ℕ) where
  module _ (new : Tree) (kind : Kind) (there : at_place whole from ≡ Some new) (of_kind : kind_of prods new ≡ Some kind) where
    -- the second place is none
    pub copied-to-nowhere : (s t : Standing) (answer : Result Handle CopyFault) → IsErrAnd answer (λ f. f ≡ fault.BadPath) → at_place whole to ≡ None → Reads s t → Copies prods s t whole from to answer
    copied-to-nowhere s t answer is none reads = of_part new kind there of_kind
        (subst (CopiesPart prods s t whole to new kind) (sym (is-fault answer fault.BadPath is))
        (record { adds = reads-adds s t (parts (tree_cell (replaced whole to new))) reads; answers = (none, reads) }))

    -- what stands at the second place is of another kind
    pub copied-other-kind : (s t : Standing) (old : Tree) → Reads s t → at_place whole to ≡ Some old → kind_of prods new ≢ kind_of prods old → Copies prods s t whole from to (Err fault.WrongSort)
    copied-other-kind s t old reads at differs = of_part new kind there of_kind (record {
      adds = reads-adds s t (parts (tree_cell (replaced whole to new))) reads;
      answers = (record { old = old; there = at; other = λ e. differs (of_kind ∙ sym e) }, reads);
    })

    -- what stands there is of the kind
    module _ (s t u : Standing) (place : IsPlace prods whole to kind) (reads : Reads s t) where
      -- the one fault that want of a row turns into
      pub copied-full : (e : Full) (answer : Result Handle CopyFault) → IsErrAnd answer (λ f. f ≡ fault.Full) → Builds t u (tree_cell (replaced whole to new)) (Err e) → Copies prods s u whole from to answer
      copied-full e answer is b = of_part new kind there of_kind
          (subst (CopiesPart prods s u whole to new kind) (sym (is-fault answer fault.Full is))
          (record { adds = (read-builds s t u (tree_cell (replaced whole to new)) (Err e) reads b).adds; answers = (place, b.full) }))

      pub copied-built : (handle : Handle) → Builds t u (tree_cell (replaced whole to new)) (Ok handle) → Copies prods s u whole from to (Ok handle)
      copied-built handle b = of_part new kind there of_kind
          (record { adds = (read-builds s t u (tree_cell (replaced whole to new)) (Ok handle) reads b).adds; answers = (place, b.ok) })
