-- What a put answers, from what its calls do: those that read, the one that puts the term, and the one that builds the whole.
use Rattle.std.proofs.Common.{◌≡◌, ◌≢◌, ◌<◌, ◌≤◌, ℕ, List, Option, Some, sym, ap, ◌∙◌, subst}
use Rattle.std.proofs.lemmas.Option.{same_Some}
use Rattle.std.specs.Prelude.{Result, Ok, Err, IsErr, IsErrAnd}
use Rattle.lrc_base.specs.declared.grammar.Kind.{Kind}
use Rattle.lrc_base.specs.declared.grammar.Production.{Production}
use Rattle.lrc_meaning.specs.Tree.{Tree, kind_of, tree_height, at_place, replaced}
use Rattle.lrc_store.specs.Cells.{parts, IsWithin}
use Rattle.lrc_store.specs.Standing.{Standing}
use Rattle.lrc_store.specs.Words.{Reads}
use Rattle.lrc_store.specs.declared.cells.Handle.{Handle}
use Rattle.lrc_store.specs.declared.stores.Full.{Full}
use Rattle.lrc_code.specs.Forms.{tree_cell}
use Rattle.lrc_code.specs.Building.{Builds}
use Rattle.lrc_code.proofs.Growing.{builds-then, builds-stopped, builds-as}
use Rattle.lrc_places.specs.declared.putting.ReplaceFault.{ReplaceFault}
use Rattle.lrc_places.specs.declared.putting.ReplaceFault.TheVariants as fault
use Rattle.lrc_places.specs.Places.{FindsPart}
use Rattle.lrc_places.specs.Replacing.{IsPlace, Replaces}
use Rattle.lrc_places.proofs.BuildLemmas.{reads-adds, read-builds}
use Rattle.lrc_places.proofs.PlaceLemmas.{placed, within-place}

-- what was found, along the steps as the path has them
pub found : (s : Standing) (t : Tree) (steps own : List ℕ) (answer : Option Handle) (handle : Handle) → FindsPart s (at_place t steps) answer → answer ≡ Some handle → steps ≡ own → FindsPart s (at_place t own) (Some handle)
found s t steps own answer handle finds is same = subst (λ l. FindsPart s (at_place t l) (Some handle)) same (subst (FindsPart s (at_place t steps)) is finds)

-- what was built, along the steps as the path has them
pub along : (s t : Standing) (whole new : Tree) (steps own : List ℕ) (answer : Result Handle Full) → steps ≡ own → Builds s t (tree_cell (replaced whole steps new)) answer → Builds s t (tree_cell (replaced whole own new)) answer
along s t whole new steps own answer same b = builds-as s t (tree_cell (replaced whole steps new)) (tree_cell (replaced whole own new)) answer (ap (λ l. tree_cell (replaced whole l new)) same) b

-- a whole over the term that was built before, where the place is there
module _ (s t u : Standing) (whole new old : Tree) (steps : List ℕ) (there : at_place whole steps ≡ Some old) where
  -- the parts of what is put are parts of the new whole
  new-within : IsWithin (parts (tree_cell new)) (parts (tree_cell (replaced whole steps new)))
  new-within = within-place (replaced whole steps new) new steps (placed whole new old steps there)

  pub term-full : (e : Full) (answer : Result Handle Full) → IsErr answer → Builds s t (tree_cell new) (Err e) → Builds s t (tree_cell (replaced whole steps new)) answer
  term-full e answer is b = builds-stopped s t (tree_cell new) (tree_cell (replaced whole steps new)) e answer new-within is b

  pub whole-over : (term : Handle) (answer : Result Handle Full) → Builds s t (tree_cell new) (Ok term) → Builds t u (tree_cell (replaced whole steps new)) answer → Builds s u (tree_cell (replaced whole steps new)) answer
  whole-over term answer b d = builds-then s t u (tree_cell new) (tree_cell (replaced whole steps new)) answer new-within b.adds d

module _ (prods : List Production) (whole : Tree) (steps : List ℕ) (new : Tree) (kind : Kind) (limit : ℕ) where
  -- what stands at the place is of another kind
  pub wrong-sort : (s t : Standing) (old : Tree) (found : Kind) → Reads s t → at_place whole steps ≡ Some old → kind_of prods old ≡ Some found → found ≢ kind →
      Replaces prods s t whole steps new kind limit (Err fault.WrongSort)
  wrong-sort s t old found reads there is differs = record {
    adds = reads-adds s t (parts (tree_cell (replaced whole steps new))) reads;
    answers = (record { old = old; there = there; other = λ e. differs (same_Some found kind (sym is ∙ e)) }, reads);
  }

  -- the place is there, and of the kind

  -- what is put is higher than the limit
  pub too-high : (s t : Standing) → IsPlace prods whole steps kind → Reads s t → limit < tree_height new → Replaces prods s t whole steps new kind limit (Err fault.TooHigh)
  too-high s t place reads high = record {
    adds = reads-adds s t (parts (tree_cell (replaced whole steps new))) reads;
    answers = (place, high, reads);
  }

  module _ (s t u : Standing) (place : IsPlace prods whole steps kind) (low : tree_height new ≤ limit) (reads : Reads s t) where
    -- the one fault that want of a row turns into
    pub put-full : (e : Full) (answer : Result Handle ReplaceFault) → IsErrAnd answer (λ f. f ≡ fault.Full) → Builds t u (tree_cell (replaced whole steps new)) (Err e) → Replaces prods s u whole steps new kind limit answer
    put-full e (Ok handle) is b = absurd is
    put-full e (Err f) is b = subst (λ w. Replaces prods s u whole steps new kind limit (Err w)) (sym is)
        (record { adds = (read-builds s t u (tree_cell (replaced whole steps new)) (Err e) reads b).adds; answers = (place, low, b.full) })

    pub put-built : (handle : Handle) → Builds t u (tree_cell (replaced whole steps new)) (Ok handle) → Replaces prods s u whole steps new kind limit (Ok handle)
    put-built handle b = record { adds = (read-builds s t u (tree_cell (replaced whole steps new)) (Ok handle) reads b).adds; answers = (place, low, b.ok) }
