-- The root's call: what its visit meets has the call's cell and the tree's, and the visit gives the tree's attributes, where it
-- has a result, and where it has none there are none.
use Rattle.std.proofs.Common.{◌≡◌, ℕ, ◌+◌, ◌≤◌, IsTrue, List, length, None, Some, refl, sym, ◌∙◌, arith}
use Rattle.std.proofs.Math.Logic.{∥∥₁_elim}
use Rattle.std.proofs.lemmas.Option.{none-some}
use Rattle.lrc_base.specs.declared.grammar.Kind.TheVariants as k
use Rattle.lrc_meaning.specs.Tree.{Tree, fits}
use Rattle.lrc_meaning.specs.Grammar.{Grammar}
use Rattle.lrc_meaning.specs.Attribution.{Attributes}
use Rattle.lrc_meaning.specs.Limits.{IsWithinLimits}
use Rattle.lrc_order_meaning.specs.declared.Partition.{Partition}
use Rattle.lrc_order_meaning.specs.Ordered.{Partitions, HasOrder}
use Rattle.lrc_visit_meaning.specs.Values.{Result, root_call}
use Rattle.lrc_visit_meaning.specs.Visits.{plain_visit}
use Rattle.lrc_visit_meaning.specs.Demand.{reach}
use Rattle.lrc_store.specs.Cells.{nil, pair, parts as parts_of, IsWithin}
use Rattle.lrc_code.specs.Forms.{tree_cell}
use Rattle.lrc_code.proofs.Growing.{left-within}
use Rattle.lrc_call_meaning.specs.Forms.{call_form}
use Rattle.lrc_call_meaning.specs.Reached.{cells_of}
use Rattle.lrc_call_meaning.specs.Spelled.{IsSpelled, IsSpelledCall}
use Rattle.lrc_laws.proofs.RootLemmas.{given_attributes, attributes_given}
use Rattle.lrc_laws.proofs.SoundLemmas.{sound_plan}
use Rattle.lrc_bodies.proofs.MetCellLemmas.{called_cells, call_reached}

-- its names are those of the tree
pub root_spelled : (t : Tree) → IsSpelled t → IsSpelledCall (root_call t)
root_spelled t h = record { tree = h; inherited = tt; bindings = tt }

-- a grammar within the limits has few enough productions for their tags
pub few_productions : (g : Grammar) → IsWithinLimits g → length g.prods ≤ 65280
few_productions g small = let few = small.prods in omega (arith, few)

tree_in_call : (t : Tree) → IsWithin (parts_of (tree_cell t)) (parts_of (call_form (root_call t)))
unfolding call_form
tree_in_call t = left-within (32 + 1) (tree_cell t) (pair 5 nil nil)

module _ (g : Grammar) (parts : List Partition) (limit : ℕ) (t : Tree) where
  pub call_demanded : IsWithin (parts_of (call_form (root_call t))) (cells_of (reach g parts limit (root_call t)))
  call_demanded = called_cells (reach g parts limit (root_call t)) (root_call t) (call_reached g parts limit (root_call t))

  pub tree_demanded : IsWithin (parts_of (tree_cell t)) (cells_of (reach g parts limit (root_call t)))
  tree_demanded x h = call_demanded x (tree_in_call t x h)

module _ (g : Grammar) (found : Partitions) (limit : ℕ) (t : Tree) where
  pub root_gives : (r : Result) → IsTrue (fits g.prods t (k.Sort g.start)) → plain_visit g found.sorts limit (root_call t) ≡ Some r → HasOrder g found → Attributes g limit t r.synthesised
  root_gives r fitting is order = given_attributes g found (sound_plan g found order) limit t r.synthesised fitting (record { result = r; is_result = is; values = refl })

  pub root_lacks : ∥ HasOrder g found ∥₁ → plain_visit g found.sorts limit (root_call t) ≡ None → (vs : List Tree) → ¬ Attributes g limit t vs
  root_lacks some none vs has =
      let no_two : IsProp ⊥ = hlevel in
      ∥∥₁_elim some no_two (λ order. let gives = attributes_given g found (sound_plan g found order) limit t vs has in none-some gives.result (sym none ∙ gives.is_result))
