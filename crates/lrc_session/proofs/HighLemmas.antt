-- What is higher than the depth is refused early: of a term that was found to be no higher there is nothing to show, and a
-- put of a higher part at a place of its kind comes to nothing, by the one fault that says so.
use Rattle.std.proofs.Common.{◌≡◌, ℕ, ◌<◌, ◌≤◌, List, Result, Ok, Err, IsErrAnd, refl, sym, ap, ◌∙◌, arith}
use Rattle.std.proofs.lemmas.Option.{none-some, same_Some}
use Rattle.lrc_base.specs.declared.grammar.Kind.{Kind}
use Rattle.lrc_base.specs.declared.grammar.Production.{Production}
use Rattle.lrc_base.specs.declared.term.TermTree.{TermTree}
use Rattle.lrc_base.specs.Terms.{height_of}
use Rattle.lrc_meaning.specs.Tree.{Tree, tree, kind_of, tree_height}
use Rattle.lrc_meaning.proofs.HeightLemmas.{height_agrees}
use Rattle.lrc_store.specs.Standing.{Standing}
use Rattle.lrc_store.specs.Words.{Reads}
use Rattle.lrc_store.specs.declared.cells.Handle.{Handle}
use Rattle.lrc_places.specs.Replacing.{IsPlace, Replaces, ReplaceAnswers}
use Rattle.lrc_places.specs.declared.putting.ReplaceFault.{ReplaceFault}
use Rattle.lrc_places.specs.declared.putting.ReplaceFault.TheVariants as place
use Rattle.lrc_session.specs.declared.fault.EditFault.{EditFault}
use Rattle.lrc_session.specs.declared.fault.EditFault.TheVariants as edit
use Rattle.lrc_session.specs.Faults.{place_fault}
use Rattle.lrc_session.proofs.FaultLemmas.{is_fault}

-- a term whose height was found to be within the depth is no higher
pub no_higher : (term : TermTree) (height depth : ℕ) → height ≡ height_of term → height ≤ depth → ¬ depth < tree_height (tree term)
no_higher term height depth is low high = let same = height_agrees term in omega (arith, same, is, low, high)

module _ (prods : List Production) (s t : Standing) (whole : Tree) (steps : List ℕ) (new : Tree) (kind : Kind) (limit : ℕ) where
  high_refused : (fault : ReplaceFault) → IsPlace prods whole steps kind → limit < tree_height new → ReplaceAnswers prods s t whole steps new kind limit (Err fault)
      → (place_fault fault ≡ edit.TooDeep) × Reads s t
  high_refused place.BadPath there high a = absurd (none-some there.old (sym a.0 ∙ there.there))
  high_refused place.WrongSort there high a =
      let same = same_Some a.0.old there.old (sym a.0.there ∙ there.there) in absurd (a.0.other (ap (kind_of prods) same ∙ there.of_kind))
  high_refused place.Full there high a = let low = a.1 in absurd (omega (arith, low, high))
  high_refused place.TooHigh there high a = (refl, a.2)

  -- nothing was replaced: the answer says that the part is too high
  pub too_high_there : (fault : ReplaceFault) (answer : Result Handle EditFault) → IsErrAnd answer (λ e. e ≡ place_fault fault) → Replaces prods s t whole steps new kind limit (Err fault)
      → IsPlace prods whole steps kind → limit < tree_height new → (answer ≡ Err edit.TooDeep) × Reads s t
  too_high_there fault answer is did there high =
      let refused = high_refused fault there high did.answers in (is_fault answer (place_fault fault) is ∙ ap Err refused.0, refused.1)

  -- what was put there is no higher
  pub put_is_low : (root : Handle) → Replaces prods s t whole steps new kind limit (Ok root) → ¬ limit < tree_height new
  put_is_low root did high = let low = did.answers.1 in omega (arith, low, high)
