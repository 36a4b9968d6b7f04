-- The equations of `resolved`, one for each variant, and what is found of terms one by one.
use Rattle.std.proofs.Common.{◌≡◌, ℕ, ℤ, Bool, List, ◌++◌, map, Result, Ok, sym, ap, ◌∙◌}
use Rattle.lrc_base.specs.declared.grammar.Production.{Production}
use Rattle.lrc_base.specs.declared.raw_term.RawTermTree.{RawTermTree, RawTermTree-F, fold-roll-RawTermTree}
use Rattle.lrc_base.specs.declared.raw_term.RawTermTree.TheVariants as t
use Rattle.lrc_meaning.specs.Tree.{Tree, int, bool, name}
use Rattle.lrc_meaning.specs.Naming.{production_number}
use Rattle.lrc_job.specs.declared.term_fault.TermFault.{TermFault}
use Rattle.lrc_job.specs.Resolved.{and_then, map_ok, each_ok, node_of, resolved_step, resolved}

module _ (prods : List Production) where
  pub resolved_Int : (i : ℤ) → resolved prods (t.Int i) ≡ Ok (int i)
  unfolding resolved
  resolved_Int i = ap (resolved prods) (sym (t.rolls-Int i)) ∙ fold-roll-RawTermTree (Result Tree TermFault) (resolved_step prods) (RawTermTree-F.Int i)

  pub resolved_Bool : (b : Bool) → resolved prods (t.Bool b) ≡ Ok (bool b)
  unfolding resolved
  resolved_Bool b = ap (resolved prods) (sym (t.rolls-Bool b)) ∙ fold-roll-RawTermTree (Result Tree TermFault) (resolved_step prods) (RawTermTree-F.Bool b)

  pub resolved_Name : (n : List ℕ) → resolved prods (t.Name n) ≡ Ok (name n)
  unfolding resolved
  resolved_Name n = ap (resolved prods) (sym (t.rolls-Name n)) ∙ fold-roll-RawTermTree (Result Tree TermFault) (resolved_step prods) (RawTermTree-F.Name n)

  pub resolved_Node : (n : List ℕ) (kids : List RawTermTree) →
      resolved prods (t.Node n kids) ≡ and_then (node_of prods n (production_number prods n)) (each_ok (map (resolved prods) kids))
  unfolding resolved
  resolved_Node n kids = ap (resolved prods) (sym (t.rolls-Node n kids)) ∙ fold-roll-RawTermTree (Result Tree TermFault) (resolved_step prods) (RawTermTree-F.Node n kids)

-- what is found so far, and then the rest
abbrev pub then_rest : {A E : Type 0} → List A → Result (List A) E → Result (List A) E
then_rest done rest = map_ok (λ r. done ++ r) rest
