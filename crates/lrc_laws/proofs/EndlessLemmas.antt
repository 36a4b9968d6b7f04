-- Attributions in the endless grammar.
use Rattle.std.proofs.Common.{◌≡◌, ℕ, ◌+◌, IsTrue, List, [], ◌∷◌, ◌++◌, length, pos, Some, slice_get, codes, lit≤, true, refl, sym, ap, ◌∙◌, subst, arith}
use Rattle.std.proofs.lemmas.Bool.{false≢true}
use Rattle.std.proofs.lemmas.Option.{same_Some}
use Rattle.lrc_base.specs.declared.grammar.Kind.TheVariants as k
use Rattle.lrc_base.specs.declared.grammar.Extra.{Extra}
use Rattle.lrc_base.specs.declared.grammar.Production.{Production}
use Rattle.lrc_base.specs.declared.expr.Expr.TheVariants as e
use Rattle.lrc_meaning.specs.Tree.{Tree, int}
use Rattle.lrc_meaning.specs.Attribution.{Decorated, at_node, Parts, end, value, symbol, bare, kid_values, extra_values, kids_agree, extras_agree, IsNodeRight, IsRight, AreRight, Attributes}
use Rattle.lrc_meaning.specs.Examples.{production, equals}
use Rattle.lrc_meaning.proofs.ExpressionLemmas.{expression_equations}
use Rattle.lrc_meaning.proofs.ListLemmas.{slice_right}
use Rattle.lrc_visit_meaning.specs.Examples.{endless, loop, one}

abbrev attached : Extra
attached = record { name = codes "a"; attached = true; kind = k.Sort 0 }

abbrev looping : Production
looping = production (codes "Loop") 0 [] (attached ∷ []) (equals 1 (e.Make 0 []) ∷ equals 0 (e.Occ 2) ∷ [])

no_kids : (ps : Parts) → IsTrue (kids_agree endless.prods [] ps) → kid_values ps ≡ []
no_kids end h = refl
no_kids (value v rest) h = absurd (false≢true h)
no_kids (symbol d rest) h = absurd (false≢true h)

-- the attached tree is the loop again
attaches : (own : List Tree) (kids extras : Parts) → IsNodeRight endless looping own kids extras → slice_get (extra_values extras) 0 ≡ Some loop
attaches own kids extras right =
    let first = right.equations.0 in
    let made = simp expression_equations at first.of_expression in
    let count : ◌≡◌ {A = ℕ} 1 (length own + 0) = let owns = right.owns in omega (arith, owns) in
    ap (λ vs. slice_get (vs ++ extra_values extras) 0) (sym (no_kids kids right.has_kids))
    ∙ sym (slice_right own (kid_values kids ++ extra_values extras) 1 0 count)
    ∙ first.of_target ∙ sym made

mutual
  pub no_loop : (d : Decorated) → IsRight endless d → bare d ≡ loop → ⊥
  no_loop (at_node n own kids extras) r is =
      let number : n ≡ 0 = cc in
      let same : looping ≡ r.0.production = same_Some looping r.0.production (ap (slice_get endless.prods) (sym number) ∙ r.0.is_there) in
      let right = subst (λ (p : Production). IsNodeRight endless p own kids extras) (sym same) r.0.is_right in
      no_loop_in extras r.2 right.has_extras (attaches own kids extras right)

  no_loop_in : (ps : Parts) → AreRight endless ps → IsTrue (extras_agree endless.prods (attached ∷ []) ps) → slice_get (extra_values ps) 0 ≡ Some loop → ⊥
  no_loop_in end r h e = false≢true h
  no_loop_in (value v rest) r h e = false≢true h
  no_loop_in (symbol d rest) r h e = no_loop d r.0 (same_Some (bare d) loop e)

pub one_attribution : Attributes endless 1 one (int (pos 1) ∷ [])
one_attribution = record {
  fitting = refl;
  attribution = at_node 1 (int (pos 1) ∷ []) end end;
  is_attribution = record {
    is_bare = refl;
    is_right = (
      record {
        production = _;
        is_there = refl;
        is_right = record { owns = refl; has_kids = refl; has_extras = refl; equations = (record { given = int (pos 1); of_target = refl; of_expression = simp expression_equations refl }, tt) };
      },
      tt,
      tt,
    );
  };
  within = lit≤ tt;
  values = refl;
}
