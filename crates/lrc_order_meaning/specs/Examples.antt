-- Worked examples: a grammar that is not circular and not ordered.
use Rattle.std.specs.Prelude.{true, false, pos, [], ◌∷◌, codes}
use Rattle.lrc_base.specs.declared.grammar.Kind.TheVariants as k
use Rattle.lrc_base.specs.declared.expr.Expr.TheVariants as e
use Rattle.lrc_meaning.specs.Grammar.{Grammar}
use Rattle.lrc_meaning.specs.Examples.{attr, kid, equals, production}

-- sort R { syn r: Int; }
-- sort X { inh i1: Int; inh i2: Int; syn s1: Int; syn s2: Int; }
-- prod A: R (x: X) { x.i1 = x.s2; x.i2 = 0; r = x.s1; }
-- prod B: R (x: X) { x.i2 = x.s1; x.i1 = 0; r = x.s2; }
-- prod L: X () { s1 = i1; s2 = i2; }
abbrev pub crossing : Grammar
crossing = record {
  sorts = record { name = codes "R"; attrs = attr (codes "r") false ∷ [] }
      ∷ record { name = codes "X"; attrs = attr (codes "i1") true ∷ attr (codes "i2") true ∷ attr (codes "s1") false ∷ attr (codes "s2") false ∷ [] }
      ∷ [];
  prods = production (codes "A") 0 (kid (codes "x") (k.Sort 1) ∷ []) [] (equals 1 (e.Occ 4) ∷ equals 2 (e.Int (pos 0)) ∷ equals 0 (e.Occ 3) ∷ [])
      ∷ production (codes "B") 0 (kid (codes "x") (k.Sort 1) ∷ []) [] (equals 2 (e.Occ 3) ∷ equals 1 (e.Int (pos 0)) ∷ equals 0 (e.Occ 4) ∷ [])
      ∷ production (codes "L") 1 [] [] (equals 2 (e.Occ 0) ∷ equals 3 (e.Occ 1) ∷ [])
      ∷ [];
  start = 0;
}
