-- The parts that a production is named of.
use Rattle.std.proofs.Common.{◌≡◌, ℕ, List, map, Option, Some, None, refl, sym, ap, subst}
use Rattle.std.specs.Prelude.{option_map, option_and_then}
use Rattle.std.proofs.lemmas.Option.{option_and_then_some}
use Rattle.lrc_base.specs.declared.grammar.Sort.{Sort}
use Rattle.lrc_base.specs.declared.grammar.Kid.{Kid}
use Rattle.lrc_base.specs.declared.grammar.Extra.{Extra}
use Rattle.lrc_base.specs.declared.grammar.Equation.{Equation}
use Rattle.lrc_base.specs.declared.grammar.Piece.{Piece}
use Rattle.lrc_base.specs.declared.grammar.Production.{Production}
use Rattle.lrc_base.specs.declared.raw.RawProd.{RawProd}
use Rattle.lrc_base.specs.declared.raw.RawGrammar.{RawGrammar}
use Rattle.lrc_meaning.specs.Naming.{Known, each_some, sort_number, named_kid, named_extras, named_equations, named_pattern, named_with, named_production}
use Rattle.lrc_meaning.specs.Signature.{signed_occurrences}

module _ (g : RawGrammar) (sorts : List Sort) where
  -- the names that the equations of a production may use
  abbrev pub known_to : Production → Known
  known_to P = record { prods = g.prods; occurrences = signed_occurrences sorts P.left P.kids P.extras; kids = P.kids }

  pub record IsNamed (p : RawProd) (P : Production) : Type 0 where
    pub of_name : P.name ≡ p.name
    pub of_left : sort_number g.sorts p.left ≡ Some P.left
    pub of_kids : each_some (map (named_kid g.sorts) p.kids) ≡ Some P.kids
    pub of_extras : named_extras g.sorts p.items ≡ Some P.extras
    pub of_equations : named_equations (known_to P) p.items ≡ Some P.equations
    pub of_pattern : named_pattern P.kids p.items ≡ Some P.pattern

  abbrev finished : RawProd → ℕ → List Kid → List Extra → List Equation → Option (List Piece) → Production
  finished p left kids extras equations pattern =
      record { name = p.name; left = left; kids = kids; extras = extras; equations = equations; pattern = pattern }

  named_last : (p : RawProd) (P : Production) (left : ℕ) (kids : List Kid) (extras : List Extra) (equations : List Equation) (o : Option (Option (List Piece))) → sort_number g.sorts p.left ≡ Some left → each_some (map (named_kid g.sorts) p.kids) ≡ Some kids → named_extras g.sorts p.items ≡ Some extras → named_equations (record { prods = g.prods; occurrences = signed_occurrences sorts left kids extras; kids = kids }) p.items ≡ Some equations → named_pattern kids p.items ≡ o → option_map (finished p left kids extras equations) o ≡ Some P →
      IsNamed p P
  named_last p P left kids extras equations None el ek ex eq ep e = absurd (cc)
  named_last p P left kids extras equations (Some pattern) el ek ex eq ep e =
      let same : finished p left kids extras equations pattern ≡ P = cc in
      subst (IsNamed p) same (record { of_name = refl; of_left = el; of_kids = ek; of_extras = ex; of_equations = eq; of_pattern = ep })

  pub named_parts : (p : RawProd) (P : Production) → named_production g sorts p ≡ Some P → IsNamed p P
  named_parts p P e =
      option_and_then_some (λ left. option_and_then (λ kids. option_and_then (named_with g.prods sorts p left kids) (named_extras g.sorts p.items)) (each_some (map (named_kid g.sorts) p.kids))) (sort_number g.sorts p.left) P e (λ left el h. option_and_then_some (λ kids. option_and_then (named_with g.prods sorts p left kids) (named_extras g.sorts p.items)) (each_some (map (named_kid g.sorts) p.kids)) P h (λ kids ek i. option_and_then_some (named_with g.prods sorts p left kids) (named_extras g.sorts p.items) P i (λ extras ex j. option_and_then_some (λ equations. option_map (finished p left kids extras equations) (named_pattern kids p.items)) (named_equations (record { prods = g.prods; occurrences = signed_occurrences sorts left kids extras; kids = kids }) p.items) P j (λ equations eq l. named_last p P left kids extras equations (named_pattern kids p.items) el ek ex eq refl l))))

  pub named_whole : (p : RawProd) (P : Production) → IsNamed p P → named_production g sorts p ≡ Some P
  named_whole p P h =
      rw (h.of_left, h.of_kids, h.of_extras, h.of_equations, h.of_pattern) (ap (λ n. Some (record P { name = n })) (sym h.of_name))
