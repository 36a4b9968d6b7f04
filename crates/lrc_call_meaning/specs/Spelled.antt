-- Values, expressions, calls and results whose names are spelled: not empty, and each byte from 1 to 255. So an empty name
-- does not share its cell with an empty list.
use Rattle.std.specs.Prelude.{ℕ, ◌≤◌, List, length, All}
use Rattle.std.specs.List.{AllByRecursion}
use Rattle.lrc_base.specs.declared.grammar.Equation.{Equation}
use Rattle.lrc_base.specs.declared.grammar.Production.{Production}
use Rattle.lrc_meaning.specs.Tree.{Tree}
use Rattle.lrc_meaning.specs.Expression.{Expression, literal, occurrence, leaf, binary, choice, make, Expressions, no_more, and_more, expression}
use Rattle.lrc_meaning.specs.Grammar.{Grammar}
use Rattle.lrc_visit_meaning.specs.Values.{Datum, value, binding, Data, no_data, data_then, Call, Result}
use Rattle.lrc_visit_meaning.specs.Demand.{Met, called, answered, built}
use Rattle.lrc_code.specs.Forms.{IsSpelling, EachName}

abbrev pub IsSpelledName : List ℕ → Type 0
IsSpelledName bytes = (1 ≤ length bytes) × IsSpelling bytes

abbrev pub IsSpelled : Tree → Type 0
IsSpelled t = EachName IsSpelledName t

-- each literal of an expression is spelled
abbrev mutual
  pub AreLiteralsSpelled : Expression → Type 0
  AreLiteralsSpelled (literal t) = IsSpelled t
  AreLiteralsSpelled (occurrence i) = Unit {0}
  AreLiteralsSpelled (leaf i) = Unit {0}
  AreLiteralsSpelled (binary op a b) = AreLiteralsSpelled a × AreLiteralsSpelled b
  AreLiteralsSpelled (choice c a b) = AreLiteralsSpelled c × AreLiteralsSpelled a × AreLiteralsSpelled b
  AreLiteralsSpelled (make p args) = AreAllLiteralsSpelled args

  pub AreAllLiteralsSpelled : Expressions → Type 0
  AreAllLiteralsSpelled no_more = Unit {0}
  AreAllLiteralsSpelled (and_more e es) = AreLiteralsSpelled e × AreAllLiteralsSpelled es

-- each literal of each equation of a grammar is spelled
abbrev pub HasSpelledLiterals : Grammar → Type 0
HasSpelledLiterals g = All (λ (p : Production). All (λ (e : Equation). AreLiteralsSpelled (expression e.expr)) p.equations) g.prods

-- each value in a datum is spelled
abbrev mutual
  pub IsSpelledDatum : Datum → Type 0
  IsSpelledDatum (value t) = IsSpelled t
  IsSpelledDatum (binding ds) = AreSpelledData ds

  pub AreSpelledData : Data → Type 0
  AreSpelledData no_data = Unit {0}
  AreSpelledData (data_then d ds) = IsSpelledDatum d × AreSpelledData ds

pub record IsSpelledCall (c : Call) : Type 0 where
  pub tree : IsSpelled c.tree
  pub inherited : AllByRecursion IsSpelled c.inherited
  pub bindings : AllByRecursion AreSpelledData c.bindings

pub record IsSpelledResult (r : Result) : Type 0 where
  pub synthesised : AllByRecursion IsSpelled r.synthesised
  pub bindings : AllByRecursion AreSpelledData r.bindings

-- what was met is spelled
abbrev pub IsSpelledMet : Met → Type 0
IsSpelledMet (called c) = IsSpelledCall c
IsSpelledMet (answered r) = IsSpelledResult r
IsSpelledMet (built t) = IsSpelled t
