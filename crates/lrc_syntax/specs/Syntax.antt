-- The syntax of a grammar, or its first fault.
use Rattle.std.specs.Prelude.{◌≡◌, ℕ, ◌<◌, List, length, take, All, Some, slice_get}
use Rattle.lrc_base.specs.declared.grammar.Production.{Production}
use Rattle.lrc_meaning.specs.Grammar.{Grammar}
use Rattle.lrc_syntax.specs.declared.fault.ProductionFault.{ProductionFault}
use Rattle.lrc_syntax.specs.declared.fault.ProductionFault.TheVariants as one
use Rattle.lrc_syntax.specs.declared.fault.SyntaxFault.{SyntaxFault}
use Rattle.lrc_syntax.specs.declared.fault.SyntaxFault.TheVariants as fault
use Rattle.lrc_syntax.specs.declared.part.Syntax.{Syntax}
use Rattle.lrc_syntax.specs.Spelling.{AreSpelled}
use Rattle.lrc_syntax.specs.Faults.{AreTerminals, IsRight, IsFaultOf}
use Rattle.lrc_syntax.specs.Trees.{HasTree, IsFirstWithout}

-- the fault of the production of this number
abbrev pub numbered : ProductionFault → ℕ → SyntaxFault
numbered one.BadPattern n = fault.BadPattern n
numbered one.Kids n = fault.Kids n
numbered one.Bare n = fault.Bare n
numbered one.Memory n = fault.Memory

-- the production of this number has this fault, and those before it have none
pub record IsFirstAt (prods : List Production) (n : ℕ) (f : ProductionFault) : Type 0 where
  pub here : (q : Production) × (slice_get prods n ≡ Some q) × IsFaultOf q f
  pub before : All IsRight (take n prods)

-- The first fault: that of the first production that has one, and else the first sort of which there is no tree. Want of memory is free.
abbrev pub IsFirst : Grammar → SyntaxFault → Type 0
IsFirst g (fault.BadPattern n) = IsFirstAt g.prods n one.BadPattern
IsFirst g (fault.Kids n) = IsFirstAt g.prods n one.Kids
IsFirst g (fault.Bare n) = IsFirstAt g.prods n one.Bare
IsFirst g (fault.NoTree s) = All IsRight g.prods × IsFirstWithout g.prods (length g.sorts) s
IsFirst g fault.Memory = Unit {0}

-- the first fault of productions
abbrev pub IsFirstAmong : List Production → SyntaxFault → Type 0
IsFirstAmong prods (fault.BadPattern n) = IsFirstAt prods n one.BadPattern
IsFirstAmong prods (fault.Kids n) = IsFirstAt prods n one.Kids
IsFirstAmong prods (fault.Bare n) = IsFirstAt prods n one.Bare
IsFirstAmong prods (fault.NoTree s) = ⊥
IsFirstAmong prods fault.Memory = Unit {0}

-- The parts of each production's spelling, of a grammar without a fault.
pub record IsSyntaxOf (g : Grammar) (s : Syntax) : Type 0 where
  pub parts : AreSpelled g.prods s.productions
  pub terminals : All AreTerminals s.productions
  pub right : All IsRight g.prods
  pub trees : (sort : ℕ) → sort < length g.sorts → HasTree g.prods sort
