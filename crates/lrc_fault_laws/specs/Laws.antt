-- How the faults of a grammar as it is written, its naming and well-formed grammars agree.
use Rattle.std.specs.Prelude.{◌≡◌, IsTrue, Some, None}
use Rattle.lrc_base.specs.declared.raw.RawGrammar.{RawGrammar}
use Rattle.lrc_meaning.specs.Grammar.{Grammar, is_well_formed}
use Rattle.lrc_meaning.specs.Naming.{named_grammar}
use Rattle.lrc_fault_meaning.specs.Faults.{first_fault}

-- Without a fault each name has its number, and the grammar by numbers is well formed.
abbrev pub NoFaultIsNamed : RawGrammar → Type 0
NoFaultIsNamed raw = first_fault raw ≡ None → (g : Grammar) × (named_grammar raw ≡ Some g) × IsTrue (is_well_formed g)

-- Where each name has its number, and the grammar by numbers is well formed, there is no fault.
abbrev pub NamedHasNoFault : RawGrammar → Type 0
NamedHasNoFault raw = (g : Grammar) → named_grammar raw ≡ Some g → IsTrue (is_well_formed g) → first_fault raw ≡ None
