use Rattle.std.proofs.Common.{List, All, length, ◌≤◌, sym, subst}
use Rattle.lrc_base.specs.declared.limits.TheConstants.{ATTRIBUTE_LIMIT}
use Rattle.lrc_base.specs.declared.grammar.Sort.{Sort}
use Rattle.lrc_base.specs.declared.grammar.Production.{Production}
use Rattle.lrc_meaning.specs.Limits.{IsFew}
use Rattle.lrc_grammar.proofs.grammar.Grammar.of.Goals as goal

pub signatures_of-requires-clause-attributes : goal.signatures_of-requires-clause-attributes
signatures_of-requires-clause-attributes c =
    subst (λ (sorts : List Sort). All (λ (s : Sort). length s.attrs ≤ ATTRIBUTE_LIMIT) sorts) (sym c.as_slice.ensures) c.requires.few.attrs

pub signatures_of-requires-clause-parts : goal.signatures_of-requires-clause-parts
signatures_of-requires-clause-parts c = subst (λ (prods : List Production). All IsFew prods) (sym c.as_slice-2.ensures) c.requires.few.parts
