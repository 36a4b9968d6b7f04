use Rattle.std.proofs.Common.{◌≤◌, length, All, subst, sym, arith}
use Rattle.lrc_base.specs.declared.limits.TheConstants.{ATTRIBUTE_LIMIT}
use Rattle.lrc_base.specs.declared.raw.RawSort.{RawSort}
use Rattle.lrc_meaning.specs.Naming.{named_production}
use Rattle.lrc_naming.specs.Counted.{HasFewAttrs}
use Rattle.lrc_naming.proofs.CountLemmas.{named_sorts-few, length-named}
use Rattle.lrc_naming.proofs.grammar.named_grammar.Goals as goal

pub named_productions-requires-clause-attrs : goal.named_productions-requires-clause-attrs
named_productions-requires-clause-attrs c =
    let raw = c.as_slice-raw_sorts.result.now in
    let few = subst (All (λ (s : RawSort). length s.attrs ≤ ATTRIBUTE_LIMIT)) (sym c.as_slice-raw_sorts.ensures) c.requires.attrs in
    subst (All HasFewAttrs) (sym c.as_slice.ensures) (named_sorts-few raw raw c.in_ok-sorts.sorts few c.in_ok-sorts.ensures)

pub returns-clause-within : goal.returns-clause-within
returns-clause-within c =
    omega (arith, c.requires.prods, length-named (named_production c.args.raw.now c.as_slice.result.now) c.args.raw.now.prods c.in_ok-prods.prods c.in_ok-prods.ensures)
