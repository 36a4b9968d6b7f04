use Rattle.std.proofs.Common.{◌≡◌, take}
use Rattle.std.specs.Prelude.{flat_map}
use Rattle.lrc_meaning.specs.Signature.{signature_of}
use Rattle.lrc_plan_meaning.specs.Plans.{sequences_of}
use Rattle.lrc_plan.specs.Text.{production_lines}
use Rattle.lrc_plan.proofs.plan_texts.plan_text.Given as goal

abbrev pub invariant-productions : goal.invariant-productions
invariant-productions l = l.text.items ≡ flat_map (λ p. production_lines (signature_of l.plan.grammar.sorts p) p (sequences_of l.plan.grammar.sorts l.plan.parts.sorts p)) (take l.number l.plan.grammar.prods)
