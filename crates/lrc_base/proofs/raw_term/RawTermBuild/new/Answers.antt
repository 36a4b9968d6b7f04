use Rattle.std.proofs.Common.{◌≡◌, ap, ◌∙◌}
use Rattle.lrc_base.specs.RawTerms.{raw_forest}
use Rattle.lrc_base.proofs.RawItemLemmas.{raw_forest_none, no_waiting}
use Rattle.lrc_base.proofs.raw_term.RawTermBuild.new.Goals as goal

pub invariant_of-result : goal.invariant_of-result
invariant_of-result c = no_waiting c.new.result c.new.ensures

pub returns : goal.returns
returns c = ap raw_forest c.new.ensures ∙ raw_forest_none
