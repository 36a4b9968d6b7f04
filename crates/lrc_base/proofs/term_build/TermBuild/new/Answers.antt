use Rattle.std.proofs.Common.{◌≡◌, ap, ◌∙◌}
use Rattle.lrc_base.specs.Terms.{forest}
use Rattle.lrc_base.proofs.ItemLemmas.{forest_none, no_heights}
use Rattle.lrc_base.proofs.term_build.TermBuild.new.Goals as goal

pub invariant_of-result : goal.invariant_of-result
invariant_of-result c = no_heights c.new.result c.new-2.result.items c.new.ensures c.new-2.ensures.items

pub returns : goal.returns
returns c = ap forest c.new.ensures ∙ forest_none
