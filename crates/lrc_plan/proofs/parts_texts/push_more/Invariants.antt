use Rattle.std.proofs.Common.{◌≡◌, ◌++◌, codes, take}
use Rattle.std.specs.Prelude.{flat_map}
use Rattle.lrc_plan.specs.Text.{attr_name}
use Rattle.lrc_plan.proofs.parts_texts.push_more.Given as goal

abbrev pub invariant-attributes : goal.invariant-attributes
invariant-attributes l = l.text.items ≡ l.initial.text.items ++ flat_map (λ y. codes "," ++ attr_name l.attrs y) (take l.number-index l.numbers)
