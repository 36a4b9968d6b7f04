use Rattle.std.proofs.Common.{◌≡◌, drop}
use Rattle.std.specs.List.{list_all}
use Rattle.lrc_syntax.specs.Faults.{is_child_part}
use Rattle.lrc_syntax.proofs.bare.are_children.Given as goal

abbrev pub invariant-loop-part : goal.invariant-loop-part
invariant-loop-part l = list_all is_child_part l.parts ≡ list_all is_child_part (drop l.part-index l.parts)
