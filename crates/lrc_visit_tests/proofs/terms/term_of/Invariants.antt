use Rattle.std.proofs.Common.{◌≡◌, take}
use Rattle.lrc_base.specs.Terms.{forest}
use Rattle.lrc_visit_tests.proofs.terms.term_of.Given as goal

-- the items so far are in the builder
abbrev pub invariant-items : goal.invariant-items
invariant-items l = l.build ≡ forest (take l.item-index l.items)
