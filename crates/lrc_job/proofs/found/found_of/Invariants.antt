use Rattle.std.proofs.Common.{◌≡◌, Ok, map, take}
use Rattle.lrc_base.specs.RawTerms.{raw_forest}
use Rattle.lrc_meaning.specs.Tree.{tree}
use Rattle.lrc_job.specs.Resolved.{each_ok, resolved}
use Rattle.lrc_job.specs.Found.{AreKinds}
use Rattle.lrc_job.proofs.found.found_of.Given as goal

-- the terms so far are those of the items so far
abbrev pub invariant-loop-item : goal.invariant-loop-item
invariant-loop-item l = record {
  found : each_ok (map (resolved l.prods) (raw_forest (take l.item-index l.items))) ≡ Ok (map tree l.found.build);
  kinds : AreKinds l.prods (map tree l.found.build) l.found.kinds.items;
}
