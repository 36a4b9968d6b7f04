use Rattle.std.proofs.Common.{◌≡◌, IsTrue, map, drop}
use Rattle.std.specs.List.{list_all}
use Rattle.lrc_meaning.specs.Editing.{change}
use Rattle.lrc_job.proofs.ResolvedLemmas.{then_rest}
use Rattle.lrc_job.specs.Fitting.{edit_fits}
use Rattle.lrc_job.specs.Job.{changes_of}
use Rattle.lrc_job.proofs.edits.edits_of.Given as goal

-- the edits so far are the changes that are written first, and fit
abbrev pub invariant-loop-edit : goal.invariant-loop-edit
invariant-loop-edit l = record {
  found : changes_of l.grammar.prods l.session 1 l.raw
      ≡ then_rest (map change l.edits) (changes_of l.grammar.prods l.session l.number (drop l.edit-index l.raw));
  fitting : IsTrue (list_all (edit_fits l.grammar.prods) l.edits);
}
