use Rattle.std.proofs.Common.{◌∷◌, List, map, subst}
use Rattle.std.proofs.lemmas.List.{take_all}
use Rattle.lrc_base.specs.declared.job.Edit.{Edit}
use Rattle.lrc_meaning.specs.Editing.{change, all_unopened}
use Rattle.lrc_run.specs.Lines.{reply_of, AreLines}
use Rattle.lrc_run.proofs.LineLemmas.{one_line, one_unopened_more}
use Rattle.lrc_run.proofs.playing.unopened.Goals as goal

pub edits-init : goal.edits-init
edits-init o c g = one_line g (reply_of c.args.outcome) c.new-lines.result c.push_fixed.new.lines c.new-lines.ensures (c.in_ok-push_fixed.ensures g)

pub edits-preserved : goal.edits-preserved
edits-preserved o c g =
    one_unopened_more g (reply_of c.args.outcome) c.args.edits.now c.edits.before c.edits.lines c.push_fixed-in-edits.new.lines c.index-edits-before.result c.edits-test.true c.index-edits-before.is (c.edits.invariant g)
    (c.in_ok-push_fixed-2.ensures g)

pub returns-clause-lines : goal.returns-clause-lines
returns-clause-lines o c g =
    subst (λ (edits : List Edit). AreLines g (reply_of c.args.outcome ∷ all_unopened (map change edits)) c.edits.lines) (take_all c.edits.before c.args.edits.now c.edits-test.false) (c.edits.invariant g)
