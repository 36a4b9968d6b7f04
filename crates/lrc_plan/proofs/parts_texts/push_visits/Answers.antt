use Rattle.std.proofs.Common.{◌+◌, arith}
use Rattle.lrc_plan.specs.Text.{visit_text}
use Rattle.lrc_plan.proofs.PairLemmas.{flat_row_more}
use Rattle.lrc_plan.proofs.parts_texts.push_visits.Goals as goal

pub visits-preserved : goal.visits-preserved
visits-preserved c =
    flat_row_more (visit_text c.args.plan.now.grammar.sorts c.args.plan.now.parts.sorts c.args.sort) c.args.text.now.items c.visits.text.items c.push_visit.new.text.items
    1 c.visits.earlier (c.visits.earlier + 1) c.visits.invariant c.in_ok-push_visit.ensures (omega arith)
