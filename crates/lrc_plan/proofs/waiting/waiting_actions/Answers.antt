use Rattle.lrc_plan.proofs.WaitingLemmas.{all_wait}
use Rattle.lrc_plan.proofs.waiting.waiting_actions.Goals as goal

pub returns : goal.returns
returns c =
    all_wait c.args.site.now.sorts.now c.args.site.now.parts.now c.args.site.now.production.now c.in_ok-waiting.waiting.items c.push_all_visits.new.waiting.items c.in_ok-waiting.ensures c.in_ok-push_all_visits.ensures
