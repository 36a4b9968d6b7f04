-- The greedy plan of an ordered grammar is sound.
use Rattle.std.proofs.Common.{Contains}
use Rattle.lrc_base.specs.declared.grammar.Production.{Production}
use Rattle.lrc_meaning.specs.Grammar.{Grammar}
use Rattle.lrc_order_meaning.specs.Ordered.{Partitions, HasOrder}
use Rattle.lrc_plan_meaning.specs.Sound.{IsSound}
use Rattle.lrc_plan.proofs.ListedLemmas.{all_ready}
use Rattle.lrc_plan.proofs.GivesLemmas.{ordered_gives}
use Rattle.lrc_plan.proofs.CompleteLemmas.{ordered_complete}
use Rattle.lrc_plan.proofs.OnceLemmas.{plan_once}
use Rattle.lrc_plan.proofs.ApartLemmas.{plan_fresh}

pub ordered_is_sound : (g : Grammar) (found : Partitions) → HasOrder g found → (p : Production) → Contains g.prods p → IsSound g.sorts found.sorts p
ordered_is_sound g found order p c = record {
  runs = all_ready g order.formed found.sorts p c;
  gives = ordered_gives g order.formed found order.partitions order.given order.ordered p c;
  complete = ordered_complete g order.formed found order.partitions order.given order.ordered p c;
  once = plan_once g.sorts found.sorts p;
  fresh = plan_fresh g found.sorts p;
}
