-- The greedy plan of an ordered grammar is sound.
use Rattle.std.proofs.lemmas.List.Elements.{Contains-get_or}
use Rattle.std.specs.Prelude.{slice_index_or}
use Rattle.lrc_meaning.specs.Grammar.{Grammar}
use Rattle.lrc_order_meaning.specs.Ordered.{Partitions, HasOrder}
use Rattle.lrc_plan.proofs.SoundLemmas.{ordered_is_sound}
use Rattle.lrc_laws.proofs.RootLemmas.{HasSoundPlan}

pub sound_plan : (g : Grammar) (found : Partitions) → HasOrder g found → HasSoundPlan g found
sound_plan g found order = record {
  formed = order.formed;
  given = order.given;
  partitions = order.partitions;
  sound = λ i d less. ordered_is_sound g found order (slice_index_or g.prods i d) (Contains-get_or g.prods i d less);
}
