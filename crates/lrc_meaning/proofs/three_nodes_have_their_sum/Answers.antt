use Rattle.std.proofs.Common.{refl, lit≤}
use Rattle.lrc_meaning.proofs.ExampleLemmas.{sum_is_right}
use Rattle.lrc_meaning.specs.Examples.{decorated_sum}
use Rattle.lrc_meaning.proofs.three_nodes_have_their_sum.Goals as goal

pub returns : goal.returns
returns c = record {
  fitting = refl;
  attribution = decorated_sum 3;
  is_attribution = record { is_bare = refl; is_right = sum_is_right };
  within = lit≤ tt;
  values = refl;
}
