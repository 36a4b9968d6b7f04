use Rattle.std.proofs.Common.{refl, lit≤}
use Rattle.lrc_meaning.proofs.ExampleLemmas.{declarations_are_right}
use Rattle.lrc_meaning.specs.Examples.{decorated_declarations}
use Rattle.lrc_meaning.proofs.two_declarations_are_bad.Goals as goal

pub returns : goal.returns
returns c = record {
  fitting = refl;
  attribution = decorated_declarations;
  is_attribution = record { is_bare = refl; is_right = declarations_are_right };
  within = lit≤ tt;
  values = refl;
}
