-- The segments of the declarations grammar, and what a declaration hands on.
use Rattle.std.proofs.Common.{◌≡◌, refl}
use Rattle.lrc_meaning.specs.Examples.{declarations}
use Rattle.lrc_meaning.proofs.ExpressionLemmas.{expression_equations}
use Rattle.lrc_graph.specs.Pairs.{paired}
use Rattle.lrc_plan_meaning.specs.Sequences.{segments_of}
use Rattle.lrc_plan_meaning.specs.Bindings.{binding}
use Rattle.lrc_plan_meaning.specs.Examples.{partitions, top, declaration, top_segments, declaration_segments, handed}

pub top_is : segments_of declarations.sorts partitions top ≡ top_segments
unfolding paired
top_is = simp expression_equations refl

pub declaration_is : segments_of declarations.sorts partitions declaration ≡ declaration_segments
unfolding paired
declaration_is = simp expression_equations refl

pub declaration_hands : binding declarations.sorts partitions declaration 1 2 ≡ handed
unfolding paired
declaration_hands = rw declaration_is (simp expression_equations refl)
