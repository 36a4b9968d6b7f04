use Rattle.std.proofs.Common.{◌≡◌, ◌≢◌, ◌⊎◌, inl, inr, Some, ap, ◌∙◌}
use Rattle.lrc_base.specs.declared.grammar.Kind.TheVariants as k
use Rattle.lrc_store.specs.Standing.{meant}
use Rattle.lrc_store.proofs.Known.{known-stands}
use Rattle.lrc_eval.proofs.ValueLemmas.{false-tree, true-tree}
use Rattle.lrc_places.specs.Places.{kind_of_leaf}
use Rattle.lrc_places.proofs.ShapeLemmas.{node-shown}
use Rattle.lrc_places.proofs.shapes.shape_of_pair.Goals as goal

pub returns-then-tag-ge-NODE : goal.returns-then-tag-ge-NODE
returns-then-tag-ge-NODE c s t right known e =
    let shown = node-shown t c.args.tag (meant s c.args.left.0) right e c.if-tag-ge-NODE.true in
    (shown.0, shown.1, known-stands s c.args.left.0 known ∙ ap Some shown.2)

pub returns-then-tag-eq-TRUE : goal.returns-then-tag-eq-TRUE
returns-then-tag-eq-TRUE c s t right known e = over c.if-tag-eq-TRUE.either where
  over : (c.args.tag ≡ 1) ⊎ ((c.args.tag ≢ 1) × (c.args.tag ≡ 2)) → kind_of_leaf t ≡ Some k.Bool
  over (inl is) = ap kind_of_leaf (false-tree t c.args.tag (meant s c.args.left.0) right e is)
  over (inr is) = ap kind_of_leaf (true-tree t c.args.tag (meant s c.args.left.0) right e is.1)
