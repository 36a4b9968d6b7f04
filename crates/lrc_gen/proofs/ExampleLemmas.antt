-- A worked case: the job of seed 7 with three nodes and one session.
use Rattle.std.proofs.Common.{◌≡◌, [], ◌∷◌, refl}
use Rattle.lrc_base.specs.declared.job.RawEdit.TheVariants as edit
use Rattle.lrc_gen.specs.Drawing.{row}
use Rattle.lrc_gen.specs.Generated.{root, num, add, tree_within, tree, generated}

-- session on Root(Add(Num(12), Num(61))) { put /0/0/0 Num(54); put /0/0/0/1 Num(27); put /0/1 Num(3); put /0 Num(2); }
pub seed_seven : (generated 7 3 1).sessions ≡ record {
  tree = root (add (num 12) (num 61));
  edits = edit.Put (record { steps = 0 ∷ 0 ∷ 0 ∷ [] }) (num 54)
      ∷ edit.Put (record { steps = 0 ∷ 0 ∷ 0 ∷ 1 ∷ [] }) (num 27)
      ∷ edit.Put (record { steps = 0 ∷ 1 ∷ [] }) (num 3)
      ∷ edit.Put (record { steps = 0 ∷ [] }) (num 2)
      ∷ [];
} ∷ []
unfolding row tree tree_within
seed_seven = refl
