-- Trees that are joined into trees: what the items of a flat term stand for, whatever the trees are.
use Rattle.std.specs.Prelude.{ℕ, ◌-◌, ◌≤◌, List, [], ◌∷◌, ◌++◌, length, take, drop}

-- the last n of these trees become one
abbrev pub joined : {A : Type 0} → (List A → A) → ℕ → List A → List A
joined node n ts = take (length ts - n) ts ++ node (drop (length ts - n) ts) ∷ []

-- items, each of which takes some of the last trees and leaves one
module _ {A I : Type 0} (wanted : I → ℕ) (grown : List A → I → List A) where
  -- the trees that are there after these items
  abbrev pub grow : List A → List I → List A
  grow ts [] = ts
  grow ts (i ∷ is) = grow (grown ts i) is

  -- each item finds as many trees as it takes
  abbrev pub Fit : List A → List I → Type 0
  Fit ts [] = Unit {0}
  Fit ts (i ∷ is) = (wanted i ≤ length ts) × Fit (grown ts i) is
