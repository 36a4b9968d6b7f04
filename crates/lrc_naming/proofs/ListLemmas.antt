-- Lists that are named item by item: what is named so far, and the rest.
use Rattle.std.proofs.Common.{◌≡◌, ℕ, List, ◌++◌, map, flat_map, drop, Option}
use Rattle.std.specs.Prelude.{option_map}
use Rattle.lrc_meaning.specs.Naming.{each_some}

-- what is named so far, and then the rest
abbrev pub then_rest : {B : Type 0} → List B → Option (List B) → Option (List B)
then_rest done rest = option_map (λ r. done ++ r) rest

-- the first i items are named, and these are their names
abbrev pub NamesFirst : {A B : Type 0} → (A → Option B) → List A → ℕ → List B → Type 0
NamesFirst f xs i done = each_some (map f xs) ≡ then_rest done (each_some (map f (drop i xs)))

-- the same where an item may have no name
abbrev pub PartsFirst : {A B : Type 0} → (A → List (Option B)) → List A → ℕ → List B → Type 0
PartsFirst f xs i done = each_some (flat_map f xs) ≡ then_rest done (each_some (flat_map f (drop i xs)))
