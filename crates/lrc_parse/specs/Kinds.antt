-- Kinds of tokens as numbers, and sets of kinds as lists.
use Rattle.std.specs.Prelude.{ℕ, ◌==◌, Bool, true, false, cond, List, [], ◌∷◌}

-- whether the set has the kind
abbrev pub has : List ℕ → ℕ → Bool
has [] k = false
has (j ∷ js) k = cond (j == k) true (has js k)

-- whether no kind is in both sets
abbrev pub disjoint : List ℕ → List ℕ → Bool
disjoint [] ks = true
disjoint (j ∷ js) ks = cond (has ks j) false (disjoint js ks)

-- whether each kind of the one set is in the other
abbrev pub covered : List ℕ → List ℕ → Bool
covered [] ks = true
covered (j ∷ js) ks = cond (has ks j) (covered js ks) false

-- whether the tokens begin with one whose kind is in the set
abbrev pub starts : {T : Type 0} → (T → ℕ) → List ℕ → List T → Bool
starts kind ks [] = false
starts kind ks (t ∷ u) = has ks (kind t)
