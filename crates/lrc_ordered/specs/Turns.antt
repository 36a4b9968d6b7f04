-- One round of placing attributes in sets: 0 stands for no set yet.
use Rattle.std.specs.Prelude.{◌≡◌, ◌≢◌, ℕ, ◌<◌, Bool, List, length, slice_index, HoldsAt, ◌⊎◌}
use Rattle.lrc_base.specs.declared.grammar.Attr.{Attr}
use Rattle.lrc_graph.specs.Pairs.{Pairs, Has}

-- the attribute of this number is inherited, or is not
abbrev pub IsOf : List Attr → Bool → ℕ → Type 0
IsOf attrs inherited a = HoldsAt (λ (x : Attr). x.inherited ≡ inherited) attrs a

-- the attribute is of the direction, and so is each that comes after it and stands in no set
pub record IsNext (attrs : List Attr) (sort : Pairs) (sets : List ℕ) (inherited : Bool) (a : ℕ) : Type 0 where
  pub direction : IsOf attrs inherited a
  pub after : (b : ℕ) → b < length attrs → Has sort a b → (slice_index sets b ≢ 0) ⊎ IsOf attrs inherited b

-- the second attribute comes after the first, stands in no set, and is of the other direction
pub record IsWaiting (attrs : List Attr) (sort : Pairs) (sets : List ℕ) (inherited : Bool) (a b : ℕ) : Type 0 where
  pub pair : Has sort a b
  pub in_none : slice_index sets b ≡ 0
  pub other : HoldsAt (λ (x : Attr). x.inherited ≢ inherited) attrs b

-- What a round does to an attribute: one that stood in a set stays there; of the others one that is next stands in
-- this set, and one that is not stands in none.
pub record IsFilled (attrs : List Attr) (sort : Pairs) (old new : List ℕ) (inherited : Bool) (set a : ℕ) : Type 0 where
  pub kept : slice_index old a ≢ 0 → slice_index new a ≡ slice_index old a
  pub newly : slice_index old a ≡ 0
      → (IsNext attrs sort old inherited a × (slice_index new a ≡ set)) ⊎ ((¬ IsNext attrs sort old inherited a) × (slice_index new a ≡ 0))
