-- Tables of pairs, one for each production or sort, and what passes over them add.
use Rattle.std.specs.Prelude.{◌≡◌, ℕ, ◌+◌, ◌<◌, ◌≤◌, Bool, true, false, List, [], length, slice_index_or, Contains, All, ◌⊎◌, ◌↔◌}
use Rattle.lrc_graph.specs.Pairs.{Pairs, Has, HasExactly, Path, IsTransitive}
use Rattle.lrc_order_meaning.specs.declared.Place.{Place}

-- the relation over no points
abbrev pub nothing : Pairs
nothing = record { points = 0; rows = [] }

-- the table of this number
abbrev pub table_at : List Pairs → ℕ → Pairs
table_at tables i = slice_index_or tables i nothing

abbrev pub HasAt : List Pairs → ℕ → ℕ → ℕ → Type 0
HasAt tables i x y = Has (table_at tables i) x y

-- A pass over a table added exactly the pairs of Extra, and found whether one of them was new.
pub record Gathered (old new : Pairs) (found : Bool) (Extra : ℕ → ℕ → Type 0) : Type 0 where
  pub points : new.points ≡ old.points
  pub exact : HasExactly new (λ x y. Has old x y ⊎ Extra x y)
  pub more : found ≡ true → (x : ℕ) × (y : ℕ) × Has new x y × (¬ Has old x y) × (x < old.points) × (y < old.points)
  pub same : found ≡ false → (x y : ℕ) → Has new x y → Has old x y

-- A pass over tables, likewise.
pub record GatheredAll (old new : List Pairs) (found : Bool) (Extra : ℕ → ℕ → ℕ → Type 0) : Type 0 where
  pub tables : length new ≡ length old
  pub points : (s : ℕ) → (table_at new s).points ≡ (table_at old s).points
  pub exact : (s x y : ℕ) → HasAt new s x y ↔ (HasAt old s x y ⊎ Extra s x y)
  pub more : found ≡ true → (s : ℕ) × (x : ℕ) × (y : ℕ) × HasAt new s x y × (¬ HasAt old s x y) × (s < length old) × (x < (table_at old s).points) × (y < (table_at old s).points)
  pub same : found ≡ false → (s x y : ℕ) → HasAt new s x y → HasAt old s x y

-- a relation on a production's occurrences has the pair of attributes at this start
pub record JoinedAt (points : ℕ) (relation : Pairs) (start x y : ℕ) : Type 0 where
  pub x_in : x < points
  pub y_in : y < points
  pub pair : Has relation (start + x) (start + y)

-- and it does at one of the places
pub record JoinedAmong (sorts : List Pairs) (relation : Pairs) (places : List Place) (s x y : ℕ) : Type 0 where
  pub place : Place
  pub is_place : Contains places place
  pub of_sort : place.sort ≡ s
  pub joined : JoinedAt (table_at sorts s).points relation place.start x y

-- each place is one of a sort with a table, and its attributes are points
abbrev pub FitsIn : List Pairs → ℕ → Place → Type 0
FitsIn sorts points place = (place.sort < length sorts) × (place.start + (table_at sorts place.sort).points ≤ points)

-- and it does in one of the productions
pub record JoinedIn (sorts relations : List Pairs) (places : List (List Place)) (s x y : ℕ) : Type 0 where
  pub production : ℕ
  pub is_there : production < length relations
  pub joined : JoinedAmong sorts (table_at relations production) (slice_index_or places production []) s x y

-- A pass over a closed table added the pairs of Extra and closed it again.
pub record Closed (old new : Pairs) (Extra : ℕ → ℕ → Type 0) : Type 0 where
  pub points : new.points ≡ old.points
  pub exact : HasExactly new (Path (λ x y. Has old x y ⊎ Extra x y))
  pub closed : IsTransitive (Has new)

-- a sort's relation hands the pair to a place with this start
pub record HandedAt (sort : Pairs) (start x y : ℕ) : Type 0 where
  pub first : ℕ
  pub then : ℕ
  pub pair : Has sort first then
  pub x_is : x ≡ start + first
  pub y_is : y ≡ start + then

-- and it does to one of the places
pub record HandedAmong (sorts : List Pairs) (places : List Place) (x y : ℕ) : Type 0 where
  pub place : Place
  pub is_place : Contains places place
  pub handed : HandedAt (table_at sorts place.sort) place.start x y

mutual
  -- What follows in a production from tables for the productions and the sorts: the pairs of its own table, those that
  -- its places are handed, and paths of them.
  pub data Reached (relations sorts : List Pairs) (places : List (List Place)) : ℕ → ℕ → ℕ → Type 0 where
    by_table : (i x y : ℕ) → HasAt relations i x y → Reached relations sorts places i x y
    by_place : (i : ℕ) (place : Place) (a b x y : ℕ) → Contains (slice_index_or places i []) place
        → Handed relations sorts places place.sort a b → x ≡ place.start + a → y ≡ place.start + b → Reached relations sorts places i x y
    by_path : (i x y z : ℕ) → Reached relations sorts places i x y → Reached relations sorts places i y z → Reached relations sorts places i x z

  -- What follows for a sort: the pairs of its own table, and those of attributes that are joined at a place.
  pub data Handed (relations sorts : List Pairs) (places : List (List Place)) : ℕ → ℕ → ℕ → Type 0 where
    by_sort_table : (s a b : ℕ) → HasAt sorts s a b → Handed relations sorts places s a b
    by_joining : (i : ℕ) (place : Place) (s a b : ℕ) → i < length relations → Contains (slice_index_or places i []) place → place.sort ≡ s
        → a < (table_at sorts s).points → b < (table_at sorts s).points
        → Reached relations sorts places i (place.start + a) (place.start + b) → Handed relations sorts places s a b

-- Tables that fit one another: a list of places and a closed table of few points for each production, and a table for
-- the sort of each place.
pub record AreTables (relations sorts : List Pairs) (places : List (List Place)) : Type 0 where
  pub productions : length places ≡ length relations
  pub few : All (λ (r : Pairs). r.points < 1024) relations
  pub within : (i : ℕ) → i < length relations → All (FitsIn sorts (table_at relations i).points) (slice_index_or places i [])
  pub closed : All (λ (r : Pairs). IsTransitive (Has r)) relations

-- new tables hold exactly what follows from old ones
pub record AreSettled (old new olds news : List Pairs) (places : List (List Place)) : Type 0 where
  pub relations : length new ≡ length old
  pub relation_points : (i : ℕ) → i < length old → (table_at new i).points ≡ (table_at old i).points
  pub closed : All (λ (r : Pairs). IsTransitive (Has r)) new
  pub reached : (i x y : ℕ) → i < length old → HasAt new i x y ↔ Reached old olds places i x y
  pub sorts : length news ≡ length olds
  pub sort_points : (s : ℕ) → (table_at news s).points ≡ (table_at olds s).points
  pub handed : (s a b : ℕ) → HasAt news s a b ↔ Handed old olds places s a b
