-- What a decorated tree shows to the node above it: the values of its attributes, and its bindings from visit to visit;
-- and so the calls of its visits, and their results.
use Rattle.std.specs.Prelude.{ℕ, suc, ◌+◌, ◌-◌, max, true, false, List, [], ◌∷◌, ◌++◌, map, slice_get, slice_index_or}
use Rattle.std.specs.Option.{option_map_or}
use Rattle.std.specs.List.{range_with_len}
use Rattle.lrc_meaning.specs.Tree.{Tree}
use Rattle.lrc_meaning.specs.Grammar.{Grammar}
use Rattle.lrc_meaning.specs.Attribution.{Decorated, at_node, Parts, end, symbol, attributes_of, bare, occurrence_values}
use Rattle.lrc_meaning.specs.Attribution as m
use Rattle.lrc_order_meaning.specs.declared.Partition.{Partition}
use Rattle.lrc_plan_meaning.specs.declared.Action.{Action}
use Rattle.lrc_plan_meaning.specs.declared.Action.TheVariants as a
use Rattle.lrc_plan_meaning.specs.declared.Bound.{Bound}
use Rattle.lrc_plan_meaning.specs.declared.Bound.TheVariants as b
use Rattle.lrc_plan_meaning.specs.Items.{attrs_of_visit, visits_of}
use Rattle.lrc_plan_meaning.specs.Sequences.{segment}
use Rattle.lrc_plan_meaning.specs.Bindings.{binding as items_between}
use Rattle.lrc_visit_meaning.specs.Values.{value, binding, Data, no_data, data_row, no_tree, Call, Result}
use Rattle.lrc_visit_meaning.specs.Visits.{Held}

-- What a node shows: the values of its attributes, by number, and its bindings from visit to visit.
pub record Face : Type 0 where
  pub attr : ℕ → Tree
  pub bound : ℕ → ℕ → Data

abbrev pub no_bound : ℕ → ℕ → Data
no_bound u w = no_data

abbrev pub no_height : ℕ → ℕ
no_height v = 0

-- what is held where these are the values of the occurrences and the bindings of the symbols
abbrev pub held_of : List Tree → List (ℕ → ℕ → Data) → Held
held_of vs bs (b.Value o) = value (slice_index_or vs o no_tree)
held_of vs bs (b.Kid s u w) = binding (slice_index_or bs s no_bound u w)

-- the greatest height of the visits among some actions, by the heights of the symbols' visits
abbrev pub highest_visit : List (ℕ → ℕ) → List Action → ℕ
highest_visit hs [] = 0
highest_visit hs (a.Eval o ∷ xs) = highest_visit hs xs
highest_visit hs (a.Visit s v ∷ xs) = max (slice_index_or hs s no_height v) (highest_visit hs xs)

module _ (g : Grammar) (parts : List Partition) where
  -- visit v of a tree of sort s, as the node above it makes it, and what it answers with this height
  abbrev pub asked : Face → ℕ → Tree → ℕ → Call
  asked f s t v = record {
    tree = t;
    visit = v;
    inherited = map f.attr (attrs_of_visit g.sorts parts true s v);
    bindings = map (λ u. f.bound u v) (range_with_len 1 (v - 1));
  }

  abbrev pub answer : Face → ℕ → ℕ → ℕ → Result
  answer f s v height = record {
    height = height;
    synthesised = map f.attr (attrs_of_visit g.sorts parts false s v);
    bindings = map (λ w. f.bound v w) (range_with_len (v + 1) (visits_of parts s - v));
  }

  abbrev pub items_of_node : ℕ → ℕ → ℕ → List Bound
  items_of_node n u w = option_map_or (λ q. items_between g.sorts parts q u w) (slice_get g.prods n) []

  abbrev pub segment_of_node : ℕ → ℕ → List Action
  segment_of_node n v = option_map_or (λ q. segment g.sorts parts q v) (slice_get g.prods n) []

  -- the bindings of a decorated node, by its values and the bindings of its symbols
  abbrev mutual
    pub bound_of : Decorated → ℕ → ℕ → Data
    bound_of (at_node n own kids extras) u w =
        data_row (map (held_of (occurrence_values own kids extras) (bounds_of kids ++ bounds_of extras)) (items_of_node n u w))

    pub bounds_of : Parts → List (ℕ → ℕ → Data)
    bounds_of end = []
    bounds_of (m.value v rest) = bounds_of rest
    bounds_of (symbol d rest) = (λ u w. bound_of d u w) ∷ bounds_of rest

  -- the height of each visit of a decorated node: 1 and the greatest of the visits that it makes
  abbrev mutual
    pub visit_height : Decorated → ℕ → ℕ
    visit_height (at_node n own kids extras) v = suc (highest_visit (heights_of kids ++ heights_of extras) (segment_of_node n v))

    pub heights_of : Parts → List (ℕ → ℕ)
    heights_of end = []
    heights_of (m.value v rest) = heights_of rest
    heights_of (symbol d rest) = (λ v. visit_height d v) ∷ heights_of rest

  -- what a decorated tree shows, and what its root holds
  abbrev pub face_of : Decorated → Face
  face_of d = record { attr = λ x. slice_index_or (attributes_of d) x no_tree; bound = λ u w. bound_of d u w }

  abbrev pub node_held : List Tree → Parts → Parts → Held
  node_held own kids extras = held_of (occurrence_values own kids extras) (bounds_of kids ++ bounds_of extras)
