-- The visit sequences of a production: one segment of actions for each visit of its left side.
--
-- Source: Kastens, Ordered Attributed Grammars (1980). That the least ready action is always taken is this project's.
use Rattle.std.specs.Prelude.{ℕ, zero, suc, ◌+◌, ◌-◌, Bool, true, false, cond, List, [], ◌∷◌, ◌++◌, map, flat_map, filter, length, Option, Some, None, option_map, slice_get, slice_index_or}
use Rattle.std.specs.Option.{option_map_or}
use Rattle.std.specs.List.{list_all, range_with_len}
use Rattle.lrc_base.specs.declared.grammar.Sort.{Sort}
use Rattle.lrc_base.specs.declared.grammar.Production.{Production}
use Rattle.lrc_meaning.specs.Grammar.{Occurrence, occurrences_of}
use Rattle.lrc_order_meaning.specs.declared.Partition.{Partition}
use Rattle.lrc_order_meaning.specs.Needs.{symbols_of}
use Rattle.lrc_plan_meaning.specs.declared.Action.{Action}
use Rattle.lrc_plan_meaning.specs.declared.Action.TheVariants as a
use Rattle.lrc_plan_meaning.specs.declared.Bound.{Bound}
use Rattle.lrc_plan_meaning.specs.Items.{is_among, visits_of, values_of_visit, symbol_at, makes, awaits}

-- whether the production's equations define the occurrence
abbrev pub is_defined : List Occurrence → ℕ → Bool
is_defined occurrences o = option_map_or (λ (x : Occurrence). x.is_defined) (slice_get occurrences o) false

-- all visits of the symbol of this number
abbrev pub visits_at : List Sort → List Partition → Production → ℕ → List Action
visits_at sorts parts p s = map (a.Visit s) (range_with_len 1 (visits_of parts (symbol_at sorts p s).sort))

-- All actions of a production, the least first: evaluations by occurrence, then visits by symbol, then visit.
abbrev pub actions_of : List Sort → List Partition → Production → List Action
actions_of sorts parts p =
    let occurrences = occurrences_of sorts p in
    map a.Eval (filter (is_defined occurrences) (range_with_len 0 (length occurrences)))
    ++ flat_map (visits_at sorts parts p) (range_with_len 0 (length (symbols_of sorts p)))

-- What was done in a segment so far, what is left to do, and the items that are available.
pub record State : Type 0 where
  pub done : List Action
  pub left : List Action
  pub available : List Bound

-- the first action that passes the test, and the others
abbrev pub pick : (Action → Bool) → List Action → Option (Action × List Action)
pick test [] = None
pick test (x ∷ xs) = cond (test x) (Some (x, xs)) (option_map (λ found. (found.0, x ∷ found.1)) (pick test xs))

module _ (sorts : List Sort) (parts : List Partition) (p : Production) where
  -- an action is ready where all that it awaits is available
  abbrev pub is_ready : List Bound → Action → Bool
  is_ready available x = list_all (is_among available) (awaits sorts parts p x)

  abbrev pub did : State → Action × List Action → State
  did s found = record {
    done = s.done ++ found.0 ∷ [];
    left = found.1;
    available = s.available ++ makes sorts parts p found.0;
  }

  -- the least ready action is done, at most so many times
  abbrev pub greedy : ℕ → State → State
  greedy zero s = s
  greedy (suc n) s = option_map_or (λ found. greedy n (did s found)) (pick (is_ready s.available) s.left) s

  -- a segment starts with the left side's inherited attributes of its visit
  abbrev pub entered : ℕ → State → State
  entered v s = record { done = []; left = s.left; available = s.available ++ values_of_visit sorts parts true p.left 0 v }

  -- the segments of n visits from visit v on
  abbrev pub segments_from : ℕ → ℕ → State → List (List Action)
  segments_from zero v s = []
  segments_from (suc n) v s =
      let after = greedy (length s.left) (entered v s) in after.done ∷ segments_from n (v + 1) after

  -- The segments of all visits of the left side.
  abbrev pub segments_of : List (List Action)
  segments_of = segments_from (visits_of parts p.left) 1 (record { done = []; left = actions_of sorts parts p; available = [] })

  -- the segment of a visit, counted from 1
  abbrev pub segment : ℕ → List Action
  segment v = slice_index_or segments_of (v - 1) []
