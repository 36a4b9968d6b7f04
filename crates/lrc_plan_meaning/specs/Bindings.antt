-- What the visits of a node hand on to its later visits.
--
-- Source: Pennings, Generating Incremental Attribute Evaluators (1994).
use Rattle.std.specs.Prelude.{ℕ, ◌+◌, ◌-◌, true, false, ◌&&◌, List, ◌++◌, map, flat_map, filter, length}
use Rattle.std.specs.List.{range_with_len}
use Rattle.lrc_base.specs.declared.grammar.Sort.{Sort}
use Rattle.lrc_base.specs.declared.grammar.Production.{Production}
use Rattle.lrc_meaning.specs.Grammar.{occurrences_of}
use Rattle.lrc_order_meaning.specs.declared.Partition.{Partition}
use Rattle.lrc_order_meaning.specs.Needs.{symbols_of}
use Rattle.lrc_plan_meaning.specs.declared.Action.{Action}
use Rattle.lrc_plan_meaning.specs.declared.Bound.{Bound}
use Rattle.lrc_plan_meaning.specs.declared.Bound.TheVariants as b
use Rattle.lrc_plan_meaning.specs.Items.{is_among, visits_of, values_of_visit, symbol_at, needs, makes}
use Rattle.lrc_plan_meaning.specs.Sequences.{segment}

-- the bindings of a symbol between two of its n visits, by the earlier visit, then the later
abbrev pub bindings_at : ℕ → ℕ → List Bound
bindings_at s n = flat_map (λ i. map (b.Kid s i) (range_with_len (i + 1) (n - i))) (range_with_len 1 n)

module _ (sorts : List Sort) (parts : List Partition) (p : Production) where
  -- All items of a production: the values by occurrence, then the bindings by symbol.
  abbrev pub items_of : List Bound
  items_of =
      map b.Value (range_with_len 0 (length (occurrences_of sorts p)))
      ++ flat_map (λ s. bindings_at s (visits_of parts (symbol_at sorts p s).sort)) (range_with_len 0 (length (symbols_of sorts p)))

  -- what becomes available in a visit with these actions: what it takes, and what they make
  abbrev pub gained : ℕ → List Action → List Bound
  gained v actions = values_of_visit sorts parts true p.left 0 v ++ flat_map (makes sorts parts p) actions

  -- what is used in it: what the actions need, and what it gives
  abbrev pub used : ℕ → List Action → List Bound
  used v actions = flat_map (needs sorts parts p) actions ++ values_of_visit sorts parts false p.left 0 v

  -- The binding from visit v to visit w: what became available in the one and is used in the other.
  abbrev pub binding : ℕ → ℕ → List Bound
  binding v w =
      let from = gained v (segment sorts parts p v) in
      let to = used w (segment sorts parts p w) in
      filter (λ x. is_among from x && is_among to x) items_of
