-- When the plan of a production is sound: over lists of items alone, with no values.
use Rattle.std.specs.Prelude.{◌≡◌, ℕ, ◌-◌, ◌<◌, ◌≤◌, IsTrue, true, false, List, [], ◌∷◌, ◌++◌, flat_map, length, All, AllPairs, Contains, ◌↔◌, ⊤}
use Rattle.std.specs.List.{range_with_len}
use Rattle.lrc_base.specs.declared.grammar.Sort.{Sort}
use Rattle.lrc_base.specs.declared.grammar.Production.{Production}
use Rattle.lrc_meaning.specs.Grammar.{occurrences_of}
use Rattle.lrc_order_meaning.specs.declared.Partition.{Partition}
use Rattle.lrc_order_meaning.specs.Needs.{symbols_of}
use Rattle.lrc_plan_meaning.specs.declared.Action.{Action}
use Rattle.lrc_plan_meaning.specs.declared.Action.TheVariants as a
use Rattle.lrc_plan_meaning.specs.declared.Bound.{Bound}
use Rattle.lrc_plan_meaning.specs.Items.{visits_of, values_of_visit, symbol_at, needs, makes}
use Rattle.lrc_plan_meaning.specs.Sequences.{is_defined, segment}
use Rattle.lrc_plan_meaning.specs.Bindings.{gained, binding}

module _ (sorts : List Sort) (parts : List Partition) (p : Production) where
  -- what visit v is called with: its inherited attributes, and the bindings from earlier visits
  abbrev pub handed_in : ℕ → List Bound
  handed_in v =
      values_of_visit sorts parts true p.left 0 v ++ flat_map (λ u. binding sorts parts p u v) (range_with_len 1 (v - 1))

  -- each action finds what it needs among what is available before it
  abbrev pub AreReady : List Bound → List Action → Type 0
  AreReady available [] = ⊤
  AreReady available (x ∷ xs) =
      All (Contains available) (needs sorts parts p x) × AreReady (available ++ makes sorts parts p x) xs

  -- the actions of all segments
  abbrev pub IsDone : Action → Type 0
  IsDone x = (v : ℕ) × (1 ≤ v) × (v ≤ visits_of parts p.left) × Contains (segment sorts parts p v) x

  -- a visit of one of the symbols
  pub record IsVisitThere (s v : ℕ) : Type 0 where
    pub symbol : s < length (symbols_of sorts p)
    pub first : 1 ≤ v
    pub last : v ≤ visits_of parts (symbol_at sorts p s).sort

  -- The visits of a node can be made one after another, each with what the earlier ones handed on.
  pub record IsReady : Type 0 where
    -- from what a visit is called with, each of its actions finds what it needs
    pub ready : (v : ℕ) → 1 ≤ v → v ≤ visits_of parts p.left → AreReady (handed_in v) (segment sorts parts p v)
    -- and at its end all that it hands on is there
    pub hands_on : (v w : ℕ) → 1 ≤ v → v ≤ visits_of parts p.left
        → All (Contains (handed_in v ++ flat_map (makes sorts parts p) (segment sorts parts p v))) (binding sorts parts p v w)

  -- At the end of each visit its synthesised attributes are there.
  abbrev pub GivesAll : Type 0
  GivesAll = (v : ℕ) → 1 ≤ v → v ≤ visits_of parts p.left
      → All (Contains (handed_in v ++ flat_map (makes sorts parts p) (segment sorts parts p v))) (values_of_visit sorts parts false p.left 0 v)

  -- Each occurrence to be defined is evaluated, and each visit of each symbol is made.
  pub record IsComplete : Type 0 where
    pub evaluates : (o : ℕ) → IsTrue (is_defined (occurrences_of sorts p) o) ↔ IsDone (a.Eval o)
    pub visits : (s v : ℕ) → IsVisitThere s v ↔ IsDone (a.Visit s v)

  -- Besides, each evaluation and each visit is made once, and no item becomes available twice, in one visit or in two.
  pub record IsSound : Type 0 where
    pub runs : IsReady
    pub gives : GivesAll
    pub complete : IsComplete
    pub once : AllPairs (λ x y. ¬ (x ≡ y)) (flat_map (segment sorts parts p) (range_with_len 1 (visits_of parts p.left)))
    pub fresh : AllPairs (λ x y. ¬ (x ≡ y)) (flat_map (λ v. gained sorts parts p v (segment sorts parts p v)) (range_with_len 1 (visits_of parts p.left)))
