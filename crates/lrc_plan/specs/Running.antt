-- What stands while a segment is found.
use Rattle.std.specs.Prelude.{◌≡◌, ℕ, ◌+◌, ◌-◌, ◌<◌, ◌≤◌, Bool, true, false, List, ◌++◌, length, map, take, slice_index_or, All}
use Rattle.std.specs.List.{list_all}
use Rattle.lrc_base.specs.declared.grammar.Sort.{Sort}
use Rattle.lrc_base.specs.declared.grammar.Production.{Production}
use Rattle.lrc_order_meaning.specs.declared.Partition.{Partition}
use Rattle.lrc_plan_meaning.specs.declared.Step.{Step}
use Rattle.lrc_plan_meaning.specs.Items.{visits_of}
use Rattle.lrc_plan_meaning.specs.Plans.{step_of}
use Rattle.lrc_plan_meaning.specs.Sequences.{State, segments_from, segments_of}
use Rattle.lrc_plan.specs.declared.waiting.Waiting.{Waiting}
use Rattle.lrc_plan.specs.ItemSets.{Flags, holds, HasRoom, IsSetOf}
use Rattle.lrc_plan.specs.Waiting.{waiting_of}

-- the action as if nothing was looked at
abbrev pub unchecked : Waiting → Waiting
unchecked w = record { step = w.step; awaits = w.awaits; checked = 0 }

-- what was found available is
pub record IsChecked (f : Flags) (w : Waiting) : Type 0 where
  pub within : w.checked ≤ length w.awaits
  pub held : list_all (holds f) (take w.checked w.awaits) ≡ true

-- all that the action awaits is in the set
abbrev pub is_ready_in : Flags → Waiting → Bool
is_ready_in f w = list_all (holds f) w.awaits

-- the first item that passes
pub record IsFirst {X : Type 0} (test : X → Bool) (xs : List X) (i : ℕ) : Type 0 where
  pub there : i < length xs
  pub passes : (d : X) → test (slice_index_or xs i d) ≡ true
  pub earlier : (k : ℕ) (d : X) → k < i → test (slice_index_or xs k d) ≡ false

-- no item passes
abbrev pub PassesNone : {X : Type 0} → (X → Bool) → List X → Type 0
PassesNone test xs = All (λ x. test x ≡ false) xs

-- what is left, with a set that has room for what it makes
pub record IsLeft (f : Flags) (left : List Waiting) : Type 0 where
  pub checked : All (IsChecked f) left
  pub room : All (λ (w : Waiting). All (HasRoom f) w.step.makes) left

-- what is left, the set, and the steps that were done stand for a state
pub record StandsFor (sorts : List Sort) (parts : List Partition) (p : Production) (left : List Waiting) (f : Flags) (steps : List Step) (s : State) : Type 0 where
  pub left_is : map unchecked left ≡ map (waiting_of sorts parts p) s.left
  pub available_is : IsSetOf f s.available
  pub steps_are : steps ≡ map (step_of sorts parts p) s.done

-- what is left and the set stand for a state
pub record StandsAt (sorts : List Sort) (parts : List Partition) (p : Production) (left : List Waiting) (f : Flags) (s : State) : Type 0 where
  pub left_is : map unchecked left ≡ map (waiting_of sorts parts p) s.left
  pub available_is : IsSetOf f s.available

-- so many segments were found, and these were left to find
pub record FoundSo (sorts : List Sort) (parts : List Partition) (p : Production) (left : List Waiting) (f : Flags) (segments : List (List Step)) (earlier : ℕ) : Type 0 where
  pub state : State
  pub stands : StandsAt sorts parts p left f state
  pub rest : segments ++ map (map (step_of sorts parts p)) (segments_from sorts parts p (visits_of parts p.left - earlier) (earlier + 1) state)
      ≡ map (map (step_of sorts parts p)) (segments_of sorts parts p)
