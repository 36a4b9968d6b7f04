-- How long a machine of bodies may run on: a number that falls with each turn.
use Rattle.std.specs.Prelude.{ℕ, zero, suc, ◌+◌, ◌-◌, ◌*◌, List, [], ◌∷◌, drop}
use Rattle.lrc_machine.specs.declared.turns.Step.{Step}
use Rattle.lrc_machine.specs.declared.turns.Step.TheVariants as step

abbrev pub times : ℕ → ℕ → ℕ
times b zero = 0
times b (suc n) = b + times b n

-- so many times multiplied
abbrev pub weigh : ℕ → ℕ → ℕ → ℕ
weigh b zero x = x
weigh b (suc n) x = weigh b n (times b x)

-- the base of the digits, where a body has at most so many actions
abbrev pub base : ℕ → ℕ
base most = 3 * most + 3

module _ {Mark : Type 0} (left : Mark → ℕ) (most : ℕ) where
  -- the levels from one on as digits, the lowest first: each by what its waiting body has left
  abbrev pub digits : List Mark → ℕ
  digits [] = 0
  digits (mark ∷ marks) = 3 * left mark - 1 + times (base most) (digits marks)

  abbrev pub measure : List Mark → ℕ → Step Mark → ℕ
  measure marks level (step.Open handle) = weigh (base most) level (suc (digits (drop level marks)))
  measure marks level (step.Answer handle) = weigh (base most) level (digits (drop level marks))
  measure marks level (step.Go mark) = weigh (base most) level (suc (3 * left mark + times (base most) (digits (drop (suc level) marks))))
