-- What a name is, and how it is kept.
use Rattle.std.specs.Prelude.{◌≡◌, ℕ, ◌-◌, ◌<◌, ◌≤◌, List, ◌++◌, length, take, replicate, slice_index, Contains}
use Rattle.std.proofs.Common.{get_or, arith}
use Rattle.std.proofs.lemmas.List.{ext_get_or}
use Rattle.std.proofs.lemmas.Grind.{common_steps}
use Rattle.lrc_base.specs.declared.limits.TheConstants.{NAME_LIMIT}
use Rattle.lrc_base.specs.declared.name.NameText.TheInside.{Inside}

-- 1 to 64 bytes, none of them 0
pub record IsName (bytes : List ℕ) : Type 0 where
  pub some : 1 ≤ length bytes
  pub at_most : length bytes ≤ NAME_LIMIT
  pub no_zero : ¬ Contains bytes 0

-- the bytes of a kept name
abbrev pub shown : Inside → List ℕ
shown n = take n.len n.padded

-- the bytes, and then zeros up to 64 bytes
abbrev pub stored : List ℕ → Inside
stored bytes = record { padded = bytes ++ replicate (NAME_LIMIT - length bytes) 0; len = length bytes }

-- what is kept of a name
pub record IsStored (n : Inside) : Type 0 where
  pub name : IsName (shown n)
  pub whole : length n.padded ≡ NAME_LIMIT
  pub within : n.len ≤ NAME_LIMIT
  pub rest : (k : ℕ) → n.len ≤ k → k < NAME_LIMIT → slice_index n.padded k ≡ 0

same_fields : (p q : List ℕ) (m n : ℕ) → p ≡ q → m ≡ n → (let a : Inside = record { padded = p; len = m } in let b : Inside = record { padded = q; len = n } in a ≡ b)
same_fields p q m n e f = cc

padded_again : (xs : List ℕ) (n : ℕ) → n ≤ NAME_LIMIT → length xs ≡ NAME_LIMIT → ((k : ℕ) → n ≤ k → k < NAME_LIMIT → get_or xs k 0 ≡ 0) →
    take n xs ++ replicate (NAME_LIMIT - length (take n xs)) 0 ≡ xs
padded_again xs n h l z = ext_get_or 0 _ xs (grind (arith, common_steps)) (λ k lt. let at : n ≤ k → k < NAME_LIMIT → get_or xs k 0 ≡ 0 = z k in grind (arith, common_steps))

pub stored-shown : (n : Inside) → IsStored n → stored (shown n) ≡ n
stored-shown n k = same_fields _ _ _ _ (padded_again n.padded n.len k.within k.whole k.rest) (grind (arith, common_steps))
