-- The sets of a sort's attributes: what is placed stays placed, and a set number is one.
use Rattle.std.proofs.Common.{ℕ, zero, suc, ◌≤◌, List, inl, inr, arith, subst}
use Rattle.std.proofs.lemmas.Bool.{cases_eq}
use Rattle.lrc_base.specs.declared.grammar.Given.{Given}
use Rattle.lrc_meaning.specs.Grammar.{Grammar}
use Rattle.lrc_order_meaning.specs.Sets.{Placed}

module _ (g : Grammar) (given : List Given) (s : ℕ) where
  pub placed-later : (k m a : ℕ) → k ≤ m → Placed g given s k a → Placed g given s m a
  placed-later zero m a le h = elim h [ ]
  placed-later (suc k) zero a le h = absurd (omega arith)
  placed-later (suc k) (suc m) a le h =
      elim (cases_eq k m) [
        | inl e ↦ subst (λ n. Placed g given s (suc n) a) e h
        | inr ne ↦ inl (placed-later (suc k) m a (omega arith) h)
      ]
