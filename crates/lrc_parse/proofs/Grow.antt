-- More sentences of the parts make more sentences of the whole.
use Rattle.std.proofs.Common.{ℕ, List, [], ◌∷◌, inl, inr}
use Rattle.lrc_parse.specs.Language.{Lang, Of, Given, Either, Many, Chain, Skip, Ends}

-- each sentence of the one is one of the other, with the same value
abbrev pub Sub : {T A : Type 0} → Lang T A → Lang T A → Type 0
Sub {T} {A} L M = (u : List T) (x : A) → L u x → M u x

module _ {T : Type 0} where
  pub sub_same : {A : Type 0} (L : Lang T A) → Sub L L
  sub_same L u x m = m

  pub sub_of : {A B : Type 0} (f : A → B) (L M : Lang T A) → Sub L M → Sub (Of f L) (Of f M)
  sub_of f L M h u y m = (m.0, h _ _ m.1, m.2)

  pub sub_given : {A B : Type 0} (L M : Lang T A) (N O : A → Lang T B) → Sub L M → ((x : A) → Sub (N x) (O x)) → Sub (Given L N) (Given M O)
  sub_given L M N O h g u y m = (m.0, m.1, m.2, m.3, h _ _ m.4, g m.2 _ _ m.5)

  pub sub_either : {A : Type 0} (L M N O : Lang T A) → Sub L M → Sub N O → Sub (Either L N) (Either M O)
  sub_either L M N O h g u x (inl m) = inl (h u x m)
  sub_either L M N O h g u x (inr m) = inr (g u x m)

  pub sub_many : {A : Type 0} (L M : Lang T A) → Sub L M → Sub (Many L) (Many M)
  sub_many L M h u [] m = m
  sub_many L M h u (x ∷ xs) m = (m.0, m.1, m.2, h _ _ m.3, sub_many L M h m.1 xs m.4)

  pub sub_chain : {A X : Type 0} (f : A → X → A) (L M : Lang T A) (N O : Lang T X) → Sub L M → Sub N O → Sub (Chain f L N) (Chain f M O)
  sub_chain f L M N O h g u y m = (m.0, m.1, m.2, m.3, m.4, h _ _ m.5, sub_many N O g _ _ m.6, m.7)

module _ {T : Type 0} (kind : T → ℕ) where
  pub sub_skip : {A : Type 0} (k : ℕ) (L M : Lang T A) → Sub L M → Sub (Skip kind k L) (Skip kind k M)
  sub_skip k L M h u x m = (m.0, m.1, m.2, m.3, h _ _ m.4)

  pub sub_ends : {A : Type 0} (L M : Lang T A) (k : ℕ) → Sub L M → Sub (Ends kind L k) (Ends kind M k)
  sub_ends L M k h u x m = (m.0, m.1, m.2, h _ _ m.3, m.4)
